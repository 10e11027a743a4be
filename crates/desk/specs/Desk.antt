-- What is printed for a whole input, whatever pieces it comes in: document 01, "A line is the bytes before a newline", "prints for each line its number
-- from 1" and "If there is a line 65,536 it prints 65536 STOP for it, and reads no more".
use Rattle.std.specs.Prelude.{cond, List, [], ◌∷◌, ◌++◌, ℕ, ◌+◌, leb, eqb, None}
use Rattle.fields.specs.Fields.{onto}
use Rattle.clerk.specs.Clerk.{InForce, after, reply}
use Rattle.replies.specs.Text.{text, stop}

-- "A line is the bytes before a newline (byte 10); bytes after the last newline are a line if there are any."
unfoldable pub lines_of : List ℕ → List (List ℕ)
lines_of [] = []
lines_of (b ∷ bs) = cond (eqb b 10) ([] ∷ lines_of bs) (onto b (lines_of bs))

-- The last line that is answered: "If there is a line 65,536 it prints 65536 STOP for it".
abbrev pub last_answered : ℕ
last_answered = 65535

-- The replies to lines numbered on from n, each with the area then in force, and none after a line 65,536.
unfoldable pub answers : InForce → (n : ℕ) → List (List ℕ) → List ℕ
answers held n [] = []
answers held n (line ∷ lines) = cond (leb n last_answered) (text n (reply held line) ++ answers (after held line) (n + 1) lines) (stop n)

-- "none is in force at the start"
unfoldable pub output : (input : List ℕ) → List ℕ
output input = answers None 1 (lines_of input)
