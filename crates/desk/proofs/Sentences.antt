-- Document 01's sentences on the lines of an input and on line 65,536, for every input. The lines go by induction over the bytes before a newline; the stop by
-- induction over the lines, with n + k = 65,536 for the line's number n and the k lines that are still answered.
use mathlib.Core.List.{List, [], ◌∷◌, ◌++◌, append_assoc}
use mathlib.Core.Path.{◌≡◌, refl, sym, ap, ◌∙◌}
use Prim.Native.Nat.{ℕ, zero, suc, ◌+◌, ◌≤◌, ◌<◌}
use native.Mathlib.Omega.{arith}
use borrow.Author.Tests.{le-leb, lt-leb, ne_eqb}
use lib.ListN.{length, get_or, take}
use Rattle.words.specs.Letters.{bytes}
use Rattle.fields.specs.Fields.{onto}
use Rattle.words.specs.Decimal.{decimal_by, decimal}
use Rattle.std.specs.Prelude.{None}
use Rattle.clerk.specs.Clerk.{InForce, after, reply}
use Rattle.replies.specs.Text.{text, stop}
use Rattle.desk.specs.Desk.{last_answered, lines_of, answers, output}

-- Bytes none of which is a newline.
abbrev pub NoNewline : List ℕ → Type 0
NoNewline l = (i : ℕ) → i < length l → get_or l i 0 ≡ 10 → ⊥

later : (b : ℕ) (l : List ℕ) → NoNewline (b ∷ l) → NoNewline l
later b l none i m = none (suc i) (omega arith)

-- "A line is the bytes before a newline (byte 10)": any other bytes, carriage returns too.
pub line_before_newline : (l rest : List ℕ) → NoNewline l → lines_of (l ++ (10 ∷ rest)) ≡ l ∷ lines_of rest
unfolding lines_of
line_before_newline [] rest none = refl
line_before_newline (b ∷ l) rest none = rw (ne_eqb b 10 (none 0 (omega arith))) (ap (onto b) (line_before_newline l rest (later b l none)))

-- "bytes after the last newline are a line if there are any"
last_bytes : (b : ℕ) (l : List ℕ) → NoNewline (b ∷ l) → lines_of (b ∷ l) ≡ (b ∷ l) ∷ []
unfolding lines_of
last_bytes b [] none = rw (ne_eqb b 10 (none 0 (omega arith)))
last_bytes b (c ∷ l) none = rw (ne_eqb b 10 (none 0 (omega arith))) (ap (onto b) (last_bytes c l (later b (c ∷ l) none)))

pub last_line : (l : List ℕ) → 1 ≤ length l → NoNewline l → lines_of l ≡ l ∷ []
last_line [] some none = absurd (omega arith)
last_line (b ∷ l) some none = last_bytes b l none

pub no_bytes_no_line : lines_of [] ≡ []
unfolding lines_of
no_bytes_no_line = refl

-- "prints for each line its number from 1" and its reply, with the area that the lines before it left in force.
unfoldable pub replied : InForce → (n : ℕ) → List (List ℕ) → List ℕ
replied held n [] = []
replied held n (line ∷ lines) = text n (reply held line) ++ replied (after held line) (n + 1) lines

all_replied : (k n : ℕ) (held : InForce) (lines : List (List ℕ)) → n + k ≡ 65536 → length lines ≤ k → answers held n lines ≡ replied held n lines
unfolding answers replied
all_replied k n held [] e l = refl
all_replied zero n held (line ∷ lines) e l = absurd (omega arith)
all_replied (suc k) n held (line ∷ lines) e l =
    rw (le-leb n last_answered (omega arith))
    (ap (λ t. text n (reply held line) ++ t) (all_replied k (n + 1) (after held line) lines (omega arith) (omega arith)))

replied_then_stop : (k n : ℕ) (held : InForce) (lines : List (List ℕ)) → n + k ≡ 65536 → k < length lines
    → answers held n lines ≡ replied held n (take k lines) ++ stop 65536
unfolding answers replied
replied_then_stop k n held [] e l = absurd (omega arith)
replied_then_stop zero n held (line ∷ lines) e l =
    let last : n ≡ 65536 = omega arith in
    rw (lt-leb n last_answered (omega arith)) (ap stop last)
replied_then_stop (suc k) n held (line ∷ lines) e l =
    rw (le-leb n last_answered (omega arith))
    (ap (λ t. text n (reply held line) ++ t) (replied_then_stop k (n + 1) (after held line) lines (omega arith) (omega arith))
    ∙ sym (append_assoc (text n (reply held line)) (replied (after held line) (n + 1) (take k lines)) (stop 65536)))

stop_text : stop 65536 ≡ bytes "65536 STOP\n"
unfolding stop decimal decimal_by
stop_text = refl

-- An input of up to 65,535 lines has a reply to each. "none is in force at the start"
pub each_line_answered : (input : List ℕ) → length (lines_of input) ≤ last_answered → output input ≡ replied None 1 (lines_of input)
unfolding output
each_line_answered input l = all_replied last_answered 1 None (lines_of input) refl l

-- "If there is a line 65,536 it prints 65536 STOP for it, and reads no more": the lines before it have their replies, and nothing follows.
pub stops_at_65536 : (input : List ℕ) → last_answered < length (lines_of input)
    → output input ≡ replied None 1 (take last_answered (lines_of input)) ++ bytes "65536 STOP\n"
unfolding output
stops_at_65536 input l =
    replied_then_stop last_answered 1 None (lines_of input) refl l ∙ ap (λ t. replied None 1 (take last_answered (lines_of input)) ++ t) stop_text
