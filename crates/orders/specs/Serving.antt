-- What the program makes of the bytes that it reads: what it writes for them is what is printed for them, in the sense of `Printed`, so that of a whole input
-- it is the output. Known bytes are those of std's readers and writers: `Some` of what a reader has left or a writer holds, where they say it.
use Rattle.std.specs.Prelude.{◌≡◌, ℕ, Bool, true, false, List, [], ◌++◌, Option, ◌⊎◌}
use Rattle.std.specs.Io.KnownBytes.{Appends, Consumes, IsAtEnd}
use Rattle.desk.specs.declared.Desk.{Desk}
use Rattle.desk.specs.Pieces.{Printed}

-- The writer held some bytes, and holds more behind them; the desk went from one state to another by some bytes, of which these are left. Whatever is
-- printed from the second state for what is left and the rest of the input, what was written and then this is what is printed for all from the first.
pub record Answers (held holds : Option (List ℕ)) (d : Desk) (bytes : List ℕ) (d' : Desk) (left : List ℕ) : Type 0 where
  pub wrote : List ℕ
  pub put : Appends held holds wrote
  pub leads : (rest printed : List ℕ) → Printed d' (left ++ rest) printed → Printed d (bytes ++ rest) (wrote ++ printed)

-- The same for the bytes that a reader gave, with none left; and where there is to be no more of them, the desk is closed or the reader at its end.
pub record Turns (had has held holds : Option (List ℕ)) (d d' : Desk) (more : Bool) : Type 0 where
  pub took : List ℕ
  pub gave : Consumes had has took
  pub answered : Answers held holds d took d' []
  pub over : more ≡ false → (d'.closed ≡ true) ⊎ IsAtEnd has
