-- Every way in which an input can come: in pieces of any size, each fed as often as it takes, with an output of any size from any place on; and all that
-- is printed for it. Document 01 knows no pieces: a feeding is a form of the code, and its steps are what `feed` and `finish` promise.
use Rattle.std.specs.Prelude.{true, List, [], ◌++◌, ◌≡◌, ℕ, drop}
use Rattle.desk.specs.declared.Desk.{Desk}
use Rattle.desk.specs.Steps.{fed, prints_last}

pub data Printed : Desk → (input printed : List ℕ) → Type 0 where
  -- the input is at its end
  ended : (d : Desk) → Printed d [] (prints_last d)
  -- no more is read
  closed : (d : Desk) (input : List ℕ) → d.closed ≡ true → Printed d input []
  -- a piece is fed, and what it leaves comes again with the rest
  piece_fed : (d : Desk) (at size : ℕ) (piece rest printed : List ℕ)
      → Printed (fed d at size piece).desk (drop (fed d at size piece).taken piece ++ rest) printed
      → Printed d (piece ++ rest) ((fed d at size piece).printed ++ printed)
