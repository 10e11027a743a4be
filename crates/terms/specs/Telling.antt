-- What it is for a test of the code to tell whether something holds. It renders no sentence of the documents.
use Rattle.std.specs.Prelude.{Bool, true, ◌≡◌}

abbrev pub Tells : Bool → Type 0 → Type 0
Tells r P = (r ≡ true → P) × (P → r ≡ true)
