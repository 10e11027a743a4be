-- The fields of a line: document 01, "Order lines", "with exactly one space between fields".
use Rattle.std.specs.Prelude.{cond, List, [], ◌∷◌, ℕ, eqb}

-- A byte put before the first of some pieces, or a piece of its own where there is none.
abbrev pub onto : ℕ → List (List ℕ) → List (List ℕ)
onto b [] = (b ∷ []) ∷ []
onto b (f ∷ fs) = (b ∷ f) ∷ fs

-- "with exactly one space between fields": the fields of a line are what stands between its spaces (byte 32), and may be empty.
unfoldable pub fields : List ℕ → List (List ℕ)
fields [] = [] ∷ []
fields (b ∷ bs) = cond (eqb b 32) ([] ∷ fields bs) (onto b (fields bs))
