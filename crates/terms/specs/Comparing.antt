-- Lists of numbers and figures, signed ones too, compared by tests that compute, for the tables of worked cases, and for definitions that ask whether a list
-- is the right one. They render no sentence of the documents.
use Rattle.std.specs.Prelude.{Bool, true, false, ◌&&◌, List, [], ◌∷◌, ℕ, eqb, ℤ}
use Rattle.std.specs.Int.Signed.{le_z}
use Rattle.terms.specs.Terms.{Figures, SignedFigures}

unfoldable pub same_numbers : List ℕ → List ℕ → Bool
same_numbers [] [] = true
same_numbers [] (n ∷ ns) = false
same_numbers (m ∷ ms) [] = false
same_numbers (m ∷ ms) (n ∷ ns) = eqb m n && same_numbers ms ns

unfoldable pub same_figures : Figures → (refusal : ℕ) → (values : List ℕ) → Bool
same_figures f refusal values = eqb f.refusal refusal && same_numbers f.values values

abbrev pub same_integer : ℤ → ℤ → Bool
same_integer m n = le_z m n && le_z n m

unfoldable pub same_integers : List ℤ → List ℤ → Bool
same_integers [] [] = true
same_integers [] (n ∷ ns) = false
same_integers (m ∷ ms) [] = false
same_integers (m ∷ ms) (n ∷ ns) = same_integer m n && same_integers ms ns

unfoldable pub same_signed : SignedFigures → (refusal : ℕ) → (values : List ℤ) → Bool
same_signed f refusal values = eqb f.refusal refusal && same_integers f.values values
