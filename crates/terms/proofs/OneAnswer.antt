-- Two results that meet a contract are one, by the form that the contract has: equations with definitions, one, two or three of them, or figures from which
-- the answer can be told.
use mathlib.Core.Path.{◌≡◌, sym, ap, ◌∙◌}

module _ {A : Type 0} {r s d : A} where
  pub one_equation : r ≡ d → s ≡ d → r ≡ s
  one_equation p q = p ∙ sym q

module _ {A B : Type 0} {r s d : A} {l m e : B} where
  -- what is returned, and what is left in a slice
  pub two_equations : (r ≡ d) × (l ≡ e) → (s ≡ d) × (m ≡ e) → (r ≡ s) × (l ≡ m)
  two_equations p q = (one_equation p.0 q.0, one_equation p.1 q.1)

module _ {A B C : Type 0} {r s d : A} {l m e : B} {t u f : C} where
  -- what is returned, and what is left in two slices
  pub three_equations : (r ≡ d) × ((l ≡ e) × (t ≡ f)) → (s ≡ d) × ((m ≡ e) × (u ≡ f)) → (r ≡ s) × ((l ≡ m) × (t ≡ u))
  three_equations p q = (one_equation p.0 q.0, two_equations p.1 q.1)

-- an answer that can be told from its figures
pub by_figures : {A B : Type 0} (figures : A → B) (back : B → A) → ((r : A) → back (figures r) ≡ r) → (r s : A) {f : B} → figures r ≡ f → figures s ≡ f → r ≡ s
by_figures figures back is r s p q = sym (is r) ∙ ap back (one_equation p q) ∙ is s
