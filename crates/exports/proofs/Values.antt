-- Stores to a slice's first places, and what a call across the boundary comes to where its slice is too short and where it is not.
use mathlib.Core.List.{List, ◌++◌}
use mathlib.Core.Path.{◌≡◌, refl, sym, ap, ap₂, ◌∙◌}
use Prim.Native.Nat.{ℕ, ◌≤◌, ◌<◌}
use borrow.Author.Tests.{le-leb, lt-leb}
use lib.IntN.{ℤ}
use lib.ListN.{length, drop}
use mir.Syntax.{w32}
use mir.Val.{SFits}
use Rattle.terms.specs.Terms.{FiguresOf, Figures}
use Rattle.tables.specs.Tables.{unless_refused, fill}
use Rattle.terms.proofs.Signs.{held, kept}
use Rattle.boundary.specs.Boundary.{returned, written, left, filled, area_at}

-- an area and a window as a call makes them of its arguments
pub kept_area : (w h : ℕ) {ox oy : ℤ} → SFits w32 ox → SFits w32 oy → area_at w h (held ox) (held oy) ≡ area_at w h ox oy
kept_area w h p q = ap₂ (area_at w h) (kept p) (kept q)

module _ {A : Type 0} where
  pub short : (n : ℕ) (f : FiguresOf A) (s : List A) → length s < n → (255 ≡ returned n f s) × (s ≡ written n f s)
  short n f s l = rw (lt-leb n (length s) l) (refl, refl)

  -- The figures of an answer are those of the case that it is.
  pub told : (n : ℕ) {B : Type 0} (figures : B → FiguresOf A) (s : List A) {is case : B} → is ≡ case
      → (r : ℕ) → r ≡ (figures case).refusal → (last : List A) → last ≡ (figures case).values ++ drop n s
      → (r ≡ (figures is).refusal) × (last ≡ (figures is).values ++ drop n s)
  told n figures s e r p last q = (p ∙ ap (λ a. (figures a).refusal) (sym e), q ∙ ap (λ a. (figures a).values ++ drop n s) (sym e))

  -- An answer's figures, as a call returns and writes them, are the figures that are due; and those of the case that a lookup's answer is.
  pub answer : (n : ℕ) {f g : FiguresOf A} (s : List A) → n ≤ length s → g ≡ f → {r : ℕ} {last : List A}
      → (r ≡ g.refusal) × (last ≡ g.values ++ drop n s) → (r ≡ returned n f s) × (last ≡ written n f s)
  answer n s l e {r} {last} both = rw (le-leb n (length s) l) (told n (λ f. f) s (sym e) r both.0 last both.1)

  pub found : (n : ℕ) {B : Type 0} (figures : B → FiguresOf A) {f : FiguresOf A} (s : List A) → n ≤ length s → {is case : B} → is ≡ case → figures is ≡ f
      → (r : ℕ) → r ≡ (figures case).refusal → (last : List A) → last ≡ (figures case).values ++ drop n s
      → (r ≡ returned n f s) × (last ≡ written n f s)
  found n figures s l e due r p last q = answer n s l (ap figures (sym e) ∙ due) (p, q)

-- A call that writes a lent slice and tells one value: the slice for that is too short, and the lent one is kept; or it is not.
module _ (f : Figures) (after lent slice : List ℕ) where
  pub lent_short : length slice < 1 → (255 ≡ returned 1 f slice) × ((slice ≡ written 1 f slice) × (lent ≡ left after lent slice))
  lent_short l = rw (lt-leb 1 (length slice) l) (refl, (refl, refl))

  pub lent_told : 1 ≤ length slice → {g : Figures} → g ≡ f → (last : List ℕ) → last ≡ after
      → {r : ℕ} {values : List ℕ} → (r ≡ g.refusal) × (values ≡ g.values ++ drop 1 slice)
      → (r ≡ returned 1 f slice) × ((values ≡ written 1 f slice) × (last ≡ left after lent slice))
  lent_told l e last is {r} {values} both =
      let due_told = told 1 (λ g. g) slice (sym e) r both.0 values both.1 in
      rw (le-leb 1 (length slice) l) (due_told.0, (due_told.1, is))

-- A fill, by the list that is due.
module _ (w h : ℕ) (due : ℕ → ℕ → List ℕ) (table slice : List ℕ) where
  pub fill_short : length slice < 1
      → (255 ≡ returned 1 (fill w h table) slice) × ((slice ≡ written 1 (fill w h table) slice) × (table ≡ filled (fill w h table) (due w h) table slice))
  fill_short = lent_short (fill w h table) (unless_refused (fill w h table) (due w h) table) table slice

  pub fill_told : 1 ≤ length slice → {g : Figures} → g ≡ fill w h table → (last : List ℕ) → last ≡ unless_refused (fill w h table) (due w h) table
      → {r : ℕ} {values : List ℕ} → (r ≡ g.refusal) × (values ≡ g.values ++ drop 1 slice)
      → (r ≡ returned 1 (fill w h table) slice) × ((values ≡ written 1 (fill w h table) slice) × (last ≡ filled (fill w h table) (due w h) table slice))
  fill_told = lent_told (fill w h table) (unless_refused (fill w h table) (due w h) table) table slice
