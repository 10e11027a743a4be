-- A test that goes over two lists at once tells whether the one is the images of the other.
use Rattle.std.proofs.Common.{◌≡◌, ℕ, Bool, true, ◌&&◌, eqb, List, [], ◌∷◌, map, length, refl, sym, ap, ap₂, ◌∙◌, arith, eq-eqb, eqb-true}
use Rattle.std.specs.List.{fold, zip}
use mathlib.Core.Bool.{and-eq-true_iff}
use Rattle.terms.specs.Telling.{Tells}

-- all was right so far, and an entry is the image of the other one
abbrev pub both : (ℕ → ℕ) → Bool → ℕ × ℕ → Bool
both f all p = all && eqb p.0 (f p.1)

all_images : (f : ℕ → ℕ) (xs ys : List ℕ) (so_far : Bool) → length xs ≡ length ys → fold (both f) so_far (zip ys xs) ≡ true
    → (so_far ≡ true) × (ys ≡ map f xs)
all_images f [] [] so_far long e = (e, refl)
all_images f [] (y ∷ ys) so_far long e = absurd (omega arith)
all_images f (x ∷ xs) [] so_far long e = absurd (omega arith)
all_images f (x ∷ xs) (y ∷ ys) so_far long e =
    let rest = all_images f xs ys (so_far && eqb y (f x)) (omega arith) e in
    let here = (and-eq-true_iff so_far (eqb y (f x))).0 rest.0 in
    (here.0, ap₂ ◌∷◌ (eqb-true y (f x) here.1) rest.1)

images_all : (f : ℕ → ℕ) (xs : List ℕ) → fold (both f) true (zip (map f xs) xs) ≡ true
images_all f [] = refl
images_all f (x ∷ xs) = ap (λ right. fold (both f) right (zip (map f xs) xs)) (eq-eqb (f x) (f x) refl) ∙ images_all f xs

pub images_told : (f : ℕ → ℕ) (xs ys : List ℕ) → length xs ≡ length ys → {told : Bool} → told ≡ fold (both f) true (zip ys xs) → Tells told (ys ≡ map f xs)
images_told f xs ys long is =
    (λ e. (all_images f xs ys true long (sym is ∙ e)).1, λ e. is ∙ ap (λ zs. fold (both f) true (zip zs xs)) e ∙ images_all f xs)
