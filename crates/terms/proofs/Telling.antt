-- Tests that tell: what follows from one that says yes or no, how a test of one thing tells of another, and that the comparison of two lists tells whether
-- they are one.
use mathlib.Core.Bool.{Bool, true, false, not, and-eq-true_iff}
use mathlib.Core.List.{List, [], ◌∷◌}
use mathlib.Core.Path.{◌≡◌, refl, sym, ap₂, subst, ◌∙◌}
use Prim.Native.Nat.{ℕ}
use native.Mathlib.Omega.{arith}
use borrow.Author.Tests.{eqb-true, eq-eqb, not-true, not-false}
use lib.Dec.{eqb}
use Rattle.terms.specs.Comparing.{same_numbers}
use Rattle.terms.specs.Telling.{Tells}

impossible : {P : Type 0} → false ≡ true → P
impossible e = let z : ◌≡◌ {A = ℕ} 0 1 = cc in absurd (omega arith)

pub refuses : {P : Type 0} → (P → ⊥) → Tells false P
refuses other = (impossible, λ p. absurd (other p))

pub grants : {P : Type 0} → P → Tells true P
grants p = ((λ e. p), λ q. refl)

-- a test that was made, and said no, or yes
pub said_no : {P : Type 0} {r : Bool} → Tells r P → not r ≡ true → P → ⊥
said_no {r = r} tells e p = impossible (sym (not-true r e) ∙ tells.1 p)

pub said_yes : {P : Type 0} {r : Bool} → Tells r P → not r ≡ false → P
said_yes {r = r} tells e = tells.0 (not-false r e)

pub tells_equal : {P : Type 0} (x y : ℕ) → (x ≡ y → P) → (P → x ≡ y) → Tells (eqb x y) P
tells_equal x y to from = ((λ e. to (eqb-true x y e)), λ p. eq-eqb x y (from p))

pub tells_so : {P Q : Type 0} {r : Bool} → Tells r P → (P → Q) → (Q → P) → Tells r Q
tells_so tells to from = ((λ e. to (tells.0 e)), λ q. tells.1 (from q))

-- lists are the same exactly if their comparison says so
pub same_so : (xs ys : List ℕ) → same_numbers xs ys ≡ true → xs ≡ ys
unfolding same_numbers
same_so [] [] e = refl
same_so [] (y ∷ ys) e = impossible e
same_so (x ∷ xs) [] e = impossible e
same_so (x ∷ xs) (y ∷ ys) e =
    let both = (and-eq-true_iff (eqb x y) (same_numbers xs ys)).0 e in
    ap₂ ◌∷◌ (eqb-true x y both.0) (same_so xs ys both.1)

pub so_same : (xs : List ℕ) → same_numbers xs xs ≡ true
unfolding same_numbers
so_same [] = refl
so_same (x ∷ xs) = rw (eq-eqb x x refl) (so_same xs)

pub tells_same : (xs ys : List ℕ) → Tells (same_numbers xs ys) (xs ≡ ys)
tells_same xs ys = (same_so xs ys, λ e. subst (λ (zs : List ℕ). same_numbers xs zs ≡ true) e (so_same xs))

-- two tests that tell of one thing are one
pub tells_one : {P : Type 0} {r s : Bool} → Tells r P → Tells s P → r ≡ s
tells_one {r = true} {s = true} t u = refl
tells_one {r = false} {s = false} t u = refl
tells_one {r = true} {s = false} t u = sym (u.1 (t.0 refl))
tells_one {r = false} {s = true} t u = t.1 (u.0 refl)
