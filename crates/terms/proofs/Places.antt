-- Places on the site grid, in x or in y: two that are moved alike keep their order; and with the origin subtracted a place is below a length exactly if it lies
-- from the origin on and before the origin plus the length.
use mathlib.Core.Bool.{Bool, true, false, not, ◌&&◌, and-false}
use mathlib.Core.Logic.{◌↔◌, ◌⊎◌}
use mathlib.Core.Path.{◌≡◌, refl, sym, ap, ap₂, subst, ◌∙◌}
use Prim.Native.Nat.{ℕ, zero, suc, ◌≤◌, ◌<◌}
use native.Mathlib.Omega.{arith}
use borrow.Author.Tests.{lt-ltb, le-ltb, le-leb, lt-leb, leb-true, leb-false}
use lib.Dec.{T, leb, ltb, leb-zero, leb-suc-zero, leb-suc-suc}
use lib.IntN.{ℤ, pos, negsuc, suc_ℤ, pred_ℤ, suc-pred, ◌+ℤ◌, ◌-ℤ◌, suc_ℤ-+ℤ, pred_ℤ-+ℤ, +ℤ_idl, +ℤ_idr}
use lib.Signed.{le_z, ◌≤ℤ◌, ◌<ℤ◌}
use Rattle.terms.specs.declared.Area.{Area}
use Rattle.terms.specs.Terms.{longest_side, distance_of, below}
use Rattle.terms.proofs.Signs.{off_added}
use Rattle.terms.proofs.Meanings.{at_most_is, at_most_told, not_at_most_is, not_at_most_told, Meaning, at_most_ℤ, both, negated, defined}

-- moved by one, and by any origin
leZ_suc : (a b : ℤ) → le_z (suc_ℤ a) (suc_ℤ b) ≡ le_z a b
leZ_suc (pos a) (pos b) = leb-suc-suc a b
leZ_suc (pos a) (negsuc zero) = leb-suc-zero a
leZ_suc (pos a) (negsuc (suc b)) = refl
leZ_suc (negsuc zero) (pos b) = leb-zero (suc b)
leZ_suc (negsuc (suc a)) (pos b) = refl
leZ_suc (negsuc zero) (negsuc zero) = refl
leZ_suc (negsuc zero) (negsuc (suc b)) = sym (leb-suc-zero b)
leZ_suc (negsuc (suc a)) (negsuc zero) = sym (leb-zero (suc a))
leZ_suc (negsuc (suc a)) (negsuc (suc b)) = sym (leb-suc-suc b a)

leZ_pred : (a b : ℤ) → le_z (pred_ℤ a) (pred_ℤ b) ≡ le_z a b
leZ_pred a b = sym (leZ_suc (pred_ℤ a) (pred_ℤ b)) ∙ ap₂ le_z (suc-pred a) (suc-pred b)

pub moved_order : (o a b : ℤ) → le_z (o +ℤ a) (o +ℤ b) ≡ le_z a b
moved_order (pos zero) a b = ap₂ le_z (+ℤ_idl a) (+ℤ_idl b)
moved_order (pos (suc n)) a b = ap₂ le_z (suc_ℤ-+ℤ (pos n) a) (suc_ℤ-+ℤ (pos n) b) ∙ leZ_suc (pos n +ℤ a) (pos n +ℤ b) ∙ moved_order (pos n) a b
moved_order (negsuc zero) a b =
    ap₂ le_z (pred_ℤ-+ℤ (pos zero) a) (pred_ℤ-+ℤ (pos zero) b) ∙ leZ_pred (pos zero +ℤ a) (pos zero +ℤ b) ∙ ap₂ le_z (+ℤ_idl a) (+ℤ_idl b)
moved_order (negsuc (suc n)) a b =
    ap₂ le_z (pred_ℤ-+ℤ (negsuc n) a) (pred_ℤ-+ℤ (negsuc n) b) ∙ leZ_pred (negsuc n +ℤ a) (negsuc n +ℤ b) ∙ moved_order (negsuc n) a b

order_from_it : (o d : ℤ) → le_z o (o +ℤ d) ≡ le_z (pos 0) d
order_from_it o d = ap (λ (z : ℤ). le_z z (o +ℤ d)) (sym (+ℤ_idr o)) ∙ moved_order o (pos 0) d

-- so of old places
module _ (o : ℤ) (d e : ℕ) where
  pub in_order : (o +ℤ pos d) ≤ℤ (o +ℤ pos e) ↔ d ≤ e
  in_order = (λ l. leb-true d e (sym (moved_order o (pos d) (pos e)) ∙ at_most_is l), λ l. at_most_told (moved_order o (pos d) (pos e) ∙ le-leb d e l))

  pub ahead_of : d < e → (o +ℤ pos d) <ℤ (o +ℤ pos e)
  ahead_of l = not_at_most_told (moved_order o (pos e) (pos d) ∙ lt-leb e d l)

pub from_it_on : (o : ℤ) (d : ℕ) → o ≤ℤ (o +ℤ pos d)
from_it_on o d = at_most_told (order_from_it o (pos d) ∙ leb-zero d)

-- a difference is below a length as its distance is, and a place whose difference is below one is the origin plus its distance
pub below_by : (z : ℤ) (n : ℕ) → n ≤ longest_side → ltb (distance_of z) n ≡ below z n
below_by (pos d) n l = refl
below_by (negsuc d) n l = le-ltb 4294967295 n (omega arith)

pub placed : (x o : ℤ) (n : ℕ) → below (x -ℤ o) n ≡ true → o +ℤ pos (distance_of (x -ℤ o)) ≡ x
placed x o n e = ap (λ (z : ℤ). o +ℤ z) (natural (x -ℤ o) e) ∙ off_added x o
  where
    natural : (z : ℤ) → below z n ≡ true → pos (distance_of z) ≡ z
    natural (pos d) p = refl
    natural (negsuc d) p = absurd (subst T (sym p) tt)

-- with the origin subtracted, below a length
not_leb : (n d : ℕ) → not (leb n d) ≡ ltb d n
not_leb n d = by (leb n d) refl
  where
    by : (t : Bool) → leb n d ≡ t → not t ≡ ltb d n
    by true e = sym (le-ltb d n (leb-true n d e))
    by false e = sym (lt-ltb d n (leb-false n d e))

pub below_is : (x o : ℤ) (n : ℕ) → below (x -ℤ o) n ≡ le_z o x && not (le_z (o +ℤ pos n) x)
below_is x o n = by (x -ℤ o) ∙ ap (λ (z : ℤ). le_z o z && not (le_z (o +ℤ pos n) z)) (off_added x o)
  where
    by : (d : ℤ) → below d n ≡ le_z o (o +ℤ d) && not (le_z (o +ℤ pos n) (o +ℤ d))
    by (pos d) = sym (rw (order_from_it o (pos d), leb-zero, moved_order o (pos n) (pos d)) (not_leb n d))
    by (negsuc d) = sym (rw (order_from_it o (negsuc d)) refl)

module _ (x o : ℤ) (n : ℕ) where
  pub within : o ≤ℤ x → x <ℤ (o +ℤ pos n) → below (x -ℤ o) n ≡ true
  within l m = below_is x o n ∙ rw (at_most_is l, not_at_most_is m) refl

  pub before : x <ℤ o → below (x -ℤ o) n ≡ false
  before l = below_is x o n ∙ rw (not_at_most_is l) refl

  pub beyond : (o +ℤ pos n) ≤ℤ x → below (x -ℤ o) n ≡ false
  beyond l = below_is x o n ∙ rw (at_most_is l) (and-false (le_z o x))

-- a test of a place in numbers: from the origin on, and before the origin plus the length; or before the one, or not before the other
abbrev pub below_mean : (x o : ℤ) (n : ℕ) → Meaning (below (x -ℤ o) n)
below_mean x o n = defined (both (at_most_ℤ o x) (negated (at_most_ℤ (o +ℤ pos n) x))) (below_is x o n)

-- "x >= w or y >= h" "with the origin subtracted": a square outside an area, on any of its four sides, and one inside.
abbrev pub IsSquareInside : (area : Area) (x y : ℤ) → Type 0
IsSquareInside area x y =
    ((area.ox ≤ℤ x) × (x <ℤ (area.ox +ℤ pos area.w))) × ((area.oy ≤ℤ y) × (y <ℤ (area.oy +ℤ pos area.h)))

abbrev pub IsSquareOutside : (area : Area) (x y : ℤ) → Type 0
IsSquareOutside area x y =
    ((x <ℤ area.ox) ⊎ ((area.ox +ℤ pos area.w) ≤ℤ x)) ⊎ ((y <ℤ area.oy) ⊎ ((area.oy +ℤ pos area.h) ≤ℤ y))

abbrev pub square_mean : (area : Area) (x y : ℤ) → Meaning (below (x -ℤ area.ox) area.w && below (y -ℤ area.oy) area.h)
square_mean area x y = both (below_mean x area.ox area.w) (below_mean y area.oy area.h)
