-- Looks at a table's places: a right value leaves the least wrong place, a wrong one may take its stead.
-- So the least of a walk is where it began or a wrong place, and no wrong place comes before it.
use mathlib.Core.Bool.{Bool, true, false, cond}
use mathlib.Core.List.{List, [], ◌∷◌}
use mathlib.Core.Path.{◌≡◌, refl, sym, subst, subst⁻¹, ◌∙◌}
use Prim.Native.Nat.{ℕ, zero, suc, ◌+◌, ◌≤◌, ◌<◌}
use native.Mathlib.Nat.{add-zero, suc-add, add-suc, le_of_suc-le-suc}
use native.Mathlib.Omega.{arith}
use borrow.Author.Tests.{eqb-true, eqb-false, leb-true, leb-false}
use lib.Dec.{leb, eqb}
use lib.ListN.{length, get_or}
use Rattle.std.specs.Prelude.{Option, Some, None}
use Rattle.leaves.specs.declared.Wrong.{Wrong}
use Rattle.leaves.specs.Walk.{over, sooner, none_before, least_one}

-- nothing wrong was found before place m
abbrev pub Late : (m : ℕ) → Option Wrong → Type 0
Late m None = Unit {0}
Late m (Some found) = m ≤ found.place

pub late_so : (m : ℕ) (least : Option Wrong) → none_before m least ≡ true → Late m least
late_so m None e = tt
late_so m (Some found) e = leb-true m found.place e

sooner_late : (least : Option Wrong) (wrong : Wrong) (m : ℕ) → Late m (sooner least wrong) → Late m least × (m ≤ wrong.place)
sooner_late None wrong m late = (tt, late)
sooner_late (Some found) wrong m late = by (leb found.place wrong.place) refl late
  where
    by : (first : Bool) → leb found.place wrong.place ≡ first → Late m (cond first (Some found) (Some wrong)) → (m ≤ found.place) × (m ≤ wrong.place)
    by true e late = let l = leb-true found.place wrong.place e in (late, omega arith)
    by false e late = let l = leb-false found.place wrong.place e in (omega arith, late)

sooner_some : (P : Option Wrong → Type 0) (least : Option Wrong) (wrong : Wrong) → P least → P (Some wrong) → P (sooner least wrong)
sooner_some P None wrong a b = b
sooner_some P (Some found) wrong a b = by (leb found.place wrong.place)
  where
    by : (first : Bool) → P (cond first (Some found) (Some wrong))
    by true = a
    by false = b

module _ (by_square : Bool) (t : List ℕ) where
  -- what a look at square number n, at place p, may find, and whether the place is right
  abbrev looked : (n p : ℕ) → Wrong
  looked n p = record { place = cond by_square p n; due = cond by_square n p }

  abbrev Right : (n p : ℕ) → Type 0
  Right n p = get_or t (cond by_square p n) 0 ≡ cond by_square n p

  one_late : (least : Option Wrong) (n p m : ℕ) → Late m (least_one by_square t least n p) → Late m least × ((Right n p → ⊥) → m ≤ (looked n p).place)
  one_late least n p m late = by (eqb (get_or t (cond by_square p n) 0) (cond by_square n p)) refl late
    where
      by : (right : Bool) → eqb (get_or t (cond by_square p n) 0) (cond by_square n p) ≡ right → Late m (cond right least (sooner least (looked n p)))
          → Late m least × ((Right n p → ⊥) → m ≤ (looked n p).place)
      by true e late = (late, λ other. absurd (other (eqb-true _ _ e)))
      by false e late = let both = sooner_late least (looked n p) m late in (both.0, λ other. both.1)

  one_some : (P : Option Wrong → Type 0) (least : Option Wrong) (n p : ℕ) → P least → ((Right n p → ⊥) → P (Some (looked n p)))
      → P (least_one by_square t least n p)
  one_some P least n p a b = by (eqb (get_or t (cond by_square p n) 0) (cond by_square n p)) refl
    where
      by : (right : Bool) → eqb (get_or t (cond by_square p n) 0) (cond by_square n p) ≡ right → P (cond right least (sooner least (looked n p)))
      by true e = a
      by false e = sooner_some P least (looked n p) a (b (eqb-false _ _ e))

  -- the least only comes sooner
  pub over_most : (least : Option Wrong) (n : ℕ) (ps : List ℕ) (m : ℕ) → Late m (over (least_one by_square t) least n ps) → Late m least
  unfolding over
  over_most least n [] m late = late
  over_most least n (p ∷ ps) m late = (one_late least n p m (over_most (least_one by_square t least n p) (suc n) ps m late)).0

  -- no wrong place comes before the least
  pub over_below : (least : Option Wrong) (n : ℕ) (ps : List ℕ) (j : ℕ) → j < length ps → (Right (n + j) (get_or ps j 0) → ⊥)
      → (m : ℕ) → Late m (over (least_one by_square t) least n ps) → m ≤ (looked (n + j) (get_or ps j 0)).place
  unfolding over
  over_below least n [] j l = absurd (omega arith)
  over_below least n (p ∷ ps) zero l =
      subst⁻¹ (λ (i : ℕ). (Right i p → ⊥) → (m : ℕ) → Late m (over (least_one by_square t) (least_one by_square t least n p) (suc n) ps)
      → m ≤ (looked i p).place) (add-zero n)
      (λ other m late. (one_late least n p m (over_most (least_one by_square t least n p) (suc n) ps m late)).1 other)
  over_below least n (p ∷ ps) (suc j) l =
      subst (λ (i : ℕ). (Right i (get_or ps j 0) → ⊥) → (m : ℕ) → Late m (over (least_one by_square t) (least_one by_square t least n p) (suc n) ps)
      → m ≤ (looked i (get_or ps j 0)).place)
      (suc-add n j ∙ sym (add-suc n j))
      (over_below (least_one by_square t least n p) (suc n) ps j (le_of_suc-le-suc l))

  -- the least is where the walk began or a wrong place
  pub over_some : (P : Option Wrong → Type 0) (least : Option Wrong) (n : ℕ) (ps : List ℕ) → P least
      → ((j : ℕ) → j < length ps → (Right (n + j) (get_or ps j 0) → ⊥) → P (Some (looked (n + j) (get_or ps j 0))))
      → P (over (least_one by_square t) least n ps)
  unfolding over
  over_some P least n [] a b = a
  over_some P least n (p ∷ ps) a b =
      over_some P (least_one by_square t least n p) (suc n) ps
      (one_some P least n p a (subst (λ (i : ℕ). (Right i p → ⊥) → P (Some (looked i p))) (add-zero n) (b 0 (omega arith))))
      (λ j l. subst⁻¹ (λ (i : ℕ). (Right i (get_or ps j 0) → ⊥) → P (Some (looked i (get_or ps j 0)))) (suc-add n j ∙ sym (add-suc n j))
      (b (suc j) (omega arith)))
