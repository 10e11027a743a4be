-- A square's place in a list that holds it once, and the square at a place: each is the other's way back.
use mathlib.Core.Bool.{Bool, true, false, and-eq-true_iff, cond}
use mathlib.Core.List.{List, [], ◌∷◌, ◌++◌, map}
use mathlib.Core.Path.{◌≡◌, refl, sym, ap, ◌∙◌}
use Prim.Native.Nat.{ℕ, zero, suc, ◌+◌, ◌≤◌, ◌<◌}
use native.Mathlib.Nat.{le_of_suc-le-suc, zero-add, suc-add}
use native.Mathlib.Omega.{arith}
use borrow.Author.Tests.{eqb-true, eq-eqb}
use lib.Dec.{eqb}
use lib.ListN.{length, get_or}
use Rattle.division.specs.Division.{Square, one, count, same, place_in}

same_true : (p q : Square) → same p q ≡ true → p ≡ q
unfolding same
same_true p q e =
    λ i. record {
      x = eqb-true p.x q.x ((and-eq-true_iff (eqb p.x q.x) (eqb p.y q.y)).0 e).0 i;
      y = eqb-true p.y q.y ((and-eq-true_iff (eqb p.x q.x) (eqb p.y q.y)).0 e).1 i;
    }

same_self : (p : Square) → same p p ≡ true
unfolding same
same_self p = rw (eq-eqb p.x p.x refl, eq-eqb p.y p.y refl)

-- what stands in a list is counted
pub counted : (p : Square) (zs : List Square) (i : ℕ) (d : Square) → i < length zs → get_or zs i d ≡ p → 1 ≤ count (same p) zs
unfolding count
counted p [] i d l e = absurd (omega arith)
counted p (z ∷ zs) zero d l e = let f : one (same p z) ≡ 1 = ap one (ap (same p) e ∙ same_self p) in omega arith
counted p (z ∷ zs) (suc i) d l e = let f = counted p zs i d (le_of_suc-le-suc l) e in omega arith

module _ (p z : Square) (zs : List Square) (d : Square) where
  -- the head is p, or it is not and p is looked for in the rest
  found_by : (t : Bool) → same p z ≡ t → 1 ≤ one t + count (same p) zs
      → (1 ≤ count (same p) zs → (place_in zs p < length zs) × (get_or zs (place_in zs p) d ≡ p))
      → (cond t 0 (suc (place_in zs p)) < length (z ∷ zs)) × (get_or (z ∷ zs) (cond t 0 (suc (place_in zs p))) d ≡ p)
  found_by true e l next = (omega arith, sym (same_true p z e))
  found_by false e l next = let f = next (omega arith) in (omega arith, f.1)

  unique_by : (t : Bool) → same p z ≡ t → (i : ℕ) → one t + count (same p) zs ≤ 1 → i < length zs → get_or zs i d ≡ p
      → (count (same p) zs ≤ 1 → place_in zs p ≡ i)
      → cond t 0 (suc (place_in zs p)) ≡ suc i
  unique_by true e i l r q next = let f = counted p zs i d r q in absurd (omega arith)
  unique_by false e i l r q next = ap suc (next (omega arith))

pub found : (p : Square) (zs : List Square) (d : Square) → 1 ≤ count (same p) zs → (place_in zs p < length zs) × (get_or zs (place_in zs p) d ≡ p)
unfolding count place_in
found p [] d l = absurd (omega arith)
found p (z ∷ zs) d l = found_by p z zs d (same p z) refl l (found p zs d)

pub unique : (p : Square) (zs : List Square) (i : ℕ) (d : Square) → count (same p) zs ≤ 1 → i < length zs → get_or zs i d ≡ p → place_in zs p ≡ i
unfolding count place_in
unique p [] i d l r e = absurd (omega arith)
unique p (z ∷ zs) zero d l r e = rw (ap (same p) e ∙ same_self p)
unique p (z ∷ zs) (suc i) d l r e = unique_by p z zs d (same p z) refl i l (le_of_suc-le-suc r) e (λ c. unique p zs i d c (le_of_suc-le-suc r) e)

-- the place in two lists joined: in the first where that has the square, else beyond it
module _ (p z : Square) (zs ys : List Square) where
  left_by : (t : Bool) → same p z ≡ t → 1 ≤ one t + count (same p) zs
      → (1 ≤ count (same p) zs → place_in (zs ++ ys) p ≡ place_in zs p)
      → cond t 0 (suc (place_in (zs ++ ys) p)) ≡ cond t 0 (suc (place_in zs p))
  left_by true e l next = refl
  left_by false e l next = ap suc (next (omega arith))

  right_by : (t : Bool) → same p z ≡ t → one t + count (same p) zs ≡ 0
      → (count (same p) zs ≡ 0 → place_in (zs ++ ys) p ≡ length zs + place_in ys p)
      → cond t 0 (suc (place_in (zs ++ ys) p)) ≡ suc (length zs) + place_in ys p
  right_by true e l next = absurd (omega arith)
  right_by false e l next = ap suc (next (omega arith)) ∙ sym (suc-add (length zs) (place_in ys p))

pub place_left : (p : Square) (zs ys : List Square) → 1 ≤ count (same p) zs → place_in (zs ++ ys) p ≡ place_in zs p
unfolding count place_in
place_left p [] ys l = absurd (omega arith)
place_left p (z ∷ zs) ys l = left_by p z zs ys (same p z) refl l (place_left p zs ys)

pub place_right : (p : Square) (zs ys : List Square) → count (same p) zs ≡ 0 → place_in (zs ++ ys) p ≡ length zs + place_in ys p
unfolding count place_in
place_right p [] ys l = sym (zero-add (place_in ys p))
place_right p (z ∷ zs) ys l = right_by p z zs ys (same p z) refl l (place_right p zs ys)

-- what stands at a place of a list, when each square of it is made into something
pub getD_map_in : {X : Type 0} (f : Square → X) (zs : List Square) (n : ℕ) (d : X) (z : Square) → n < length zs → get_or (map f zs) n d ≡ f (get_or zs n z)
getD_map_in f [] n d z l = absurd (omega arith)
getD_map_in f (x ∷ zs) zero d z l = refl
getD_map_in f (x ∷ zs) (suc n) d z l = getD_map_in f zs n d z (le_of_suc-le-suc l)
