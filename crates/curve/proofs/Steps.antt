-- How far apart the squares of successive numbers are, for every area: document 02, order 5, sentence by sentence. That the corner step of an area that bends
-- is there is seen by counting: were each step to a square beside, x + y and the number would stay both even or both odd, and at the last square they are not.
use mathlib.Core.Bool.{Bool, true, false, ◌&&◌, and-eq-true_iff, true≢false, cond}
use mathlib.Core.Logic.{◌⊎◌, inl, inr, ⊎_elim}
use mathlib.Core.Path.{◌≡◌, refl, sym, ap, ap₂, subst⁻¹, ◌∙◌}
use Prim.Native.Nat.{ℕ, zero, suc, ◌+◌, ◌-◌, ◌*◌, ◌/◌, ◌%◌, ◌≤◌, ◌<◌}
use native.Mathlib.Nat.{mul_assoc, mul-mod_left, mul-pos, div-add-mod'}
use native.Mathlib.Numerals.{add-one}
use native.Mathlib.Decide.{dec_lt}
use native.Mathlib.Omega.{arith}
use borrow.Author.Tests.{eqb-true, eq-eqb, leb-true, le-leb, ltb-true, ltb-false, lt-ltb, le-ltb}
use lib.Dec.{leb, ltb, eqb}
use lib.IntN.{ℤ, pos, negsuc, neg_ℤ, sub_ℕ, nat_abs}
use Rattle.division.specs.Division.{Square, square, whole, holds, square_of, number_of}
use Rattle.division.proofs.EachSquareOnce.{number_below, square_of_number, number_of_square}
use Rattle.division.proofs.Blocks.{whole_inside}
use Rattle.division.proofs.Coordinates.{whole_holds}
use Rattle.curve.specs.Steps.{Step, step_between, step_of, shares_side, corner_only, bends, bend_from, bend_to, bend_number, bend_step}
use Rattle.curve.proofs.Finish.{corner, last_square}
use Rattle.curve.proofs.Neighbours.{far, apart, Bent, Next, first_square, next_square}

-- a signed difference without its sign is how far apart the two are
far_by : (m n : ℕ) (t : Bool) → ltb n m ≡ t → nat_abs (cond t (negsuc (m - suc n)) (pos (n - m))) ≡ far m n
unfolding far
far_by m n true e = omega (arith, ltb-true n m e)
far_by m n false e = omega (arith, ltb-false n m e)

far_is : (m n : ℕ) → nat_abs (sub_ℕ n m) ≡ far m n
far_is m n = far_by m n (ltb n m) refl

-- a square beside shares a side
beside : (p q : Square) → apart p q ≡ 1 → shares_side (step_between p q) ≡ true
unfolding shares_side step_between
beside p q e = eq-eqb _ 1 (ap₂ ◌+◌ (far_is p.x q.x) (far_is p.y q.y) ∙ e)

-- No step is both to a square that shares a side and to one that touches only at a corner.
pub not_both : (s : Step) → shares_side s ≡ true → corner_only s ≡ true → ⊥
unfolding shares_side corner_only
not_both s e f =
    let both = (and-eq-true_iff (eqb (nat_abs s.dx) 1) (eqb (nat_abs s.dy) 1)).0 f in
    omega (arith, eqb-true (nat_abs s.dx + nat_abs s.dy) 1 e, eqb-true (nat_abs s.dx) 1 both.0, eqb-true (nat_abs s.dy) 1 both.1)

-- what it says that an area bends
record Bending (w h : ℕ) : Type 0 where
  odd : w % 2 ≡ 1
  wide : 3 ≤ w
  even : h % 2 ≡ 0
  high : 4 ≤ h

bending : (w h : ℕ) → bends w h ≡ true → Bending w h
unfolding bends
bending w h e =
    let lengths = (and-eq-true_iff (eqb (w % 2) 1 && leb 3 w) (eqb (h % 2) 0 && leb 4 h)).0 e in
    let width = (and-eq-true_iff (eqb (w % 2) 1) (leb 3 w)).0 lengths.0 in
    let height = (and-eq-true_iff (eqb (h % 2) 0) (leb 4 h)).0 lengths.1 in
    record {
      odd = eqb-true (w % 2) 1 width.0;
      wide = leb-true 3 w width.1;
      even = eqb-true (h % 2) 0 height.0;
      high = leb-true 4 h height.1;
    }

bent_bends : (w h : ℕ) {p q : Square} → Bent w h p q → bends w h ≡ true
unfolding bends
bent_bends w h t = rw (eq-eqb (w % 2) 1 t.odd, le-leb 3 w t.wide, eq-eqb (h % 2) 0 t.even, le-leb 4 h t.high)

-- beside flips even and odd of x + y
flips : (p q : Square) → apart p q ≡ 1 → (q.x + q.y) % 2 ≡ (p.x + p.y + 1) % 2
unfolding far
flips p q e = omega arith

even_times : (m n : ℕ) → n % 2 ≡ 0 → m * n % 2 ≡ 0
even_times m n e =
    let half : n ≡ n / 2 * 2 = omega (arith, div-add-mod' n 2) in
    ap (λ (n : ℕ). m * n % 2) half ∙ ap (λ n. n % 2) (sym (mul_assoc m (n / 2) 2)) ∙ mul-mod_left (m * (n / 2)) 2

module _ (w h : ℕ) (lw : 1 ≤ w) (lh : 1 ≤ h) where
  abbrev at : ℕ → Square
  at n = square_of (whole w h) n

  -- the corner is at the number that the definition names
  at_bend : (i : ℕ) → i + 1 < w * h → Bent w h (at i) (at (i + 1)) → i ≡ bend_number w h
  unfolding whole bend_number
  at_bend i l t =
      sym (number_of_square w h (whole w h) (whole_inside w h lw lh) i (omega arith))
      ∙ ap (number_of (whole w h)) (ap₂ square (omega (arith, t.from_x)) (omega (arith, t.from_y)))

  -- where each step up to number n is to a square beside, x + y is even where n is
  alternate : (n : ℕ) → n < w * h → ((i : ℕ) → i < n → apart (at i) (at (i + 1)) ≡ 1) → ((at n).x + (at n).y) % 2 ≡ n % 2
  alternate zero l all = ap (λ (s : Square). (s.x + s.y) % 2) (first_square w h lw lh)
  alternate (suc n) l all =
      let before = alternate n (omega arith) (λ i below. all i (omega arith)) in
      let here : ((at (suc n)).x + (at (suc n)).y) % 2 ≡ ((at n).x + (at n).y + 1) % 2 =
      ap (λ (m : ℕ). ((at m).x + (at m).y) % 2) (sym (add-one n)) ∙ flips (at n) (at (n + 1)) (all n (omega arith)) in
      omega arith

  module _ (bend : Bending w h) where
    ends_at : at (w * h - 1) ≡ square (w - 1) 0
    ends_at = last_square w h (w - 1) 0 lw lh (corner (omega (arith, bend.wide)) (λ two. absurd (omega (arith, bend.high))) (omega arith) refl)

    -- not each step of an area that bends is to a square beside
    some_corner : ((i : ℕ) → i + 1 < w * h → apart (at i) (at (i + 1)) ≡ 1) → ⊥
    some_corner all =
        let n = w * h - 1 in
        let some : 1 ≤ w * h = mul-pos lw lh in
        let same : ((at n).x + (at n).y) % 2 ≡ n % 2 = alternate n (omega arith) (λ i l. all i (omega arith)) in
        let last : ((at n).x + (at n).y) % 2 ≡ (w - 1 + 0) % 2 = ap (λ (s : Square). (s.x + s.y) % 2) ends_at in
        omega (arith, even_times w h bend.even, bend.odd)

    -- the corner's number has its square, and is not the last
    from_held : holds (whole w h) (bend_from w h) ≡ true
    from_held = whole_holds w h (bend_from w h) (record { run = omega (arith, bend.wide); side = omega (arith, bend.high) })

    from_is : at (bend_number w h) ≡ bend_from w h
    unfolding whole bend_number
    from_is = square_of_number w h (whole w h) (whole_inside w h lw lh) (bend_from w h) from_held

    not_last : bend_number w h + 1 < w * h
    unfolding whole bend_number
    not_last = by (dec_lt (bend_number w h + 1) (w * h))
      where
        by : Dec (bend_number w h + 1 < w * h) → bend_number w h + 1 < w * h
        by (yes y) = y
        by (no n) =
            let below = number_below w h (whole w h) (whole_inside w h lw lh) (bend_from w h) from_held in
            let last : bend_number w h ≡ w * h - 1 = omega arith in
            let same : w - 2 ≡ w - 1 = ap (λ (s : Square). s.x) (sym from_is ∙ ap at last ∙ ends_at) in
            absurd (omega (arith, bend.wide))

    bent_there : Bent w h (at (bend_number w h)) (at (bend_number w h + 1))
    bent_there = by (next_square w h lw lh (bend_number w h) not_last)
      where
        beside_by : apart (at (bend_number w h)) (at (bend_number w h + 1)) ≡ 1 → (i : ℕ) → i + 1 < w * h → Next w h (at i) (at (i + 1))
            → apart (at i) (at (i + 1)) ≡ 1
        beside_by e i l (inl one) = one
        beside_by e i l (inr t) = subst⁻¹ (λ (n : ℕ). apart (at n) (at (n + 1)) ≡ 1) (at_bend i l t) e

        by : Next w h (at (bend_number w h)) (at (bend_number w h + 1)) → Bent w h (at (bend_number w h)) (at (bend_number w h + 1))
        by (inl e) = absurd (some_corner (λ i l. beside_by e i l (next_square w h lw lh i l)))
        by (inr t) = t

-- The step of an area that bends to a square that touches only at a corner: where it is, what it is, and that no other step is one.
pub record CornerStep (w h : ℕ) : Type 0 where
  pub is_step : bend_number w h + 1 < w * h
  pub from : square_of (whole w h) (bend_number w h) ≡ bend_from w h
  pub to : square_of (whole w h) (bend_number w h + 1) ≡ bend_to w h
  pub differences : step_of w h (bend_number w h) ≡ bend_step
  pub touches : corner_only (step_of w h (bend_number w h)) ≡ true
  pub only : (i : ℕ) → i + 1 < w * h → corner_only (step_of w h i) ≡ true → i ≡ bend_number w h

sub_one : (m n : ℕ) → m ≡ n + 1 → sub_ℕ m n ≡ pos 1
sub_one m n e = rw (le-ltb m n (omega arith)) (ap pos (omega arith))

sub_minus_one : (m n : ℕ) → m + 1 ≡ n → sub_ℕ m n ≡ neg_ℤ (pos 1)
sub_minus_one m n e = rw (lt-ltb m n (omega arith)) (ap negsuc (omega arith))

sub_none : (m n : ℕ) → m ≡ n → sub_ℕ m n ≡ pos 0
sub_none m n e = rw (le-ltb m n (omega arith)) (ap pos (omega arith))

-- a step is known by its two differences
differ : (p q : Square) {a b : ℤ} → sub_ℕ q.x p.x ≡ a → sub_ℕ q.y p.y ≡ b → step_between p q ≡ record { dx = a; dy = b }
unfolding step_between
differ p q e f = λ i. record { dx = e i; dy = f i }

bend_differs : (w h : ℕ) {p q : Square} → Bent w h p q → step_between p q ≡ bend_step
bend_differs w h {p} {q} t =
    differ p q (sub_one q.x p.x (omega (arith, t.from_x, t.to_x))) (sub_minus_one q.y p.y (omega (arith, t.from_y, t.to_y)))

-- "State the steps as signed differences in x and y": the four steps to a square beside, and the one of an area that bends, which is at its number only.
pub data StepIs (w h i : ℕ) (s : Step) : Type 0 where
  right : s ≡ record { dx = pos 1; dy = pos 0 } → StepIs w h i s
  left : s ≡ record { dx = neg_ℤ (pos 1); dy = pos 0 } → StepIs w h i s
  up : s ≡ record { dx = pos 0; dy = pos 1 } → StepIs w h i s
  down : s ≡ record { dx = pos 0; dy = neg_ℤ (pos 1) } → StepIs w h i s
  across : bends w h ≡ true → i ≡ bend_number w h → s ≡ record { dx = pos 1; dy = neg_ℤ (pos 1) } → StepIs w h i s

-- a square beside lies one of four ways: to the right, else to the left, else above, else below
beside_is : (w h i : ℕ) (p q : Square) → apart p q ≡ 1 → StepIs w h i (step_between p q)
unfolding far
beside_is w h i p q e = by (dec_lt p.x q.x) (dec_lt q.x p.x) (dec_lt p.y q.y)
  where
    by : Dec (p.x < q.x) → Dec (q.x < p.x) → Dec (p.y < q.y) → StepIs w h i (step_between p q)
    by (yes r) l u = right (differ p q (sub_one q.x p.x (omega arith)) (sub_none q.y p.y (omega arith)))
    by (no r) (yes l) u = left (differ p q (sub_minus_one q.x p.x (omega arith)) (sub_none q.y p.y (omega arith)))
    by (no r) (no l) (yes u) = up (differ p q (sub_none q.x p.x (omega arith)) (sub_one q.y p.y (omega arith)))
    by (no r) (no l) (no u) = down (differ p q (sub_none q.x p.x (omega arith)) (sub_minus_one q.y p.y (omega arith)))

module _ (w h : ℕ) (lw : 1 ≤ w) (lh : 1 ≤ h) where
  -- each step, one way or the other
  side_or_bend : (i : ℕ) → i + 1 < w * h → (shares_side (step_of w h i) ≡ true) ⊎ Bent w h (at w h lw lh i) (at w h lw lh (i + 1))
  unfolding step_of
  side_or_bend i l = ⊎_elim (λ e. inl (beside (at w h lw lh i) (at w h lw lh (i + 1)) e)) inr (next_square w h lw lh i l)

  pub side_or_corner : (i : ℕ) → i + 1 < w * h → (shares_side (step_of w h i) ≡ true) ⊎ (corner_only (step_of w h i) ≡ true)
  unfolding step_of corner_only
  side_or_corner i l = ⊎_elim inl (λ t. inr (ap corner_only (bend_differs w h t))) (side_or_bend i l)

  pub corner_at : (i : ℕ) → i + 1 < w * h → corner_only (step_of w h i) ≡ true → (bends w h ≡ true) × (i ≡ bend_number w h)
  corner_at i l c = ⊎_elim (λ f. absurd (not_both (step_of w h i) f c)) (λ t. (bent_bends w h t, at_bend w h lw lh i l t)) (side_or_bend i l)

  -- each step by its signed differences
  pub step_is : (i : ℕ) → i + 1 < w * h → StepIs w h i (step_of w h i)
  unfolding step_of
  step_is i l =
      ⊎_elim (beside_is w h i (at w h lw lh i) (at w h lw lh (i + 1))) (λ t. across (bent_bends w h t) (at_bend w h lw lh i l t) (bend_differs w h t))
      (next_square w h lw lh i l)

  -- "squares of successive numbers share a side, with one exception"
  pub shares_a_side : (i : ℕ) → i + 1 < w * h → (bends w h ≡ true → i ≡ bend_number w h → ⊥) → shares_side (step_of w h i) ≡ true
  shares_a_side i l other = ⊎_elim (λ e. e) (λ t. absurd (other (bent_bends w h t) (at_bend w h lw lh i l t))) (side_or_bend i l)

  -- "exactly one step goes to a square that touches only at a corner"
  pub one_corner_step : bends w h ≡ true → CornerStep w h
  unfolding step_of corner_only
  one_corner_step e =
      let t = bent_there w h lw lh (bending w h e) in
      let is : step_of w h (bend_number w h) ≡ bend_step = bend_differs w h t in
      record {
        is_step = not_last w h lw lh (bending w h e);
        from = from_is w h lw lh (bending w h e);
        to = ap₂ square (omega (arith, t.to_x)) (omega (arith, t.to_y));
        differences = is;
        touches = ap corner_only is;
        only = λ i l c. (corner_at i l c).1;
      }

  -- "Otherwise there is none."
  pub otherwise_none : bends w h ≡ false → (i : ℕ) → i + 1 < w * h → shares_side (step_of w h i) ≡ true
  otherwise_none e i l = shares_a_side i l (λ f. absurd (true≢false (sym f ∙ e)))
