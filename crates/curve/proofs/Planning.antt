-- What a planner takes from the law of the steps: how many there are from one number to another, or through all of an area, and how many of them go across a
-- corner; and how far apart two successive answers are. Steps are counted along the list of them, number by number.
use mathlib.Core.Bool.{Bool, true, false, ◌&&◌, and-eq-true_iff, true≢false}
use mathlib.Core.List.{List, [], ◌∷◌}
use mathlib.Core.Logic.{◌↔◌, ◌⊎◌, inl, inr, ⊎_elim}
use mathlib.Core.Path.{◌≡◌, refl, sym, ap, ap₂, subst, subst⁻¹, ◌∙◌}
use Prim.Native.Nat.{ℕ, zero, suc, ◌+◌, ◌-◌, ◌*◌, ◌≤◌, ◌<◌, zero-le}
use native.Mathlib.Nat.{suc-add, add-zero, sub-zero, add-sub_of_le, mul-pos}
use native.Mathlib.Omega.{arith}
use borrow.Author.Tests.{leb-true, le-leb, ltb-true, lt-ltb, le-ltb}
use lib.Dec.{leb, ltb, lit≤}
use lib.ListN.{length, get_or, take, drop, length-take, length-drop}
use lib.Seq.{take-length, get_or-take, get_or-drop}
use lib.IntN.{ℤ, pos, neg_ℤ, sub_ℕ, ◌+ℤ◌, ◌-ℤ◌, +ℤ_assoc, neg_ℤ-+ℤ}
use Rattle.terms.specs.declared.Area.{Area}
use Rattle.terms.specs.Terms.{grid_accepted, SignedFigures, Limits}
use Rattle.terms.proofs.Limits.{limits, grid_passed}
use Rattle.terms.proofs.Signs.{added_off}
use Rattle.division.specs.Division.{Square, square, whole, curve, one, count, square_of, blocks_holding}
use Rattle.division.proofs.EachSquareOnce.{length_curve}
use Rattle.curve.specs.Lookups.{all, number_to_square_at}
use Rattle.curve.specs.Steps.{Step, step_between, step_of, shares_side, corner_only, steps_through, walk}
use Rattle.curve.specs.Steps.{stretch, bends, bend_between, bend_from, bend_to, bend_number, bend_step}
use Rattle.curve.proofs.Demands.{found, number_answered_at, NumberAnswered, number_asked}
use Rattle.curve.proofs.Steps.{not_both, side_or_corner, corner_at, StepIs, step_is, one_corner_step}

-- the steps through a list of squares: one less than these, and each from a square to the next
through_length : (zs : List Square) → length (steps_through zs) ≡ length zs - 1
unfolding steps_through
through_length [] = refl
through_length (p ∷ []) = refl
through_length (p ∷ q ∷ qs) = omega (arith, through_length (q ∷ qs))

through_at : (zs : List Square) (i : ℕ) (d : Step) (s : Square) → i + 1 < length zs
    → get_or (steps_through zs) i d ≡ step_between (get_or zs i s) (get_or zs (i + 1) s)
unfolding steps_through
through_at [] i d s l = absurd (omega arith)
through_at (p ∷ []) i d s l = absurd (omega arith)
through_at (p ∷ q ∷ qs) zero d s l = refl
through_at (p ∷ q ∷ qs) (suc i) d s l =
    through_at (q ∷ qs) i d s (omega arith) ∙ ap (λ (n : ℕ). step_between (get_or (q ∷ qs) i s) (get_or (p ∷ q ∷ qs) n s)) (sym (suc-add i 1))

-- counting along a list
module _ {X : Type 0} (f : X → Bool) (d : X) where
  count_none : (zs : List X) → ((i : ℕ) → i < length zs → f (get_or zs i d) ≡ false) → count f zs ≡ 0
  unfolding count
  count_none [] none = refl
  count_none (z ∷ zs) none = ap₂ ◌+◌ (ap one (none 0 (omega arith))) (count_none zs (λ i l. none (suc i) (omega arith)))

  count_one : (zs : List X) (n : ℕ) → n < length zs → f (get_or zs n d) ≡ true → ((i : ℕ) → i < length zs → (i ≡ n → ⊥) → f (get_or zs i d) ≡ false)
      → count f zs ≡ 1
  unfolding count
  count_one [] n l e only = absurd (omega arith)
  count_one (z ∷ zs) zero l e only = ap₂ ◌+◌ (ap one e) (count_none zs (λ i m. only (suc i) (omega arith) (λ is. omega arith)))
  count_one (z ∷ zs) (suc n) l e only =
      ap₂ ◌+◌ (ap one (only 0 (omega arith) (λ is. omega arith)))
      (count_one zs n (omega arith) e (λ i m other. only (suc i) (omega arith) (λ is. other (omega arith))))

count_two : {X : Type 0} (f g : X → Bool) (d : X) (zs : List X) → ((i : ℕ) → i < length zs → one (f (get_or zs i d)) + one (g (get_or zs i d)) ≡ 1)
    → count f zs + count g zs ≡ length zs
unfolding count
count_two f g d [] either = refl
count_two f g d (z ∷ zs) either = omega (arith, either 0 (omega arith), count_two f g d zs (λ i l. either (suc i) (omega arith)))

-- a step that is of one of the two kinds is not of the other
never : (t : Bool) → (t ≡ true → ⊥) → t ≡ false
never true not = absurd (not refl)
never false not = refl

kinds : (s : Step) → (shares_side s ≡ true) ⊎ (corner_only s ≡ true) → one (shares_side s) + one (corner_only s) ≡ 1
kinds s (inl e) = ap₂ (λ side corner. one side + one corner) e (never (corner_only s) (not_both s e))
kinds s (inr e) = ap₂ (λ side corner. one side + one corner) (never (shares_side s) (λ f. not_both s f e)) e

module _ (w h : ℕ) (lw : 1 ≤ w) (lh : 1 ≤ h) where
  curve_length : length (curve (whole w h)) ≡ w * h
  unfolding whole
  curve_length = length_curve (whole w h) (record { run = lw; side = lh })

  -- The walk through an area has w·h - 1 steps, and its i-th is that from number i.
  pub walk_length : length (walk w h) ≡ w * h - 1
  unfolding walk
  walk_length = through_length (curve (whole w h)) ∙ ap (λ n. n - 1) curve_length

  pub walk_at : (i : ℕ) → i + 1 < w * h → get_or (walk w h) i bend_step ≡ step_of w h i
  unfolding walk step_of square_of
  walk_at i l = through_at (curve (whole w h)) i bend_step (square 0 0) (subst⁻¹ (λ (n : ℕ). i + 1 < n) curve_length l)

  -- where the corner step lies between two numbers, as a test and as what it says
  between : (i j : ℕ) → (bend_between w h i j ≡ true) ↔ ((bends w h ≡ true) × (i ≤ bend_number w h) × (bend_number w h < j))
  unfolding bend_between
  between i j =
      let n = bend_number w h in
      let bent = and-eq-true_iff (bends w h) (leb i n && ltb n j) in
      let both = and-eq-true_iff (leb i n) (ltb n j) in (
        λ e. let f = both.0 (bent.0 e).1 in ((bent.0 e).0, leb-true i n f.0, ltb-true n j f.1),
        λ f. bent.1 (f.0, both.1 (le-leb i n f.1, lt-ltb n j f.2)),
      )

  -- From number i to number j there are j - i steps. Where the corner step lies between, it is one of them; all others are to a square that shares a side.
  module _ (i j : ℕ) (l : i ≤ j) (m : j < w * h) where
    pub stretch_length : length (stretch w h i j) ≡ j - i
    unfolding stretch
    stretch_length = simp (length-take, length-drop) (omega (arith, walk_length))

    -- what the law says of the step from number i + n is so of the n-th step of the stretch
    of_stretch : (P : ℕ → Step → Type 0) → ((n : ℕ) → i ≤ n → n < j → P n (step_of w h n)) → (n : ℕ) → n < length (stretch w h i j)
        → P (i + n) (get_or (stretch w h i j) n bend_step)
    unfolding stretch
    of_stretch P law n o =
        let below : n < j - i = omega (arith, stretch_length) in
        let is : get_or (stretch w h i j) n bend_step ≡ step_of w h (i + n) =
        get_or-take (j - i) (drop i (walk w h)) n bend_step below ∙ get_or-drop i (walk w h) n bend_step ∙ walk_at (i + n) (omega arith) in
        subst⁻¹ (P (i + n)) is (law (i + n) (omega arith) (omega arith))

    pub stretch_corners : count corner_only (stretch w h i j) ≡ one (bend_between w h i j)
    stretch_corners = by (bend_between w h i j) refl
      where
        by : (t : Bool) → bend_between w h i j ≡ t → count corner_only (stretch w h i j) ≡ one t
        by false e =
            count_none corner_only bend_step (stretch w h i j)
            (of_stretch (λ n s. corner_only s ≡ false)
            (λ n from to. never _
            (λ c. let at = corner_at w h lw lh n (omega arith) c in true≢false (sym ((between i j).1 (at.0, omega arith, omega arith)) ∙ e))))
        by true e =
            let lies = (between i j).0 e in
            let there = one_corner_step w h lw lh lies.0 in
            count_one corner_only bend_step (stretch w h i j) (bend_number w h - i) (omega (arith, stretch_length, lies.1, lies.2))
            (of_stretch (λ n s. n ≡ bend_number w h → corner_only s ≡ true)
            (λ n from to is. subst⁻¹ (λ (n : ℕ). corner_only (step_of w h n) ≡ true) is there.touches) (bend_number w h - i)
            (omega (arith, stretch_length, lies.1, lies.2)) (add-sub_of_le lies.1))
            (λ n o other. of_stretch (λ n s. (n ≡ bend_number w h → ⊥) → corner_only s ≡ false)
            (λ n from to other. never _ (λ c. other (there.only n (omega arith) c))) n o (λ is. other (omega arith)))

    pub stretch_sides : count shares_side (stretch w h i j) ≡ j - i - one (bend_between w h i j)
    stretch_sides =
        let both = count_two shares_side corner_only bend_step (stretch w h i j)
        (of_stretch (λ n s. one (shares_side s) + one (corner_only s) ≡ 1) (λ n from to. kinds (step_of w h n) (side_or_corner w h lw lh n (omega arith)))) in
        omega (arith, stretch_length, stretch_corners)

  -- So the length along the curve is known: of the w·h - 1 steps one is across a corner where the area bends, and none elsewhere.
  whole_stretch : stretch w h 0 (w * h - 1) ≡ walk w h
  unfolding stretch
  whole_stretch = ap (λ n. take n (walk w h)) (sub-zero (w * h - 1) ∙ sym walk_length) ∙ take-length (walk w h)

  whole_between : bend_between w h 0 (w * h - 1) ≡ bends w h
  unfolding bend_between
  whole_between = by (bends w h) refl
    where
      by : (t : Bool) → bends w h ≡ t → bend_between w h 0 (w * h - 1) ≡ t
      by false e = rw e
      by true e = let there = one_corner_step w h lw lh e in (between 0 (w * h - 1)).1 (e, omega arith, omega (arith, there.is_step))

  pub walk_corners : count corner_only (walk w h) ≡ one (bends w h)
  walk_corners =
      ap (count corner_only) (sym whole_stretch)
      ∙ stretch_corners 0 (w * h - 1) (omega arith) (omega (arith, mul-pos lw lh))
      ∙ ap one whole_between

  pub walk_sides : count shares_side (walk w h) ≡ w * h - 1 - one (bends w h)
  walk_sides =
      ap (count shares_side) (sym whole_stretch)
      ∙ stretch_sides 0 (w * h - 1) (omega arith) (omega (arith, mul-pos lw lh))
      ∙ ap₂ (λ n t. n - one t) (sub-zero (w * h - 1)) whole_between

-- Two successive answers of `number_to_square`: the step between them is one of the five, and their squares share a side or are those of the corner step.
pub record Across (area : Area) (x y x' y' : ℤ) : Type 0 where
  pub bent : bends area.w area.h ≡ true
  pub from : (area.ox +ℤ pos (bend_from area.w area.h).x ≡ x) × (area.oy +ℤ pos (bend_from area.w area.h).y ≡ y)
  pub to : (area.ox +ℤ pos (bend_to area.w area.h).x ≡ x') × (area.oy +ℤ pos (bend_to area.w area.h).y ≡ y')

-- the difference of two natural numbers, and of two places that are moved alike
pos_minus : (a b : ℕ) → pos a -ℤ pos b ≡ sub_ℕ a b
pos_minus a zero = rw (le-ltb a 0 (zero-le), add-zero, sub-zero)
pos_minus a (suc b) = refl

both_added : (o : ℤ) (a b : ℕ) → o +ℤ pos b -ℤ (o +ℤ pos a) ≡ sub_ℕ b a
both_added o a b =
    ap (λ (z : ℤ). o +ℤ pos b +ℤ z) (neg_ℤ-+ℤ o (pos a))
    ∙ sym (+ℤ_assoc (o +ℤ pos b) (neg_ℤ o) (neg_ℤ (pos a)))
    ∙ ap (λ (z : ℤ). z +ℤ neg_ℤ (pos a)) (added_off o (pos b))
    ∙ pos_minus b a

module _ (area : Area) (i : ℕ) (x y x' y' : ℤ) (k k' : ℕ) (e : number_to_square_at area i ≡ found x y k)
    (f : number_to_square_at area (i + 1) ≡ found x' y' k') where
  here : NumberAnswered area i x y k
  here = number_asked area i x y k e

  next : NumberAnswered area (i + 1) x' y' k'
  next = number_asked area (i + 1) x' y' k' f

  sides : Limits area.w area.h
  sides = limits area.w area.h (grid_passed area here.on).0

  abbrev pub apart : Step
  apart = record { dx = x' -ℤ x; dy = y' -ℤ y }

  -- "as signed differences in x and y": they differ by the step of the walk, whatever the origin
  pub answers_step_at : apart ≡ step_of area.w area.h i
  unfolding step_of step_between
  answers_step_at =
      let p = square_of (all area) i in
      let q = square_of (all area) (i + 1) in
      ap₂ (λ (a b : ℤ). record { dx = a; dy = b })
      (sym (ap₂ ◌-ℤ◌ next.x_is here.x_is) ∙ both_added area.ox p.x q.x)
      (sym (ap₂ ◌-ℤ◌ next.y_is here.y_is) ∙ both_added area.oy p.y q.y)

  pub answers_step : StepIs area.w area.h i apart
  answers_step =
      subst⁻¹ (StepIs area.w area.h i) answers_step_at (step_is area.w area.h sides.w_least sides.h_least i next.numbered)

  pub answers_one_corner : corner_only apart ≡ true → (bends area.w area.h ≡ true) × (i ≡ bend_number area.w area.h)
  answers_one_corner c =
      corner_at area.w area.h sides.w_least sides.h_least i next.numbered (sym (ap corner_only answers_step_at) ∙ c)

  pub answers_apart : (shares_side apart ≡ true) ⊎ Across area x y x' y'
  answers_apart =
      ⊎_elim (λ s. inl (ap shares_side answers_step_at ∙ s))
      (λ c. inr (by (corner_at area.w area.h sides.w_least sides.h_least i next.numbered c)))
      (side_or_corner area.w area.h sides.w_least sides.h_least i next.numbered)
    where
      by : (bends area.w area.h ≡ true) × (i ≡ bend_number area.w area.h) → Across area x y x' y'
      by (bent, is) =
          let there = one_corner_step area.w area.h sides.w_least sides.h_least bent in
          let from : bend_from area.w area.h ≡ square_of (all area) i = sym (ap (square_of (all area)) is ∙ there.from) in
          let to : bend_to area.w area.h ≡ square_of (all area) (i + 1) = sym (ap (λ n. square_of (all area) (n + 1)) is ∙ there.to) in
          record {
            bent = bent;
            from = (ap (λ (s : Square). area.ox +ℤ pos s.x) from ∙ here.x_is, ap (λ (s : Square). area.oy +ℤ pos s.y) from ∙ here.y_is);
            to = (ap (λ (s : Square). area.ox +ℤ pos s.x) to ∙ next.x_is, ap (λ (s : Square). area.oy +ℤ pos s.y) to ∙ next.y_is);
          }

-- And where an area bends, two successive answers are those.
pub corner_answered : (area : Area) → grid_accepted area ≡ true → bends area.w area.h ≡ true
    → (k : ℕ) × (k' : ℕ)
    × (number_to_square_at area (bend_number area.w area.h) ≡ found (area.ox +ℤ pos (area.w - 2)) (area.oy +ℤ pos (area.h - 2)) k)
    × (number_to_square_at area (bend_number area.w area.h + 1) ≡ found (area.ox +ℤ pos (area.w - 1)) (area.oy +ℤ pos (area.h - 3)) k')
corner_answered area ok bent =
    let w = area.w in
    let h = area.h in
    let least = limits w h (grid_passed area ok).0 in
    let there = one_corner_step w h least.w_least least.h_least bent in
    let answer : Square → SignedFigures = λ s. found (area.ox +ℤ pos s.x) (area.oy +ℤ pos s.y) (blocks_holding (all area) s) in (
      blocks_holding (all area) (bend_from w h),
      blocks_holding (all area) (bend_to w h),
      number_answered_at area ok (bend_number w h) (omega (arith, there.is_step)) ∙ ap answer there.from,
      number_answered_at area ok (bend_number w h + 1) there.is_step ∙ ap answer there.to,
    )

-- A wrong division that the law turns away: made even by the half and not by the length, as the algorithm is printed, 3 by 3 gets a corner step.
-- The list was worked by hand from the printed rule: no definition here computes it.
pub printed : List Square
printed = square 0 0 ∷ square 0 1 ∷ square 0 2 ∷ square 1 2 ∷ square 2 2 ∷ square 2 1 ∷ square 1 1 ∷ square 2 0 ∷ square 1 0 ∷ []

pub printed_half : curve (whole 3 3) ≡ printed → ⊥
unfolding walk printed count steps_through step_between corner_only bends
printed_half e =
    let corners : ◌≡◌ {A = ℕ} 1 0 =
    subst (λ (zs : List Square). count corner_only (steps_through zs) ≡ one (bends 3 3)) e (walk_corners 3 3 (lit≤ tt) (lit≤ tt)) in
    omega arith
