-- From what a descent or a search asks and finds to a call's figures: the guards that the call passed say that the walk may begin, and what is found is moved
-- by the area's origin.
use mathlib.Core.Bool.{Bool, true, false, ◌&&◌, and-eq-true_iff}
use mathlib.Core.List.{List, [], ◌∷◌}
use mathlib.Core.Path.{◌≡◌, refl, sym, ap, ap₂, subst, subst⁻¹, ◌∙◌}
use Prim.Native.Nat.{ℕ, ◌-◌, ◌*◌, ◌≤◌, ◌<◌}
use native.Mathlib.Nat.{mul-le-mul}
use native.Mathlib.Omega.{arith}
use borrow.Author.Tests.{le-leb, lt-ltb, ltb-true}
use lib.Dec.{leb, ltb, lit<}
use lib.IntN.{ℤ, pos, negsuc, ◌+ℤ◌, ◌-ℤ◌}
use mir.Syntax.{w32}
use mir.Val.{SFits}
use Rattle.std.specs.Prelude.{Err, Some}
use Rattle.terms.specs.declared.Area.{Area}
use Rattle.terms.specs.declared.Refusal.{Refusal}
use Rattle.terms.specs.declared.Refusal.TheVariants.{NumberOutside, SquareOutside, TooDeep}
use Rattle.terms.specs.Terms.{longest_side, most_blocks, accepted, offset_accepted, grid_accepted, natural, distance_of, below, Limits}
use Rattle.terms.specs.Terms.{SignedFigures, answered, refused, in_signs, signed}
use Rattle.terms.specs.Guards.{◌else◌, granted, admitted, first, grid_guards}
use Rattle.terms.proofs.Limits.{limits, squares_limit, all_accepted, grid_passed, on_grid}
use Rattle.terms.proofs.Refusals.{refusal_not_0}
use Rattle.terms.proofs.Guards.{◌and◌, passed, next_granted, quiet, refused_first, answered_so}
use Rattle.terms.proofs.Places.{below_by}
use Rattle.terms.proofs.Signs.{held, kept, place_fits}
use Rattle.division.specs.Division.{Square, square, whole, square_of, number_of, blocks_holding}
use Rattle.division.specs.Division.Inside.{x_y, Inside}
use Rattle.division.proofs.Blocks.{whole_inside, at_most_54}
use Rattle.division.proofs.Coordinates.{whole_within}
use Rattle.division.proofs.EachSquareOnce.{square_held}
use Rattle.descents.specs.declared.Held.{Held}
use Rattle.descents.specs.Descents as Descents
use Rattle.searches.specs.declared.Numbered.{Numbered}
use Rattle.searches.specs.Searches.{numbered, spot_at, Lying}
use Rattle.curve.specs.Lookups.{all, from_origin, old_square, inside, number_guards, square_guards, finish_guards}
use Rattle.curve.specs.Lookups.{number_to_square_at, square_to_number_at, finish_square_at}
use Rattle.curve.specs.Placing.{Places}

-- what a walk asks, in an accepted area
module _ (w h : ℕ) (yes : accepted w h ≡ true) where
  lengths : Limits w h
  lengths = limits w h yes

  within_lengths : Inside w h (whole w h)
  within_lengths = whole_inside w h lengths.w_least lengths.h_least

  few : (p : Square) → blocks_holding (whole w h) p ≤ 54
  few = at_most_54 w h lengths.w_least lengths.w_most lengths.h_least lengths.h_most

  pub few_hold : (p : Square) → leb (blocks_holding (whole w h) p) most_blocks ≡ true
  few_hold p = let most = few p in le-leb (blocks_holding (whole w h) p) most_blocks (omega arith)

  pub descends : (number : ℕ) → number < w * h → Descents.HasNumber (whole w h) number
  unfolding whole
  descends number l =
      let limit = lengths in
      record { inside = record { sized = within_lengths.sized; paired = x_y; run = omega arith; side = omega arith }; below = l }

  pub searches : (x y : ℕ) → x < w → y < h → Lying (spot_at w h x y) 0
  searches x y l m =
      let limit = squares_limit w h yes in
      record { a_limit = lengths.w_most; b_limit = lengths.h_most; along = l; across = m; room = omega arith }

  -- the square of a number lies within the lengths
  pub within : (n : ℕ) → n < w * h → ((square_of (whole w h) n).x < w) × ((square_of (whole w h) n).y < h)
  unfolding whole
  within n l =
      let lies = whole_within w h (square_of (whole w h) n) (square_held w h (whole w h) within_lengths n l) in
      (lies.run, lies.side)

-- a refusal is not moved by the origin
pub refusal_stays : (ox oy : ℤ) (r : Refusal) (n : ℕ) → from_origin ox oy (refused r n) ≡ signed (refused r n)
unfolding from_origin
refusal_stays ox oy r n = rw (refusal_not_0 r)

module _ (area : Area) (ok : grid_accepted area ≡ true) where
  pub places : {x y : ℕ} → x < area.w → y < area.h → Places area x y
  places l m =
      let near = grid_passed area ok in
      let most = limits area.w area.h near.0 in
      record { ox_near = near.1.0; oy_near = near.1.1; x_limit = omega arith; y_limit = omega arith }

-- number to square: what each guard says, and the figures of what the descent found
module _ (area : Area) (number : ℕ) where
  values : List ℕ
  values =
      let s = square_of (all area) number in
      s.x ∷ s.y ∷ blocks_holding (all area) s ∷ []

  refused_at : (k : ℕ) → quiet (first k (number_guards area number)) ≡ true → (r : Refusal) → admitted (first k (number_guards area number)) ≡ Err r
      → signed (refused r 3) ≡ number_to_square_at area number
  unfolding number_to_square_at values
  refused_at k q r e =
      sym (refusal_stays area.ox area.oy r 3)
      ∙ ap (from_origin area.ox area.oy) (refused_first k (number_guards area number) 3 values q r e)

  pub number_off_grid : (r : Refusal) → admitted (grid_guards area) ≡ Err r → signed (refused r 3) ≡ number_to_square_at area number
  number_off_grid r e = refused_at 3 refl r e

  module _ (e : admitted (first 4 (number_guards area number)) ≡ granted) where
    pub number_on : (grid_accepted area ≡ true) × (number < area.w * area.h)
    number_on =
        let tests = passed (first 4 (number_guards area number)) e in
        (all_accepted area tests.0 tests.1.0 tests.1.1.0, ltb-true number (area.w * area.h) tests.1.1.1)

  module _ (on : admitted (grid_guards area) ≡ granted) where
    is_on : grid_accepted area ≡ true
    is_on = on_grid area on

    pub number_past : (r : Refusal) → admitted (ltb number (area.w * area.h) else NumberOutside ∷ []) ≡ Err r
        → signed (refused r 3) ≡ number_to_square_at area number
    number_past r e = refused_at 4 refl r (sym (next_granted (number_guards area number) 3 (lit< tt) on refl (λ p. refl)) ∙ e)

    module _ (in_it : admitted (ltb number (area.w * area.h) else NumberOutside ∷ []) ≡ granted) where
      below_all : number < area.w * area.h
      below_all = ltb-true number (area.w * area.h) (passed (ltb number (area.w * area.h) else NumberOutside ∷ []) in_it)

      pub number_descends : Descents.HasNumber (whole area.w area.h) number
      number_descends = descends area.w area.h (grid_passed area is_on).0 number below_all

      -- what the descent found
      module _ (r : Held) (is : r ≡ Descents.held (square_of (all area) number) (blocks_holding (all area) (square_of (all area) number))) where
        four : admitted (first 4 (number_guards area number)) ≡ granted
        four = sym (next_granted (number_guards area number) 3 (lit< tt) on refl (λ p. refl)) ∙ in_it

        pub number_deep : (s : Refusal) → admitted (leb r.blocks most_blocks else TooDeep ∷ []) ≡ Err s → signed (refused s 3) ≡ number_to_square_at area number
        number_deep s e =
            refused_at 5 refl s
            (sym (next_granted (number_guards area number) 4 (lit< tt) four refl (λ p. ap (λ (h : Held). leb h.blocks most_blocks) is)) ∙ e)

        pub number_places : Places area r.x r.y
        number_places =
            let there = within area.w area.h (grid_passed area is_on).0 number below_all in
            subst⁻¹ (λ (h : Held). Places area h.x h.y) is (places area is_on there.0 there.1)

        pub number_found : ◌≡◌ {A = SignedFigures} (record { refusal = 0; values = (area.ox +ℤ pos r.x) ∷ (area.oy +ℤ pos r.y) ∷ pos r.blocks ∷ [] })
            (number_to_square_at area number)
        unfolding number_to_square_at values from_origin in_signs
        number_found =
            ap (λ (h : Held). record { refusal = 0; values = (area.ox +ℤ pos h.x) ∷ (area.oy +ℤ pos h.y) ∷ pos h.blocks ∷ [] }) is
            ∙ ap (from_origin area.ox area.oy)
            (sym (answered_so (number_guards area number) 3 values
            (let tests = passed (first 4 (number_guards area number)) four in
            tests.0 and tests.1.0 and tests.1.1.0 and tests.1.1.1 and few_hold area.w area.h (grid_passed area is_on).0 (square_of (all area) number))))

pub ruleset number_told = (number_off_grid, number_past, number_descends, number_deep, number_places, number_found)

-- square to number: a square by its distances from the origin
module _ (area : Area) (x y : ℤ) {u v : ℕ} (u_is : u ≡ distance_of (x -ℤ area.ox)) (v_is : v ≡ distance_of (y -ℤ area.oy)) where
  -- the test on the distances is the definition's, in an area within the limits
  pub inside_told : accepted area.w area.h ≡ true → ltb u area.w && ltb v area.h ≡ inside area x y
  inside_told ok =
      let most = limits area.w area.h ok in
      ap₂ (λ u v. ltb u area.w && ltb v area.h) u_is v_is
      ∙ ap₂ ◌&&◌ (below_by (x -ℤ area.ox) area.w most.w_most) (below_by (y -ℤ area.oy) area.h most.h_most)

  module _ (e : admitted (first 4 (square_guards area x y)) ≡ granted) where
    pub square_on : (grid_accepted area ≡ true) × (u < area.w) × (v < area.h)
    square_on =
        let tests = passed (first 4 (square_guards area x y)) e in
        let on = all_accepted area tests.0 tests.1.0 tests.1.1.0 in
        let both = (and-eq-true_iff (ltb u area.w) (ltb v area.h)).0 (inside_told (grid_passed area on).0 ∙ tests.1.1.1) in
        (on, ltb-true u area.w both.0, ltb-true v area.h both.1)

-- and what each guard says, and the figures of what the search found
module _ (area : Area) (x y : ℤ) where
  numbers : List ℕ
  numbers = number_of (all area) (old_square area x y) ∷ blocks_holding (all area) (old_square area x y) ∷ []

  pub square_off_grid : (r : Refusal) → admitted (grid_guards area) ≡ Err r → refused r 2 ≡ square_to_number_at area x y
  unfolding square_to_number_at numbers
  square_off_grid r e = refused_first 3 (square_guards area x y) 2 numbers refl r e

  module _ (on : admitted (grid_guards area) ≡ granted) where
    is_at : grid_accepted area ≡ true
    is_at = on_grid area on

    outside_or : (t : Bool) → inside area x y ≡ t → admitted (first 4 (square_guards area x y)) ≡ admitted (t else SquareOutside ∷ [])
    outside_or t is = sym (next_granted (square_guards area x y) 3 {told = t} (lit< tt) on refl (λ p. sym is))

    pub square_out : (r : Refusal) → inside area x y ≡ false → r ≡ SquareOutside → refused r 2 ≡ square_to_number_at area x y
    unfolding square_to_number_at numbers
    square_out r out is =
        refused_first 4 (square_guards area x y) 2 numbers refl r (outside_or false out ∙ ap Err (sym is))

    -- a square that lies in the area, by its distances from the origin
    module _ (u v : ℕ) (in_it : inside area x y ≡ true) (old_is : square u v ≡ old_square area x y) where
      four_passed : admitted (first 4 (square_guards area x y)) ≡ granted
      four_passed = outside_or true in_it

      lies_in : (u < area.w) × (v < area.h)
      lies_in =
          let most = limits area.w area.h (grid_passed area is_at).0 in
          let both = (and-eq-true_iff (below (x -ℤ area.ox) area.w) (below (y -ℤ area.oy) area.h)).0 in_it in (
            ltb-true u area.w (ap (λ (s : Square). ltb s.x area.w) old_is ∙ below_by (x -ℤ area.ox) area.w most.w_most ∙ both.0),
            ltb-true v area.h (ap (λ (s : Square). ltb s.y area.h) old_is ∙ below_by (y -ℤ area.oy) area.h most.h_most ∙ both.1),
          )

      pub square_searches : Lying (spot_at area.w area.h u v) 0
      square_searches = searches area.w area.h (grid_passed area is_at).0 u v lies_in.0 lies_in.1

      -- what the search found
      module _ (r : Numbered) (is : r ≡ numbered (number_of (all area) (square u v)) (blocks_holding (all area) (square u v))) where
        old_found : r ≡ numbered (number_of (all area) (old_square area x y)) (blocks_holding (all area) (old_square area x y))
        old_found = is ∙ ap (λ (s : Square). numbered (number_of (all area) s) (blocks_holding (all area) s)) old_is

        pub square_deep : (s : Refusal) → admitted (leb r.blocks most_blocks else TooDeep ∷ []) ≡ Err s → refused s 2 ≡ square_to_number_at area x y
        unfolding square_to_number_at numbers
        square_deep s e =
            refused_first 5 (square_guards area x y) 2 numbers refl s
            (sym (next_granted (square_guards area x y) 4 (lit< tt) four_passed refl (λ p. ap (λ (h : Numbered). leb h.blocks most_blocks) old_found)) ∙ e)

        pub square_found : answered (r.number ∷ r.blocks ∷ []) ≡ square_to_number_at area x y
        unfolding square_to_number_at numbers
        square_found =
            ap (λ (h : Numbered). answered (h.number ∷ h.blocks ∷ [])) old_found
            ∙ sym (answered_so (square_guards area x y) 2 numbers
            (let tests = passed (first 4 (square_guards area x y)) four_passed in
            tests.0 and tests.1.0 and tests.1.1.0 and tests.1.1.1 and few_hold area.w area.h (grid_passed area is_at).0 (old_square area x y)))

-- a square is in the area if its distances are below the lengths
told_as : (z : ℤ) (d : ℕ) → natural z ≡ Some d → z ≡ pos d
told_as (pos n) d e = cc
told_as (negsuc n) d e = absurd (let z : ◌≡◌ {A = ℕ} 0 1 = cc in omega arith)

pub lies_at : (area : Area) (x y : ℤ) (u v : ℕ) → natural (x -ℤ area.ox) ≡ Some u → natural (y -ℤ area.oy) ≡ Some v → u < area.w → v < area.h
    → (inside area x y ≡ true) × (square u v ≡ old_square area x y)
lies_at area x y u v east north l m =
    let dx = told_as (x -ℤ area.ox) u east in
    let dy = told_as (y -ℤ area.oy) v north in (
      ap₂ (λ dx dy. below dx area.w && below dy area.h) dx dy ∙ rw (lt-ltb u area.w l, lt-ltb v area.h m) refl,
      ap₂ (λ dx dy. square (distance_of dx) (distance_of dy)) (sym dx) (sym dy),
    )

pub ruleset square_told = (square_off_grid, square_out, square_searches, square_deep, square_found)

-- the finish square
module _ (area : Area) where
  last_values : List ℕ
  last_values = (square_of (all area) (area.w * area.h - 1)).x ∷ (square_of (all area) (area.w * area.h - 1)).y ∷ []

  pub finish_refused_so : (r : Refusal) → admitted (finish_guards area) ≡ Err r → signed (refused r 2) ≡ finish_square_at area
  unfolding finish_square_at last_values
  finish_refused_so r e =
      sym (refusal_stays area.ox area.oy r 2)
      ∙ ap (from_origin area.ox area.oy) (refused_first 3 (finish_guards area) 2 last_values refl r e)

  pub finish_off_grid : (r : Refusal) → admitted (grid_guards area) ≡ Err r → signed (refused r 2) ≡ finish_square_at area
  finish_off_grid = finish_refused_so

  -- the last square lies in the area
  pub last_places : admitted (grid_guards area) ≡ granted → {x y : ℕ} → square x y ≡ square_of (whole area.w area.h) (area.w * area.h - 1) → Places area x y
  last_places on told =
      let is = on_grid area on in
      let ok = (grid_passed area is).0 in
      let least = limits area.w area.h ok in
      let some : 1 * 1 ≤ area.w * area.h = mul-le-mul least.w_least least.h_least in
      let there = within area.w area.h ok (area.w * area.h - 1) (omega arith) in
      subst⁻¹ (λ (s : Square). Places area s.x s.y) told (places area is there.0 there.1)

-- what is said of two coordinates as locals hold them
module _ {x y : ℤ} (x_fits : SFits w32 x) (y_fits : SFits w32 y) where
  pub as_asked : (P : ℤ → ℤ → Type 0) → P (held x) (held y) → P x y
  as_asked P p = subst (λ x. P x y) (kept x_fits) (subst (λ y. P (held x) y) (kept y_fits) p)

-- a coordinate moved by the origin, from what the locals hold
pub shifted_kept : {o r : ℤ} {d : ℕ} → held o ≡ o → offset_accepted o ≡ true → d ≤ longest_side → r ≡ held o +ℤ pos d → held r ≡ o +ℤ pos d
shifted_kept {o} {r} {d} is ok l e =
    let sum : r ≡ o +ℤ pos d = e ∙ ap (λ (o : ℤ). o +ℤ pos d) is in
    kept (subst⁻¹ (SFits w32) sum (place_fits o d ok l)) ∙ sum
