-- Demands 2 and 3 of the lookups' answers, "with the origin subtracted": every number of an area has its square and every square its number, each lookup undoes
-- the other with the same count, and the count is the division's own. So the finish square is the last number's.
use mathlib.Core.Bool.{Bool, true, false, ◌&&◌, cond, and-eq-true_iff}
use mathlib.Core.List.{[], ◌∷◌}
use mathlib.Core.Path.{◌≡◌, refl, sym, ap, ap₂, subst, subst⁻¹, ◌∙◌}
use Prim.Native.Nat.{ℕ, ◌-◌, ◌*◌, ◌^◌, ◌≤◌, ◌<◌}
use native.Mathlib.Nat.{mul-le-mul}
use native.Mathlib.Omega.{arith}
use borrow.Author.Tests.{lt-ltb, ltb-true, eqb-true}
use lib.Dec.{ltb, eqb}
use lib.IntN.{ℤ, pos, ◌+ℤ◌, ◌-ℤ◌}
use lib.Signed.{mag}
use Rattle.terms.specs.declared.Area.{Area}
use Rattle.terms.specs.Terms.{grid_accepted, distance_of, below, Limits}
use Rattle.terms.specs.Terms.{Figures, SignedFigures, answered, in_signs, signed}
use Rattle.terms.specs.Guards.{guarded}
use Rattle.terms.proofs.Limits.{limits, all_accepted, grid_guards_passed, grid_passed}
use Rattle.terms.proofs.Guards.{◌and◌, Passed, answered_exactly, answered_so}
use Rattle.terms.proofs.Refusals.{figure, signed_figure}
use Rattle.terms.proofs.Signs.{added_off}
use Rattle.terms.proofs.Places.{below_by, placed}
use Rattle.division.specs.Division.{Square, square, whole, square_of, number_of, blocks_holding}
use Rattle.division.specs.Division.Inside.{Inside}
use Rattle.division.proofs.EachSquareOnce.{number_below, square_of_number, number_of_square}
use Rattle.division.proofs.Blocks.{whole_inside, demand_3, at_most_41}
use Rattle.division.proofs.Coordinates.{whole_holds}
use Rattle.curve.specs.Lookups.{all, moved_by_origin, from_origin, old_square, inside, number_guards, square_guards}
use Rattle.curve.specs.Lookups.{number_to_square_at, square_to_number_at, finish_square_at}
use Rattle.curve.proofs.Answers.{few_hold, within}
use Rattle.curve.proofs.Finish.{finish_found_at, finish_answered_at}

-- The figures of a found square.
abbrev pub found : (x y : ℤ) (blocks : ℕ) → SignedFigures
found x y blocks = record { refusal = 0; values = x ∷ y ∷ pos blocks ∷ [] }

-- moved by the origin or not, a call has the same refusal
pub moved_refusal : (ox oy : ℤ) (f : Figures) → (from_origin ox oy f).refusal ≡ f.refusal
unfolding from_origin
moved_refusal ox oy f = by (eqb f.refusal 0) refl
  where
    by : (t : Bool) → eqb f.refusal 0 ≡ t → (cond t (record { refusal = 0; values = moved_by_origin ox oy f.values }) (signed f)).refusal ≡ f.refusal
    by true e = sym (eqb-true f.refusal 0 e)
    by false e = refl

-- An old square from its differences, and whether it lies in the area.
module _ (area : Area) (x y : ℤ) {u v : ℕ} (p : x -ℤ area.ox ≡ pos u) (q : y -ℤ area.oy ≡ pos v) where
  pub old_is : old_square area x y ≡ square u v
  old_is = ap₂ (λ dx dy. square (distance_of dx) (distance_of dy)) p q

  pub inside_is : inside area x y ≡ ltb u area.w && ltb v area.h
  inside_is = ap₂ (λ dx dy. below dx area.w && below dy area.h) p q

-- Every number of an area on the grid has its square, and every square its number: no lookup ever meets refusal 9.
module _ (area : Area) (ok : grid_accepted area ≡ true) where
  pub number_answered_at : (n : ℕ) → n < area.w * area.h →
      let s = square_of (all area) n in
      number_to_square_at area n ≡ found (area.ox +ℤ pos s.x) (area.oy +ℤ pos s.y) (blocks_holding (all area) s)
  unfolding number_to_square_at from_origin in_signs
  number_answered_at n l =
      let s = square_of (all area) n in
      let tests = grid_guards_passed area ok in
      let few = few_hold area.w area.h (grid_passed area ok).0 s in
      ap (from_origin area.ox area.oy)
      (answered_so (number_guards area n) 3 (s.x ∷ s.y ∷ blocks_holding (all area) s ∷ [])
      (tests.0 and tests.1 and tests.2 and lt-ltb n (area.w * area.h) l and few))

  pub square_answered_at : (x y : ℕ) → x < area.w → y < area.h
      → square_to_number_at area (area.ox +ℤ pos x) (area.oy +ℤ pos y)
      ≡ answered (number_of (all area) (square x y) ∷ blocks_holding (all area) (square x y) ∷ [])
  unfolding square_to_number_at
  square_answered_at x y l m =
      let tests = grid_guards_passed area ok in
      let east = area.ox +ℤ pos x in
      let north = area.oy +ℤ pos y in
      let p = added_off area.ox (pos x) in
      let q = added_off area.oy (pos y) in
      let there = old_square area east north in
      let lies : inside area east north ≡ true = inside_is area east north p q ∙ rw (lt-ltb x area.w l, lt-ltb y area.h m) refl in
      answered_so (square_guards area east north) 2 (number_of (all area) there ∷ blocks_holding (all area) there ∷ [])
      (tests.0 and tests.1 and tests.2 and lies and few_hold area.w area.h (grid_passed area ok).0 there)
      ∙ ap (λ (s : Square). answered (number_of (all area) s ∷ blocks_holding (all area) s ∷ [])) (old_is area east north p q)

-- An answered lookup of a number is one of an area on the grid, and what it found is the number's square, moved.
pub record NumberAnswered (area : Area) (n : ℕ) (x y : ℤ) (k : ℕ) : Type 0 where
  pub on : grid_accepted area ≡ true
  pub numbered : n < area.w * area.h
  pub x_is : area.ox +ℤ pos (square_of (all area) n).x ≡ x
  pub y_is : area.oy +ℤ pos (square_of (all area) n).y ≡ y
  pub count : k ≡ blocks_holding (all area) (square_of (all area) n)

module _ (area : Area) (n : ℕ) (x y : ℤ) (k : ℕ) (e : number_to_square_at area n ≡ found x y k) where
  number_tests : Passed (number_guards area n)
  unfolding number_to_square_at
  number_tests =
      let s = square_of (all area) n in
      let values = s.x ∷ s.y ∷ blocks_holding (all area) s ∷ [] in
      (answered_exactly (number_guards area n) 3 values).0
      (sym (moved_refusal area.ox area.oy (guarded (number_guards area n) 3 values)) ∙ ap (λ f. f.refusal) e)

  pub number_asked : NumberAnswered area n x y k
  number_asked =
      let tests = number_tests in
      let on = all_accepted area tests.0 tests.1.0 tests.1.1.0 in
      let l = ltb-true n (area.w * area.h) tests.1.1.1.0 in
      let is = sym (number_answered_at area on n l) ∙ e in
      record {
        on = on;
        numbered = l;
        x_is = ap (signed_figure 0) is;
        y_is = ap (signed_figure 1) is;
        count = sym (ap (λ f. mag (signed_figure 2 f)) is);
      }

  limits_there : Limits area.w area.h
  limits_there = limits area.w area.h (grid_passed area number_asked.on).0

  inside_there : Inside area.w area.h (all area)
  inside_there = whole_inside area.w area.h limits_there.w_least limits_there.h_least

  -- "Demand 2 reads with the origin subtracted": the square found has the number asked, with the same count.
  pub number_back_at : square_to_number_at area x y ≡ answered (n ∷ k ∷ [])
  unfolding whole
  number_back_at =
      let was = number_asked in
      let s = square_of (all area) n in
      let lies = within area.w area.h (grid_passed area was.on).0 n was.numbered in
      ap₂ (square_to_number_at area) (sym was.x_is) (sym was.y_is)
      ∙ square_answered_at area was.on s.x s.y lies.0 lies.1
      ∙ ap₂ (λ a b. answered (a ∷ b ∷ [])) (number_of_square area.w area.h (all area) inside_there n was.numbered) (sym was.count)

  -- the count is the division's own, and meets demand 3
  pub count_is_at : k ≡ blocks_holding (all area) (square_of (all area) n)
  count_is_at = number_asked.count

  pub count_bound_at : 1 < k → 3 ^ k ≤ 2 ^ k * (area.w * area.h)
  count_bound_at l =
      let is = count_is_at in
      subst⁻¹ (λ (m : ℕ). 3 ^ m ≤ 2 ^ m * (area.w * area.h)) is
      (demand_3 area.w area.h limits_there.w_least limits_there.h_least (square_of (all area) n) (subst (λ (m : ℕ). 1 < m) is l))

  -- Order 7: "a lookup reports at most 41 blocks".
  pub at_most_41_blocks : k ≤ 41
  at_most_41_blocks =
      let most = limits_there in
      subst⁻¹ (λ (m : ℕ). m ≤ 41) count_is_at
      (at_most_41 area.w area.h most.w_least most.h_least most.squares_most (square_of (all area) n))

  -- "The plotter keeps a square number in 24 bits": every number that a call takes or answers has no more.
  pub number_in_24_bits : n < 16777216
  number_in_24_bits = let most = limits_there.squares_most in omega (arith, number_asked.numbered)

-- An answered lookup of a square is one of an area on the grid, and the square asked is an old one, moved.
pub record SquareAnswered (area : Area) (x y : ℤ) (n k : ℕ) : Type 0 where
  pub on : grid_accepted area ≡ true
  pub along : (old_square area x y).x < area.w
  pub across : (old_square area x y).y < area.h
  pub x_is : area.ox +ℤ pos (old_square area x y).x ≡ x
  pub y_is : area.oy +ℤ pos (old_square area x y).y ≡ y
  pub number : n ≡ number_of (all area) (old_square area x y)
  pub count : k ≡ blocks_holding (all area) (old_square area x y)

module _ (area : Area) (x y : ℤ) (n k : ℕ) (e : square_to_number_at area x y ≡ answered (n ∷ k ∷ [])) where
  square_tests : Passed (square_guards area x y)
  unfolding square_to_number_at
  square_tests =
      let s = old_square area x y in
      (answered_exactly (square_guards area x y) 2 (number_of (all area) s ∷ blocks_holding (all area) s ∷ [])).0 (ap (λ f. f.refusal) e)

  pub square_asked : SquareAnswered area x y n k
  unfolding square_to_number_at
  square_asked =
      let s = old_square area x y in
      let tests = square_tests in
      let on = all_accepted area tests.0 tests.1.0 tests.1.1.0 in
      let most = limits area.w area.h (grid_passed area on).0 in
      let both = (and-eq-true_iff (below (x -ℤ area.ox) area.w) (below (y -ℤ area.oy) area.h)).0 tests.1.1.1.0 in
      let is = sym e ∙ answered_so (square_guards area x y) 2 (number_of (all area) s ∷ blocks_holding (all area) s ∷ []) tests in
      record {
        on = on;
        along = ltb-true s.x area.w (below_by (x -ℤ area.ox) area.w most.w_most ∙ both.0);
        across = ltb-true s.y area.h (below_by (y -ℤ area.oy) area.h most.h_most ∙ both.1);
        x_is = placed x area.ox area.w both.0;
        y_is = placed y area.oy area.h both.1;
        number = ap (figure 0) is;
        count = ap (figure 1) is;
      }

  -- The number found has the square asked, with the same count.
  pub square_back_at : number_to_square_at area n ≡ found x y k
  unfolding whole
  square_back_at =
      let was = square_asked in
      let s = old_square area x y in
      let most = limits area.w area.h (grid_passed area was.on).0 in
      let lies = whole_inside area.w area.h most.w_least most.h_least in
      let held = whole_holds area.w area.h s (record { run = was.along; side = was.across }) in
      let below = number_below area.w area.h (all area) lies s held in
      ap (number_to_square_at area) was.number
      ∙ number_answered_at area was.on (number_of (all area) s) below
      ∙ ap (λ (s : Square). found (area.ox +ℤ pos s.x) (area.oy +ℤ pos s.y) (blocks_holding (all area) s))
      (square_of_number area.w area.h (all area) lies s held)
      ∙ ap₂ (λ (x y : ℤ). found x y (blocks_holding (all area) s)) was.x_is was.y_is
      ∙ ap (found x y) (sym was.count)

  pub square_count_bound_at : 1 < k → 3 ^ k ≤ 2 ^ k * (area.w * area.h)
  square_count_bound_at l = count_bound_at area n x y k square_back_at l

  pub square_at_most_41_blocks : k ≤ 41
  square_at_most_41_blocks = at_most_41_blocks area n x y k square_back_at

  pub answered_number_in_24_bits : n < 16777216
  answered_number_in_24_bits = number_in_24_bits area n x y k square_back_at

-- "The finish square becomes the square of number w·h - 1", of the calls: the lookup of that number is answered in every area on the grid, and with that
-- square.
pub record LastAt (area : Area) : Type 0 where
  pub x : ℤ
  pub y : ℤ
  pub blocks : ℕ
  pub asked : number_to_square_at area (area.w * area.h - 1) ≡ found x y blocks
  pub finish : finish_square_at area ≡ finish_found_at x y

pub finish_last_at : (area : Area) → grid_accepted area ≡ true → LastAt area
finish_last_at area ok =
    let most = limits area.w area.h (grid_passed area ok).0 in
    let some : 1 * 1 ≤ area.w * area.h = mul-le-mul most.w_least most.h_least in
    let s = square_of (all area) (area.w * area.h - 1) in
    record {
      x = area.ox +ℤ pos s.x;
      y = area.oy +ℤ pos s.y;
      blocks = blocks_holding (all area) s;
      asked = number_answered_at area ok (area.w * area.h - 1) (omega arith);
      finish = finish_answered_at area ok;
    }
