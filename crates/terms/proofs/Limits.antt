-- What it is for an area, and for an area with its origin, to be accepted: the two or three guards that it passes, and the limits of its lengths and squares.
use mathlib.Core.Bool.{Bool, true, false, and-true, and-eq-true_iff}
use mathlib.Core.Path.{◌≡◌, refl}
use Prim.Native.Nat.{ℕ, ◌*◌, ◌≤◌, ◌<◌}
use native.Mathlib.Nat.{mul-le-mul}
use native.Mathlib.Omega.{arith}
use borrow.Author.Tests.{leb-true}
use lib.Dec.{leb}
use Rattle.terms.specs.declared.Area.{Area}
use Rattle.std.specs.Prelude.{Err}
use Rattle.terms.specs.declared.Refusal.{Refusal}
use Rattle.terms.specs.Terms.{longest_side, most_squares, past_32_bits, length_accepted, lengths_accepted, squares_accepted, accepted, Limits}
use Rattle.terms.specs.Terms.{offset_accepted, origin_accepted, at_post, grid_accepted}
use Rattle.terms.specs.Guards.{granted, admitted, grid_guards}
use Rattle.terms.proofs.Guards.{◌and◌, passed, all_pass}

-- its guards
pub both_accepted : (w h : ℕ) → lengths_accepted w h ≡ true → squares_accepted (w * h) ≡ true → accepted w h ≡ true
unfolding accepted
both_accepted w h long few = rw (long, few)

pub area_passed : (w h : ℕ) → accepted w h ≡ true → (lengths_accepted w h ≡ true) × (squares_accepted (w * h) ≡ true)
unfolding accepted
area_passed w h e = (and-eq-true_iff (lengths_accepted w h) (squares_accepted (w * h))).0 e

pub limits : (w h : ℕ) → accepted w h ≡ true → Limits w h
limits w h e =
    let all = area_passed w h e in
    let both = (and-eq-true_iff (length_accepted w) (length_accepted h)).0 all.0 in
    let width = (and-eq-true_iff (leb 1 w) (leb w longest_side)).0 both.0 in
    let height = (and-eq-true_iff (leb 1 h) (leb h longest_side)).0 both.1 in
    record {
      w_least = leb-true 1 w width.0;
      w_most = leb-true w longest_side width.1;
      h_least = leb-true 1 h height.0;
      h_most = leb-true h longest_side height.1;
      squares_most = leb-true (w * h) most_squares all.1;
    }

-- an accepted area's squares are a 32-bit number, and the product of any two 32-bit numbers is a 64-bit one
pub squares_limit : (w h : ℕ) → accepted w h ≡ true → w * h < past_32_bits
squares_limit w h e = let most = (limits w h e).squares_most in omega arith

pub product_fits : (w h : ℕ) → w < past_32_bits → h < past_32_bits → w * h < 18446744073709551616
product_fits w h a b =
    let w_most : w ≤ 4294967295 = omega arith in
    let h_most : h ≤ 4294967295 = omega arith in
    let most : w * h ≤ 4294967295 * 4294967295 = mul-le-mul w_most h_most in
    omega arith

-- with its origin
pub all_accepted : (area : Area) → lengths_accepted area.w area.h ≡ true → squares_accepted (area.w * area.h) ≡ true
    → origin_accepted area.ox area.oy ≡ true → grid_accepted area ≡ true
all_accepted area long few near = rw (both_accepted area.w area.h long few, near)

pub grid_guards_passed : (area : Area) → grid_accepted area ≡ true
    → (lengths_accepted area.w area.h ≡ true) × (squares_accepted (area.w * area.h) ≡ true) × (origin_accepted area.ox area.oy ≡ true)
grid_guards_passed area e =
    let both = (and-eq-true_iff (accepted area.w area.h) (origin_accepted area.ox area.oy)).0 e in
    let two = area_passed area.w area.h both.0 in
    (two.0, two.1, both.1)

-- and as the guards of an area on the grid admit it
pub on_grid : (area : Area) → admitted (grid_guards area) ≡ granted → grid_accepted area ≡ true
on_grid area e = let tests = passed (grid_guards area) e in all_accepted area tests.0 tests.1.0 tests.1.1

pub off_grid : (area : Area) (r : Refusal) → admitted (grid_guards area) ≡ Err r → grid_accepted area ≡ false
off_grid area r e = by (grid_accepted area) refl
  where
    by : (t : Bool) → grid_accepted area ≡ t → grid_accepted area ≡ false
    by false is = is
    by true is =
        let tests = grid_guards_passed area is in
        let granted = all_pass (grid_guards area) (tests.0 and tests.1 and tests.2) in
        absurd (let z : ◌≡◌ {A = ℕ} 0 1 = cc in omega arith)

pub grid_passed : (area : Area) → grid_accepted area ≡ true
    → (accepted area.w area.h ≡ true) × ((offset_accepted area.ox ≡ true) × (offset_accepted area.oy ≡ true))
unfolding origin_accepted
grid_passed area e =
    let both = (and-eq-true_iff (accepted area.w area.h) (origin_accepted area.ox area.oy)).0 e in
    (both.0, (and-eq-true_iff (offset_accepted area.ox) (offset_accepted area.oy)).0 both.1)

-- an area at the post is accepted with its origin as it is without
pub post_accepted : (w h : ℕ) → grid_accepted (at_post w h) ≡ accepted w h
unfolding origin_accepted
post_accepted w h = and-true (accepted w h)
