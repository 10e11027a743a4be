-- The even half as the code computes it: document 02, order 3, for every length.
use mathlib.Core.Bool.{Bool, true, false, cond}
use mathlib.Core.Path.{◌≡◌, refl}
use Prim.Native.Nat.{ℕ, ◌+◌, ◌*◌, ◌/◌, ◌%◌, ◌≤◌, ◌<◌}
use native.Mathlib.Omega.{arith}
use borrow.Author.Tests.{lt-ltb, le-ltb, eqb-true, eqb-false}
use lib.Dec.{eqb}
use Rattle.division.specs.Division.{even_half}

-- the even half as computed: "Lengths 1 and 2 keep their rule", which gives 0 and 1
pub half_small : (L : ℕ) → L ≤ 2 → L / 2 ≡ even_half L
unfolding even_half
half_small L l = rw (le-ltb 2 L l)

pub half_of_1_and_2 : (even_half 1 ≡ 0) × (even_half 2 ≡ 1)
unfolding even_half
half_of_1_and_2 = (refl, refl)

half_by : (L : ℕ) (t : Bool) → eqb (L / 2 % 2) 1 ≡ t → 2 * ((L + 2) / 4) ≡ cond t (L / 2 + 1) (L / 2)
half_by L true e = omega (arith, eqb-true (L / 2 % 2) 1 e)
half_by L false e = omega (arith, eqb-false (L / 2 % 2) 1 e)

-- "For a length above 2 the even half is twice ((L + 2) div 4)."
pub half_large : (L : ℕ) → 2 < L → 2 * ((L + 2) / 4) ≡ even_half L
unfolding even_half
half_large L l = rw (lt-ltb 2 L l) (half_by L (eqb (L / 2 % 2) 1) refl)
