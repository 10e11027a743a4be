-- The squares worked by hand that document 01 marks P, as a single table under one claim, which computes.
use Rattle.std.specs.Prelude.{Bool, true, false, ◌&&◌, ◌≡◌, refl, ℕ, T, eqb, length}
use mathlib.Core.List.{List, [], ◌∷◌}
use Rattle.division.specs.Division.{Square, square, whole, choice, even_half, part, parts, parts_of, moved, against, row, curve_by, down, curve, blocks}
use Rattle.division.specs.Division.{within, holds, count, blocks_holding, same, place_in, square_of, number_of}

-- A line of the table, of a w by h area.
pub data Case : Type 0 where
  -- number i is (x, y)
  number_is : (w h i x y : ℕ) → Case
  -- number i is (x, y), and n blocks hold it
  number_in : (w h i x y n : ℕ) → Case
  -- the whole traversal
  traversal : (w h : ℕ) → List Square → Case
  -- the division has n blocks
  divided : (w h n : ℕ) → Case

is : (w h i x y : ℕ) → Bool
unfolding square_of number_of place_in same curve down parts parts_of part choice even_half whole moved against row curve_by mathlib.Core.List.flatten
is w h i x y = same (square_of (whole w h) i) (square x y) && eqb (number_of (whole w h) (square x y)) i

sames : List Square → List Square → Bool
unfolding same
sames [] [] = true
sames [] (q ∷ qs) = false
sames (p ∷ ps) [] = false
sames (p ∷ ps) (q ∷ qs) = same p q && sames ps qs

right : Case → Bool
unfolding is sames blocks_holding blocks count holds within
right (number_is w h i x y) = is w h i x y
right (number_in w h i x y n) = is w h i x y && eqb (blocks_holding (whole w h) (square x y)) n
right (traversal w h squares) = sames (curve (whole w h)) squares
right (divided w h n) = eqb (length (blocks (whole w h))) n

unfoldable pub all_right : List Case → Bool
unfolding right
all_right [] = true
all_right (c ∷ cs) = right c && all_right cs

pub worked : List Case
worked =
    number_in 1 1 0 0 0 1
    ∷ number_in 1 5 4 0 4 1
    ∷ number_in 5 1 4 4 0 1
    ∷ traversal 2 2 (square 0 0 ∷ square 0 1 ∷ square 1 1 ∷ square 1 0 ∷ [])
    ∷ number_in 2 2 3 1 0 2
    ∷ number_in 3 2 5 1 0 2
    ∷ number_is 4 2 5 2 1
    ∷ number_in 3 3 5 2 1 3
    ∷ number_in 3 3 8 2 0 3
    ∷ number_is 4 3 2 1 1
    ∷ number_in 4 3 9 2 1 3
    ∷ number_in 5 2 9 3 0 3
    ∷ traversal 3 4 (square 0 0 ∷ square 0 1 ∷ square 0 2 ∷ square 0 3 ∷ square 1 3 ∷ square 2 3 ∷ square 2 2 ∷ square 1 2
    ∷ square 2 1 ∷ square 1 1 ∷ square 1 0 ∷ square 2 0 ∷ [])
    ∷ divided 3 4 10
    ∷ number_in 7 4 16 4 0 3
    ∷ []

pub worked_right : T (all_right worked)
unfolding worked all_right
worked_right = tt

-- Number 8 of the 3 by 4 area, as document 01's example of order lines has it, and how many blocks hold it.
pub eighth : square_of (whole 3 4) 8 ≡ square 2 1
unfolding square_of curve down parts parts_of part choice even_half whole moved against row curve_by mathlib.Core.List.flatten
eighth = refl

pub eighth_held : blocks_holding (whole 3 4) (square 2 1) ≡ 3
unfolding blocks_holding blocks down parts parts_of part choice even_half whole moved against within holds count mathlib.Core.List.flatten
eighth_held = refl
