-- The terms of document 02, order 5, on small areas, as one table under one claim, which computes: single steps, what shares a side or touches only at a
-- corner, and the steps of a whole walk and of a stretch of it.
use Rattle.std.specs.Prelude.{Bool, true, ◌&&◌, not, ℕ, ◌+◌, T, eqb, ℤ, pos, negsuc, length}
use mathlib.Core.List.{List, [], ◌∷◌}
use Rattle.terms.specs.Comparing.{same_integer}
use Rattle.division.specs.Division.{whole, choice, even_half, part, parts, parts_of, moved, against, row, curve_by, down, curve, count, square_of}
use Rattle.curve.specs.Steps.{Step, step_between, step_of, shares_side, corner_only, steps_through, walk, stretch}

-- A line of the table, of a w by h area.
pub data Case : Type 0 where
  -- the step from number i is (dx, dy)
  goes : (w h i : ℕ) (dx dy : ℤ) → Case
  -- a step (dx, dy) shares a side, it touches only at a corner, or neither
  to_side : (dx dy : ℤ) → Case
  to_corner : (dx dy : ℤ) → Case
  to_neither : (dx dy : ℤ) → Case
  -- the walk has so many steps of either kind, and no others
  walked : (w h sides corners : ℕ) → Case
  -- so has the stretch from number i to number j
  stretched : (w h i j sides corners : ℕ) → Case

is_step : (w h i : ℕ) (dx dy : ℤ) → Bool
unfolding step_of step_between square_of curve down parts parts_of part choice even_half whole moved against row curve_by mathlib.Core.List.flatten
is_step w h i dx dy = same_integer (step_of w h i).dx dx && same_integer (step_of w h i).dy dy

abbrev by : ℤ → ℤ → Step
by dx dy = record { dx = dx; dy = dy }

counted : List Step → (sides corners : ℕ) → Bool
counted steps sides corners =
    eqb (count shares_side steps) sides && eqb (count corner_only steps) corners && eqb (length steps) (sides + corners)

right : Case → Bool
unfolding is_step counted shares_side corner_only walk stretch steps_through count
right (goes w h i dx dy) = is_step w h i dx dy
right (to_side dx dy) = shares_side (by dx dy) && not (corner_only (by dx dy))
right (to_corner dx dy) = corner_only (by dx dy) && not (shares_side (by dx dy))
right (to_neither dx dy) = not (shares_side (by dx dy)) && not (corner_only (by dx dy))
right (walked w h sides corners) = counted (walk w h) sides corners
right (stretched w h i j sides corners) = counted (stretch w h i j) sides corners

pub all_right : List Case → Bool
all_right [] = true
all_right (c ∷ cs) = right c && all_right cs

pub worked : List Case
worked =
    -- "signed differences in x and y": up, to the right, to the left, across a corner, and down
    goes 3 4 0 (pos 0) (pos 1)
    ∷ goes 3 4 3 (pos 1) (pos 0)
    ∷ goes 3 4 6 (negsuc 0) (pos 0)
    ∷ goes 3 4 7 (pos 1) (negsuc 0)
    ∷ goes 3 4 9 (pos 0) (negsuc 0)
    -- "share a side"
    ∷ to_side (pos 1) (pos 0)
    ∷ to_side (negsuc 0) (pos 0)
    ∷ to_side (pos 0) (pos 1)
    ∷ to_side (pos 0) (negsuc 0)
    -- "touches only at a corner"
    ∷ to_corner (pos 1) (pos 1)
    ∷ to_corner (pos 1) (negsuc 0)
    ∷ to_corner (negsuc 0) (pos 1)
    ∷ to_corner (negsuc 0) (negsuc 0)
    -- the same square, and squares further off
    ∷ to_neither (pos 0) (pos 0)
    ∷ to_neither (pos 2) (pos 0)
    ∷ to_neither (pos 0) (negsuc 1)
    ∷ to_neither (pos 2) (pos 1)
    ∷ to_neither (negsuc 0) (pos 2)
    ∷ to_neither (negsuc 1) (negsuc 1)
    -- "exactly one step .. Otherwise there is none."
    ∷ walked 3 4 10 1
    ∷ walked 5 4 18 1
    ∷ walked 3 6 16 1
    ∷ walked 3 3 8 0
    ∷ walked 4 3 11 0
    ∷ walked 4 4 15 0
    ∷ walked 5 2 9 0
    ∷ walked 1 4 3 0
    ∷ walked 1 1 0 0
    -- before the corner step of 3 by 4, it alone, after it, and with it
    ∷ stretched 3 4 0 7 7 0
    ∷ stretched 3 4 7 8 0 1
    ∷ stretched 3 4 8 11 3 0
    ∷ stretched 3 4 5 9 3 1
    ∷ stretched 3 4 5 5 0 0
    ∷ []

pub worked_right : T (all_right worked)
unfolding worked all_right right square_of curve down parts parts_of part choice even_half whole moved against row curve_by mathlib.Core.List.flatten
worked_right = tt
