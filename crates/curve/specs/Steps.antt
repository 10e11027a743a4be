-- How far apart the squares of successive numbers are: document 02, order 5, in its words, one definition under each of its terms; and, for the crews that
-- plan on it, the steps of a walk along the numbers.
use Rattle.std.specs.Prelude.{Bool, ◌&&◌, List, [], ◌∷◌, ℕ, ◌+◌, ◌-◌, ◌%◌, leb, ltb, eqb, ℤ, pos, neg_ℤ, nat_abs, take, drop}
use Rattle.std.proofs.Math.IntN.{sub_ℕ}
use Rattle.division.specs.Division.{Square, square, whole, curve, square_of, number_of}

-- "State the steps as signed differences in x and y." `sub_ℕ m n` is m - n with its sign, and `nat_abs z` is z without it.
pub record Step : Type 0 where
  pub dx : ℤ
  pub dy : ℤ

unfoldable pub step_between : Square → Square → Step
step_between p q = record { dx = sub_ℕ q.x p.x; dy = sub_ℕ q.y p.y }

-- "squares of successive numbers": the step from number i of a w by h area to number i + 1.
unfoldable pub step_of : (w h i : ℕ) → Step
step_of w h i = step_between (square_of (whole w h) i) (square_of (whole w h) (i + 1))

-- "share a side": one coordinate differs by 1, and the other does not differ.
unfoldable pub shares_side : Step → Bool
shares_side s = eqb (nat_abs s.dx + nat_abs s.dy) 1

-- "touches only at a corner": both coordinates differ by 1.
unfoldable pub corner_only : Step → Bool
corner_only s = eqb (nat_abs s.dx) 1 && eqb (nat_abs s.dy) 1

-- "If w is odd and at least 3 and h is even and at least 4": such an area has a bend.
unfoldable pub bends : (w h : ℕ) → Bool
bends w h = eqb (w % 2) 1 && leb 3 w && (eqb (h % 2) 0 && leb 4 h)

-- The one step of such an area that goes to a square that touches only at a corner: the squares that it leads from and to, its number and its differences.
abbrev pub bend_from : (w h : ℕ) → Square
bend_from w h = square (w - 2) (h - 2)

abbrev pub bend_to : (w h : ℕ) → Square
bend_to w h = square (w - 1) (h - 3)

unfoldable pub bend_number : (w h : ℕ) → ℕ
bend_number w h = number_of (whole w h) (bend_from w h)

abbrev pub bend_step : Step
bend_step = record { dx = pos 1; dy = neg_ℤ (pos 1) }

-- "Crews plan cable lengths on this": the steps of an area in order, from its first square to its last.
unfoldable pub steps_through : List Square → List Step
steps_through [] = []
steps_through (p ∷ []) = []
steps_through (p ∷ q ∷ qs) = step_between p q ∷ steps_through (q ∷ qs)

unfoldable pub walk : (w h : ℕ) → List Step
walk w h = steps_through (curve (whole w h))

-- Those from number i to number j, and whether the one across the corner is among them.
unfoldable pub stretch : (w h i j : ℕ) → List Step
stretch w h i j = take (j - i) (drop i (walk w h))

unfoldable pub bend_between : (w h i j : ℕ) → Bool
bend_between w h i j = bends w h && (leb i (bend_number w h) && ltb (bend_number w h) j)
