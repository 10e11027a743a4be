-- The small blocks that a walk takes at once, 2 wide and 2 or 3 deep: the squares of such an area, and the blocks of any such block, which compute.
use mathlib.Core.List.{[], ◌∷◌}
use mathlib.Core.Path.{◌≡◌, refl}
use lib.ListN.{length}
use Rattle.division.specs.Division.{Square, square, Direction, whole, choice, even_half, part, parts, parts_of, against, moved}
use Rattle.division.specs.Division.{row, curve_by, down, curve, blocks}

pub two_deep : curve (whole 2 2) ≡ square 0 0 ∷ square 0 1 ∷ square 1 1 ∷ square 1 0 ∷ []
unfolding curve down parts parts_of part choice even_half whole moved against row curve_by mathlib.Core.List.flatten
two_deep = refl

pub three_deep : curve (whole 2 3) ≡ square 0 0 ∷ square 0 1 ∷ square 0 2 ∷ square 1 2 ∷ square 1 1 ∷ square 1 0 ∷ []
unfolding curve down parts parts_of part choice even_half whole moved against row curve_by mathlib.Core.List.flatten
three_deep = refl

-- the block itself and three straight parts
module _ (s : Square) (d t : Direction) where
  pub blocks_two : 4 ≡ length (blocks (record { start = s; run = d; a = 2; side = t; b = 2 }))
  unfolding blocks down parts parts_of part choice even_half mathlib.Core.List.flatten
  blocks_two = refl

  pub blocks_three : 4 ≡ length (blocks (record { start = s; run = d; a = 2; side = t; b = 3 }))
  unfolding blocks down parts parts_of part choice even_half mathlib.Core.List.flatten
  blocks_three = refl
