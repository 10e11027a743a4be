-- Blocks that lie within an area: with both lengths at least 1, one of the four pairs of directions that occur, and room for run and side.
-- What a walk asks of its block; it renders no sentence of document 01.
use Rattle.std.specs.Prelude.{ℕ, ◌+◌, ◌≤◌, ◌<◌}
use Rattle.division.specs.Division.{Square, Direction, +x, +y, -x, -y, Block}

pub record Sized (k : Block) : Type 0 where
  pub run : 1 ≤ k.a
  pub side : 1 ≤ k.b

-- The pairs of run and side direction that the cuts of a whole area lead to.
pub data Paired : Direction → Direction → Type 0 where
  x_y : Paired +x +y
  y_x : Paired +y +x
  x_y_back : Paired -x -y
  y_x_back : Paired -y -x

-- The n squares from s in direction d, s counted, lie within a w by h area, as far as that direction's coordinate goes.
abbrev pub Room : (w h : ℕ) → Direction → ℕ → Square → Type 0
Room w h +x n s = s.x + n ≤ w
Room w h +y n s = s.y + n ≤ h
Room w h -x n s = (n ≤ s.x + 1) × (s.x < w)
Room w h -y n s = (n ≤ s.y + 1) × (s.y < h)

pub record Inside (w h : ℕ) (k : Block) : Type 0 where
  pub sized : Sized k
  pub paired : Paired k.run k.side
  pub run : Room w h k.run k.a k.start
  pub side : Room w h k.side k.b k.start
