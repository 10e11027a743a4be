-- The division of a rectangle, and the curve through its squares: document 01, "The division of a rectangle" and, for squares and numbers,
-- "What is bought", in the first one's order and in their words, one definition under each sentence. Lengths, coordinates and numbers are natural
-- numbers.
--
-- The two cuts of a block that runs to the right, with its side upwards. An arrow is the way in which a part runs.
--
--     +-----------+-----------+         +-----------------------+
--     |           |           |         |          B -->        |   b - e
--     |  First    |  Second   |         +-----------+-----------+
--     |   -->     |    -->    |   b     |           |           |
--     |           |           |         |    A  ^   |   C  |    |   e
--     +-----------+-----------+         |       |   |      v    |
--       even half   the rest            +-----------+-----------+
--       of a        of a                      m         a - m
use Rattle.std.specs.Prelude.{Bool, true, false, ◌&&◌, cond, ℕ, zero, suc, ◌+◌, ◌-◌, ◌*◌, ◌/◌, ◌%◌, leb, ltb, eqb, get_or}
use mathlib.Core.List.{List, [], ◌∷◌, map, flatten}
use Rattle.division.specs.declared.Choice.{Choice}
use Rattle.division.specs.declared.Choice.TheVariants.{StraightRun, StraightSide, LongCut, UCut}
pub mod Worked
pub mod Telling
pub mod SingleCuts
pub mod Inside

-- "Squares are (x, y)."
pub record Square : Type 0 where
  pub x : ℕ
  pub y : ℕ

abbrev pub square : ℕ → ℕ → Square
square x y = record { x = x; y = y }

-- The four directions, and the square that lies n squares on from s in one of them.
pub data Direction : Type 0 where
  +x +y -x -y : Direction

unfoldable pub moved : Direction → ℕ → Square → Square
moved +x n s = square (s.x + n) s.y
moved +y n s = square s.x (s.y + n)
moved -x n s = square (s.x - n) s.y
moved -y n s = square s.x (s.y - n)

unfoldable pub against : Direction → Direction
against +x = -x
against +y = -y
against -x = +x
against -y = +y

-- "A block has a start square, a run direction with length a, and a side direction with length b."
pub record Block : Type 0 where
  pub start : Square
  pub run : Direction
  pub a : ℕ
  pub side : Direction
  pub b : ℕ

-- "The whole area is the block that starts at (0, 0), runs along +x with a = w, and has its side along +y with b = h."
unfoldable pub whole : ℕ → ℕ → Block
whole w h = record { start = square 0 0; run = +x; a = w; side = +y; b = h }

-- "The choice rule, in this order: 1. b = 1: straight. 2. a = 1: straight. 3. 2a > 3b: the long cut. 4. Otherwise: the U cut."
unfoldable pub choice : ℕ → ℕ → Choice
choice a b = cond (eqb b 1) StraightRun (cond (eqb a 1) StraightSide (cond (ltb (3 * b) (2 * a)) LongCut UCut))

-- "The even half of a length L is L div 2, and one more if L > 2 and L div 2 is odd."
unfoldable pub even_half : ℕ → ℕ
even_half L = cond (ltb 2 L && eqb (L / 2 % 2) 1) (L / 2 + 1) (L / 2)

-- "Long cut, two parts in this order. .. U cut, three parts in this order."
pub data Part : Type 0 where
  First Second A B C : Part

unfoldable pub parts_of : Choice → List Part
parts_of StraightRun = []
parts_of StraightSide = []
parts_of LongCut = First ∷ Second ∷ []
parts_of UCut = A ∷ B ∷ C ∷ []

-- Each part of a block that is cut.
unfoldable pub part : Part → Block → Block
-- "First: same start, same directions, run = even half of a, side b."
part First k = record { start = k.start; run = k.run; a = even_half k.a; side = k.side; b = k.b }
-- "Second: start moved on by the even half of a, run = the rest of a, side b."
part Second k =
    record { start = moved k.run (even_half k.a) k.start; run = k.run; a = k.a - even_half k.a; side = k.side; b = k.b }
-- "U cut .. Let e = the even half of b, and m = a div 2 (never made even)."
-- "A: same start, runs in the block's side direction for e, its side is the block's run direction for m."
part A k = record { start = k.start; run = k.side; a = even_half k.b; side = k.run; b = k.a / 2 }
-- "B: start moved e in the side direction, same directions, run a, side b - e."
part B k =
    record { start = moved k.side (even_half k.b) k.start; run = k.run; a = k.a; side = k.side; b = k.b - even_half k.b }
-- "C: start moved a - 1 in the run direction and e - 1 in the side direction; it runs against the side direction for e, its side is against
-- the run direction for a - m."
part C k =
    record {
      start = moved k.side (even_half k.b - 1) (moved k.run (k.a - 1) k.start);
      run = against k.side;
      a = even_half k.b;
      side = against k.run;
      b = k.a - k.a / 2;
    }

unfoldable pub parts : Block → List Block
parts k = map (λ p. part p k) (parts_of (choice k.a k.b))

-- n squares in a row from s in direction d.
unfoldable pub row : Direction → ℕ → Square → List Square
row d zero s = []
row d (suc n) s = s ∷ row d n (moved d 1 s)

-- The curve of a block by its case, where `curves` are those of its parts.
unfoldable pub curve_by : Choice → Block → List (List Square) → List Square
-- "b = 1: straight. The a squares follow in the run direction."
curve_by StraightRun k curves = row k.run k.a k.start
-- "a = 1: straight. The b squares follow in the side direction."
curve_by StraightSide k curves = row k.side k.b k.start
-- "The curve of a block is the curves of its parts in order."
curve_by LongCut k curves = flatten curves
curve_by UCut k curves = flatten curves

-- What `of` makes of a block from what it makes of the block's parts in order, n cuts deep at most. With each cut the sum of the lengths falls,
-- so that a + b cuts are deep enough.
unfoldable pub down : {R : Type 0} → (Block → List R → R) → ℕ → Block → R
down of zero k = of k []
down of (suc n) k = of k (map (down of n) (parts k))

unfoldable pub curve : Block → List Square
curve k = down (λ j curves. curve_by (choice j.a j.b) j curves) (k.a + k.b) k

-- "The blocks of the division are the whole, its parts, their parts, and so on down to the straight ones."
unfoldable pub blocks : Block → List Block
blocks k = down (λ j below. j ∷ flatten below) (k.a + k.b) k

-- A square lies within n squares from s in direction d, s counted, as far as that direction's coordinate goes. A block holds what lies within its
-- run and within its side.
unfoldable pub within : Direction → ℕ → Square → Square → Bool
within +x n s p = leb s.x p.x && ltb p.x (s.x + n)
within +y n s p = leb s.y p.y && ltb p.y (s.y + n)
within -x n s p = leb p.x s.x && ltb s.x (p.x + n)
within -y n s p = leb p.y s.y && ltb s.y (p.y + n)

unfoldable pub holds : Block → Square → Bool
holds k p = within k.run k.a k.start p && within k.side k.b k.start p

-- How many of a list pass a test; so, how many blocks of the division hold a square.
abbrev pub one : Bool → ℕ
one true = 1
one false = 0

unfoldable pub count : {X : Type 0} → (X → Bool) → List X → ℕ
count f [] = 0
count f (z ∷ zs) = one (f z) + count f zs

unfoldable pub blocks_holding : Block → Square → ℕ
blocks_holding k p = count (λ j. holds j p) (blocks k)

-- "Numbers run from 0": a number is a place in the curve. The square of a number, and the number of a square.
unfoldable pub same : Square → Square → Bool
same p q = eqb p.x q.x && eqb p.y q.y

unfoldable pub place_in : List Square → Square → ℕ
place_in [] p = 0
place_in (q ∷ qs) p = cond (same p q) 0 (suc (place_in qs p))

unfoldable pub square_of : Block → ℕ → Square
square_of k i = get_or (curve k) i (square 0 0)

unfoldable pub number_of : Block → Square → ℕ
number_of k p = place_in (curve k) p
