-- The squares of a block by (u, v), u along its run and v along its side: which square that is, that the block holds it, and where a part's (u, v) lies
-- in the block. Of an area (u, v) is the square itself.
use mathlib.Core.Bool.{true, ◌&&◌, and-eq-true_iff}
use mathlib.Core.Path.{◌≡◌, refl, ap, subst, ◌∙◌}
use Prim.Native.Nat.{ℕ, ◌+◌, ◌-◌, ◌≤◌, ◌<◌}
use native.Mathlib.Nat.{zero-add}
use native.Mathlib.Omega.{arith}
use borrow.Author.Tests.{ltb-true}
use lib.Dec.{leb, ltb}
use Rattle.division.specs.Division.{Square, square, Direction, Block, whole, even_half, Part, First, Second, A, B, C, part}
use Rattle.division.specs.Division.{moved, against, within, holds}
use Rattle.division.specs.Division.Inside.{Paired, x_y, y_x, x_y_back, y_x_back, Room, Inside}
use Rattle.division.proofs.Plane.{turned, moved_add, moved_swap, moved_back, room_across, within_moved, within_aside}
use Rattle.division.proofs.Cuts.{last_room}
use Rattle.division.proofs.Blocks.{whole_inside}

-- the square that lies u along a block's run and v along its side, where s = (u, v)
unfoldable pub spot : Block → Square → Square
spot k s = moved k.side s.y (moved k.run s.x k.start)

pub record Within (a b : ℕ) (s : Square) : Type 0 where
  pub run : s.x < a
  pub side : s.y < b

-- where a part's (u, v) lies in an a by b block
unfoldable pub seen_from : Part → ℕ → ℕ → Square → Square
seen_from First a b s = s
seen_from Second a b s = square (even_half a + s.x) s.y
seen_from A a b s = square s.y s.x
seen_from B a b s = square s.x (even_half b + s.y)
seen_from C a b s = square (a - 1 - s.y) (even_half b - 1 - s.x)

pub spot_whole : (a b : ℕ) (s : Square) → spot (whole a b) s ≡ s
unfolding spot whole moved
spot_whole a b s = λ i. record { x = zero-add s.x i; y = zero-add s.y i }

module _ (w h : ℕ) (k : Block) (i : Inside w h k) where
  -- a block holds what lies within its lengths
  pub spot_held : (s : Square) → Within k.a k.b s → holds k (spot k s) ≡ true
  unfolding spot holds
  spot_held s l =
      let along : within k.run k.a k.start (moved k.side s.y (moved k.run s.x k.start)) ≡ true =
      within_aside i.paired s.y k.a k.start (moved k.run s.x k.start)
      ∙ within_moved w h k.run k.a s.x k.start i.run l.run in
      let across : within k.side k.b k.start (moved k.side s.y (moved k.run s.x k.start)) ≡ true =
      ap (within k.side k.b k.start) (moved_swap (turned i.paired) s.y s.x k.start)
      ∙ within_aside (turned i.paired) s.x k.b k.start (moved k.side s.y k.start)
      ∙ within_moved w h k.side k.b s.y k.start i.side l.side in
      rw (along, across)

  -- a part's (u, v) is the block's `seen_from` of it
  pub spot_part : (p : Part) (s : Square) → 2 ≤ k.b → Within (part p k).a (part p k).b s → spot (part p k) s ≡ spot k (seen_from p k.a k.b s)
  unfolding spot part seen_from
  spot_part First s b l = refl
  spot_part Second s b l = ap (moved k.side s.y) (moved_add k.run (even_half k.a) s.x k.start)
  spot_part A s b l = moved_swap i.paired s.y s.x k.start
  spot_part B s b l =
      ap (moved k.side s.y) (moved_swap i.paired s.x (even_half k.b) k.start)
      ∙ moved_add k.side (even_half k.b) s.y (moved k.run s.x k.start)
  spot_part C s b l =
      let e = even_half k.b in
      let last = moved k.run (k.a - 1) k.start in
      let up = moved k.side (e - 1 - s.x) k.start in
      ap (moved (against k.run) s.y)
      (moved_back w h k.side e s.x last (last_room w h k i b) l.run
      ∙ moved_swap (turned i.paired) (e - 1 - s.x) (k.a - 1) k.start)
      ∙ moved_back w h k.run k.a s.y up (room_across w h i.paired (e - 1 - s.x) k.a k.start i.run) (omega arith)
      ∙ moved_swap i.paired (k.a - 1 - s.y) (e - 1 - s.x) k.start

-- what lies within the lengths of a block lies within the area that the block lies in
spot_inside_by : (w h : ℕ) {d t : Direction} → Paired d t → (a b : ℕ) (start s : Square) → Room w h d a start → Room w h t b start → Within a b s
    → Within w h (moved t s.y (moved d s.x start))
unfolding moved
spot_inside_by w h x_y a b start s r q l = let u = l.run in let v = l.side in record { run = omega arith; side = omega arith }
spot_inside_by w h y_x a b start s r q l = let u = l.run in let v = l.side in record { run = omega arith; side = omega arith }
spot_inside_by w h x_y_back a b start s r q l = let u = l.run in let v = l.side in record { run = omega arith; side = omega arith }
spot_inside_by w h y_x_back a b start s r q l = let u = l.run in let v = l.side in record { run = omega arith; side = omega arith }

pub spot_inside : (w h : ℕ) (k : Block) → Inside w h k → (s : Square) → Within k.a k.b s → Within w h (spot k s)
unfolding spot
spot_inside w h k i s l = spot_inside_by w h i.paired k.a k.b k.start s i.run i.side l

-- an area holds the squares within its lengths
pub whole_holds : (a b : ℕ) (s : Square) → Within a b s → holds (whole a b) s ≡ true
unfolding whole
whole_holds a b s l =
    subst (λ (p : Square). holds (whole a b) p ≡ true) (spot_whole a b s)
    (spot_held a b (whole a b) (whole_inside a b (omega arith) (omega arith)) s l)

pub whole_within : (a b : ℕ) (s : Square) → holds (whole a b) s ≡ true → Within a b s
unfolding whole holds within
whole_within a b s e =
    let x = (and-eq-true_iff (leb 0 s.x && ltb s.x (0 + a)) (leb 0 s.y && ltb s.y (0 + b))).0 e in
    let u = ltb-true s.x (0 + a) ((and-eq-true_iff (leb 0 s.x) (ltb s.x (0 + a))).0 x.0).1 in
    let v = ltb-true s.y (0 + b) ((and-eq-true_iff (leb 0 s.y) (ltb s.y (0 + b))).0 x.1).1 in
    record { run = omega arith; side = omega arith }
