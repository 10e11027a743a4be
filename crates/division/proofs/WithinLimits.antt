-- A block within 65,535 by 65,535 has lengths up to that, and the numbers of its squares, summed part by part, are 32-bit numbers.
use mathlib.Core.Path.{◌≡◌}
use Prim.Native.Nat.{ℕ, ◌+◌, ◌-◌, ◌*◌, ◌/◌, ◌≤◌, ◌<◌}
use native.Mathlib.Nat.{mul-le-mul}
use native.Mathlib.Omega.{arith}
use Rattle.terms.specs.Terms.{longest_side, past_32_bits}
use Rattle.division.specs.Division.{Square, Direction, +x, +y, -x, -y, Block, even_half}
use Rattle.division.specs.Division.Inside.{Room, Inside}
use Rattle.division.proofs.Rules.{halves}
use Rattle.division.proofs.Cuts.{u_areas}

-- what lies within an area lies within a larger one
room_grow : (w h w' h' : ℕ) → w ≤ w' → h ≤ h' → (d : Direction) (n : ℕ) (s : Square) → Room w h d n s → Room w' h' d n s
room_grow w h w' h' l m +x n s r = omega arith
room_grow w h w' h' l m +y n s r = omega arith
room_grow w h w' h' l m -x n s r = omega arith
room_grow w h w' h' l m -y n s r = omega arith

pub inside_grow : (w h w' h' : ℕ) → w ≤ w' → h ≤ h' → (k : Block) → Inside w h k → Inside w' h' k
inside_grow w h w' h' l m k i =
    record {
      sized = i.sized;
      paired = i.paired;
      run = room_grow w h w' h' l m k.run k.a k.start i.run;
      side = room_grow w h w' h' l m k.side k.b k.start i.side;
    }

-- a block within 65,535 by 65,535 has lengths up to that
room_limit : (d : Direction) (n : ℕ) (s : Square) → Room longest_side longest_side d n s → n ≤ longest_side
room_limit +x n s r = omega arith
room_limit +y n s r = omega arith
room_limit -x n s r = omega arith
room_limit -y n s r = omega arith

pub a_limit : (k : Block) → Inside longest_side longest_side k → k.a ≤ longest_side
a_limit k i = room_limit k.run k.a k.start i.run

pub b_limit : (k : Block) → Inside longest_side longest_side k → k.b ≤ longest_side
b_limit k i = room_limit k.side k.b k.start i.side

-- the squares of lengths up to 65,535 are a 32-bit number
pub product_limit : (a b : ℕ) → a ≤ longest_side → b ≤ longest_side → a * b < past_32_bits
product_limit a b l m = let p : a * b ≤ longest_side * longest_side = mul-le-mul l m in omega arith

-- the parts of a U cut add up to the block
pub u_sum : (a b e : ℕ) → 2 ≤ b → e ≡ even_half b → e * (a / 2) + (a * (b - e) + (e * (a - a / 2) + 0)) ≡ a * b
u_sum a b e two is = let half = halves b two in u_areas e (a / 2) a b (omega arith) (omega arith)

-- the sums on the way are 32-bit numbers, where `before` numbers and the block's are
pub record SumsFit (before a b e : ℕ) : Type 0 where
  pub half : e ≤ b
  pub in_a : e * (a / 2) < past_32_bits
  pub in_b : a * (b - e) < past_32_bits
  pub to_b : before + e * (a / 2) < past_32_bits
  pub to_c : before + e * (a / 2) + a * (b - e) < past_32_bits

pub sums_fit : (before a b e : ℕ) → 2 ≤ b → e ≡ even_half b → before + a * b < past_32_bits → SumsFit before a b e
sums_fit before a b e two is room =
    let half = halves b two in
    let all = u_sum a b e two is in
    record { half = omega arith; in_a = omega arith; in_b = omega arith; to_b = omega arith; to_c = omega arith }
