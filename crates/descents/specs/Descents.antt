-- What a descent asks and returns, and each step of it: of a number, document 01's "A lookup goes down into the one part that holds it and skips
-- the others by their areas."
use Rattle.std.specs.Prelude.{◌≡◌, ℕ, suc, ◌+◌, ◌*◌, ◌<◌}
use Rattle.terms.specs.Terms.{longest_side, past_32_bits}
use Rattle.division.specs.Division.{Square, Block, square_of, blocks_holding}
use Rattle.division.specs.Division.Inside.{Inside}
use Rattle.descents.specs.declared.Held.{Held}

-- A square with a count of blocks, as the code has them.
abbrev pub held : Square → ℕ → Held
held s blocks = record { x = s.x; y = s.y; blocks = blocks }

-- A number of a block within the longest sides.
pub record HasNumber (k : Block) (i : ℕ) : Type 0 where
  pub inside : Inside longest_side longest_side k
  pub below : i < k.a * k.b

-- One step down from a block's number i to number j of a smaller block in it: the same square, and one block more that holds it.
pub record Enters (k : Block) (i : ℕ) (q : Block) (j : ℕ) : Type 0 where
  pub numbers : HasNumber q j
  pub falls : q.a * q.b < k.a * k.b
  pub square : square_of q j ≡ square_of k i
  pub holding : blocks_holding k (square_of k i) ≡ suc (blocks_holding q (square_of k i))

-- A number of a block that a descent looks for where `above` blocks hold the block: the count of those that hold its square has 32 bits.
pub record Descends (k : Block) (i above : ℕ) : Type 0 where
  pub numbers : HasNumber k i
  pub count : above + blocks_holding k (square_of k i) < past_32_bits
