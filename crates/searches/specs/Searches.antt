-- What a search asks and returns, and each step of it: of a square, document 01's "A lookup goes down into the one part that holds it and skips
-- the others by their areas."
use Rattle.std.specs.Prelude.{◌≡◌, ℕ, suc, ◌+◌, ◌*◌, ◌≤◌, ◌<◌}
use Rattle.terms.specs.Terms.{longest_side, past_32_bits}
use Rattle.division.specs.declared.Spot.{Spot}
use Rattle.searches.specs.declared.Numbered.{Numbered}
use Rattle.division.specs.Division.{square, whole, number_of, blocks_holding}

-- A number with a count of blocks, as the code has them.
abbrev pub numbered : (number blocks : ℕ) → Numbered
numbered number blocks = record { number = number; blocks = blocks }

-- A spot by its fields.
abbrev pub spot_at : (a b u v : ℕ) → Spot
spot_at a b u v = record { a = a; b = b; u = u; v = v }

-- The number of a spot's square in the area of its lengths, and how many blocks of that area's division hold it.
abbrev pub spot_number : Spot → ℕ
spot_number s = number_of (whole s.a s.b) (square s.u s.v)

abbrev pub spot_blocks : Spot → ℕ
spot_blocks s = blocks_holding (whole s.a s.b) (square s.u s.v)

-- A spot that lies in its block, `before` numbers on.
pub record Lying (s : Spot) (before : ℕ) : Type 0 where
  pub a_limit : s.a ≤ longest_side
  pub b_limit : s.b ≤ longest_side
  pub along : s.u < s.a
  pub across : s.v < s.b
  pub room : before + s.a * s.b < past_32_bits

-- One step down from a spot to the same square in a smaller block: the same number, and one block more that holds it.
pub record Leads (s : Spot) (before : ℕ) (t : Spot) (on : ℕ) : Type 0 where
  pub lying : Lying t on
  pub falls : t.a * t.b < s.a * s.b
  pub number : on + spot_number t ≡ before + spot_number s
  pub holding : spot_blocks s ≡ suc (spot_blocks t)

-- A search for a spot in a block that `above` blocks hold: the count of those that hold its square has 32 bits.
pub record Searches (s : Spot) (before above : ℕ) : Type 0 where
  pub lying : Lying s before
  pub count : above + spot_blocks s < past_32_bits
