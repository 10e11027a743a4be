-- The two forms in which the code holds a block of the division, read as what the division says: a block at its place, and a block's lengths with
-- one of its squares. They render no sentence of document 01.
use Rattle.std.specs.Prelude.{Bool, true, false, not, cond, ◌≡◌, ℕ, ◌+◌, ◌-◌, ◌/◌, ◌≤◌}
use Rattle.terms.specs.Terms.{longest_side}
use Rattle.division.specs.declared.Choice.{Choice}
use Rattle.division.specs.declared.Placed.{Placed}
use Rattle.division.specs.declared.Spot.{Spot}
use Rattle.division.specs.Division.{square, Direction, +x, +y, -x, -y, Block, choice, even_half, Part, First, Second, A, B, C}
use Rattle.division.specs.Division.Inside.{Inside}

-- A direction by two bits: along y or along x, and backwards or not.
abbrev pub direction : (turned back : Bool) → Direction
direction false false = +x
direction true false = +y
direction false true = -x
direction true true = -y

-- The block that a placed one stands for.
abbrev pub block : Placed → Block
block k =
    record {
      start = cond k.turned (square k.across k.along) (square k.along k.across);
      run = direction k.turned k.back;
      a = k.a;
      side = direction (not k.turned) k.back;
      b = k.b;
    }

-- The block of a placed one's fields: a walk that calls itself passes them one by one.
abbrev pub block_at : (along across : ℕ) (turned back : Bool) (a b : ℕ) → Block
block_at along across turned back a b = block (record { along = along; across = across; turned = turned; back = back; a = a; b = b })

-- A placed block within the longest sides that the choice rule cuts so.
abbrev pub CutBy : Choice → Placed → Type 0
CutBy case k = Inside longest_side longest_side (block k) × (choice k.a k.b ≡ case)

-- A coordinate n squares on, or back, and what has to hold for that to be one.
abbrev pub stepped_to : ℕ → ℕ → Bool → ℕ
stepped_to at n back = cond back (at - n) (at + n)

abbrev pub Steps : ℕ → ℕ → Bool → Type 0
Steps at n true = n ≤ at
Steps at n false = at + n ≤ longest_side

-- A block's square at (u, v) as one of its parts has it.
abbrev pub seen_in : Part → Spot → Spot
seen_in First s = record { a = even_half s.a; b = s.b; u = s.u; v = s.v }
seen_in Second s = record { a = s.a - even_half s.a; b = s.b; u = s.u - even_half s.a; v = s.v }
seen_in A s = record { a = even_half s.b; b = s.a / 2; u = s.v; v = s.u }
seen_in B s = record { a = s.a; b = s.b - even_half s.b; u = s.u; v = s.v - even_half s.b }
seen_in C s = record { a = even_half s.b; b = s.a - s.a / 2; u = even_half s.b - 1 - s.v; v = s.a - 1 - s.u }
