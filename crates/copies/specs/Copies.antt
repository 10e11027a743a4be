-- When a block of a table by number repeats another one: two blocks of the same lengths, whose directions are the same or all opposite, have places that
-- differ by a constant, or add up to one. It renders no sentence of document 01.
use Rattle.std.specs.Prelude.{◌≡◌, ℕ, ◌+◌, ◌-◌, ◌*◌, ◌%◌, ◌<◌, ◌≤◌, Bool, true, false, cond, List, map, length, take, drop, slice_index}
use Rattle.terms.specs.Terms.{past_32_bits}
use Rattle.division.specs.Division.{Direction, Block, against, curve}
use Rattle.division.specs.Division.Inside.{Inside}
use Rattle.leaves.specs.Walk.{place, Fits}

-- A place of one block as the other has it, in 32 bits: c more, or what is left of c.
abbrev pub image : (opposite : Bool) (c x : ℕ) → ℕ
image true c x = (c + (past_32_bits - x)) % past_32_bits
image false c x = (x + c) % past_32_bits

-- A direction as the other block has it.
abbrev pub facing : (opposite : Bool) → Direction → Direction
facing opposite d = cond opposite (against d) d

-- Each of n places from `to` on is what a copy would enter there.
abbrev pub Agree : (opposite : Bool) (c : ℕ) → List ℕ → (from to n : ℕ) → Type 0
Agree opposite c t from to n = (i : ℕ) → i < n → slice_index t (to + i) ≡ image opposite c (slice_index t (from + i))

-- The places of a block's squares, in the curve's order, stand in the table from `from` on.
abbrev pub Held : (w : ℕ) → List ℕ → Block → (from : ℕ) → Type 0
Held w t k from = take (k.a * k.b) (drop from t) ≡ map (place w) (curve k)

-- Block k, which has its room from `to` on, repeats block j, which stands in the table from `from` on, before it.
pub record Again (w h : ℕ) (t : List ℕ) (j : Block) (from : ℕ) (k : Block) (to : ℕ) (opposite : Bool) : Type 0 where
  pub fits : Fits false w h (length t) k to
  pub inside : Inside w h j
  pub held : Held w t j from
  pub before : from + j.a * j.b ≤ to
  pub same_a : k.a ≡ j.a
  pub same_b : k.b ≡ j.b
  pub run : k.run ≡ facing opposite j.run
  pub side : k.side ≡ facing opposite j.side
