-- What the walks that fill and check a table ask and leave: for each square of a block, in the curve's order, an entry stored or a place looked at.
-- For one block, the fills and the check of document 01, "What a lookup and a table say".
use Rattle.std.specs.Prelude.{Bool, true, cond, Option, Some, None, List, [], ◌∷◌, map, ◌≡◌, ℕ, suc, ◌+◌, ◌*◌, ◌≤◌, ◌<◌, leb, eqb, get_or, set}
use Rattle.terms.specs.Terms.{longest_side, past_32_bits}
use Rattle.division.specs.Division.{Square, Block, moved, curve}
use Rattle.division.specs.Division.Inside.{Inside}
use Rattle.division.specs.declared.Choice.{Choice}
use Rattle.division.specs.Forms.{CutBy}
use Rattle.leaves.specs.declared.Numbered.{Numbered}
use Rattle.leaves.specs.declared.Wrong.{Wrong}

-- A square's place in a table by square, which is what a table by number holds.
abbrev pub place : (w : ℕ) → Square → ℕ
place w s = s.y * w + s.x

-- What a step makes of a state for each of a list of places in order, numbered on from n; so, for a block's squares, numbered on from `at`.
unfoldable pub over : {S : Type 0} → (S → ℕ → ℕ → S) → S → (n : ℕ) → List ℕ → S
over step state n [] = state
over step state n (p ∷ ps) = over step (step state n p) (suc n) ps

abbrev pub over_block : {S : Type 0} → (S → ℕ → ℕ → S) → S → (w : ℕ) → Block → (at : ℕ) → S
over_block step state w k at = over step state at (map (place w) (curve k))

-- The table with square number n, at place p, entered: by square n at p, else p at n. So, with a block's squares entered.
abbrev pub enter_one : (by_square : Bool) → List ℕ → (n p : ℕ) → List ℕ
enter_one by_square t n p = set t (cond by_square p n) (cond by_square n p)

abbrev pub filled_with : (by_square : Bool) (w : ℕ) → List ℕ → Block → (at : ℕ) → List ℕ
filled_with by_square w t k at = over_block (enter_one by_square) t w k at

-- Of the wrong place found so far and another one, the one that comes first in the table. Whether none was found before a place.
abbrev pub sooner : Option Wrong → Wrong → Option Wrong
sooner None wrong = Some wrong
sooner (Some found) wrong = cond (leb found.place wrong.place) (Some found) (Some wrong)

abbrev pub none_before : (place : ℕ) → Option Wrong → Bool
none_before place None = true
none_before place (Some found) = leb place found.place

-- The least wrong place so far, with square number n, at place p, looked at: by square n is due at p, else p at n. So, with a block's squares.
abbrev pub least_one : (by_square : Bool) → List ℕ → (least : Option Wrong) → (n p : ℕ) → Option Wrong
least_one by_square t least n p =
    cond (eqb (get_or t (cond by_square p n) 0) (cond by_square n p)) least (sooner least (record { place = cond by_square p n; due = cond by_square n p }))

abbrev pub checked : (by_square : Bool) (w : ℕ) → List ℕ → Block → (at : ℕ) → Option Wrong → Option Wrong
checked by_square w t k at least = over_block (least_one by_square t) least w k at

-- A block that lies within its area, and whose numbers from `at` on are the area's, with room for it in a table of `size` places: by number as far as the
-- block's numbers go, so that a stretch of a table will do; by square for every square of the area, since its places lie anywhere.
pub record Fits (by_square : Bool) (w h size : ℕ) (k : Block) (at : ℕ) : Type 0 where
  pub w_limit : w ≤ longest_side
  pub h_limit : h ≤ longest_side
  pub inside : Inside w h k
  pub numbers : at + k.a * k.b ≤ w * h
  pub room : at + k.a * k.b ≤ size
  pub places : by_square ≡ true → w * h ≤ size

-- A block whose numbers are 32-bit ones, which the choice rule cuts so.
abbrev pub Countable : Choice → Numbered → Type 0
Countable case k = CutBy case k.placed × (k.first + k.placed.a * k.placed.b < past_32_bits)

-- A block with run and side exchanged: where it is straight, the same squares in the same order.
unfoldable pub exchanged : Block → Block
exchanged k = record { start = k.start; run = k.side; a = k.b; side = k.run; b = k.a }

-- The square that lies v along a block's side, and the one a step along the run from it.
abbrev pub near : Block → ℕ → Square
near k v = moved k.side v k.start

abbrev pub far : Block → ℕ → Square
far k v = moved k.side v (moved k.run 1 k.start)
