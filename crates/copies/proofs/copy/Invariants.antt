-- `copies::copy` meets its contract. The invariant: the first i places are copied.
use Rattle.std.proofs.Common.{◌≡◌, ℕ, ◌<◌, ◌≤◌, length, get_or}
use Rattle.copies.specs.Copies.{image}
use Rattle.copies.proofs.copy.Given as goal

abbrev pub invariant-loop-i : goal.invariant-loop-i
invariant-loop-i l =
    (l.i ≤ length l.earlier)
    × (length l.later ≡ length l.initial.later)
    × ((k : ℕ) → k < l.i → get_or l.later k 0 ≡ image l.by.opposite l.by.c (get_or l.earlier k 0))
