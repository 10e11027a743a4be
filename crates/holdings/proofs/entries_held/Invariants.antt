-- `holdings::entries_held` meets its contract. The invariant: the first `done` entries are there; the measure is how many are left.
use Rattle.std.proofs.Common.{◌≡◌, ℕ, ◌+◌, ◌-◌, ◌≤◌, ◌<◌, length, get_or}
use Rattle.sectors.specs.Sectors.{words_of}
use Rattle.holdings.specs.Holdings.{table_word}
use Rattle.holdings.proofs.entries_held.Given as goal

abbrev pub invariant-loop-done : goal.invariant-loop-done
invariant-loop-done l =
    (l.done ≤ length l.entries) × ((i : ℕ) → i < l.done → table_word (words_of l.file) (l.at + i) ≡ get_or l.entries i 0)

abbrev pub decreases-loop-done : goal.decreases-loop-done
decreases-loop-done l = length l.entries - l.done
