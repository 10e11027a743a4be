-- `layouts::numbers_held` meets its contract. The invariant: the first i numbers stand at the places of their entries.
use Rattle.std.proofs.Common.{ℕ, ◌+◌, ◌<◌, true, get_or}
use Rattle.sectors.specs.Sectors.{words_of}
use Rattle.layouts.specs.Steps.{Told}
use Rattle.layouts.proofs.numbers_held.Given as goal

abbrev pub invariant-loop-i : goal.invariant-loop-i
invariant-loop-i l = (j : ℕ) → j < l.i → Told true (words_of l.file) (l.first + j) (get_or l.entries j 0)
