-- `layouts::entries_held` meets its contract. The invariant: the entries of the parts looked at are there.
use Rattle.std.proofs.Common.{ℕ, ◌+◌, ◌*◌, ◌<◌, false, get_or, length}
use Rattle.sectors.specs.Sectors.{words_of}
use Rattle.layouts.specs.Steps.{Told}
use Rattle.layouts.proofs.entries_held.Given as goal

abbrev pub invariant-loop-words : goal.invariant-loop-words
invariant-loop-words l =
    (goal.iterator-loop-words).can_next l.words-iterator
    × (goal.iterator-loop-words).is_finite l.words-iterator
    × ((i : ℕ) → i < 126 * length l.yielded → i < length l.entries → Told false (words_of l.file) (l.first + i) (get_or l.entries i 0))
