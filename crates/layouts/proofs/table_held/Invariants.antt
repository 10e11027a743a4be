-- `layouts::table_held` meets its contract. The invariant: the table is right up to `first`, which begins a block; the measure is what is left of it.
use Rattle.std.proofs.Common.{◌≡◌, ℕ, ◌-◌, ◌%◌, ◌<◌, length, get_or}
use Rattle.sectors.specs.Sectors.{words_of}
use Rattle.layouts.specs.Steps.{Told, entries}
use Rattle.layouts.proofs.table_held.Given as goal

abbrev pub invariant-loop-first : goal.invariant-loop-first
invariant-loop-first g l =
    (l.first % 126 ≡ 0)
    × (length l.buffer ≡ 1008)
    × ((i : ℕ) → i < l.first → i < l.places → Told g.T.Kind.BY_SQUARE (words_of l.file) i (get_or (entries l.area.w l.area.h) i 0))

abbrev pub decreases-loop-first : goal.decreases-loop-first
decreases-loop-first g l = l.places - l.first
