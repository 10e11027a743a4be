-- `layouts::write_blocks` meets its contract. The invariant: the first b blocks of the table are written behind block 0.
use Rattle.std.proofs.Common.{◌≡◌, length}
use lib.Seq.{sets}
use Rattle.sectors.specs.Sectors.{words_of, packed}
use Rattle.layouts.proofs.write_blocks.Given as goal

abbrev pub invariant-loop-b : goal.invariant-loop-b
invariant-loop-b l =
    (goal.iterator-loop-b).can_next l.b-iterator
    × (goal.iterator-loop-b).is_finite l.b-iterator
    × (words_of l.file ≡ sets (words_of l.fn.file) 128 (packed (length l.yielded) l.table))
