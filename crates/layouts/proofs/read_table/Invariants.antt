-- `layouts::read_table` meets its contract. The invariant: the places of the blocks before b are copied.
use Rattle.std.proofs.Common.{◌≡◌, ℕ, ◌*◌, ◌<◌, get_or}
use Rattle.sectors.specs.Sectors.{words_of}
use Rattle.layouts.specs.Steps.{table_word}
use Rattle.layouts.proofs.read_table.Given as goal

abbrev pub invariant-loop-b : goal.invariant-loop-b
invariant-loop-b l = (p : ℕ) → p < 126 * l.b → p < l.places → get_or l.table p 0 ≡ table_word (words_of l.file) p
