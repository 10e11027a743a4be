-- `layouts::write_table` meets its contract: block 0 and then the table's blocks fill the whole file, so that its words are the card's, and its bytes too.
use Rattle.std.proofs.Common.{ℕ, ◌+◌, ◌*◌, ◌/◌, refl, ap, sym, ◌∙◌, length}
use Rattle.sectors.specs.Sectors.{words_of}
use Rattle.sectors.proofs.Words.{words_length}
use Rattle.layouts.specs.Layouts.{table_blocks}
use Rattle.layouts.proofs.Writing.{card_written}
use Rattle.layouts.proofs.write_table.Goals as goal

pub returns : goal.returns
returns c =
    let given = c.args in
    let same = c.write_blocks.auto.file ∙ c.write_head.auto.file in
    card_written given.area.w given.area.h given.kind given.table.now c.write_blocks.new.file (length given.table.now) refl (λ j l. (c.type_inv.file j).fits)
    (same ∙ c.requires.1 ∙ ap (λ (n : ℕ). 512 * (1 + table_blocks n)) (sym c.requires.2))
    (words_of given.file.now) (words_length given.file.now ∙ ap (λ (n : ℕ). n / 4) (sym same)) c.write_head.ensures c.write_blocks.ensures
