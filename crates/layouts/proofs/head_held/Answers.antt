-- The goals of `layouts::head_held`.
use Rattle.std.proofs.Common.{arith}
use Rattle.terms.proofs.Telling.{tells_so}
use Rattle.sectors.specs.Sectors.{words_of}
use Rattle.sectors.proofs.Blocks.{words_tell, frame_tells}
use Rattle.layouts.specs.Layouts.{head}
use Rattle.layouts.proofs.Judging.{no_first}
use Rattle.layouts.proofs.head_held.Goals as goal

pub returns-then-has_words : goal.returns-then-has_words
returns-then-has_words c =
    let words = words_of c.args.file.now in
    let told = words_tell words 0 c.block_of-block.ensures.words (head c.args.area.w c.args.area.h c.args.kind) (omega arith) c.has_words.ensures in
    tells_so (frame_tells words 0 c.block_of-block.ensures.words 4 c.is_framed.ensures) (λ f. (told.0 c.if-has_words.true, f)) (λ h. h.1)

pub returns-else-has_words : goal.returns-else-has_words
returns-else-has_words c =
    let words = words_of c.args.file.now in
    no_first (words_tell words 0 c.block_of-block.ensures.words (head c.args.area.w c.args.area.h c.args.kind) (omega arith) c.has_words.ensures)
    c.if-has_words.false (λ h. h.0)
