-- `sectors::word_at` meets its contract: the word of the four bytes that are read is word i of them all.
use Rattle.std.proofs.Common.{sym, ◌∙◌}
use Rattle.sectors.proofs.Words.{word_is, le_word}
use Rattle.sectors.proofs.word_at.Goals as goal

pub returns : goal.returns
returns c = c.from_le_bytes.ensures ∙ le_word _ _ _ _ ∙ sym (word_is c.args.bytes.now c.args.i c.requires)
