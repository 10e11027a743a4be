-- One word more is entered by each turn.
use Rattle.std.proofs.Common.{refl, ◌∙◌, arith}
use Rattle.sectors.proofs.Words.{words_length}
use Rattle.sectors.specs.Sectors.{words_of}
use Rattle.sectors.proofs.Entering.{one_more}
use Rattle.sectors.proofs.put_words.Goals as goal

pub loop-i-preserved : goal.loop-i-preserved
loop-i-preserved c =
    let all = words_length c.args.bytes.now in
    c.put_word.ensures
    ∙ one_more c.args.words.now (words_of c.args.bytes.now) c.loop-i.i _ (omega arith) (omega arith) refl c.loop-i.invariant
