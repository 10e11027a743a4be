-- One word more is copied by each turn.
use Rattle.std.proofs.Common.{arith}
use Rattle.sectors.proofs.Words.{words_length}
use Rattle.sectors.specs.Sectors.{words_of}
use Rattle.sectors.proofs.Entering.{one_more}
use Rattle.sectors.proofs.copy_words.Goals as goal

pub loop-i-preserved : goal.loop-i-preserved
loop-i-preserved c =
    let all = words_length c.args.bytes.now in
    one_more (words_of c.args.bytes.now) c.args.words.now c.loop-i.i c.word_at.result (omega arith) (omega arith) c.word_at.ensures c.loop-i.invariant
