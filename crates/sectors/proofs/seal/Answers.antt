-- `sectors::seal` meets its contract: the count is entered first, so that the check sums it too.
use Rattle.std.proofs.Common.{arith}
use Rattle.sectors.specs.Sectors.{words_of}
use Rattle.sectors.proofs.Words.{words_length}
use Rattle.sectors.proofs.Sealing.{count_and_check}
use Rattle.sectors.proofs.seal.Goals as goal

pub returns : goal.returns
returns c =
    let all = words_length c.args.block.now in
    count_and_check (words_of c.args.block.now) c.args.used c.check_due-due.result (omega arith) c.put_word.ensures c.check_due-due.ensures
    c.put_word-2.ensures
