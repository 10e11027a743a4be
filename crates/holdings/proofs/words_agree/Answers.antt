-- `holdings::words_agree` meets its contract: the words that are images are counted one by one.
use Rattle.std.proofs.Common.{refl, rules, arith}
use borrow.Author.Tests.{tests}
use Rattle.std.proofs.lemmas.Iterator.{YieldsList-from_range}
use Rattle.std.proofs.lemmas.Iterator.Consumers.{YieldsList-at, YieldsList-from_filter, count_from_yields_List}
use Rattle.sectors.specs.Sectors.{words_of}
use Rattle.holdings.proofs.Pieces.{agrees, agree_counted}
use Rattle.holdings.proofs.words_agree.Goals as goal

pub returns : goal.returns
returns c =
    let words = words_of c.args.file.now in
    let test = agrees c.args.by.opposite c.args.by.c words c.args.from c.args.to in
    let many = count_from_yields_List c.filter.result c.count-same.result c.count-same.ensures.ran (YieldsList-from_filter _ test
    (YieldsList-at c.filter.ensures.source (YieldsList-from_range 0 c.args.n c.args.n refl (omega arith))) c.filter.ensures.closure
    (λ x r q k. search (rules, tests))) in
    agree_counted c.args.by.opposite c.args.by.c words c.args.from c.args.to c.args.n many
