-- `sectors::has_words` meets its contract: the words that stand in their places are counted one by one.
use Rattle.std.proofs.Common.{ℕ, length, rules, subst, sym, nat_eq}
use borrow.Author.Tests.{tests}
use Rattle.std.proofs.lemmas.Iterator.{YieldsList-from_slice}
use Rattle.std.proofs.lemmas.Iterator.Consumers.{YieldsList-at, YieldsList-from_enumerate, YieldsList-from_filter, count_from_yields_List}
use Rattle.terms.specs.Telling.{Tells}
use Rattle.sectors.specs.Sectors.{words_of}
use Rattle.sectors.specs.Steps.{Has}
use Rattle.sectors.proofs.Summing.{there, counted}
use Rattle.sectors.proofs.has_words.Goals as goal

pub returns : goal.returns
returns c =
    let words = words_of c.args.bytes.now in
    let vs = c.args.words.now in
    let many = count_from_yields_List c.filter.result c.count-there.result c.count-there.ensures.ran (YieldsList-from_filter _ (there words)
    (YieldsList-at c.filter.ensures.source (YieldsList-from_enumerate (YieldsList-at c.enumerate.ensures.source (YieldsList-from_slice vs c.iter.ensures.rest))
    c.enumerate.ensures.count)) c.filter.ensures.closure (λ x r q k. search (rules, tests))) in
    subst (λ (n : ℕ). Tells (nat_eq n (length vs)) (Has words 0 vs)) (sym many) (counted words vs 0).1
