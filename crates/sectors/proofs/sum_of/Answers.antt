-- `sectors::sum_of` meets its contract: the words are summed one by one, and their sum has no more than 39 bits.
use Rattle.std.proofs.Common.{ℕ, get_or, refl, rules, arith, ◌∙◌}
use borrow.Author.Tests.{tests}
use Rattle.std.proofs.lemmas.Iterator.{YieldsList-from_map, YieldsList-from_range}
use Rattle.std.proofs.lemmas.Iterator.Consumers.{fits_from_yields_list, sum_from_yields_List}
use Rattle.sectors.specs.Sectors.{words_of}
use Rattle.sectors.proofs.Words.{words_length}
use Rattle.sectors.proofs.Summing.{summed, sum_bound, sum_fits}
use Rattle.sectors.proofs.sum_of.Goals as goal

pub sum-requires-clause-fits : goal.sum-requires-clause-fits
sum-requires-clause-fits c =
    let h = λ (i : ℕ). get_or (words_of c.args.block.now) i 0 in
    fits_from_yields_list c.map.result _ (YieldsList-from_map _ h (YieldsList-from_range 0 127 127 c.map.ensures.source refl) c.map.ensures.closure
    (λ x r q k. search (rules, tests))) (sum_fits c.args.block.now (λ j l. (c.type_inv.block j).fits) c.requires)

pub returns-clause-value : goal.returns-clause-value
returns-clause-value c =
    let h = λ (i : ℕ). get_or (words_of c.args.block.now) i 0 in
    let all = words_length c.args.block.now in
    sum_from_yields_List c.map.result c.sum.result c.sum.ensures.ran (YieldsList-from_map _ h (YieldsList-from_range 0 127 127 c.map.ensures.source refl)
    c.map.ensures.closure (λ x r q k. search (rules, tests)))
    ∙ summed (words_of c.args.block.now) 127 (omega arith)

pub returns-clause-bound : goal.returns-clause-bound
returns-clause-bound c =
    let is = returns-clause-value c in
    let bound = sum_bound c.args.block.now (λ j l. (c.type_inv.block j).fits) c.requires in
    omega arith
