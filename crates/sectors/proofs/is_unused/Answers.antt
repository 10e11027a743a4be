-- `sectors::is_unused` meets its contract: the words from `used` on are looked at one by one.
use Rattle.std.proofs.Common.{ℕ, ◌-◌, get_or, nat_eq, rules, refl}
use borrow.Author.Tests.{tests}
use Rattle.std.proofs.lemmas.Iterator.{YieldsList-from_range}
use Rattle.std.proofs.lemmas.Iterator.Search.{all_from_yields_List}
use Rattle.sectors.specs.Sectors.{words_of}
use Rattle.sectors.proofs.Summing.{zeros_told}
use Rattle.sectors.proofs.is_unused.Goals as goal

pub returns : goal.returns
returns c =
    let words = words_of c.args.block.now in
    let used = c.args.used in
    zeros_told words used (all_from_yields_List (λ (j : ℕ). nat_eq (get_or words j 0) 0) _ _ c.all.result c.all.ensures.ran
    (YieldsList-from_range used 126 (126 - used) refl refl) (λ x b q k. search (rules, tests)))
