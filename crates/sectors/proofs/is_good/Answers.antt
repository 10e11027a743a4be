-- `sectors::is_good` meets its contract: the word behind the others is compared with the check that is due to them.
use Rattle.std.proofs.Common.{nat_eq, ap₂}
use Rattle.sectors.specs.Sectors.{good}
use Rattle.sectors.proofs.is_good.Goals as goal

pub returns : goal.returns
unfolding good
returns c = ap₂ nat_eq c.word_at.ensures c.check_due.ensures
