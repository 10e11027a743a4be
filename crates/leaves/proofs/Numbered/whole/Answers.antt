-- `leaves::Numbered::whole` meets its contract: the area's block is its definition.
use mathlib.Core.Path.{refl}
use Rattle.division.specs.Division.{whole}
use Rattle.leaves.proofs.Numbered.whole.Goals as goal

pub returns-clause-placed : goal.returns-clause-placed
unfolding whole
returns-clause-placed c = refl
