-- `searches::search` meets its contract, by the laws of `PartWithSquare`: a straight block has the square's number in its row, and alone holds
-- the square.
use native.Mathlib.Omega.{arith}
use mathlib.Core.Path.{sym, ap₂, ◌∙◌}
use Rattle.searches.specs.Searches.{numbered}
use Rattle.searches.proofs.PartWithSquare.{counted, run_answered, side_answered}
use Rattle.searches.proofs.+search.Goals as goal

pub overflow_add-blocks : goal.overflow_add-blocks
overflow_add-blocks t c = let few = counted c.requires in record { fits = omega arith }

pub returns-in-StraightRun : goal.returns-in-StraightRun
returns-in-StraightRun t c =
    let there = run_answered c.requires (sym c.choose.ensures ∙ c.in-StraightRun.is) in ap₂ numbered there.0 there.1

pub returns-in-StraightSide : goal.returns-in-StraightSide
returns-in-StraightSide t c =
    let there = side_answered c.requires (sym c.choose.ensures ∙ c.in-StraightSide.is) in ap₂ numbered there.0 there.1
