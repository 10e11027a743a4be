-- `descents::descend` meets its contract, by the laws of `PartWithNumber`: a straight block has the square in its row, and alone holds it.
use native.Mathlib.Omega.{arith}
use mathlib.Core.Path.{sym, ◌∙◌}
use Rattle.descents.proofs.PartWithNumber.{counted, run_steps, run_answered, side_steps, side_answered}
use Rattle.descents.proofs.+descend.Goals as goal

pub overflow_add-blocks : goal.overflow_add-blocks
overflow_add-blocks t c = let few = counted c.requires in record { fits = omega arith }

pub stepped-place-requires : goal.stepped-place-requires
stepped-place-requires t c = run_steps c.args.place.now c.requires (sym c.choose.ensures ∙ c.in-StraightRun.is)

pub returns-in-StraightRun-clause-square : goal.returns-in-StraightRun-clause-square
returns-in-StraightRun-clause-square t c =
    let there = c.stepped-place in
    (run_answered c.args.place.now c.requires (sym c.choose.ensures ∙ c.in-StraightRun.is) there.result there.ensures).0

pub returns-in-StraightRun-clause-count : goal.returns-in-StraightRun-clause-count
returns-in-StraightRun-clause-count t c =
    let there = c.stepped-place in
    (run_answered c.args.place.now c.requires (sym c.choose.ensures ∙ c.in-StraightRun.is) there.result there.ensures).1

pub stepped-place-requires-in-StraightSide : goal.stepped-place-requires-in-StraightSide
stepped-place-requires-in-StraightSide t c = side_steps c.args.place.now c.requires (sym c.choose.ensures ∙ c.in-StraightSide.is)

pub returns-in-StraightSide-clause-square : goal.returns-in-StraightSide-clause-square
returns-in-StraightSide-clause-square t c =
    let there = c.stepped-place-in-StraightSide in
    (side_answered c.args.place.now c.requires (sym c.choose.ensures ∙ c.in-StraightSide.is) there.result there.ensures).0

pub returns-in-StraightSide-clause-count : goal.returns-in-StraightSide-clause-count
returns-in-StraightSide-clause-count t c =
    let there = c.stepped-place-in-StraightSide in
    (side_answered c.args.place.now c.requires (sym c.choose.ensures ∙ c.in-StraightSide.is) there.result there.ensures).1
