-- `leaves::check_leaf` meets its contract: its looks, two by two, are the block's in order, up the side and down again. The stops are the rungs, low, middle
-- and high, the looks, and the test of how deep the block is.
use mathlib.Core.Path.{refl}
use Rattle.leaves.specs.Walk.{least_one}
use Rattle.leaves.proofs.Leaves.{up_fits, top_fits, down_from_two, down_from_three, over_two_deep, over_three_deep}
use Rattle.leaves.proofs.check_leaf.Goals as goal

pub compare_two-first-requires : goal.compare_two-first-requires
compare_two-first-requires g c = up_fits c.requires refl c.rung_at-low.ensures.near c.rung_at-middle.ensures.near

pub compare_two-requires : goal.compare_two-requires
compare_two-requires g c =
    down_from_two c.requires refl c.rung_at-middle.ensures.far c.rung_at-low.ensures.far

pub returns-then-deep-eq2 : goal.returns-then-deep-eq2
returns-then-deep-eq2 g c =
    over_two_deep c.requires (least_one g.T.Kind.BY_SQUARE c.args.table.now) c.args.so_far (c.rung_at-low.ensures.near, c.rung_at-low.ensures.far)
    (c.rung_at-middle.ensures.near, c.rung_at-middle.ensures.far) c.compare_two-first.ensures c.if-deep-eq2.true c.compare_two.ensures

pub compare_two-second-requires : goal.compare_two-second-requires
compare_two-second-requires g c = top_fits c.requires refl c.if-deep-eq2.false (c.rung_at-high.ensures.near, c.rung_at-high.ensures.far)

pub compare_two-requires-2 : goal.compare_two-requires-2
compare_two-requires-2 g c =
    down_from_three c.requires refl c.if-deep-eq2.false c.rung_at-middle.ensures.far c.rung_at-low.ensures.far

pub returns : goal.returns
returns g c =
    over_three_deep c.requires (least_one g.T.Kind.BY_SQUARE c.args.table.now) c.args.so_far (c.rung_at-low.ensures.near, c.rung_at-low.ensures.far)
    (c.rung_at-middle.ensures.near, c.rung_at-middle.ensures.far) c.compare_two-first.ensures c.if-deep-eq2.false
    (c.rung_at-high.ensures.near, c.rung_at-high.ensures.far) c.compare_two-second.ensures
    c.compare_two-2.ensures
