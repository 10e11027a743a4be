-- `leaves::fill_leaf` meets its contract: its entries, two by two, are the block's in order, up the side and down again. The stops are the rungs, low, middle
-- and high, the entries, and the test of how deep the block is.
use mathlib.Core.Path.{refl, ◌∙◌}
use Rattle.leaves.specs.Walk.{enter_one}
use Rattle.leaves.proofs.Leaves.{up_fits, top_fits, down_from_two, down_from_three}
use Rattle.leaves.proofs.Leaves.{count_two_deep, count_three_deep, over_two_deep, over_three_deep}
use Rattle.leaves.proofs.fill_leaf.Goals as goal

pub enter_two-requires : goal.enter_two-requires
enter_two-requires g c = up_fits c.requires refl c.rung_at-low.ensures.near c.rung_at-middle.ensures.near

pub enter_two-requires-then-deep-eq2 : goal.enter_two-requires-then-deep-eq2
enter_two-requires-then-deep-eq2 g c =
    down_from_two c.requires c.enter_two.auto.table c.rung_at-middle.ensures.far c.rung_at-low.ensures.far

pub returns-then-deep-eq2-clause-table : goal.returns-then-deep-eq2-clause-table
returns-then-deep-eq2-clause-table g c = over_two_deep c.requires (enter_one g.T.Kind.BY_SQUARE) c.args.table.now
    (c.rung_at-low.ensures.near, c.rung_at-low.ensures.far) (c.rung_at-middle.ensures.near, c.rung_at-middle.ensures.far)
    c.enter_two.ensures c.if-deep-eq2.true c.enter_two-then-deep-eq2.ensures

pub returns-then-deep-eq2-clause-count : goal.returns-then-deep-eq2-clause-count
returns-then-deep-eq2-clause-count g c = count_two_deep c.requires c.if-deep-eq2.true

pub enter_two-requires-2 : goal.enter_two-requires-2
enter_two-requires-2 g c =
    top_fits c.requires c.enter_two.auto.table c.if-deep-eq2.false (c.rung_at-high.ensures.near, c.rung_at-high.ensures.far)

pub enter_two-requires-3 : goal.enter_two-requires-3
enter_two-requires-3 g c =
    down_from_three c.requires (c.enter_two-2.auto.table ∙ c.enter_two.auto.table) c.if-deep-eq2.false c.rung_at-middle.ensures.far
    c.rung_at-low.ensures.far

pub returns-clause-table : goal.returns-clause-table
returns-clause-table g c = over_three_deep c.requires (enter_one g.T.Kind.BY_SQUARE) c.args.table.now (c.rung_at-low.ensures.near, c.rung_at-low.ensures.far)
    (c.rung_at-middle.ensures.near, c.rung_at-middle.ensures.far)
    c.enter_two.ensures c.if-deep-eq2.false (c.rung_at-high.ensures.near, c.rung_at-high.ensures.far) c.enter_two-2.ensures c.enter_two-3.ensures

pub returns-clause-count : goal.returns-clause-count
returns-clause-count g c = count_three_deep c.requires c.if-deep-eq2.false
