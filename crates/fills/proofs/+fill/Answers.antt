-- The three functions of a fill meet their contracts, by the laws of `PartByPart`, `Counts` and `Repeats`: the parts' entries in order, walked or copied, are
-- the block's.
use mathlib.Core.Path.{refl, sym, ◌∙◌}
use native.Mathlib.Omega.{arith}
use Rattle.leaves.specs.Walk.{enter_one}
use Rattle.leaves.proofs.PartByPart.{u_deep, side_call, side_over, first_call, second_call, long_steps, a_call, b_call, c_call, u_steps}
use Rattle.fills.proofs.Counts.{side_count, long_count, long_few, long_twice, long_twice_few, u_count, u_few, u_twice, u_twice_few}
use Rattle.fills.proofs.Repeats.{copied_so, second_asks, c_asks}
use Rattle.fills.proofs.+fill.Goals as goal

-- what a call of the cycle asks, beside that its slice outlives it: its measure is less, and what it requires
handed_on : {Less Asked Outlives : Type 0} → Less × Asked → Outlives → Less × (Outlives × Asked)
handed_on asks outlives = (asks.0, (outlives, asks.1))

pub fill_block-fill_straight-requires-in-StraightSide : goal.fill_block-fill_straight-requires-in-StraightSide
fill_block-fill_straight-requires-in-StraightSide g t c =
    let side = c.exchanged in
    side_call c.requires (sym c.choose.ensures ∙ c.in-StraightSide.is) side.result side.ensures.placed side.ensures.first

pub fill_block-fill_leaf-requires : goal.fill_block-fill_leaf-requires
fill_block-fill_leaf-requires g t c =
    (c.requires, c.if-a-eq2.true, u_deep c.requires (sym c.choose.ensures ∙ c.in-UCut.is), c.if-b-le3.true)

pub fill_block-returns-in-StraightSide-clause-table : goal.fill_block-returns-in-StraightSide-clause-table
fill_block-returns-in-StraightSide-clause-table g t c =
    let side = c.exchanged in
    c.fill_straight-in-StraightSide.ensures.table
    ∙ side_over c.requires (sym c.choose.ensures ∙ c.in-StraightSide.is) (enter_one g.T.Kind.BY_SQUARE) c.args.table.now side.result side.ensures.placed
    side.ensures.first

pub fill_block-returns-in-StraightSide-clause-count : goal.fill_block-returns-in-StraightSide-clause-count
fill_block-returns-in-StraightSide-clause-count g t c =
    let side = c.exchanged in
    c.fill_straight-in-StraightSide.ensures.count
    ∙ side_count c.requires (sym c.choose.ensures ∙ c.in-StraightSide.is) side.result side.ensures.placed side.ensures.first

pub fill_long_cut-fill_block-first-requires : goal.fill_long_cut-fill_block-first-requires
fill_long_cut-fill_block-first-requires g t c =
    let near = c.long_part-near in
    λ κs outlives. handed_on (first_call (c.decreases, c.requires) refl near.result near.ensures.placed near.ensures.first) outlives

pub fill_long_cut-fill_again-requires : goal.fill_long_cut-fill_again-requires
fill_long_cut-fill_again-requires g t c =
    let near = c.long_part-near in
    let far = c.long_part-far in
    second_asks g.T.Kind.BY_SQUARE (sym c.BY_SQUARE.ensures ∙ c.if-not-BY_SQUARE.true) c.args.table.now (c.decreases, c.requires) near.result far.result
    near.ensures.placed near.ensures.first far.ensures.placed far.ensures.first c.fill_block-first.ensures.table c.fill_block-first.auto.table
    c.if-near-far.true

pub fill_long_cut-returns-then-near-far-clause-table : goal.fill_long_cut-returns-then-near-far-clause-table
fill_long_cut-returns-then-near-far-clause-table g t c =
    let near = c.long_part-near in
    let far = c.long_part-far in
    long_steps (c.decreases, c.requires) (enter_one g.T.Kind.BY_SQUARE) c.args.table.now near.ensures.placed near.ensures.first far.ensures.placed
    far.ensures.first c.fill_block-first.ensures.table
    (copied_so g.T.Kind.BY_SQUARE (sym c.BY_SQUARE.ensures ∙ c.if-not-BY_SQUARE.true) _ _ _ _ c.fill_again.ensures)

pub fill_long_cut-returns-then-near-far-clause-count : goal.fill_long_cut-returns-then-near-far-clause-count
fill_long_cut-returns-then-near-far-clause-count g t c =
    let near = c.long_part-near in
    let far = c.long_part-far in
    let counted = c.fill_block-first.ensures.count in
    long_twice (c.decreases, c.requires) near.result far.result near.ensures.placed near.ensures.first far.ensures.placed counted c.if-near-far.true

-- the sums are at most the count that is returned
pub fill_long_cut-overflow_add-result : goal.fill_long_cut-overflow_add-result
fill_long_cut-overflow_add-result g t c =
    let near = c.long_part-near in
    let far = c.long_part-far in
    let counted = c.fill_block-first.ensures.count in
    let few = long_twice_few (c.decreases, c.requires) near.result far.result near.ensures.placed near.ensures.first far.ensures.placed counted
    c.if-near-far.true in
    record { fits = omega arith }

pub fill_long_cut-overflow_add-result-then-near-far : goal.fill_long_cut-overflow_add-result-then-near-far
fill_long_cut-overflow_add-result-then-near-far g t c =
    let near = c.long_part-near in
    let far = c.long_part-far in
    let counted = c.fill_block-first.ensures.count in
    let few = long_twice_few (c.decreases, c.requires) near.result far.result near.ensures.placed near.ensures.first far.ensures.placed counted
    c.if-near-far.true in
    record { fits = omega arith }

pub fill_long_cut-fill_block-second-requires : goal.fill_long_cut-fill_block-second-requires
fill_long_cut-fill_block-second-requires g t c =
    let far = c.long_part-far in
    λ κs outlives. handed_on (second_call (c.decreases, c.requires) c.fill_block-first.auto.table far.result far.ensures.placed far.ensures.first) outlives

pub fill_long_cut-returns-clause-table : goal.fill_long_cut-returns-clause-table
fill_long_cut-returns-clause-table g t c =
    let near = c.long_part-near in
    let far = c.long_part-far in
    long_steps (c.decreases, c.requires) (enter_one g.T.Kind.BY_SQUARE) c.args.table.now near.ensures.placed near.ensures.first far.ensures.placed
    far.ensures.first c.fill_block-first.ensures.table c.fill_block-second.ensures.table

pub fill_long_cut-returns-clause-count : goal.fill_long_cut-returns-clause-count
fill_long_cut-returns-clause-count g t c =
    let near = c.long_part-near in
    let far = c.long_part-far in
    long_count (c.decreases, c.requires) near.result far.result near.ensures.placed near.ensures.first far.ensures.placed c.fill_block-first.ensures.count
    c.fill_block-second.ensures.count

pub fill_long_cut-overflow_add-result-2 : goal.fill_long_cut-overflow_add-result-2
fill_long_cut-overflow_add-result-2 g t c =
    let near = c.long_part-near in
    let far = c.long_part-far in
    let few = long_few (c.decreases, c.requires) near.result far.result near.ensures.placed near.ensures.first far.ensures.placed
    c.fill_block-first.ensures.count c.fill_block-second.ensures.count in
    record { fits = omega arith }

pub fill_long_cut-overflow_add-result-3 : goal.fill_long_cut-overflow_add-result-3
fill_long_cut-overflow_add-result-3 g t c =
    let near = c.long_part-near in
    let far = c.long_part-far in
    let few = long_few (c.decreases, c.requires) near.result far.result near.ensures.placed near.ensures.first far.ensures.placed
    c.fill_block-first.ensures.count c.fill_block-second.ensures.count in
    record { fits = omega arith }

pub fill_u_cut-fill_block-a-requires : goal.fill_u_cut-fill_block-a-requires
fill_u_cut-fill_block-a-requires g t c =
    let up = c.part_a-up in
    λ κs outlives. handed_on (a_call (c.decreases, c.requires) refl up.result up.ensures.placed up.ensures.first) outlives

pub fill_u_cut-fill_block-b-requires : goal.fill_u_cut-fill_block-b-requires
fill_u_cut-fill_block-b-requires g t c =
    let over = c.part_b in
    λ κs outlives. handed_on (b_call (c.decreases, c.requires) c.fill_block-a.auto.table over.result over.ensures.placed over.ensures.first) outlives

pub fill_u_cut-fill_again-requires : goal.fill_u_cut-fill_again-requires
fill_u_cut-fill_again-requires g t c =
    let up = c.part_a-up in
    let down = c.part_c-down in
    c_asks g.T.Kind.BY_SQUARE (sym c.BY_SQUARE.ensures ∙ c.if-not-BY_SQUARE.true) c.args.table.now (c.decreases, c.requires) up.result c.part_b.result
    down.result up.ensures.placed up.ensures.first c.part_b.ensures.first down.ensures.placed down.ensures.first c.fill_block-a.ensures.table
    c.fill_block-b.ensures.table c.fill_block-a.auto.table c.fill_block-b.auto.table c.if-k-eq0.true

pub fill_u_cut-returns-then-k-eq0-clause-table : goal.fill_u_cut-returns-then-k-eq0-clause-table
fill_u_cut-returns-then-k-eq0-clause-table g t c =
    let up = c.part_a-up in
    let over = c.part_b in
    let down = c.part_c-down in
    u_steps (c.decreases, c.requires) (enter_one g.T.Kind.BY_SQUARE) c.args.table.now up.ensures.placed up.ensures.first over.ensures.placed
    over.ensures.first down.ensures.placed down.ensures.first c.fill_block-a.ensures.table c.fill_block-b.ensures.table
    (copied_so g.T.Kind.BY_SQUARE (sym c.BY_SQUARE.ensures ∙ c.if-not-BY_SQUARE.true) _ _ _ _ c.fill_again.ensures)

pub fill_u_cut-returns-then-k-eq0-clause-count : goal.fill_u_cut-returns-then-k-eq0-clause-count
fill_u_cut-returns-then-k-eq0-clause-count g t c =
    let up = c.part_a-up in
    let over = c.part_b in
    let down = c.part_c-down in
    u_twice (c.decreases, c.requires) up.result over.result down.result up.ensures.placed up.ensures.first over.ensures.placed
    down.ensures.placed c.fill_block-a.ensures.count c.fill_block-b.ensures.count c.if-k-eq0.true

pub fill_u_cut-overflow_add-result : goal.fill_u_cut-overflow_add-result
fill_u_cut-overflow_add-result g t c =
    let up = c.part_a-up in
    let over = c.part_b in
    let down = c.part_c-down in
    let few = u_twice_few (c.decreases, c.requires) up.result over.result down.result up.ensures.placed up.ensures.first over.ensures.placed
    down.ensures.placed c.fill_block-a.ensures.count c.fill_block-b.ensures.count c.if-k-eq0.true in
    record { fits = omega arith }

pub fill_u_cut-overflow_add-result-then-k-eq0 : goal.fill_u_cut-overflow_add-result-then-k-eq0
fill_u_cut-overflow_add-result-then-k-eq0 g t c =
    let up = c.part_a-up in
    let over = c.part_b in
    let down = c.part_c-down in
    let few = u_twice_few (c.decreases, c.requires) up.result over.result down.result up.ensures.placed up.ensures.first over.ensures.placed
    down.ensures.placed c.fill_block-a.ensures.count c.fill_block-b.ensures.count c.if-k-eq0.true in
    record { fits = omega arith }

pub fill_u_cut-overflow_add-result-then-k-eq0-2 : goal.fill_u_cut-overflow_add-result-then-k-eq0-2
fill_u_cut-overflow_add-result-then-k-eq0-2 g t c =
    let up = c.part_a-up in
    let over = c.part_b in
    let down = c.part_c-down in
    let few = u_twice_few (c.decreases, c.requires) up.result over.result down.result up.ensures.placed up.ensures.first over.ensures.placed
    down.ensures.placed c.fill_block-a.ensures.count c.fill_block-b.ensures.count c.if-k-eq0.true in
    record { fits = omega arith }

pub fill_u_cut-fill_block-c-requires : goal.fill_u_cut-fill_block-c-requires
fill_u_cut-fill_block-c-requires g t c =
    let down = c.part_c-down in
    λ κs outlives. handed_on (c_call (c.decreases, c.requires) (c.fill_block-b.auto.table ∙ c.fill_block-a.auto.table) down.result down.ensures.placed
    down.ensures.first) outlives

pub fill_u_cut-returns-clause-table : goal.fill_u_cut-returns-clause-table
fill_u_cut-returns-clause-table g t c =
    let up = c.part_a-up in
    let over = c.part_b in
    let down = c.part_c-down in
    u_steps (c.decreases, c.requires) (enter_one g.T.Kind.BY_SQUARE) c.args.table.now up.ensures.placed up.ensures.first over.ensures.placed
    over.ensures.first down.ensures.placed down.ensures.first c.fill_block-a.ensures.table c.fill_block-b.ensures.table c.fill_block-c.ensures.table

pub fill_u_cut-returns-clause-count : goal.fill_u_cut-returns-clause-count
fill_u_cut-returns-clause-count g t c =
    let up = c.part_a-up in
    let over = c.part_b in
    let down = c.part_c-down in
    u_count (c.decreases, c.requires) up.result over.result down.result up.ensures.placed up.ensures.first over.ensures.placed
    down.ensures.placed c.fill_block-a.ensures.count c.fill_block-b.ensures.count c.fill_block-c.ensures.count

pub fill_u_cut-overflow_add-result-2 : goal.fill_u_cut-overflow_add-result-2
fill_u_cut-overflow_add-result-2 g t c =
    let up = c.part_a-up in
    let over = c.part_b in
    let down = c.part_c-down in
    let few = u_few (c.decreases, c.requires) up.result over.result down.result up.ensures.placed up.ensures.first over.ensures.placed
    down.ensures.placed c.fill_block-a.ensures.count c.fill_block-b.ensures.count (c.fill_block-c.ensures.count) in
    record { fits = omega arith }

pub fill_u_cut-overflow_add-result-3 : goal.fill_u_cut-overflow_add-result-3
fill_u_cut-overflow_add-result-3 g t c =
    let up = c.part_a-up in
    let over = c.part_b in
    let down = c.part_c-down in
    let few = u_few (c.decreases, c.requires) up.result over.result down.result up.ensures.placed up.ensures.first over.ensures.placed
    down.ensures.placed c.fill_block-a.ensures.count c.fill_block-b.ensures.count (c.fill_block-c.ensures.count) in
    record { fits = omega arith }

pub fill_u_cut-overflow_add-result-4 : goal.fill_u_cut-overflow_add-result-4
fill_u_cut-overflow_add-result-4 g t c =
    let up = c.part_a-up in
    let over = c.part_b in
    let down = c.part_c-down in
    let few = u_few (c.decreases, c.requires) up.result over.result down.result up.ensures.placed up.ensures.first over.ensures.placed
    down.ensures.placed c.fill_block-a.ensures.count c.fill_block-b.ensures.count (c.fill_block-c.ensures.count) in
    record { fits = omega arith }
