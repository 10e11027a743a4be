-- The three functions of a check meet their contracts, by the laws of `PartByPart` and `Repeats`: the parts' looks in order, walked or compared, are the
-- block's.
use mathlib.Core.Path.{refl, sym, ◌∙◌}
use Rattle.division.specs.Forms.{block}
use Rattle.leaves.specs.Walk.{least_one}
use Rattle.leaves.proofs.PartByPart.{u_deep, side_call, side_over, first_call, second_call, long_steps, a_call, b_call, c_call, u_steps}
use Rattle.checks.proofs.Repeats.{found_before, second_asks, second_stands, c_asks, c_stands}
use Rattle.checks.proofs.+check.Goals as goal

-- what a call of the cycle asks, beside that its slice outlives it: its measure is less, and what it requires
handed_on : {Less Asked Outlives : Type 0} → Less × Asked → Outlives → Less × (Outlives × Asked)
handed_on asks outlives = (asks.0, (outlives, asks.1))

pub check_block-returns-then-not-none_before : goal.check_block-returns-then-not-none_before
check_block-returns-then-not-none_before g t c =
    let k = c.args.k in
    found_before c.args.area.w c.args.table.now (block k.placed) k.first c.args.so_far g.T.Kind.BY_SQUARE
    (sym c.BY_SQUARE.ensures ∙ c.if-not-BY_SQUARE.true) (sym c.none_before.ensures ∙ c.if-not-none_before.true)

pub check_block-check_straight-requires-in-StraightSide : goal.check_block-check_straight-requires-in-StraightSide
check_block-check_straight-requires-in-StraightSide g t c =
    let side = c.exchanged in
    side_call c.requires (sym c.choose.ensures ∙ c.in-StraightSide.is) side.result side.ensures.placed side.ensures.first

pub check_block-check_leaf-requires : goal.check_block-check_leaf-requires
check_block-check_leaf-requires g t c =
    (c.requires, c.if-a-eq2.true, u_deep c.requires (sym c.choose.ensures ∙ c.in-UCut.is), c.if-b-le3.true)

pub check_block-returns-in-StraightSide : goal.check_block-returns-in-StraightSide
check_block-returns-in-StraightSide g t c =
    let side = c.exchanged in
    c.check_straight-in-StraightSide.ensures
    ∙ side_over c.requires (sym c.choose.ensures ∙ c.in-StraightSide.is) (least_one g.T.Kind.BY_SQUARE c.args.table.now) c.args.so_far side.result
    side.ensures.placed side.ensures.first

pub check_long_cut-check_block-first-requires : goal.check_long_cut-check_block-first-requires
check_long_cut-check_block-first-requires g t c =
    let near = c.long_part-near in
    λ κs outlives. handed_on (first_call (c.decreases, c.requires) refl near.result near.ensures.placed near.ensures.first) outlives

pub check_long_cut-holds_again-requires : goal.check_long_cut-holds_again-requires
check_long_cut-holds_again-requires g t c =
    let near = c.long_part-near in
    let far = c.long_part-far in
    second_asks c.args.table.now (c.decreases, c.requires) g.T.Kind.BY_SQUARE near.result far.result near.ensures.placed near.ensures.first
    far.ensures.placed far.ensures.first c.args.so_far c.check_block-first.ensures c.comparable.ensures c.if-comparable.true

pub check_long_cut-returns-then-holds_again : goal.check_long_cut-returns-then-holds_again
check_long_cut-returns-then-holds_again g t c =
    let near = c.long_part-near in
    let far = c.long_part-far in
    long_steps (c.decreases, c.requires) (least_one g.T.Kind.BY_SQUARE c.args.table.now) c.args.so_far near.ensures.placed near.ensures.first
    far.ensures.placed far.ensures.first c.check_block-first.ensures
    (second_stands c.args.table.now (c.decreases, c.requires) g.T.Kind.BY_SQUARE near.result far.result near.ensures.placed near.ensures.first
    far.ensures.placed far.ensures.first c.args.so_far c.check_block-first.ensures c.comparable.ensures c.if-comparable.true
    (c.holds_again.ensures.0 c.if-holds_again.true))

pub check_long_cut-check_block-requires : goal.check_long_cut-check_block-requires
check_long_cut-check_block-requires g t c =
    let far = c.long_part-far in
    λ κs outlives. handed_on (second_call (c.decreases, c.requires) refl far.result far.ensures.placed far.ensures.first) outlives

pub check_long_cut-returns : goal.check_long_cut-returns
check_long_cut-returns g t c =
    let near = c.long_part-near in
    let far = c.long_part-far in
    long_steps (c.decreases, c.requires) (least_one g.T.Kind.BY_SQUARE c.args.table.now) c.args.so_far near.ensures.placed near.ensures.first
    far.ensures.placed far.ensures.first c.check_block-first.ensures c.check_block.ensures

pub check_u_cut-check_block-a-requires : goal.check_u_cut-check_block-a-requires
check_u_cut-check_block-a-requires g t c =
    let up = c.part_a-up in
    λ κs outlives. handed_on (a_call (c.decreases, c.requires) refl up.result up.ensures.placed up.ensures.first) outlives

pub check_u_cut-check_block-b-requires : goal.check_u_cut-check_block-b-requires
check_u_cut-check_block-b-requires g t c =
    let over = c.part_b in
    λ κs outlives. handed_on (b_call (c.decreases, c.requires) refl over.result over.ensures.placed over.ensures.first) outlives

pub check_u_cut-holds_again-requires : goal.check_u_cut-holds_again-requires
check_u_cut-holds_again-requires g t c =
    let up = c.part_a-up in
    let down = c.part_c-down in
    c_asks c.args.table.now (c.decreases, c.requires) g.T.Kind.BY_SQUARE up.result c.part_b.result down.result up.ensures.placed up.ensures.first
    down.ensures.placed down.ensures.first c.args.so_far c.check_block-a.ensures c.check_block-b.ensures c.comparable.ensures c.if-comparable.true

pub check_u_cut-returns-then-holds_again : goal.check_u_cut-returns-then-holds_again
check_u_cut-returns-then-holds_again g t c =
    let up = c.part_a-up in
    let over = c.part_b in
    let down = c.part_c-down in
    u_steps (c.decreases, c.requires) (least_one g.T.Kind.BY_SQUARE c.args.table.now) c.args.so_far up.ensures.placed up.ensures.first
    over.ensures.placed over.ensures.first down.ensures.placed down.ensures.first c.check_block-a.ensures c.check_block-b.ensures
    (c_stands c.args.table.now (c.decreases, c.requires) g.T.Kind.BY_SQUARE up.result over.result down.result up.ensures.placed up.ensures.first
    down.ensures.placed down.ensures.first c.args.so_far c.check_block-a.ensures c.check_block-b.ensures c.comparable.ensures c.if-comparable.true
    (c.holds_again.ensures.0 c.if-holds_again.true))

pub check_u_cut-check_block-requires : goal.check_u_cut-check_block-requires
check_u_cut-check_block-requires g t c =
    let down = c.part_c-down in
    λ κs outlives. handed_on (c_call (c.decreases, c.requires) refl down.result down.ensures.placed down.ensures.first) outlives

pub check_u_cut-returns : goal.check_u_cut-returns
check_u_cut-returns g t c =
    let up = c.part_a-up in
    let over = c.part_b in
    let down = c.part_c-down in
    u_steps (c.decreases, c.requires) (least_one g.T.Kind.BY_SQUARE c.args.table.now) c.args.so_far up.ensures.placed up.ensures.first
    over.ensures.placed over.ensures.first down.ensures.placed down.ensures.first c.check_block-a.ensures c.check_block-b.ensures c.check_block.ensures
