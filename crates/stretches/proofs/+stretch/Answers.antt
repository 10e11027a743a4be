-- The three functions of a stretch's walk meet their contracts, by the laws of `PartByPart` and `Stretches`.
use mathlib.Core.Path.{refl, sym, ◌∙◌}
use Rattle.leaves.proofs.PartByPart.{side_call, side_over, first_call, second_call, long_steps, a_call, b_call, c_call, u_steps}
use Rattle.stretches.specs.Stretch.{put_from}
use Rattle.stretches.proofs.Stretches.{skip_before, skip_behind, filled_stretch}
use Rattle.stretches.proofs.+stretch.Goals as goal

pub stretch_block-returns-then-at-n : goal.stretch_block-returns-then-at-n
stretch_block-returns-then-at-n t c =
    skip_before c.requires c.args.first c.args.out.now c.if-at-n.true

pub stretch_block-returns-then-first-out : goal.stretch_block-returns-then-first-out
stretch_block-returns-then-first-out t c =
    skip_behind c.requires c.args.first c.args.out.now c.if-first-out.true

pub stretch_block-returns-then-at-first : goal.stretch_block-returns-then-at-first
stretch_block-returns-then-at-first t c =
    filled_stretch c.requires c.args.first c.args.out.now c.if-first-at.true c.fill_block.ensures.table

pub stretch_block-put_straight-requires-in-StraightSide : goal.stretch_block-put_straight-requires-in-StraightSide
stretch_block-put_straight-requires-in-StraightSide t c =
    let side = c.exchanged in
    side_call c.requires (sym c.choose.ensures ∙ c.in-StraightSide.is) side.result side.ensures.placed side.ensures.first

pub stretch_block-returns-in-StraightSide : goal.stretch_block-returns-in-StraightSide
stretch_block-returns-in-StraightSide t c =
    let side = c.exchanged in
    c.put_straight-in-StraightSide.ensures
    ∙ side_over c.requires (sym c.choose.ensures ∙ c.in-StraightSide.is) (put_from c.args.first) c.args.out.now side.result side.ensures.placed
    side.ensures.first

pub stretch_long_cut-stretch_block-requires : goal.stretch_long_cut-stretch_block-requires
stretch_long_cut-stretch_block-requires t c =
    let near = c.long_part in
    first_call (c.decreases, c.requires) refl near.result near.ensures.placed near.ensures.first

pub stretch_long_cut-stretch_block-requires-2 : goal.stretch_long_cut-stretch_block-requires-2
stretch_long_cut-stretch_block-requires-2 t c =
    let far = c.long_part-2 in
    second_call (c.decreases, c.requires) refl far.result far.ensures.placed far.ensures.first

pub stretch_long_cut-returns : goal.stretch_long_cut-returns
stretch_long_cut-returns t c =
    let near = c.long_part in
    let far = c.long_part-2 in
    long_steps (c.decreases, c.requires) (put_from c.args.first) c.args.out.now near.ensures.placed near.ensures.first far.ensures.placed
    far.ensures.first c.stretch_block.ensures c.stretch_block-2.ensures

pub stretch_u_cut-stretch_block-requires : goal.stretch_u_cut-stretch_block-requires
stretch_u_cut-stretch_block-requires t c =
    let up = c.part_a in
    a_call (c.decreases, c.requires) refl up.result up.ensures.placed up.ensures.first

pub stretch_u_cut-stretch_block-requires-2 : goal.stretch_u_cut-stretch_block-requires-2
stretch_u_cut-stretch_block-requires-2 t c =
    let over = c.part_b in
    b_call (c.decreases, c.requires) refl over.result over.ensures.placed over.ensures.first

pub stretch_u_cut-stretch_block-requires-3 : goal.stretch_u_cut-stretch_block-requires-3
stretch_u_cut-stretch_block-requires-3 t c =
    let down = c.part_c in
    c_call (c.decreases, c.requires) refl down.result down.ensures.placed down.ensures.first

pub stretch_u_cut-returns : goal.stretch_u_cut-returns
stretch_u_cut-returns t c =
    let up = c.part_a in
    let over = c.part_b in
    let down = c.part_c in
    u_steps (c.decreases, c.requires) (put_from c.args.first) c.args.out.now up.ensures.placed up.ensures.first over.ensures.placed over.ensures.first
    down.ensures.placed down.ensures.first c.stretch_block.ensures c.stretch_block-2.ensures c.stretch_block-3.ensures
