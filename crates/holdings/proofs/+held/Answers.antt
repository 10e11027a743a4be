-- The goals of the functions of the cycle `held`, under what stands in `Invariants.antt`.
use mathlib.Core.Bool.{true, false, not}
use mathlib.Core.Path.{refl, sym, ap, ◌∙◌}
use Prim.Native.Nat.{◌*◌}
use Rattle.division.specs.Division.{B, C, part}
use Rattle.division.specs.Forms.{block}
use Rattle.leaves.proofs.PartByPart.{first_call, second_call, long_steps, a_call, b_call, c_call, u_steps}
use Rattle.leaves.proofs.PartByPart.{side_call, side_over}
use Rattle.copies.proofs.Siblings.{second_again, c_again}
use Rattle.sectors.specs.Sectors.{words_of}
use Rattle.holdings.specs.Holdings.{table_in, right_one}
use Rattle.holdings.proofs.Standing.{table_long, held_so, then_wrong, then_right}
use Rattle.holdings.proofs.+held.Goals as goal

pub block_held-straight_held-requires-in-StraightSide : goal.block_held-straight_held-requires-in-StraightSide
block_held-straight_held-requires-in-StraightSide t c =
    let asked = c.requires in
    let side = c.exchanged in
    (asked.0, side_call asked.1 (sym c.choose.ensures ∙ c.in-StraightSide.is) side.result side.ensures.placed side.ensures.first)

pub block_held-returns-in-StraightSide : goal.block_held-returns-in-StraightSide
block_held-returns-in-StraightSide t c =
    let given = c.args in
    let side = c.exchanged in
    c.straight_held-in-StraightSide.ensures
    ∙ side_over c.requires.1 (sym c.choose.ensures ∙ c.in-StraightSide.is)
    (right_one (table_in (words_of given.file.now) (given.area.w * given.area.h))) true side.result side.ensures.placed side.ensures.first

pub long_cut_held-block_held-requires : goal.long_cut_held-block_held-requires
long_cut_held-block_held-requires t c =
    let near = c.long_part-near in
    let call = first_call (c.decreases, c.requires.1) refl near.result near.ensures.placed near.ensures.first in
    (call.0, (c.requires.0, call.1))

pub long_cut_held-returns-then-not-block_held : goal.long_cut_held-returns-then-not-block_held
long_cut_held-returns-then-not-block_held t c =
    let first = c.block_held in
    let near = c.long_part-near in
    let far = c.long_part-far in
    let t = table_in (words_of c.args.file.now) (c.args.area.w * c.args.area.h) in
    long_steps (c.decreases, c.requires.1) (right_one t) true near.ensures.placed near.ensures.first far.ensures.placed far.ensures.first first.ensures
    (then_wrong t c.args.area.w (block far.result.placed) _ first.result (ap not c.if-not-block_held.true))

pub long_cut_held-repeat_held-requires : goal.long_cut_held-repeat_held-requires
long_cut_held-repeat_held-requires t c =
    let words = words_of c.args.file.now in
    let near = c.long_part-near in
    let far = c.long_part-far in
    let first = c.block_held in
    let call = first_call (c.decreases, c.requires.1) refl near.result near.ensures.placed near.ensures.first in
    let held = held_so words call.1 first.result first.ensures (ap not c.if-not-block_held.false) in (
      c.requires.0,
      second_again (c.decreases, c.requires.1) near.result far.result near.ensures.placed near.ensures.first far.ensures.placed
          far.ensures.first (table_long words _) held c.if-near-far.true,
    )

pub long_cut_held-returns-then-near-far : goal.long_cut_held-returns-then-near-far
long_cut_held-returns-then-near-far t c =
    let first = c.block_held in
    let near = c.long_part-near in
    let far = c.long_part-far in
    let t = table_in (words_of c.args.file.now) (c.args.area.w * c.args.area.h) in
    long_steps (c.decreases, c.requires.1) (right_one t) true near.ensures.placed near.ensures.first far.ensures.placed far.ensures.first first.ensures
    (then_right t c.args.area.w (block far.result.placed) _ first.result (ap not c.if-not-block_held.false) c.repeat_held.ensures)

pub long_cut_held-block_held-requires-2 : goal.long_cut_held-block_held-requires-2
long_cut_held-block_held-requires-2 t c =
    let far = c.long_part-far in
    let call = second_call (c.decreases, c.requires.1) refl far.result far.ensures.placed far.ensures.first in
    (call.0, (c.requires.0, call.1))

pub long_cut_held-returns : goal.long_cut_held-returns
long_cut_held-returns t c =
    let first = c.block_held in
    let near = c.long_part-near in
    let far = c.long_part-far in
    let t = table_in (words_of c.args.file.now) (c.args.area.w * c.args.area.h) in
    long_steps (c.decreases, c.requires.1) (right_one t) true near.ensures.placed near.ensures.first far.ensures.placed far.ensures.first first.ensures
    (then_right t c.args.area.w (block far.result.placed) _ first.result (ap not c.if-not-block_held.false) c.block_held-2.ensures)

pub u_cut_held-block_held-requires : goal.u_cut_held-block_held-requires
u_cut_held-block_held-requires t c =
    let up = c.part_a-up in
    let call = a_call (c.decreases, c.requires.1) refl up.result up.ensures.placed up.ensures.first in
    (call.0, (c.requires.0, call.1))

pub u_cut_held-returns-then-not-block_held : goal.u_cut_held-returns-then-not-block_held
u_cut_held-returns-then-not-block_held t c =
    let first = c.block_held in
    let up = c.part_a-up in
    let t = table_in (words_of c.args.file.now) (c.args.area.w * c.args.area.h) in
    let w = c.args.area.w in
    let k = block c.args.k.placed in
    u_steps (c.decreases, c.requires.1) (right_one t) true up.ensures.placed up.ensures.first refl refl refl refl first.ensures
    (then_wrong t w (part B k) _ first.result (ap not c.if-not-block_held.true)) (then_wrong t w (part C k) _ false refl)

pub u_cut_held-block_held-requires-2 : goal.u_cut_held-block_held-requires-2
u_cut_held-block_held-requires-2 t c =
    let over = c.part_b in
    let call = b_call (c.decreases, c.requires.1) refl over.result over.ensures.placed over.ensures.first in
    (call.0, (c.requires.0, call.1))

pub u_cut_held-returns-then-not-block_held-2 : goal.u_cut_held-returns-then-not-block_held-2
u_cut_held-returns-then-not-block_held-2 t c =
    let up = c.part_a-up in
    let over = c.part_b in
    let t = table_in (words_of c.args.file.now) (c.args.area.w * c.args.area.h) in
    let w = c.args.area.w in
    let k = block c.args.k.placed in
    u_steps (c.decreases, c.requires.1) (right_one t) true up.ensures.placed up.ensures.first over.ensures.placed over.ensures.first refl refl
    c.block_held.ensures
    (then_right t w (block over.result.placed) _ c.block_held.result (ap not c.if-not-block_held.false) c.block_held-2.ensures)
    (then_wrong t w (part C k) _ c.block_held-2.result (ap not c.if-not-block_held-2.true))

pub u_cut_held-repeat_held-requires : goal.u_cut_held-repeat_held-requires
u_cut_held-repeat_held-requires t c =
    let words = words_of c.args.file.now in
    let up = c.part_a-up in
    let down = c.part_c-down in
    let looked = c.block_held in
    let call = a_call (c.decreases, c.requires.1) refl up.result up.ensures.placed up.ensures.first in
    let held = held_so words call.1 looked.result looked.ensures (ap not c.if-not-block_held.false) in (
      c.requires.0,
      c_again (c.decreases, c.requires.1) up.result down.result up.ensures.placed up.ensures.first down.ensures.placed down.ensures.first
          (table_long words _) held c.if-k-eq0.true,
    )

pub u_cut_held-returns-then-k-eq0 : goal.u_cut_held-returns-then-k-eq0
u_cut_held-returns-then-k-eq0 t c =
    let up = c.part_a-up in
    let over = c.part_b in
    let down = c.part_c-down in
    let t = table_in (words_of c.args.file.now) (c.args.area.w * c.args.area.h) in
    let w = c.args.area.w in
    u_steps (c.decreases, c.requires.1) (right_one t) true up.ensures.placed up.ensures.first over.ensures.placed over.ensures.first
    down.ensures.placed down.ensures.first c.block_held.ensures
    (then_right t w (block over.result.placed) _ c.block_held.result (ap not c.if-not-block_held.false) c.block_held-2.ensures)
    (then_right t w (block down.result.placed) _ c.block_held-2.result (ap not c.if-not-block_held-2.false) c.repeat_held.ensures)

pub u_cut_held-block_held-requires-3 : goal.u_cut_held-block_held-requires-3
u_cut_held-block_held-requires-3 t c =
    let down = c.part_c-down in
    let call = c_call (c.decreases, c.requires.1) refl down.result down.ensures.placed down.ensures.first in
    (call.0, (c.requires.0, call.1))

pub u_cut_held-returns : goal.u_cut_held-returns
u_cut_held-returns t c =
    let up = c.part_a-up in
    let over = c.part_b in
    let down = c.part_c-down in
    let t = table_in (words_of c.args.file.now) (c.args.area.w * c.args.area.h) in
    let w = c.args.area.w in
    u_steps (c.decreases, c.requires.1) (right_one t) true up.ensures.placed up.ensures.first over.ensures.placed over.ensures.first
    down.ensures.placed down.ensures.first c.block_held.ensures
    (then_right t w (block over.result.placed) _ c.block_held.result (ap not c.if-not-block_held.false) c.block_held-2.ensures)
    (then_right t w (block down.result.placed) _ c.block_held-2.result (ap not c.if-not-block_held-2.false) c.block_held-3.ensures)
