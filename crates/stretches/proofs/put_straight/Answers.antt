-- The goals of `stretches::put_straight`, under what stands in `Invariants.antt`.
use mathlib.Core.List.{map}
use mathlib.Core.Path.{refl, ◌∙◌}
use native.Mathlib.Omega.{arith}
use Rattle.division.specs.Division.{curve}
use Rattle.division.specs.Forms.{block}
use Rattle.leaves.specs.Walk.{place}
use Rattle.leaves.proofs.Straight.{all_along, run_place_fits, run_entry}
use Rattle.stretches.proofs.Clipped.{put_none, in_stretch, put_next, put_all}
use Rattle.stretches.proofs.Stretches.{places_long}
use Rattle.stretches.proofs.put_straight.Goals as goal

pub loop-i-init : goal.loop-i-init
loop-i-init c =
    let asked = c.args in
    let skip = c.numbers_below-skip.ensures in
    (omega arith, omega arith, put_none asked.first asked.out.now asked.k.first _ asked.k.placed.a _ skip)

pub place_of-p-requires : goal.place_of-p-requires
place_of-p-requires c =
    run_place_fits c.args.k.placed c.requires c.loop-i.i (let asked = c.args in
    in_stretch asked.first asked.out.now asked.k.first (map (place asked.area.w) (curve (block asked.k.placed))) c.numbers_below-skip.ensures
    c.numbers_below-end.ensures c.loop-i.invariant.0 c.loop-i-test.true).0 c.stepped.ensures

pub loop-i-preserved : goal.loop-i-preserved
loop-i-preserved c =
    let k = c.args.k.placed in
    let i = c.loop-i.i in
    let in_it = (let asked = c.args in
    in_stretch asked.first asked.out.now asked.k.first (map (place asked.area.w) (curve (block asked.k.placed))) c.numbers_below-skip.ensures
    c.numbers_below-end.ensures c.loop-i.invariant.0 c.loop-i-test.true) in
    let long = places_long c.requires.0 ∙ all_along k c.requires in
    let least = c.loop-i.invariant.0 in (
      omega arith,
      omega arith,
      put_next c.args.first c.args.out.now c.args.k.first _ i (omega arith) in_it.1 c.loop-i.invariant.2
          (run_entry k c.requires i in_it.0 c.stepped.ensures c.place_of-p.ensures) refl,
    )

pub returns : goal.returns
returns c =
    let long = places_long c.requires.0 ∙ all_along c.args.k.placed c.requires in
    let most = c.loop-i.invariant.1 in
    let last = c.loop-i-test.false in
    let is_end = c.numbers_below-end.ensures in
    put_all c.args.first c.args.out.now c.args.k.first _ c.loop-i.i (omega arith) (omega arith) c.loop-i.invariant.2
