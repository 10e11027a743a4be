-- The goals of `holdings::straight_held`, under what stands in `Invariants.antt`.
use mathlib.Core.Bool.{true}
use mathlib.Core.Path.{◌≡◌, refl}
use Prim.Native.Nat.{◌*◌}
use native.Mathlib.Omega.{arith}
use Rattle.division.specs.Division.{row}
use Rattle.leaves.specs.Walk.{over}
use Rattle.leaves.proofs.Straight.{run_place_fits, run_on, run_whole}
use Rattle.sectors.specs.Sectors.{words_of}
use Rattle.holdings.specs.Holdings.{table_in, right_one}
use Rattle.holdings.proofs.straight_held.Goals as goal

pub returns : goal.returns
returns c =
    let given = c.args in
    let all : c.loop-i.i ≡ given.k.placed.a = let most = c.loop-i.invariant.0 in let last = c.loop-i-test.false in omega arith in
    run_whole given.k.placed c.requires.1 (right_one (table_in (words_of given.file.now) (given.area.w * given.area.h))) true all c.loop-i.invariant.1

pub place_of-p-requires : goal.place_of-p-requires
place_of-p-requires c =
    run_place_fits c.args.k.placed c.requires.1 c.loop-i.i c.loop-i-test.true c.stepped.ensures

pub loop-i-init : goal.loop-i-init
unfolding over row
loop-i-init c = (omega arith, refl)

pub loop-i-preserved : goal.loop-i-preserved
loop-i-preserved c =
    let given = c.args in (
      omega arith,
      run_on given.k.placed c.requires.1 c.loop-i.i c.loop-i-test.true c.stepped.ensures c.place_of-p.ensures
          (right_one (table_in (words_of given.file.now) (given.area.w * given.area.h))) true c.loop-i.invariant.1 c.right_one-right.ensures,
    )
