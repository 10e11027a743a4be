-- The goals of `leaves::check_straight`, under what stands in `Invariants.antt`.
use mathlib.Core.Path.{◌≡◌, refl}
use native.Mathlib.Omega.{arith}
use Rattle.division.specs.Division.{row}
use Rattle.leaves.specs.Walk.{least_one, over}
use Rattle.leaves.proofs.Straight.{run_place_fits, run_fits, run_on, run_whole}
use Rattle.leaves.proofs.check_straight.Goals as goal

pub compare-least-requires : goal.compare-least-requires
compare-least-requires g c =
    run_fits c.args.k.placed c.requires c.loop-i.i c.loop-i-test.true c.stepped.ensures c.place_of-p.ensures refl

pub loop-i-init : goal.loop-i-init
unfolding over row
loop-i-init g c = (omega arith, refl)

pub place_of-p-requires : goal.place_of-p-requires
place_of-p-requires g c =
    run_place_fits c.args.k.placed c.requires c.loop-i.i c.loop-i-test.true c.stepped.ensures

pub loop-i-preserved : goal.loop-i-preserved
loop-i-preserved g c = (
  omega arith,
  run_on c.args.k.placed c.requires c.loop-i.i c.loop-i-test.true c.stepped.ensures c.place_of-p.ensures
      (least_one g.T.Kind.BY_SQUARE c.args.table.now) c.args.so_far c.loop-i.invariant.1 c.compare-least.ensures,
)

pub returns : goal.returns
returns g c =
    let all : c.loop-i.i ≡ c.args.k.placed.a = let most = c.loop-i.invariant.0 in let last = c.loop-i-test.false in omega arith in
    run_whole c.args.k.placed c.requires (least_one g.T.Kind.BY_SQUARE c.args.table.now) c.args.so_far all c.loop-i.invariant.1
