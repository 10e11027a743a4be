-- The goals of `leaves::fill_straight`, under what stands in `Invariants.antt`.
use mathlib.Core.Bool.{Bool}
use mathlib.Core.List.{List}
use mathlib.Core.Path.{◌≡◌, refl, ap, ◌∙◌}
use Prim.Native.Nat.{ℕ}
use native.Mathlib.Omega.{arith}
use lib.ListN.{length}
use Rattle.division.specs.declared.Placed.{Placed}
use Rattle.division.specs.Division.{row}
use Rattle.leaves.specs.Walk.{enter_one, over}
use Rattle.leaves.proofs.Entries.{enter_length}
use Rattle.leaves.proofs.Straight.{run_places, run_place_fits, run_fits, run_on, run_whole, run_count}
use Rattle.leaves.proofs.fill_straight.Goals as goal

-- the entries of the first squares leave the table's length
kept : (k : Placed) (by_square : Bool) (table₀ : List ℕ) (at w i : ℕ) {table : List ℕ}
    → table ≡ over (enter_one by_square) table₀ at (run_places k w i) → length table ≡ length table₀
kept k by_square table₀ at w i is = ap length is ∙ enter_length by_square table₀ at (run_places k w i)

pub place_of-p-requires : goal.place_of-p-requires
place_of-p-requires g c =
    run_place_fits c.args.k.placed c.requires c.loop-i.i c.loop-i-test.true c.stepped.ensures

pub loop-i-init : goal.loop-i-init
unfolding over row
loop-i-init g c = (omega arith, refl)

pub enter-requires : goal.enter-requires
enter-requires g c =
    run_fits c.args.k.placed c.requires c.loop-i.i c.loop-i-test.true c.stepped.ensures c.place_of-p.ensures
    (kept c.args.k.placed g.T.Kind.BY_SQUARE c.args.table.now c.args.k.first c.args.area.w c.loop-i.i c.loop-i.invariant.1)

pub loop-i-preserved : goal.loop-i-preserved
loop-i-preserved g c = (
  omega arith,
  run_on c.args.k.placed c.requires c.loop-i.i c.loop-i-test.true c.stepped.ensures c.place_of-p.ensures
      (enter_one g.T.Kind.BY_SQUARE) c.args.table.now c.loop-i.invariant.1 c.enter.ensures,
)

pub returns-clause-table : goal.returns-clause-table
returns-clause-table g c =
    let all : c.loop-i.i ≡ c.args.k.placed.a = let most = c.loop-i.invariant.0 in let last = c.loop-i-test.false in omega arith in
    run_whole c.args.k.placed c.requires (enter_one g.T.Kind.BY_SQUARE) c.args.table.now all c.loop-i.invariant.1

pub returns-clause-count : goal.returns-clause-count
returns-clause-count g c =
    let all : c.loop-i.i ≡ c.args.k.placed.a = let most = c.loop-i.invariant.0 in let last = c.loop-i-test.false in omega arith in
    run_count c.args.k.placed c.requires
