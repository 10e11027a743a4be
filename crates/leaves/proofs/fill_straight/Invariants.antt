-- `leaves::fill_straight` meets its contract. The invariant: the first i squares of the run are entered.
use mathlib.Core.Path.{◌≡◌}
use Prim.Native.Nat.{◌≤◌}
use Rattle.leaves.specs.Walk.{enter_one, over}
use Rattle.leaves.proofs.Straight.{run_places}
use Rattle.leaves.proofs.fill_straight.Given as goal

abbrev pub invariant-loop-i : goal.invariant-loop-i
invariant-loop-i g l = (l.i ≤ l.i-end) × (l.table ≡ over (enter_one g.T.Kind.BY_SQUARE) l.initial.table l.k.first (run_places l.k.placed l.w l.i))
