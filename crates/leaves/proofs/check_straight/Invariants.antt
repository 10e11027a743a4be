-- `leaves::check_straight` meets its contract. The invariant: the first i squares of the run are looked at.
use mathlib.Core.Path.{◌≡◌}
use Prim.Native.Nat.{◌≤◌}
use Rattle.leaves.specs.Walk.{least_one, over}
use Rattle.leaves.proofs.Straight.{run_places}
use Rattle.leaves.proofs.check_straight.Given as goal

abbrev pub invariant-loop-i : goal.invariant-loop-i
invariant-loop-i g l =
    (l.i ≤ l.i-end) × (l.least ≡ over (least_one g.T.Kind.BY_SQUARE l.table) l.fn.so_far l.k.first (run_places l.k.placed l.w l.i))
