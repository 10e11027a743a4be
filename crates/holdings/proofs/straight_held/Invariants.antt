-- `holdings::straight_held` meets its contract. The invariant: the first i squares of the run are looked at.
use mathlib.Core.Bool.{true}
use mathlib.Core.Path.{◌≡◌}
use Prim.Native.Nat.{◌*◌, ◌≤◌}
use Rattle.leaves.specs.Walk.{over}
use Rattle.leaves.proofs.Straight.{run_places}
use Rattle.sectors.specs.Sectors.{words_of}
use Rattle.holdings.specs.Holdings.{table_in, right_one}
use Rattle.holdings.proofs.straight_held.Given as goal

abbrev pub invariant-loop-i : goal.invariant-loop-i
invariant-loop-i l =
    (l.i ≤ l.i-end) × (l.right ≡ over (right_one (table_in (words_of l.file) (l.area.w * l.area.h))) true l.k.first (run_places l.k.placed l.w l.i))
