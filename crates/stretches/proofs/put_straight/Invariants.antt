-- `stretches::put_straight` meets its contract. The invariant: the first i squares of the run are put in, of which those before the stretch change nothing.
use mathlib.Core.List.{map}
use mathlib.Core.Path.{◌≡◌}
use Prim.Native.Nat.{◌≤◌}
use Rattle.division.specs.Division.{curve}
use Rattle.division.specs.Forms.{block}
use Rattle.leaves.specs.Walk.{place}
use Rattle.stretches.proofs.Clipped.{put_first}
use Rattle.stretches.proofs.put_straight.Given as goal

abbrev pub invariant-loop-i : goal.invariant-loop-i
invariant-loop-i l =
    (l.skip ≤ l.i) × (l.i ≤ l.k.placed.a) × (l.out ≡ put_first l.first l.initial.out l.k.first (map (place l.w) (curve (block l.k.placed))) l.i)
