-- `holdings::images_held` meets its contract. The invariant: the first `done` places have the images of the others; the measure is how many are left.
use Prim.Native.Nat.{◌-◌, ◌≤◌}
use Rattle.sectors.specs.Sectors.{words_of}
use Rattle.holdings.specs.Holdings.{Repeated}
use Rattle.holdings.proofs.images_held.Given as goal

abbrev pub invariant-loop-done : goal.invariant-loop-done
invariant-loop-done l = (l.done ≤ l.n) × Repeated l.by.«opposite» l.by.c (words_of l.file) l.from l.to l.done

abbrev pub decreases-loop-done : goal.decreases-loop-done
decreases-loop-done l = l.n - l.done
