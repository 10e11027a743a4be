-- The measure of `descents::descend` is the block's area.
use Prim.Native.Nat.{◌*◌}
use Rattle.descents.proofs.+descend.Given as goal

abbrev pub decreases-descend : goal.decreases-descend
decreases-descend l = l.place.now.a * l.place.now.b
