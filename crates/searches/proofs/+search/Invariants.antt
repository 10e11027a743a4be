-- The measure of `searches::search` is the block's area.
use Prim.Native.Nat.{◌*◌}
use Rattle.searches.proofs.+search.Given as goal

abbrev pub decreases-search : goal.decreases-search
decreases-search l = l.a * l.b
