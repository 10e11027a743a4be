-- The three functions of a stretch's walk meet their contracts, by the laws of `PartByPart` and `Stretches`: the parts' squares in order are the block's, and a
-- block that is left out or filled leaves what the walk over it would. The measure is three times the block's area, plus 2 for `stretch_block`.
use Prim.Native.Nat.{◌+◌, ◌*◌}
use Rattle.stretches.proofs.+stretch.Given as goal

abbrev pub decreases-stretch_block : goal.decreases-stretch_block
decreases-stretch_block l = 3 * (l.k.placed.a * l.k.placed.b) + 2

abbrev pub decreases-stretch_long_cut : goal.decreases-stretch_long_cut
decreases-stretch_long_cut l = 3 * (l.k.placed.a * l.k.placed.b)

abbrev pub decreases-stretch_u_cut : goal.decreases-stretch_u_cut
decreases-stretch_u_cut l = 3 * (l.k.placed.a * l.k.placed.b)
