-- The three functions of a check meet their contracts, by the laws of `PartByPart` and `Repeats`: the parts' looks in order, walked or compared, are the
-- block's. The measure is three times the block's area, plus 2 for `check_block`.
use Prim.Native.Nat.{◌+◌, ◌*◌}
use Rattle.checks.proofs.+check.Given as goal

abbrev pub decreases-check_block : goal.decreases-check_block
decreases-check_block g l = 3 * (l.k.placed.a * l.k.placed.b) + 2

abbrev pub decreases-check_long_cut : goal.decreases-check_long_cut
decreases-check_long_cut g l = 3 * (l.k.placed.a * l.k.placed.b)

abbrev pub decreases-check_u_cut : goal.decreases-check_u_cut
decreases-check_u_cut g l = 3 * (l.k.placed.a * l.k.placed.b)
