-- The three functions of a fill meet their contracts, by the laws of `PartByPart`, `Counts` and `Repeats`: the parts' entries in order, walked or copied, are
-- the block's. The measure is three times the block's area, plus 2 for `fill_block`.
use Prim.Native.Nat.{◌+◌, ◌*◌}
use Rattle.fills.proofs.+fill.Given as goal

abbrev pub decreases-fill_block : goal.decreases-fill_block
decreases-fill_block g l = 3 * (l.k.placed.a * l.k.placed.b) + 2

abbrev pub decreases-fill_long_cut : goal.decreases-fill_long_cut
decreases-fill_long_cut g l = 3 * (l.k.placed.a * l.k.placed.b)

abbrev pub decreases-fill_u_cut : goal.decreases-fill_u_cut
decreases-fill_u_cut g l = 3 * (l.k.placed.a * l.k.placed.b)
