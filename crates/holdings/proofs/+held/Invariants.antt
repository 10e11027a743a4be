-- The three functions of the walk meet their contracts, by the laws of `PartByPart`, `Siblings` and `Standing`: a block is right exactly if its parts are, one
-- after the other. The measure is three times the block's area, plus 2 for `block_held`.
use Prim.Native.Nat.{◌+◌, ◌*◌}
use Rattle.holdings.proofs.+held.Given as goal

abbrev pub decreases-block_held : goal.decreases-block_held
decreases-block_held l = 3 * (l.k.placed.a * l.k.placed.b) + 2

abbrev pub decreases-long_cut_held : goal.decreases-long_cut_held
decreases-long_cut_held l = 3 * (l.k.placed.a * l.k.placed.b)

abbrev pub decreases-u_cut_held : goal.decreases-u_cut_held
decreases-u_cut_held l = 3 * (l.k.placed.a * l.k.placed.b)
