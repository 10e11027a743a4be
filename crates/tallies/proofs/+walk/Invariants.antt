-- The measure of the walk's four functions: three times the block's area, plus 0 for a cut, 1 for `walk_cut` and 2 for `walk`, which are three calls on one
-- block.
use Rattle.std.proofs.Common.{◌+◌, ◌*◌}
use Rattle.tallies.proofs.+walk.Given as goal

abbrev pub decreases-walk : goal.decreases-walk
decreases-walk l = 3 * (l.p.a * l.p.b) + 2

abbrev pub decreases-walk_cut : goal.decreases-walk_cut
decreases-walk_cut l = 3 * (l.p.a * l.p.b) + 1

abbrev pub decreases-walk_long : goal.decreases-walk_long
decreases-walk_long l = 3 * (l.p.a * l.p.b)

abbrev pub decreases-walk_u : goal.decreases-walk_u
decreases-walk_u l = 3 * (l.p.a * l.p.b)
