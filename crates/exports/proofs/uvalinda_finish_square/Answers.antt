-- `exports::uvalinda_finish_square` meets its contract: the answer's figures, as the call ensures them, in the slice's first places.
use mathlib.Core.Path.{ap, ◌∙◌}
use Rattle.terms.specs.Terms.{in_signs}
use Rattle.curve.specs.Lookups.{finish_square_at, finish_figures}
use Rattle.exports.proofs.Values.{kept_area, found}
use Rattle.exports.proofs.uvalinda_finish_square.Goals as goal

pub returns-in-Err-clause-values : goal.returns-in-Err-clause-values
unfolding in_signs
returns-in-Err-clause-values c =
    (found 2 finish_figures c.args.res.now c.if-res-lt2.false c.in-Err.is
    (c.finish_square.ensures ∙ ap finish_square_at (kept_area c.args.w c.args.h c.ranges.ox c.ranges.oy))
    _ c.from.ensures _ c.put-in-Err.ensures).1
