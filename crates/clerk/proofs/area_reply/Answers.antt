-- `clerk::area_reply` meets its contract: a found finish square says that the area is accepted.
use mathlib.Core.Path.{sym, ap, ◌∙◌}
use Rattle.curve.specs.Lookups.{finish_square_at, finish_figures}
use Rattle.clerk.proofs.Handling.{found_fits}
use Rattle.clerk.proofs.area_reply.Goals as goal

pub overflow_mul-result : goal.overflow_mul-result
overflow_mul-result c =
    record {
      fits = found_fits c.args.w c.args.h c.in_ok-x.field-0
          (ap finish_figures (sym c.in_ok-x.was) ∙ c.finish_square.ensures ∙ ap finish_square_at c.at_post.ensures);
    }
