-- `tables::check_whole` meets its contract: a table that fits gets its verdict, any other its refusal.
use mathlib.Core.Path.{sym, ap, ◌∙◌}
use Rattle.terms.proofs.Guards.{handed_on}
use Rattle.tables.specs.Tables.{judged, due_by, check, check_figures}
use Rattle.tables.proofs.Admitted.{table_refused, table_granted, taken, block_fits}
use Rattle.tables.proofs.FirstWrong.{verdict_is}
use Rattle.tables.proofs.check_whole.Goals as goal

pub returns-in_err-admit : goal.returns-in_err-admit
unfolding check
returns-in_err-admit g c =
    let area = c.args.area in
    let t = c.args.table.now in
    ap check_figures (handed_on c.from_residual.ensures)
    ∙ table_refused area.w area.h t 3 (judged 0 (due_by g.T.Kind.BY_SQUARE area.w area.h) t) c.in_err-admit.field-0.0 (sym c.admit.ensures ∙ c.in_err-admit.was)

pub check_block-requires : goal.check_block-requires
check_block-requires g c =
    let fits = table_granted c.args.area.w c.args.area.h _ (sym c.admit.ensures ∙ c.in_ok-admit.was) in
    block_fits g.T.Kind.BY_SQUARE c.args.area.w c.args.area.h _ fits.0 fits.1 _ c.whole.ensures.placed c.whole.ensures.first

pub returns : goal.returns
unfolding check
returns g c =
    let area = c.args.area in
    let t = c.args.table.now in
    let fits = table_granted area.w area.h _ (sym c.admit.ensures ∙ c.in_ok-admit.was) in
    verdict_is area.w area.h g.T.Kind.BY_SQUARE t fits.0 fits.1 c.whole.ensures.placed c.whole.ensures.first c.check_block.ensures
    ∙ sym (taken area.w area.h t 3 (judged 0 (due_by g.T.Kind.BY_SQUARE area.w area.h) t) fits.0 fits.1)
