-- `tables::fill_whole` meets its contract: a refused table is kept, and the walk over the whole area fills one that fits.
use mathlib.Core.List.{[], ◌∷◌}
use mathlib.Core.Path.{sym, ap, ap₂, ◌∙◌}
use lib.ListN.{length}
use Rattle.terms.specs.Terms.{answered}
use Rattle.terms.proofs.Limits.{limits}
use Rattle.division.specs.Division.{whole, blocks}
use Rattle.leaves.specs.Walk.{filled_with}
use Rattle.terms.proofs.Guards.{handed_on}
use Rattle.tables.specs.Tables.{fill, fill_figures}
use Rattle.tables.proofs.Admitted.{table_refused, table_granted, taken, kept, given, block_fits}
use Rattle.tables.proofs.PlaceByPlace.{due_table}
use Rattle.tables.proofs.fill_whole.Goals as goal

pub returns-in_err-admit-clause-answer : goal.returns-in_err-admit-clause-answer
unfolding fill
returns-in_err-admit-clause-answer g c =
    let area = c.args.area in
    let count = length (blocks (whole area.w area.h)) ∷ [] in
    ap fill_figures (handed_on c.from_residual.ensures)
    ∙ table_refused area.w area.h c.args.table.now 1 count c.in_err-admit.field-0.0 (sym c.admit.ensures ∙ c.in_err-admit.was)

pub returns-in_err-admit-clause-table : goal.returns-in_err-admit-clause-table
unfolding fill
returns-in_err-admit-clause-table g c =
    let area = c.args.area in
    let count = length (blocks (whole area.w area.h)) ∷ [] in
    let r = c.in_err-admit.field-0.0 in
    kept r (0 ∷ []) _ _ (table_refused area.w area.h c.args.table.now 1 count r (sym c.admit.ensures ∙ c.in_err-admit.was))

pub fill_block-requires : goal.fill_block-requires
fill_block-requires g c =
    let fits = table_granted c.args.area.w c.args.area.h _ (sym c.admit.ensures ∙ c.in_ok-admit.was) in
    block_fits g.T.Kind.BY_SQUARE c.args.area.w c.args.area.h _ fits.0 fits.1 _ c.whole.ensures.placed c.whole.ensures.first

pub returns-clause-answer : goal.returns-clause-answer
unfolding fill
returns-clause-answer g c =
    let area = c.args.area in
    let count = length (blocks (whole area.w area.h)) ∷ [] in
    let fits = table_granted area.w area.h _ (sym c.admit.ensures ∙ c.in_ok-admit.was) in
    ap (λ n. answered (n ∷ [])) (c.fill_block.ensures.count ∙ ap (λ k. length (blocks k)) c.whole.ensures.placed)
    ∙ sym (taken area.w area.h c.args.table.now 1 count fits.0 fits.1)

pub returns-clause-table : goal.returns-clause-table
unfolding fill
returns-clause-table g c =
    let area = c.args.area in
    let t = c.args.table.now in
    let count = length (blocks (whole area.w area.h)) ∷ [] in
    let fits = table_granted area.w area.h _ (sym c.admit.ensures ∙ c.in_ok-admit.was) in
    let all = limits area.w area.h fits.0 in
    c.fill_block.ensures.table
    ∙ ap₂ (λ k n. filled_with g.T.Kind.BY_SQUARE area.w t k n) c.whole.ensures.placed c.whole.ensures.first
    ∙ due_table area.w area.h all.w_least all.h_least t fits.1 g.T.Kind.BY_SQUARE
    ∙ given _ _ t (taken area.w area.h t 1 count fits.0 fits.1)
