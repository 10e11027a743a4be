-- `cards::write_card` meets its contract: each test of the code is a guard of the list, in its order; 9 needs none.
use mathlib.Core.Path.{sym, ap, ◌∙◌}
use Rattle.terms.proofs.Guards.{handed_on}
use Rattle.tables.proofs.Admitted.{table_granted}
use Rattle.cards.specs.Cards.{write_figures}
use Rattle.cards.proofs.Fitted.{write_refused, not_long, long_enough, not_known, not_right, all_written}
use Rattle.cards.proofs.write_card.Goals as goal

pub returns-in_err-admit-clause-answer : goal.returns-in_err-admit-clause-answer
returns-in_err-admit-clause-answer c =
    let given = c.args in
    ap write_figures (handed_on c.from_residual.ensures)
    ∙ (write_refused given.area.w given.area.h given.kind given.table.now given.file.now c.in_err-admit.field-0.0 (sym c.admit.ensures ∙ c.in_err-admit.was)).0

pub returns-in_err-admit-clause-file : goal.returns-in_err-admit-clause-file
returns-in_err-admit-clause-file c =
    let given = c.args in
    (write_refused given.area.w given.area.h given.kind given.table.now given.file.now c.in_err-admit.field-0.0 (sym c.admit.ensures ∙ c.in_err-admit.was)).1

pub returns-in_err-guard-clause-answer : goal.returns-in_err-guard-clause-answer
returns-in_err-guard-clause-answer c =
    let given = c.args in
    ap write_figures (handed_on c.from_residual-in_err-guard.ensures)
    ∙ (not_long given.area.w given.area.h given.kind given.table.now given.file.now (sym c.admit.ensures ∙ c.in_ok-admit.was) c.bytes_for.ensures
    (sym c.guard.ensures ∙ c.in_err-guard.was)).0

pub returns-in_err-guard-clause-file : goal.returns-in_err-guard-clause-file
returns-in_err-guard-clause-file c =
    let given = c.args in
    (not_long given.area.w given.area.h given.kind given.table.now given.file.now (sym c.admit.ensures ∙ c.in_ok-admit.was) c.bytes_for.ensures
    (sym c.guard.ensures ∙ c.in_err-guard.was)).1

pub returns-in_err-known-clause-answer : goal.returns-in_err-known-clause-answer
returns-in_err-known-clause-answer c =
    let given = c.args in
    let granted = sym c.admit.ensures ∙ c.in_ok-admit.was in
    let size = long_enough given.area.w given.area.h given.kind given.table.now given.file.now granted c.bytes_for.ensures
    (sym c.guard.ensures ∙ c.in_ok-guard.was) in
    ap write_figures (handed_on c.from_residual-in_err-known.ensures)
    ∙ (not_known given.area.w given.area.h given.kind given.table.now given.file.now granted size (sym c.try_from.ensures ∙ c.in_err-known.was)).0

pub returns-in_err-known-clause-file : goal.returns-in_err-known-clause-file
returns-in_err-known-clause-file c =
    let given = c.args in
    let granted = sym c.admit.ensures ∙ c.in_ok-admit.was in
    let size = long_enough given.area.w given.area.h given.kind given.table.now given.file.now granted c.bytes_for.ensures
    (sym c.guard.ensures ∙ c.in_ok-guard.was) in
    (not_known given.area.w given.area.h given.kind given.table.now given.file.now granted size (sym c.try_from.ensures ∙ c.in_err-known.was)).1

pub is_right-requires : goal.is_right-requires
is_right-requires c = table_granted c.args.area.w c.args.area.h _ (sym c.admit.ensures ∙ c.in_ok-admit.was)

pub returns-in_err-guard-2-clause-answer : goal.returns-in_err-guard-2-clause-answer
returns-in_err-guard-2-clause-answer c =
    let given = c.args in
    let granted = sym c.admit.ensures ∙ c.in_ok-admit.was in
    let size = long_enough given.area.w given.area.h given.kind given.table.now given.file.now granted c.bytes_for.ensures
    (sym c.guard.ensures ∙ c.in_ok-guard.was) in
    ap write_figures (handed_on c.from_residual-in_err-guard-2.ensures)
    ∙ (not_right given.area.w given.area.h given.kind given.table.now given.file.now granted size
    (sym c.try_from.ensures ∙ c.in_ok-known.was) c.is_right.ensures
    (sym c.guard-2.ensures ∙ c.in_err-guard-2.was)).0

pub returns-in_err-guard-2-clause-file : goal.returns-in_err-guard-2-clause-file
returns-in_err-guard-2-clause-file c =
    let given = c.args in
    let granted = sym c.admit.ensures ∙ c.in_ok-admit.was in
    let size = long_enough given.area.w given.area.h given.kind given.table.now given.file.now granted c.bytes_for.ensures
    (sym c.guard.ensures ∙ c.in_ok-guard.was) in
    (not_right given.area.w given.area.h given.kind given.table.now given.file.now granted size (sym c.try_from.ensures ∙ c.in_ok-known.was) c.is_right.ensures
    (sym c.guard-2.ensures ∙ c.in_err-guard-2.was)).1

pub returns-clause-answer : goal.returns-clause-answer
returns-clause-answer c =
    let given = c.args in
    let granted = sym c.admit.ensures ∙ c.in_ok-admit.was in
    let size = long_enough given.area.w given.area.h given.kind given.table.now given.file.now granted c.bytes_for.ensures
    (sym c.guard.ensures ∙ c.in_ok-guard.was) in
    (all_written given.area.w given.area.h given.kind given.table.now given.file.now granted size
    (sym c.try_from.ensures ∙ c.in_ok-known.was) c.is_right.ensures
    (sym c.guard-2.ensures ∙ c.in_ok-guard-2.was) c.write_table.ensures).0

pub returns-clause-file : goal.returns-clause-file
returns-clause-file c =
    let given = c.args in
    let granted = sym c.admit.ensures ∙ c.in_ok-admit.was in
    let size = long_enough given.area.w given.area.h given.kind given.table.now given.file.now granted c.bytes_for.ensures
    (sym c.guard.ensures ∙ c.in_ok-guard.was) in
    (all_written given.area.w given.area.h given.kind given.table.now given.file.now granted size
    (sym c.try_from.ensures ∙ c.in_ok-known.was) c.is_right.ensures
    (sym c.guard-2.ensures ∙ c.in_ok-guard-2.was) c.write_table.ensures).1
