-- `cards::read_card` meets its contract: each test of the code is a guard of the list, in its order; the table is copied after all of them.
use mathlib.Core.Path.{sym, ap, ◌∙◌}
use native.Mathlib.Omega.{arith}
use Rattle.terms.proofs.Limits.{limits}
use Rattle.sectors.proofs.Checks.{no_bad}
use Rattle.tables.proofs.Admitted.{table_granted}
use Rattle.cards.specs.Cards.{read_figures}
use Rattle.cards.proofs.Fitted.{read_refused, handed_on, bad_read, unknown_read, no_card_read, is_there, all_read}
use Rattle.cards.proofs.read_card.Goals as goal

pub returns-in_err-admit-clause-answer : goal.returns-in_err-admit-clause-answer
returns-in_err-admit-clause-answer c =
    let given = c.args in
    ap read_figures (handed_on c.from_residual.ensures)
    ∙ (read_refused given.area.w given.area.h given.kind given.file.now given.table.now c.in_err-admit.field-0.0 (sym c.admit.ensures ∙ c.in_err-admit.was)).0

pub returns-in_err-admit-clause-table : goal.returns-in_err-admit-clause-table
returns-in_err-admit-clause-table c =
    let given = c.args in
    (read_refused given.area.w given.area.h given.kind given.file.now given.table.now c.in_err-admit.field-0.0 (sym c.admit.ensures ∙ c.in_err-admit.was)).1

pub returns-in-Some-clause-answer : goal.returns-in-Some-clause-answer
returns-in-Some-clause-answer c =
    let given = c.args in
    (bad_read given.area.w given.area.h given.kind given.file.now given.table.now (sym c.admit.ensures ∙ c.in_ok-admit.was)
    (sym c.first_bad.ensures ∙ c.in-Some.is)).0

pub returns-in-Some-clause-table : goal.returns-in-Some-clause-table
returns-in-Some-clause-table c =
    let given = c.args in
    (bad_read given.area.w given.area.h given.kind given.file.now given.table.now (sym c.admit.ensures ∙ c.in_ok-admit.was)
    (sym c.first_bad.ensures ∙ c.in-Some.is)).1

pub returns-in_err-try_from-clause-answer : goal.returns-in_err-try_from-clause-answer
returns-in_err-try_from-clause-answer c =
    let given = c.args in
    let granted = sym c.admit.ensures ∙ c.in_ok-admit.was in
    let none = sym c.first_bad.ensures ∙ c.in_default.is in
    ap read_figures (handed_on c.from_residual-in_err-try_from.ensures)
    ∙ (unknown_read given.area.w given.area.h given.kind given.file.now given.table.now granted none (sym c.try_from.ensures ∙ c.in_err-try_from.was)).0

pub returns-in_err-try_from-clause-table : goal.returns-in_err-try_from-clause-table
returns-in_err-try_from-clause-table c =
    let given = c.args in
    let granted = sym c.admit.ensures ∙ c.in_ok-admit.was in
    let none = sym c.first_bad.ensures ∙ c.in_default.is in
    (unknown_read given.area.w given.area.h given.kind given.file.now given.table.now granted none (sym c.try_from.ensures ∙ c.in_err-try_from.was)).1

pub is_card-requires : goal.is_card-requires
is_card-requires c =
    let fits = table_granted c.args.area.w c.args.area.h _ (sym c.admit.ensures ∙ c.in_ok-admit.was) in
    (limits c.args.area.w c.args.area.h fits.0, no_bad c.args.file.now (sym c.first_bad.ensures ∙ c.in_default.is))

pub returns-in_err-guard-clause-answer : goal.returns-in_err-guard-clause-answer
returns-in_err-guard-clause-answer c =
    let given = c.args in
    let granted = sym c.admit.ensures ∙ c.in_ok-admit.was in
    let none = sym c.first_bad.ensures ∙ c.in_default.is in
    ap read_figures (handed_on c.from_residual-in_err-guard.ensures)
    ∙ (no_card_read given.area.w given.area.h given.kind given.file.now given.table.now granted none
    (sym c.try_from.ensures ∙ c.in_ok-try_from.was) c.is_card.ensures
    (sym c.guard.ensures ∙ c.in_err-guard.was)).0

pub returns-in_err-guard-clause-table : goal.returns-in_err-guard-clause-table
returns-in_err-guard-clause-table c =
    let given = c.args in
    let granted = sym c.admit.ensures ∙ c.in_ok-admit.was in
    let none = sym c.first_bad.ensures ∙ c.in_default.is in
    (no_card_read given.area.w given.area.h given.kind given.file.now given.table.now granted none
    (sym c.try_from.ensures ∙ c.in_ok-try_from.was) c.is_card.ensures
    (sym c.guard.ensures ∙ c.in_err-guard.was)).1

pub read_table-requires : goal.read_table-requires
read_table-requires c =
    let given = c.args in
    let granted = sym c.admit.ensures ∙ c.in_ok-admit.was in
    let none = sym c.first_bad.ensures ∙ c.in_default.is in
    let fits = table_granted given.area.w given.area.h _ granted in
    let few = (limits given.area.w given.area.h fits.0).squares_most in
    let room = is_there given.area.w given.area.h given.kind given.file.now given.table.now granted none
    (sym c.try_from.ensures ∙ c.in_ok-try_from.was) c.is_card.ensures
    (sym c.guard.ensures ∙ c.in_ok-guard.was) in
    (omega arith, omega arith)

pub returns-clause-answer : goal.returns-clause-answer
returns-clause-answer c =
    let given = c.args in
    let granted = sym c.admit.ensures ∙ c.in_ok-admit.was in
    let none = sym c.first_bad.ensures ∙ c.in_default.is in
    (all_read given.area.w given.area.h given.kind given.file.now given.table.now granted none (sym c.try_from.ensures ∙ c.in_ok-try_from.was) c.is_card.ensures
    (sym c.guard.ensures ∙ c.in_ok-guard.was) c.read_table.ensures).0

pub returns-clause-table : goal.returns-clause-table
returns-clause-table c =
    let given = c.args in
    let granted = sym c.admit.ensures ∙ c.in_ok-admit.was in
    let none = sym c.first_bad.ensures ∙ c.in_default.is in
    (all_read given.area.w given.area.h given.kind given.file.now given.table.now granted none (sym c.try_from.ensures ∙ c.in_ok-try_from.was) c.is_card.ensures
    (sym c.guard.ensures ∙ c.in_ok-guard.was) c.read_table.ensures).1
