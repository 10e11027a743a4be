-- `cards::is_right` meets its contract: a check of the kind that is told says whether the table is right.
use mathlib.Core.Bool.{Bool, true, false}
use mathlib.Core.Path.{◌≡◌, subst⁻¹, ap}
use Rattle.terms.specs.Telling.{Tells}
use Rattle.tables.specs.Tables.{due_by}
use Rattle.cards.specs.Fitting.{by_square}
use Rattle.cards.proofs.Fitted.{check_tells}
use Rattle.cards.proofs.is_right.Goals as goal

pub returns-in-ByNumber : goal.returns-in-ByNumber
returns-in-ByNumber c =
    let given = c.args in
    subst⁻¹ (λ (by : Bool). Tells c.says_right.result (given.table.now ≡ due_by by given.area.w given.area.h)) (ap by_square c.in-ByNumber.is)
    (check_tells given.area false given.table.now c.requires.0 c.requires.1 c.check_by_number.result c.check_by_number.ensures c.says_right.ensures)

pub returns-in-BySquare : goal.returns-in-BySquare
returns-in-BySquare c =
    let given = c.args in
    subst⁻¹ (λ (by : Bool). Tells c.says_right-in-BySquare.result (given.table.now ≡ due_by by given.area.w given.area.h)) (ap by_square c.in-BySquare.is)
    (check_tells given.area true given.table.now c.requires.0 c.requires.1 c.check_by_square.result c.check_by_square.ensures c.says_right-in-BySquare.ensures)
