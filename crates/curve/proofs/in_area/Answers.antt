-- `curve::in_area` meets its contract: a difference that is not negative is a distance, and the distances are below the lengths.
use borrow.Author.Rules.{rules}
use mathlib.Core.Path.{◌≡◌, sym, ap₂, ◌∙◌}
use lib.IntN.{◌-ℤ◌}
use Rattle.terms.specs.Terms.{natural}
use Rattle.terms.proofs.Signs.{held, kept}
use Rattle.curve.proofs.Answers.{lies_at}
use Rattle.curve.proofs.in_area.Goals as goal

pub returns-in-Some-Some-clause-inside : goal.returns-in-Some-Some-clause-inside
returns-in-Some-Some-clause-inside c =
    let area = c.args.area in
    let x_is : held area.ox ≡ area.ox = search rules in
    let y_is : held area.oy ≡ area.oy = search rules in
    let there = c.in-Some-Some in
    lies_at area c.args.x c.args.y there.u there.v
    (ap₂ (λ x o. natural (x -ℤ o)) (sym (kept c.ranges.x)) (sym x_is) ∙ sym c.distance.ensures ∙ there.is-0)
    (ap₂ (λ y o. natural (y -ℤ o)) (sym (kept c.ranges.y)) (sym y_is) ∙ sym c.distance-2.ensures ∙ there.is-1)
    c.if-u-area.true c.if-v-area.true
