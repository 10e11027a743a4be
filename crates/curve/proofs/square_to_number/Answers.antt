-- `curve::square_to_number` meets its contract: a square that lies in an area on the grid is what a search asks, and what it finds is
-- answered.
use mathlib.Core.Bool.{true, false}
use mathlib.Core.Path.{◌≡◌, sym, ap, ◌∙◌}
use Rattle.terms.specs.declared.Refusal.TheVariants.{SquareOutside}
use Rattle.terms.proofs.Guards.{handed_on}
use Rattle.division.specs.Division.{square}
use Rattle.curve.specs.Lookups.{inside, old_square, number_figures}
use Rattle.curve.proofs.Answers.{as_asked, square_out, square_searches, square_deep, square_found}
use Rattle.curve.proofs.square_to_number.Goals as goal

pub returns-in_err-square : goal.returns-in_err-square
returns-in_err-square c =
    let asked = c.args in
    let area = asked.area in
    let out = as_asked c.ranges.x c.ranges.y (λ x y. (inside area x y ≡ false) × (c.in_err-square.field-0.0 ≡ SquareOutside)) c.in_err-square.ensures.outside in
    ap number_figures (handed_on c.from_residual-in_err-square.ensures)
    ∙ square_out area asked.x asked.y (sym c.admit_grid.ensures ∙ c.in_ok-admit_grid.was) c.in_err-square.field-0.0 out.0 out.1

pub returns-in_err-admit_blocks : goal.returns-in_err-admit_blocks
returns-in_err-admit_blocks c =
    let asked = c.args in
    let area = asked.area in
    let s = c.in_ok-square.square in
    let there = as_asked c.ranges.x c.ranges.y (λ x y. (inside area x y ≡ true) × (square s.x s.y ≡ old_square area x y)) c.in_ok-square.ensures.inside in
    ap number_figures (handed_on c.from_residual-in_err-admit_blocks.ensures)
    ∙ square_deep area asked.x asked.y (sym c.admit_grid.ensures ∙ c.in_ok-admit_grid.was) s.x s.y there.0 there.1
    c.number_at-found.result c.number_at-found.ensures c.in_err-admit_blocks.field-0.0 (sym c.admit_blocks.ensures ∙ c.in_err-admit_blocks.was)

pub number_at-found-requires : goal.number_at-found-requires
number_at-found-requires c =
    let asked = c.args in
    let area = asked.area in
    let s = c.in_ok-square.square in
    let there = as_asked c.ranges.x c.ranges.y (λ x y. (inside area x y ≡ true) × (square s.x s.y ≡ old_square area x y)) c.in_ok-square.ensures.inside in
    square_searches area asked.x asked.y (sym c.admit_grid.ensures ∙ c.in_ok-admit_grid.was) s.x s.y there.0 there.1

pub returns : goal.returns
returns c =
    let asked = c.args in
    let area = asked.area in
    let s = c.in_ok-square.square in
    let there = as_asked c.ranges.x c.ranges.y (λ x y. (inside area x y ≡ true) × (square s.x s.y ≡ old_square area x y)) c.in_ok-square.ensures.inside in
    square_found area asked.x asked.y (sym c.admit_grid.ensures ∙ c.in_ok-admit_grid.was) s.x s.y there.0 there.1
    c.number_at-found.result c.number_at-found.ensures
