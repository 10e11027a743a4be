-- `curve::finish_square` meets its contract: an area on the grid has a last square, each coordinate of which is moved by its own side of
-- the origin.
use borrow.Author.Rules.{rules}
use mathlib.Core.Path.{◌≡◌, sym, ap, ap₂, ◌∙◌}
use lib.IntN.{pos, ◌+ℤ◌}
use Rattle.terms.proofs.Limits.{on_grid, grid_passed}
use Rattle.terms.proofs.Signs.{held}
use Rattle.division.specs.Division.{Square}
use Rattle.curve.proofs.Answers.{last_places, shifted_kept}
use Rattle.curve.proofs.Finish.{finish_found_at, finish_answered_at}
use Rattle.curve.proofs.finish_square.Goals as goal

pub last_square-last-requires : goal.last_square-last-requires
last_square-last-requires c = (grid_passed c.args.area (on_grid c.args.area (sym c.admit_grid.ensures ∙ c.in_ok-admit_grid.was))).0

pub shifted-requires : goal.shifted-requires
shifted-requires c =
    let area = c.args.area in
    let at = last_places area (sym c.admit_grid.ensures ∙ c.in_ok-admit_grid.was) c.last_square-last.ensures in
    let x_is : held area.ox ≡ area.ox = search rules in
    (rw x_is at.ox_near, at.x_limit)

pub shifted-requires-2 : goal.shifted-requires-2
shifted-requires-2 c =
    let area = c.args.area in
    let at = last_places area (sym c.admit_grid.ensures ∙ c.in_ok-admit_grid.was) c.last_square-last.ensures in
    let y_is : held area.oy ≡ area.oy = search rules in
    (rw y_is at.oy_near, at.y_limit)

pub returns : goal.returns
returns c =
    let area = c.args.area in
    let granted = sym c.admit_grid.ensures ∙ c.in_ok-admit_grid.was in
    let at = last_places area granted c.last_square-last.ensures in
    let x_is : held area.ox ≡ area.ox = search rules in
    let y_is : held area.oy ≡ area.oy = search rules in
    ap₂ finish_found_at (shifted_kept x_is at.ox_near at.x_limit c.shifted.ensures) (shifted_kept y_is at.oy_near at.y_limit c.shifted-2.ensures)
    ∙ ap (λ (s : Square). finish_found_at (area.ox +ℤ pos s.x) (area.oy +ℤ pos s.y)) c.last_square-last.ensures
    ∙ sym (finish_answered_at area (on_grid area granted))
