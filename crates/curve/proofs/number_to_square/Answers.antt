-- `curve::number_to_square` meets its contract: an area on the grid and a number below its squares are what a descent asks, and what it
-- finds lies in the area.
use mathlib.Core.Path.{sym, ◌∙◌}
use Rattle.curve.proofs.Answers.{number_descends, number_places}
use Rattle.curve.proofs.number_to_square.Goals as goal

pub square_at-held-requires : goal.square_at-held-requires
square_at-held-requires c =
    number_descends c.args.area c.args.number (sym c.admit_grid.ensures ∙ c.in_ok-admit_grid.was) (sym c.guard.ensures ∙ c.in_ok-guard.was)

pub on_grid-requires : goal.on_grid-requires
on_grid-requires c =
    number_places c.args.area c.args.number (sym c.admit_grid.ensures ∙ c.in_ok-admit_grid.was) (sym c.guard.ensures ∙ c.in_ok-guard.was)
    c.square_at-held.result c.square_at-held.ensures
