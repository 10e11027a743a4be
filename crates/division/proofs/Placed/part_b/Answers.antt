-- `division::Placed::part_b` meets its contract: the even half is less than the side, so the step across the run stays within the area.
use native.Mathlib.Omega.{arith}
use Rattle.division.proofs.PlacedParts.{steps_across, half_side}
use Rattle.division.proofs.Placed.part_b.Goals as goal

pub stepped-requires : goal.stepped-requires
stepped-requires c =
    let half = half_side c.args.self c.requires in
    steps_across c.args.self c.requires.0 c.even_half-e.result (omega (arith, c.even_half-e.ensures))

pub overflow_sub-result : goal.overflow_sub-result
overflow_sub-result c = let half = half_side c.args.self c.requires in omega (arith, c.even_half-e.ensures)
