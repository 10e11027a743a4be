-- `division::Placed::part_c` meets its contract: it starts at the last square of the run and of the even half of the side, and turns both directions.
use native.Mathlib.Omega.{arith}
use Prim.Native.Nat.{◌-◌}
use Rattle.division.proofs.PlacedParts.{steps_across, half_side}
use Rattle.division.proofs.Placed.part_c.Goals as goal

pub overflow_sub-e : goal.overflow_sub-e
overflow_sub-e c = let half = half_side c.args.self c.requires in omega (arith, c.even_half-e.ensures)

pub stepped-requires : goal.stepped-requires
stepped-requires c =
    let half = half_side c.args.self c.requires in
    steps_across c.args.self c.requires.0 (c.even_half-e.result - 1) (omega (arith, c.even_half-e.ensures))
