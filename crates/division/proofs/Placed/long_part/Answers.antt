-- `division::Placed::long_part` meets its contract: the even half is less than the run, so the step along the run stays within the area.
use native.Mathlib.Omega.{arith}
use mathlib.Core.Bool.{Bool, true, false, cond}
use mathlib.Core.Path.{◌≡◌}
use Prim.Native.Nat.{ℕ, ◌<◌}
use Rattle.division.specs.Division.{even_half}
use Rattle.division.proofs.Rules.{Halves}
use Rattle.division.proofs.PlacedParts.{steps_along, half_run}
use Rattle.division.proofs.Placed.long_part.Goals as goal

-- the step, or none, is less than the run
skip_less : (a e skip : ℕ) (second : Bool) → Halves a (even_half a) → e ≡ even_half a → skip ≡ cond second e 0 → skip < a
skip_less a e skip true half p q = omega arith
skip_less a e skip false half p q = omega arith

pub stepped-requires : goal.stepped-requires
stepped-requires c =
    let k = c.args.self in
    let e = c.even_half-e in
    let skip = c.either-skip in
    steps_along k c.requires.0 skip.result (skip_less k.a e.result skip.result c.args.second (half_run k c.requires) e.ensures skip.ensures)

pub overflow_sub-self : goal.overflow_sub-self
overflow_sub-self c = let half = half_run c.args.self c.requires in omega (arith, c.even_half-e.ensures)
