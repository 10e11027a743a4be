-- A coordinate of an area that is to be moved by the area's origin: both are small enough for a 32-bit sum. It renders no sentence of document 02.
use Rattle.std.specs.Prelude.{true, ◌≡◌, ℕ, ◌≤◌}
use Rattle.terms.specs.declared.Area.{Area}
use Rattle.terms.specs.Terms.{longest_side, offset_accepted}

pub record Places (area : Area) (x y : ℕ) : Type 0 where
  pub ox_near : offset_accepted area.ox ≡ true
  pub oy_near : offset_accepted area.oy ≡ true
  pub x_limit : x ≤ longest_side
  pub y_limit : y ≤ longest_side
