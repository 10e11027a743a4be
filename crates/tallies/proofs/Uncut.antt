-- A block that is 2 wide and 2 or 3 deep, and not cut by the walk.
use mathlib.Core.Path.{◌≡◌}
use Prim.Native.Nat.{ℕ, ◌≤◌}
use Rattle.division.specs.declared.Choice.TheVariants.{UCut}
use Rattle.division.specs.Division.{whole, choice}
use Rattle.division.proofs.Cases.{u_lengths}
use Rattle.panes.specs.declared.Pane.{Pane}
use Rattle.panes.specs.Panes.{Walks, Opens, Leaf}
use Rattle.panes.proofs.PartsSeen.{sized}

pub leaf_of : {p : Pane} {n count : ℕ} → Walks p n count → Opens p → choice p.a p.b ≡ UCut → p.a ≡ 2 → p.b ≤ 3 → Leaf p n
unfolding whole
leaf_of {p} w opens e two three =
    record {
      wide = two;
      least = (u_lengths (whole p.a p.b) (sized p.a p.b w.a_least w.b_least) e).1;
      most = three;
      along = opens.along;
      across = opens.across;
      u_limit = w.u_limit;
      v_limit = w.v_limit;
      room = w.room;
    }
