-- `leaves::Numbered::exchanged` meets its contract: the bit that says which direction is along y is turned over.
use mathlib.Core.Bool.{Bool, true, false, not}
use mathlib.Core.Path.{◌≡◌, refl}
use Prim.Native.Nat.{ℕ}
use Rattle.division.specs.Forms.{block}
use Rattle.leaves.specs.Walk.{exchanged}
use Rattle.leaves.proofs.Numbered.exchanged.Goals as goal

exchanged_by : (along across a b : ℕ) (turned back : Bool)
    → block (record { along = across; across = along; turned = not turned; back = back; a = b; b = a })
    ≡ exchanged (block (record { along = along; across = across; turned = turned; back = back; a = a; b = b }))
unfolding exchanged
exchanged_by along across a b true back = refl
exchanged_by along across a b false back = refl

pub returns-clause-placed : goal.returns-clause-placed
returns-clause-placed c =
    let k = c.args.self.placed in
    exchanged_by k.along k.across k.a k.b k.turned k.back
