-- `stretches::stretch` meets its contract: the whole area lies in itself, and the walk over it leaves the entries.
use mathlib.Core.Bool.{false}
use mathlib.Core.Path.{refl}
use Prim.Native.Nat.{◌*◌}
use native.Mathlib.Omega.{arith}
use lib.ListN.{length}
use Rattle.leaves.proofs.Entries.{whole_fits}
use Rattle.stretches.proofs.Stretches.{all_entries}
use Rattle.stretches.proofs.stretch.Goals as goal

pub stretch_block-requires : goal.stretch_block-requires
stretch_block-requires c =
    let w = c.args.area.w in
    let h = c.args.area.h in
    let asked = c.requires in
    whole_fits false w h (w * h) asked.0 asked.1 asked.2 asked.3 (omega arith) _ c.whole.ensures.placed c.whole.ensures.first

pub returns : goal.returns
returns c =
    let given = c.args in
    let out = given.out.now in
    all_entries given.area.w given.area.h c.requires.0 c.requires.2 given.first (length out) c.requires.4 out refl
    c.whole.ensures.placed c.whole.ensures.first c.stretch_block.ensures
