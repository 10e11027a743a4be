-- `holdings::table_held` meets its contract: the walk begins with the whole area.
use mathlib.Core.Bool.{false}
use Prim.Native.Nat.{◌*◌}
use native.Mathlib.Omega.{arith}
use Rattle.division.specs.Forms.{block}
use Rattle.leaves.proofs.Entries.{whole_fits}
use Rattle.sectors.specs.Sectors.{words_of}
use Rattle.holdings.proofs.Standing.{whole_tells}
use Rattle.holdings.proofs.table_held.Goals as goal

pub block_held-requires : goal.block_held-requires
block_held-requires c =
    let w = c.args.area.w in
    let h = c.args.area.h in
    let limits = c.requires.0 in
    let whole = block c.whole.result.placed in
    let lies = whole_fits false w h (w * h) limits.w_least limits.w_most limits.h_least limits.h_most (omega arith) whole
    c.whole.ensures.placed c.whole.ensures.first in
    (c.requires.1, lies)

pub returns : goal.returns
returns c =
    let w = c.args.area.w in
    let h = c.args.area.h in
    let limits = c.requires.0 in
    let whole = block c.whole.result.placed in
    let lies = whole_fits false w h (w * h) limits.w_least limits.w_most limits.h_least limits.h_most (omega arith) whole
    c.whole.ensures.placed c.whole.ensures.first in
    whole_tells w h (words_of c.args.file.now) lies c.whole.ensures.placed c.whole.ensures.first c.block_held.ensures
