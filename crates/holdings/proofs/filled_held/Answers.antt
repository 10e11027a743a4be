-- `holdings::filled_held` meets its contract: the buffer has the block's entries, which the file has exactly if the block stands there.
use Prim.Native.Nat.{◌*◌}
use native.Mathlib.Omega.{arith}
use lib.ListN.{take}
use lib.Seq.{length-take-le}
use Rattle.stretches.proofs.Stretches.{fits_at}
use Rattle.sectors.specs.Sectors.{words_of}
use Rattle.holdings.proofs.Standing.{entered_right, filled_tells}
use Rattle.holdings.proofs.filled_held.Goals as goal

pub returns : goal.returns
returns c =
    let given = c.args in
    let words = words_of given.file.now in
    let n = given.k.placed.a * given.k.placed.b in
    let taken = length-take-le n given.buffer.now c.requires.2 in
    entered_right words c.requires.1
    (filled_tells (take n given.buffer.now) (fits_at c.requires.1 0 _ (omega arith) (omega arith)) c.fill_block.ensures.table taken
    words given.k.first c.entries_held.ensures)
