-- `layouts::stretch_held` meets its contract: the buffer has the entries of the stretch, so that what is told of these is told of the area's entries.
use Rattle.std.proofs.Common.{length, arith}
use Rattle.sectors.specs.Sectors.{words_of}
use Rattle.layouts.proofs.Judging.{all_reached, entries_put, buffer_tells}
use Rattle.layouts.proofs.stretch_held.Goals as goal

pub numbers_held-requires : goal.numbers_held-requires
numbers_held-requires g c =
    let given = c.args in
    let m = length given.buffer.now in
    let size = entries_put given.area.w given.area.h given.first m c.requires.0 c.requires.3 c.stretch.ensures in
    let most = c.requires.0.squares_most in
    (all_reached given.area.w given.area.h given.first m c.requires.0 c.requires.3 c.stretch.ensures given.file.now c.requires.1, omega arith)

pub returns-then-BY_SQUARE : goal.returns-then-BY_SQUARE
returns-then-BY_SQUARE g c =
    let given = c.args in
    buffer_tells given.area.w given.area.h given.first (length given.buffer.now) c.requires.0 c.requires.3 c.stretch.ensures (words_of given.file.now)
    c.BY_SQUARE.ensures c.if-BY_SQUARE.true c.numbers_held.ensures

pub returns : goal.returns
returns g c =
    let given = c.args in
    buffer_tells given.area.w given.area.h given.first (length given.buffer.now) c.requires.0 c.requires.3 c.stretch.ensures (words_of given.file.now)
    c.BY_SQUARE.ensures c.if-BY_SQUARE.false c.entries_held.ensures
