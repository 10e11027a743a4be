-- The table is right for one stretch more after each turn.
use Rattle.std.proofs.Common.{length, take, drop, ap, arith, length-take, length-drop, length-append}
use mathlib.Core.Bool.{not}
use Rattle.terms.proofs.Telling.{grants, said_yes}
use Rattle.sectors.specs.Sectors.{words_of}
use Rattle.layouts.proofs.Judging.{right_more}
use Rattle.layouts.proofs.table_held.Goals as goal

pub loop-first-preserved : goal.loop-first-preserved
loop-first-preserved g c =
    let w = c.args.area.w in
    let h = c.args.area.h in
    let at = c.loop-first.first in
    let m = length (take c.min-m.result c.loop-first.buffer) in
    let size = length-take c.min-m.result c.loop-first.buffer in
    let left = length-drop c.min-m.result c.loop-first.buffer in
    let joined = length-append c.stretch_held.new.buffer (drop c.min-m.result c.loop-first.buffer) in
    let same = c.stretch_held.auto.buffer in (
      omega arith,
      omega arith,
      λ i l k. right_more g.T.Kind.BY_SQUARE (words_of c.args.file.now) w h at m (omega arith) c.loop-first.invariant.2
          (said_yes c.stretch_held.ensures (ap not c.if-not-stretch_held.false)) i (omega arith) k,
    )

pub returns-else-not-stretch_held : goal.returns-else-not-stretch_held
returns-else-not-stretch_held g c =
    let w = c.args.area.w in
    let h = c.args.area.h in
    let m = length (take c.min-m.result c.loop-first.buffer) in
    let size = length-take c.min-m.result c.loop-first.buffer in
    grants (λ i l. right_more g.T.Kind.BY_SQUARE (words_of c.args.file.now) w h c.loop-first.first m (omega arith) c.loop-first.invariant.2
    (said_yes c.stretch_held.ensures (ap not c.if-not-stretch_held.false)) i (omega arith) l)
