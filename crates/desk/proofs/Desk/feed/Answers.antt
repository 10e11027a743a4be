-- The goals of `Desk::feed`, under what stands in `Invariants.antt`.
use Rattle.std.proofs.Common.{sym, ◌∙◌, arith}
use Rattle.desk.proofs.Feeding.{one_on, no_room_left, no_byte_left}
use Rattle.desk.proofs.Desk.feed.Goals as goal

pub returns-then-not-has_room-clause-fed : goal.returns-then-not-has_room-clause-fed
returns-then-not-has_room-clause-fed c = no_room_left c.loop-taken.invariant c.loop-taken-test.true (sym c.has_room.ensures ∙ c.if-not-has_room.true)

pub loop-taken-preserved : goal.loop-taken-preserved
loop-taken-preserved c =
    let step = c.step-written.ensures in
    one_on c.loop-taken.invariant c.loop-taken-test.true (sym c.has_room.ensures ∙ c.if-not-has_room.false) step.next step.written step.short

pub returns-clause-fed : goal.returns-clause-fed
returns-clause-fed c = no_byte_left c.loop-taken.invariant (omega (arith, c.loop-taken-test.false, c.loop-taken.auto.taken-end))
