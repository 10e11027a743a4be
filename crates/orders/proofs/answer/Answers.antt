-- Each turn goes on from where the last one left the desk; after them `finish` writes what is left.
use Rattle.std.proofs.Common.{arith, subst}
use Rattle.std.proofs.lemmas.Result.{on_ok_weaker}
use Rattle.desk.specs.Steps.{at_first}
use Rattle.orders.specs.Serving.{Turns}
use Rattle.orders.proofs.Serving.{not_begun, turned, whole}
use Rattle.orders.proofs.answer.Goals as goal

pub loop-init : goal.loop-init
loop-init g c = not_begun _ _ c.opened-desk.ensures

pub loop-preserved : goal.loop-preserved
loop-preserved g c =
    subst (Turns _ _ _ _ at_first c.turn.new.desk) c.if-not-branch.false (turned c.loop.invariant (c.in_ok-turn.ensures (omega arith)))

pub returns-then-not-branch : goal.returns-then-not-branch
returns-then-not-branch g c =
    let turns = turned c.loop.invariant (c.in_ok-turn.ensures (omega arith)) in
    on_ok_weaker _ (whole c.finish-end.ensures.written c.finish-end.ensures.short (omega arith) _ turns c.if-not-branch.true) c.write.ensures
