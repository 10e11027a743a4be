-- What `feed` promises takes a byte at least, and what is written of it is what is printed for it.
use Rattle.std.proofs.Common.{arith, sym, ap, ◌∙◌, length, length-drop}
use borrow.Author.Tests.{eqb-false}
use Rattle.std.proofs.lemmas.List.{take_rest}
use Rattle.desk.proofs.Progress.{goes_on}
use Rattle.orders.proofs.Serving.{fed_on}
use Rattle.orders.proofs.serve.Goals as goal

pub loop-left-preserved : goal.loop-left-preserved
loop-left-preserved g c =
    let f = c.feed-fed.ensures in
    (omega arith, rw take_rest (fed_on f.fed f.within c.loop-left.invariant.1 c.in_ok-write.ensures))

pub loop-left-smaller : goal.loop-left-smaller
loop-left-smaller g c =
    let left = c.loop-left.left.now in
    let some = eqb-false (length left) 0 (sym c.is_empty.ensures ∙ c.loop-left-test.true) in
    let more = goes_on c.feed-fed.ensures.fed (omega arith) (omega arith) in
    omega (arith, length-drop c.feed-fed.result.taken left, ap length (take_rest left c.feed-fed.result.taken))
