-- `Desk::feed` meets its contract: what is due of the piece is what was printed and what is due of the rest.
use Rattle.desk.proofs.Feeding.{Midway}
use Rattle.desk.proofs.Desk.feed.Given as goal

abbrev pub invariant-loop-taken : goal.invariant-loop-taken
invariant-loop-taken l = Midway l.initial.self l.chunk l.initial.out l.out l.self l.taken l.written
