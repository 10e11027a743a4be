-- `orders::answer`: what was written is what is printed for what was read, as long as there is more to read.
use Rattle.std.proofs.Common.{true}
use Rattle.desk.specs.Steps.{at_first}
use Rattle.orders.specs.Serving.{Turns}
use Rattle.orders.proofs.answer.Given as goal

abbrev pub invariant-loop : goal.invariant-loop
invariant-loop g l =
    Turns (g.R.Read.remaining l.initial.from) (g.R.Read.remaining l.from) (g.W.Write.contents l.initial.to) (g.W.Write.contents l.to) at_first l.desk true
