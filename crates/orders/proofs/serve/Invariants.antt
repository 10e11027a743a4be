-- `orders::serve` meets its contract: what was written is what is printed for the bytes that the desk took, and each turn takes a byte at least, so that what
-- is left of the chunk is the measure.
use Rattle.std.proofs.Common.{◌≡◌, length}
use Rattle.orders.specs.Serving.{Answers}
use Rattle.orders.proofs.serve.Given as goal

abbrev pub invariant-loop-left : goal.invariant-loop-left
invariant-loop-left g l =
    (length l.out ≡ length l.initial.out) × Answers (g.W.Write.contents l.initial.to) (g.W.Write.contents l.to) l.initial.desk l.chunk l.desk l.left

abbrev pub decreases-loop-left : goal.decreases-loop-left
decreases-loop-left g l = length l.left
