-- `streams::write_whole`: what was written and what is left are the buffer.
use Rattle.std.proofs.Common.{◌≡◌, ℕ, List, ◌++◌}
use Rattle.std.specs.Io.KnownBytes.{Appends}
use Rattle.streams.proofs.write_whole.Given as goal

abbrev pub invariant-loop : goal.invariant-loop
invariant-loop g l = (wrote : List ℕ) × (wrote ++ l.left ≡ l.buf) × Appends (g.W.Write.contents l.initial.to) (g.W.Write.contents l.to) wrote
