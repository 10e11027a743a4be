-- `layouts::frames_held` meets its contract. The invariant: the blocks before b have their frames.
use Rattle.sectors.specs.Sectors.{words_of}
use Rattle.layouts.specs.Steps.{Frames}
use Rattle.layouts.proofs.frames_held.Given as goal

abbrev pub invariant-loop-b : goal.invariant-loop-b
invariant-loop-b l = Frames (words_of l.file) l.places l.b
