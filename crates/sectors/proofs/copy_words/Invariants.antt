-- `sectors::copy_words` meets its contract. The invariant: the first i words are copied.
use Rattle.std.proofs.Common.{◌≡◌, ◌++◌, take, drop}
use Rattle.sectors.specs.Sectors.{words_of}
use Rattle.sectors.proofs.copy_words.Given as goal

abbrev pub invariant-loop-i : goal.invariant-loop-i
invariant-loop-i l = l.words ≡ take l.i (words_of l.bytes) ++ drop l.i l.fn.words
