-- `sectors::put_words` meets its contract. The invariant: the first i words are entered.
use Rattle.std.proofs.Common.{◌≡◌, ◌++◌, take, drop}
use Rattle.sectors.specs.Sectors.{words_of}
use Rattle.sectors.proofs.put_words.Given as goal

abbrev pub invariant-loop-i : goal.invariant-loop-i
invariant-loop-i l = words_of l.bytes ≡ take l.i l.words ++ drop l.i (words_of l.fn.bytes)
