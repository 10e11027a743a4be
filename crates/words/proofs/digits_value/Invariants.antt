-- The loop of `words::digits_value`: what is due of the whole field is due of the rest with the value so far (`Numerals`), which is below ten to the number
-- of digits.
use Rattle.std.proofs.Common.{◌≡◌, ◌<◌, ◌^◌, drop}
use Rattle.words.proofs.Numerals.{due}
use Rattle.words.proofs.digits_value.Given as goal

abbrev pub invariant-loop-b : goal.invariant-loop-b
invariant-loop-b l = record { small : l.v < 10 ^ l.b-index; due_of_rest : due l.v (drop l.b-index l.s) ≡ due 0 l.s }
