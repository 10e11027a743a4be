-- `words::digits_value` meets its contract, by the laws of what is due (`Numerals`), which are named on the function.
use Rattle.std.proofs.Common.{◌∙◌, sym}
use Rattle.words.proofs.Numerals.{due_on, below_ten}
use Rattle.words.proofs.digits_value.Goals as goal

pub loop-b-preserved : goal.loop-b-preserved
loop-b-preserved c =
    let digit = sym c.is_ascii_digit.ensures.value ∙ c.if-not-is_ascii_digit.false in
    record {
      small = below_ten _ _ _ _ c.loop-b-test.true c.from.ensures digit c.loop-b.invariant.small;
      due_of_rest = due_on _ _ _ _ c.loop-b-test.true c.from.ensures digit ∙ c.loop-b.invariant.due_of_rest;
    }
