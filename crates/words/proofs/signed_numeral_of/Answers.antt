-- `words::signed_numeral_of` meets its contract: behind a minus by the law of such a field, and else by the laws that are named on the function.
use Rattle.std.proofs.Common.{◌≡◌, ◌∙◌, sym, ap, arith, get_or}
use Rattle.words.specs.Signed.{downwards}
use Rattle.words.proofs.Signs.{behind_minus, told_signed}
use Rattle.words.proofs.signed_numeral_of.Goals as goal

pub returns-in_err-numeral_of-in-45 : goal.returns-in_err-numeral_of-in-45
returns-in_err-numeral_of-in-45 c =
    let sign : get_or c.args.s.now 0 0 ≡ 45 = omega arith in
    let read = behind_minus c.args.s.now c.in-45.len_at_least sign _ c.numeral_of.ensures.spelling in
    let told = told_signed c.args.s.now (c.from_residual.ensures ∙ ap downwards (sym c.in_err-numeral_of-in-45.was) ∙ read) in
    record { figures = told.0; spelling = told.1 }

pub returns-in_ok-numeral_of-in-45 : goal.returns-in_ok-numeral_of-in-45
returns-in_ok-numeral_of-in-45 c =
    let sign : get_or c.args.s.now 0 0 ≡ 45 = omega arith in
    let read = behind_minus c.args.s.now c.in-45.len_at_least sign _ c.numeral_of.ensures.spelling in
    let told = told_signed c.args.s.now (c.below_zero.ensures ∙ ap downwards (sym c.in_ok-numeral_of-in-45.was) ∙ read) in
    record { figures = told.0; spelling = told.1 }
