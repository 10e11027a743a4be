-- `words::numeral_of` meets its contract: a field that is not formed so is no number, and the rest is by the laws that are named on the function.
use Rattle.std.proofs.Common.{sym, ◌∙◌}
use Rattle.words.proofs.Numerals.{ill_formed}
use Rattle.words.proofs.Spellings.{told_so}
use Rattle.words.proofs.numeral_of.Goals as goal

pub returns-then-not-is_well_formed : goal.returns-then-not-is_well_formed
returns-then-not-is_well_formed c =
    let told = told_so c.args.s.now (sym (ill_formed _ (sym c.is_well_formed.ensures ∙ c.if-not-is_well_formed.true))) in
    record { figures = told.0; spelling = told.1 }
