-- `copies::agree` meets its contract: the test over both lists is true exactly where the one is the other's images.
use Rattle.std.proofs.Common.{true, rules, tests}
use Rattle.std.proofs.lemmas.Iterator.{YieldsList-from_slice, YieldsList-from_zip}
use Rattle.std.proofs.lemmas.Iterator.Consumers.{fold_from_yields_List}
use Rattle.copies.specs.Copies.{image}
use Rattle.copies.proofs.Images.{both, images_told}
use Rattle.copies.proofs.agree.Goals as goal

pub returns : goal.returns
returns c =
    let f = image c.args.by.opposite c.args.by.c in
    images_told f c.args.earlier.now c.args.later.now c.requires
    (fold_from_yields_List _ (both f) true _ c.fold.ensures.ran
    (YieldsList-from_zip (YieldsList-from_slice c.args.later.now cc) (YieldsList-from_slice c.args.earlier.now cc)) (λ a x b q k. search (rules, tests)))
