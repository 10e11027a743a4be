-- `replies::put_number` meets its contract: the digits, of which there are at most ten, end where the text began.
use Rattle.std.proofs.Common.{arith, ap, rules, ◌≡◌, ◌++◌, ◌∙◌, List, ℕ, length}
use Rattle.replies.specs.Steps.{bytes_put}
use Rattle.replies.proofs.Writing.{ten_printed}
use Rattle.replies.proofs.put_number.Goals as goal

pub write_digits-text-requires : goal.write_digits-text-requires
write_digits-text-requires c =
    let digits = ten_printed c.from.ensures c.ranges.n.fits in
    let size : length c.args.text.now.bytes ≡ 73 = search rules in
    (omega (arith, c.requires.0, digits.1), omega (arith, c.requires.1))

pub returns-clause-written : goal.returns-clause-written
returns-clause-written c =
    let digits = ten_printed c.from.ensures c.ranges.n.fits in
    c.write_digits-text.ensures.written ∙ ap (λ (ds : List ℕ). ds ++ bytes_put c.args.text.now) digits.0

pub returns-clause-short : goal.returns-clause-short
returns-clause-short c =
    let digits = ten_printed c.from.ensures c.ranges.n.fits in
    let start = c.write_digits-text.ensures.start in
    (omega (arith, digits.1), omega arith)
