-- `descents::Sought::in_long` meets its contract: numbers below those of the first part are its own, the others less those are the second's.
use native.Mathlib.Omega.{arith}
use Rattle.division.specs.Forms.{block}
use Rattle.division.proofs.WithinLimits.{a_limit, b_limit, product_limit}
use Rattle.descents.proofs.PartWithNumber.{long_half, long_enters}
use Rattle.descents.proofs.Sought.in_long.Goals as goal

pub overflow_mul-second : goal.overflow_mul-second
overflow_mul-second c =
    let k = c.args.self.block in
    let inside = c.requires.0.inside in
    let half = long_half c.requires in
    let run = a_limit (block k) inside in
    record { fits = product_limit c.even_half-e.result k.b (omega (arith, c.even_half-e.ensures)) (b_limit (block k) inside) }

pub returns : goal.returns
returns c = long_enters c.requires c.even_half-e.ensures c.long_part.ensures c.either.ensures
