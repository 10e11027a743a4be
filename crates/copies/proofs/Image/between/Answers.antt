-- `copies::Image::between` meets its contract: the sum of the two places, or their difference, leads from one to the other.
use Rattle.std.proofs.Common.{◌≡◌, ℕ, ◌+◌, ◌%◌, ◌<◌, true, false, arith}
use Rattle.terms.specs.Terms.{past_32_bits}
use Rattle.division.specs.Forms.{block}
use Rattle.division.proofs.WithinLimits.{product_limit}
use Rattle.copies.specs.Copies.{image}
use Rattle.copies.proofs.Alike.{start_below}
use Rattle.copies.proofs.Image.between.Goals as goal

by_sum : {p q r : ℕ} → p < past_32_bits → q < past_32_bits → r ≡ (p + q) % past_32_bits → q ≡ image true r p
by_sum l m is = omega arith

by_difference : (p q r : ℕ) → (r + p) % past_32_bits ≡ q → q ≡ image false r p
by_difference p q r is = omega arith

pub place_of-p-requires : goal.place_of-p-requires
place_of-p-requires c =
    let area = c.args.area in
    let below = start_below area.w area.h (block c.args.j) c.requires.0 in
    let all = product_limit area.w area.h c.requires.2 c.requires.3 in
    omega arith

pub place_of-q-requires : goal.place_of-q-requires
place_of-q-requires c =
    let area = c.args.area in
    let below = start_below area.w area.h (block c.args.k) c.requires.1 in
    let all = product_limit area.w area.h c.requires.2 c.requires.3 in
    omega arith
