-- `exports::uvalinda_number_to_square` meets its contract: the answer's figures, as the lookup ensures them, in the slice's first places. A found square's
-- count of blocks is small enough for a signed place.
use borrow.Author.Rules.{rules}
use mathlib.Core.List.{◌∷◌}
use mathlib.Core.Path.{◌≡◌, refl, sym, ap, ap₂, ◌∙◌}
use Prim.Native.Nat.{◌<◌}
use native.Mathlib.Omega.{arith}
use lib.ListN.{drop}
use mir.Syntax.{w32}
use mir.Facts.{to_z_pos}
use Rattle.terms.specs.Terms.{in_signs}
use Rattle.terms.proofs.Signs.{held}
use Rattle.curve.specs.Lookups.{number_to_square_at, square_figures}
use Rattle.curve.proofs.Demands.{at_most_41_blocks}
use Rattle.boundary.specs.Boundary.{area_at}
use Rattle.exports.proofs.Values.{kept_area, found}
use Rattle.exports.proofs.uvalinda_number_to_square.Goals as goal

pub overflow_cast-s : goal.overflow_cast-s
overflow_cast-s c =
    let asked = c.args in
    let told = c.number_to_square.ensures ∙ ap (λ area. number_to_square_at area asked.number) (kept_area asked.w asked.h c.ranges.ox c.ranges.oy) in
    let s = c.in-Ok.s in
    let few = at_most_41_blocks (area_at asked.w asked.h asked.ox asked.oy) asked.number s.x s.y s.blocks (sym told ∙ ap square_figures c.in-Ok.is) in
    record { sfits = omega arith }

pub returns-in-Ok-clause-values : goal.returns-in-Ok-clause-values
returns-in-Ok-clause-values c =
    let asked = c.args in
    let s = c.in-Ok.s in
    let told = c.number_to_square.ensures ∙ ap (λ area. number_to_square_at area asked.number) (kept_area asked.w asked.h c.ranges.ox c.ranges.oy) in
    let few = at_most_41_blocks (area_at asked.w asked.h asked.ox asked.oy) asked.number s.x s.y s.blocks (sym told ∙ ap square_figures c.in-Ok.is) in
    let x_is : held s.x ≡ s.x = search rules in
    let y_is : held s.y ≡ s.y = search rules in
    let blocks_is = to_z_pos w32 (let small : s.blocks < 2147483648 = omega arith in small) in
    let last = c.put.ensures ∙ ap₂ ◌∷◌ x_is (ap₂ ◌∷◌ y_is (ap (λ k. k ∷ drop 3 asked.res.now) blocks_is)) in
    (found 3 square_figures asked.res.now c.if-res-lt3.false c.in-Ok.is told 0 refl _ last).1

pub returns-in-Err-clause-values : goal.returns-in-Err-clause-values
unfolding in_signs
returns-in-Err-clause-values c =
    let asked = c.args in
    let told = c.number_to_square.ensures ∙ ap (λ area. number_to_square_at area asked.number) (kept_area asked.w asked.h c.ranges.ox c.ranges.oy) in
    (found 3 square_figures asked.res.now c.if-res-lt3.false c.in-Err.is told _ c.from.ensures _ c.put-in-Err.ensures).1
