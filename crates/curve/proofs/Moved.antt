-- Order 6's sentence on the lookups and the finish square: of an area on the grid they answer what they answer at origin 0 0, with the origin added to the
-- squares; and a square so moved is asked as it is there.
use mathlib.Core.Bool.{true}
use mathlib.Core.List.{List, [], ◌∷◌}
use mathlib.Core.Path.{◌≡◌, refl, sym, ap, ap₂, ◌∙◌}
use Prim.Native.Nat.{ℕ, ◌-◌, ◌*◌}
use native.Mathlib.Nat.{zero-add, add-zero}
use lib.IntN.{pos, ◌+ℤ◌, ◌-ℤ◌}
use lib.Signed.{mag}
use Rattle.terms.specs.declared.Area.{Area}
use Rattle.terms.specs.declared.Refusal.TheVariants.{SquareOutside, TooDeep, OriginLimit}
use Rattle.terms.specs.Terms.{accepted, origin_accepted, grid_accepted, at_post}
use Rattle.terms.specs.Guards.{Guard, ◌else◌, guarded}
use Rattle.terms.proofs.Guards.{◌and◌, alike}
use Rattle.terms.proofs.Limits.{grid_guards_passed, grid_passed, post_accepted}
use Rattle.terms.proofs.Refusals.{signed_figure}
use Rattle.terms.proofs.Signs.{added_off}
use Rattle.division.specs.Division.{Square, whole, square_of, number_of, blocks_holding}
use Rattle.curve.specs.Lookups.{all, few_blocks, square_guards, number_to_square_at, square_to_number_at, finish_square_at}
use Rattle.curve.proofs.Finish.{finish_found_at, finish_answered_at}
use Rattle.curve.proofs.Demands.{found, old_is, inside_is, number_asked, number_answered_at}

-- the area at the post
module _ (w h : ℕ) (ok : accepted w h ≡ true) where
  pub post_on : grid_accepted (at_post w h) ≡ true
  post_on = post_accepted w h ∙ ok

  pub finish_at_post : let s = square_of (whole w h) (w * h - 1) in finish_square_at (at_post w h) ≡ finish_found_at (pos s.x) (pos s.y)
  finish_at_post =
      let s = square_of (whole w h) (w * h - 1) in
      finish_answered_at (at_post w h) post_on ∙ ap₂ (λ x y. finish_found_at (pos x) (pos y)) (zero-add s.x) (zero-add s.y)

-- a natural number that is told as 0 plus it
unmoved : {a b : ℕ} → pos 0 +ℤ pos a ≡ pos b → a ≡ b
unmoved {a} {b} e = sym (zero-add a) ∙ ap mag e

module _ (area : Area) (ok : grid_accepted area ≡ true) where
  -- "Squares .. answered .. are then signed and origin plus the old square"
  pub square_moved : (n x y k : ℕ) → number_to_square_at (at_post area.w area.h) n ≡ found (pos x) (pos y) k
      → number_to_square_at area n ≡ found (area.ox +ℤ pos x) (area.oy +ℤ pos y) k
  square_moved n x y k e =
      let was = number_asked (at_post area.w area.h) n (pos x) (pos y) k e in
      number_answered_at area ok n was.numbered
      ∙ ap₂ (λ x y. found (area.ox +ℤ pos x) (area.oy +ℤ pos y) (blocks_holding (all area) (square_of (all area) n))) (unmoved was.x_is)
      (unmoved was.y_is)
      ∙ ap (found (area.ox +ℤ pos x) (area.oy +ℤ pos y)) (sym was.count)

  pub finish_moved : (x y : ℕ) → finish_square_at (at_post area.w area.h) ≡ finish_found_at (pos x) (pos y)
      → finish_square_at area ≡ finish_found_at (area.ox +ℤ pos x) (area.oy +ℤ pos y)
  finish_moved x y e =
      let is = sym (finish_at_post area.w area.h (grid_passed area ok).0) ∙ e in
      finish_answered_at area ok
      ∙ ap₂ (λ x y. finish_found_at (area.ox +ℤ pos x) (area.oy +ℤ pos y)) (ap (λ f. mag (signed_figure 0 f)) is) (ap (λ f. mag (signed_figure 1 f)) is)

  -- "Squares asked": those of the area, and those outside it to the east and the north
  pub number_moved : (x y : ℕ)
      → square_to_number_at area (area.ox +ℤ pos x) (area.oy +ℤ pos y) ≡ square_to_number_at (at_post area.w area.h) (pos x) (pos y)
  unfolding origin_accepted square_to_number_at
  number_moved x y =
      let post = at_post area.w area.h in
      let east = area.ox +ℤ pos x in
      let north = area.oy +ℤ pos y in
      let p = added_off area.ox (pos x) in
      let q = added_off area.oy (pos y) in
      let at_x : pos x -ℤ pos 0 ≡ pos x = ap pos (add-zero x) in
      let at_y : pos y -ℤ pos 0 ≡ pos y = ap pos (add-zero y) in
      let old = old_is area east north p q ∙ sym (old_is post (pos x) (pos y) at_x at_y) in
      let inside = inside_is area east north p q ∙ sym (inside_is post (pos x) (pos y) at_x at_y) in
      ap₂ (λ (gs : List Guard) (s : Square). guarded gs 2 (number_of (all area) s ∷ blocks_holding (all area) s ∷ []))
      (alike (square_guards area east north) (square_guards post (pos x) (pos y))
      (refl
      and refl
      and ap (λ t. t else OriginLimit) (grid_guards_passed area ok).2
      and ap (λ t. t else SquareOutside) inside
      and ap (λ s. few_blocks area s else TooDeep) old
      and tt))
      old
