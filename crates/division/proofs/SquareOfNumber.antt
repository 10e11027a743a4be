-- The square of a number, from that of a part: the n-th square of a part has the block's number n after those of the parts before it. Local form: the
-- part's own area, each (u, v) of it carried into the block's by `seen_from`, which undoes `seen_in`.
use mathlib.Core.List.{List, ◌∷◌, ◌++◌, map}
use mathlib.Core.Path.{◌≡◌, refl, sym, ap, ◌∙◌}
use Prim.Native.Nat.{ℕ, ◌+◌, ◌-◌, ◌/◌, ◌≤◌, ◌<◌}
use native.Mathlib.Nat.{zero-add, add-sub_cancel_left}
use native.Mathlib.Omega.{arith}
use Rattle.division.specs.declared.Choice.TheVariants.{StraightRun, StraightSide}
use Rattle.division.specs.Division.{Square, square, moved, Block, whole, choice, even_half, Part, First, Second, A, B, C, part, parts_of, square_of}
use Rattle.division.specs.Division.Inside.{Sized, Inside}
use Rattle.division.specs.Forms.{seen_in}
use Rattle.division.proofs.Cases.{Cut, in_two, in_three, rule}
use Rattle.division.proofs.Cuts.{area}
use Rattle.division.proofs.EachSquareOnce.{square_held}
use Rattle.division.proofs.Blocks.{whole_inside}
use Rattle.division.proofs.Descent.{the_cut, in_part, part_inside, run_square, side_square}
use Rattle.division.proofs.Coordinates.{spot, spot_whole, spot_part, Within, seen_from, whole_within}
use Rattle.division.proofs.PartHolding.{named_parts, squares_of, squares_in}
use Rattle.division.proofs.SameLengths.{square_alike}

cut_side : (k : Block) → Cut k → 2 ≤ k.b
cut_side k (in_two a b e) = b
cut_side k (in_three a b e) = b

-- a part by its name, with those before and after it
module _ (k : Block) (z : Sized k) (before : List Part) (p : Part) (after : List Part) (e : parts_of (choice k.a k.b) ≡ before ++ (p ∷ after)) where
  pub at_part : (n : ℕ) → n < area (part p k) → square_of k (squares_of k.a k.b before + n) ≡ square_of (part p k) n
  at_part n l =
      ap (λ m. square_of k (m + n)) (sym (squares_in k before))
      ∙ in_part k z (map (λ p. part p k) before) (part p k) (map (λ p. part p k) after) (named_parts k before p after e) n l

  part_side : 2 ≤ k.b
  part_side = cut_side k (the_cut k z (map (λ p. part p k) before) (part p k) (map (λ p. part p k) after) (named_parts k before p after e))

-- and where the block lies within an area: the part's own area, put where the part has it
pub spot_at_part : (w h : ℕ) (k : Block) → Inside w h k → (before : List Part) (p : Part) (after : List Part)
    → parts_of (choice k.a k.b) ≡ before ++ (p ∷ after) → (n : ℕ) → n < area (part p k)
    → square_of k (squares_of k.a k.b before + n) ≡ spot k (seen_from p k.a k.b (square_of (whole (part p k).a (part p k).b) n))
unfolding whole
spot_at_part w h k i before p after e n l =
    let q = part p k in
    let there = part_inside w h k i (map (λ p. part p k) before) q (map (λ p. part p k) after) (named_parts k before p after e) in
    let own = square_of (whole q.a q.b) n in
    let own_inside = whole_inside q.a q.b there.sized.run there.sized.side in
    let within = whole_within q.a q.b own (square_held q.a q.b (whole q.a q.b) own_inside n l) in
    at_part k i.sized before p after e n l
    ∙ square_alike w h q there n l
    ∙ spot_part w h k i p own (part_side k i.sized before p after e) within

pub area_at_part : (a b : ℕ) → 1 ≤ a → 1 ≤ b → (before : List Part) (p : Part) (after : List Part) → parts_of (choice a b) ≡ before ++ (p ∷ after)
    → (n : ℕ) → n < area (part p (whole a b))
    → square_of (whole a b) (squares_of a b before + n) ≡ seen_from p a b (square_of (whole (part p (whole a b)).a (part p (whole a b)).b) n)
unfolding whole
area_at_part a b la lb before p after e n l =
    spot_at_part a b (whole a b) (whole_inside a b la lb) before p after e n l
    ∙ spot_whole a b (seen_from p a b (square_of (whole (part p (whole a b)).a (part p (whole a b)).b) n))

-- so far along a straight area
module _ (a b : ℕ) (la : 1 ≤ a) (lb : 1 ≤ b) (n : ℕ) where
  pub area_run_at : choice a b ≡ StraightRun → n < a → square_of (whole a b) n ≡ square n 0
  unfolding whole moved
  area_run_at c l = run_square (whole a b) (rule (whole a b) StraightRun (record { run = la; side = lb }) c).0 n l ∙ ap (λ x. square x 0) (zero-add n)

  pub area_side_at : choice a b ≡ StraightSide → n < b → square_of (whole a b) n ≡ square 0 n
  unfolding whole moved
  area_side_at c l = side_square (whole a b) (rule (whole a b) StraightSide (record { run = la; side = lb }) c).0 n l ∙ ap (square 0) (zero-add n)

-- `seen_from` is the way back from `seen_in`
pub seen_back : (a b : ℕ) (p : Part) (s : Square) → Within (part p (whole a b)).a (part p (whole a b)).b s
    → seen_in p (record { a = a; b = b; u = (seen_from p a b s).x; v = (seen_from p a b s).y })
    ≡ record { a = (part p (whole a b)).a; b = (part p (whole a b)).b; u = s.x; v = s.y }
unfolding part seen_from whole
seen_back a b First s l = refl
seen_back a b Second s l = λ i. record { a = a - even_half a; b = b; u = add-sub_cancel_left (even_half a) s.x i; v = s.y }
seen_back a b A s l = refl
seen_back a b B s l = λ i. record { a = a; b = b - even_half b; u = s.x; v = add-sub_cancel_left (even_half b) s.y i }
seen_back a b C s l =
    let u : even_half b - 1 - (even_half b - 1 - s.x) ≡ s.x = let along = l.run in omega arith in
    let v : a - 1 - (a - 1 - s.y) ≡ s.y = let across = l.side in omega arith in
    λ i. record { a = even_half b; b = a - a / 2; u = u i; v = v i }
