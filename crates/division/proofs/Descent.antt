-- From a block down into one of its parts: the part's numbers stand in the block's after those of the parts before it, and one more block
-- holds each of its squares. What a lookup does at each step.
use mathlib.Core.Bool.{true}
use mathlib.Core.List.{List, [], ◌∷◌, ◌++◌, map, flatten}
use mathlib.Core.Path.{◌≡◌, sym, ap, ap₂, subst, subst⁻¹, ◌∙◌}
use Prim.Native.Nat.{ℕ, zero, suc, ◌+◌, ◌≤◌, ◌<◌}
use native.Mathlib.Nat.{le_of_suc-le-suc}
use native.Mathlib.Numerals.{one-add}
use native.Mathlib.Omega.{arith}
use lib.ListN.{length, get_or, get_or-append}
use lib.Seq.{get_or-append-add}
use Rattle.division.specs.Division.{Square, square, Direction, Block, parts, moved, row, curve, holds, one, count, blocks_holding}
use Rattle.division.specs.Division.{same, place_in, square_of, number_of}
use Rattle.division.specs.Division.Inside.{Sized, Inside}
use Rattle.division.proofs.Rules.{All, AllMap, Smaller, smaller}
use Rattle.division.proofs.Cases.{Cut, Shape, in_run, in_side, cut, shape}
use Rattle.division.proofs.Plane.{one_le, moved_add, moved_none}
use Rattle.division.proofs.Sums.{total, total_all, total_append, count_joined, length_joined, flatten_append, none_of, all_left, all_right}
use Rattle.division.proofs.Cuts.{area, areas, inside_parts, holds_parts}
use Rattle.division.proofs.PlaceInList.{place_left, place_right}
use Rattle.division.proofs.EachSquareOnce.{length_curve, once}
use Rattle.division.proofs.Blocks.{bounded, holding_rule}

-- 1 where a block holds the square
abbrev holding : Square → Block → ℕ
holding p j = one (holds j p)

-- the parts of a cut block, with one of them marked off from those before and after it
module _ (k : Block) (z : Sized k) (before : List Block) (q : Block) (after : List Block) (e : parts k ≡ before ++ (q ∷ after)) where
  not_straight : parts k ≡ [] → ⊥
  not_straight none = empty before (sym e ∙ none)
    where
      empty : (xs : List Block) → xs ++ (q ∷ after) ≡ [] → ⊥
      empty [] f = absurd (mathlib.Core.List.cons-ne-nil q after f)
      empty (x ∷ xs) f = absurd (mathlib.Core.List.cons-ne-nil x (xs ++ (q ∷ after)) f)

  is_cut : Shape k → Cut k
  is_cut (in_run b none c) = absurd (not_straight none)
  is_cut (in_side a none c) = absurd (not_straight none)
  is_cut (cut t c) = t

  pub the_cut : Cut k
  the_cut = is_cut (shape k z)

  all_smaller : All (Smaller k) (before ++ (q ∷ after))
  all_smaller = subst (All (Smaller k)) e (smaller k z)

  pub part_smaller : Smaller k q
  part_smaller = (all_right (Smaller k) before (q ∷ after) all_smaller).0

  -- the parts before it leave it its room
  pub skip_fits : total area before + area q ≤ area k
  skip_fits =
      let sum : total area before + (area q + total area after) ≡ area k =
      sym (total_append area before (q ∷ after)) ∙ ap (total area) (sym e) ∙ areas k the_cut in
      omega arith

  joined_by : Shape k → curve k ≡ flatten (map curve before) ++ (curve q ++ flatten (map curve after))
  unfolding flatten
  joined_by (in_run b none c) = absurd (not_straight none)
  joined_by (in_side a none c) = absurd (not_straight none)
  joined_by (cut t c) = c ∙ ap (λ qs. flatten (map curve qs)) e ∙ flatten_append curve before (q ∷ after)

  joined : curve k ≡ flatten (map curve before) ++ (curve q ++ flatten (map curve after))
  joined = joined_by (shape k z)

  lengths : (qs : List Block) → All (Smaller k) qs → length (flatten (map curve qs)) ≡ total area qs
  lengths qs all = length_joined curve qs ∙ total_all (λ j. length (curve j)) area qs (AllMap (λ j s. length_curve j s.sized) qs all)

  skip_length : length (flatten (map curve before)) ≡ total area before
  skip_length = lengths before (all_left (Smaller k) before (q ∷ after) all_smaller)

  -- the square of a number of the part
  pub in_part : (n : ℕ) → n < area q → square_of k (total area before + n) ≡ square_of q n
  unfolding square_of
  in_part n l =
      let start = flatten (map curve before) in
      let rest = flatten (map curve after) in
      ap₂ (λ zs m. get_or zs m (square 0 0)) joined (ap (λ m. m + n) (sym skip_length))
      ∙ get_or-append-add start (curve q ++ rest) n (square 0 0)
      ∙ get_or-append (curve q) rest (square 0 0) n (subst⁻¹ (λ (m : ℕ). n < m) (length_curve q part_smaller.sized) l)

-- and where the block lies within an area
module _ (w h : ℕ) (k : Block) (i : Inside w h k) (before : List Block) (q : Block) (after : List Block) (e : parts k ≡ before ++ (q ∷ after)) where
  cut_here : Cut k
  cut_here = the_cut k i.sized before q after e

  all_inside : All (Inside w h) (before ++ (q ∷ after))
  all_inside = subst (All (Inside w h)) e (inside_parts w h k i cut_here)

  pub part_inside : Inside w h q
  part_inside = (all_right (Inside w h) before (q ∷ after) all_inside).0

  pub square_in : (n : ℕ) → n < area q → square_of k (total area before + n) ≡ square_of q n
  square_in n l = in_part k i.sized before q after e n l

  module _ (p : Square) (held : holds q p ≡ true) where
    -- the block holds the square, and no part before or after it does
    alone : (total (holding p) before ≡ 0) × (total (holding p) after ≡ 0) × (one (holds k p) ≡ 1)
    alone =
        let here : holding p q ≡ 1 = ap one held in
        let sum : total (holding p) before + (holding p q + total (holding p) after) ≡ one (holds k p) =
        sym (total_append (holding p) before (q ∷ after)) ∙ ap (total (holding p)) (sym e) ∙ holds_parts w h k i cut_here p in
        let most = one_le (holds k p) in
        (omega arith, omega arith, omega arith)

    pub number_in : number_of k p ≡ total area before + number_of q p
    unfolding number_of
    number_in =
        let start = flatten (map curve before) in
        let rest = flatten (map curve after) in
        let not_before : count (same p) start ≡ 0 =
        count_joined (same p) curve before
        ∙ total_all (λ j. count (same p) (curve j)) (holding p) before
        (AllMap (λ j s. once w h j s p) before (all_left (Inside w h) before (q ∷ after) all_inside))
        ∙ alone.0 in
        let here : count (same p) (curve q) ≡ 1 = once w h q part_inside p ∙ ap one held in
        ap (λ zs. place_in zs p) (joined k i.sized before q after e)
        ∙ place_right p start (curve q ++ rest) not_before
        ∙ ap₂ ◌+◌ (skip_length k i.sized before q after e) (place_left p (curve q) rest (omega arith))

    pub holding_in : blocks_holding k p ≡ suc (blocks_holding q p)
    holding_in =
        let deep : Block → ℕ = λ j. blocks_holding j p in
        let none : (qs : List Block) → All (Inside w h) qs → total (holding p) qs ≡ 0 → total deep qs ≡ 0 =
        λ qs all z. none_of (holding p) deep qs (AllMap (λ j s. (bounded w h j s p).none) qs all) z in
        let first = none before (all_left (Inside w h) before (q ∷ after) all_inside) alone.0 in
        let last = none after (all_right (Inside w h) before (q ∷ after) all_inside).1 alone.1 in
        let sum : total deep (parts k) ≡ total deep before + (deep q + total deep after) = ap (total deep) e ∙ total_append deep before (q ∷ after) in
        let one_more = holding_rule k p i.sized in
        let whole = alone.2 in
        omega arith

-- a straight block: its squares follow in its run or in its side, and it alone holds them
pub row_at : (d : Direction) (n m : ℕ) (s z : Square) → m < n → get_or (row d n s) m z ≡ moved d m s
unfolding row
row_at d zero m s z l = absurd (omega arith)
row_at d (suc n) zero s z l = sym (moved_none d s)
row_at d (suc n) (suc m) s z l =
    row_at d n m (moved d 1 s) z (le_of_suc-le-suc l) ∙ moved_add d 1 m s ∙ ap (λ n. moved d n s) (one-add m)

-- one square more at a row's end
pub row_more : (d : Direction) (n : ℕ) (s : Square) → row d (suc n) s ≡ row d n s ++ (moved d n s ∷ [])
unfolding row
row_more d zero s = ap (λ (p : Square). p ∷ []) (sym (moved_none d s))
row_more d (suc n) s =
    let next = moved d 1 s in
    let last : moved d n next ≡ moved d (suc n) s = moved_add d 1 n s ∙ ap (λ m. moved d m s) (one-add n) in
    ap (λ zs. s ∷ zs) (row_more d n next ∙ ap (λ (p : Square). row d n next ++ (p ∷ [])) last)

pub straight_holding : (k : Block) (p : Square) → Sized k → parts k ≡ [] → holds k p ≡ true → blocks_holding k p ≡ 1
straight_holding k p s e held = holding_rule k p s ∙ rw (e, held)

pub some_holding : (k : Block) (p : Square) → Sized k → holds k p ≡ true → 1 ≤ blocks_holding k p
some_holding k p s held = let sum = holding_rule k p s in let itself : one (holds k p) ≡ 1 = rw held in omega arith

pub run_square : (k : Block) → curve k ≡ row k.run k.a k.start → (n : ℕ) → n < k.a → square_of k n ≡ moved k.run n k.start
unfolding square_of
run_square k c n l = ap (λ zs. get_or zs n (square 0 0)) c ∙ row_at k.run k.a n k.start (square 0 0) l

pub side_square : (k : Block) → curve k ≡ row k.side k.b k.start → (n : ℕ) → n < k.b → square_of k n ≡ moved k.side n k.start
unfolding square_of
side_square k c n l = ap (λ zs. get_or zs n (square 0 0)) c ∙ row_at k.side k.b n k.start (square 0 0) l
