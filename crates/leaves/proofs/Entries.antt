-- Entries in a table: those of two lists in a row are those of the lists joined, and a square's place lies in its area's table.
use mathlib.Core.Bool.{Bool, true, false, cond}
use mathlib.Core.List.{List, [], ◌∷◌, ◌++◌, map, map-append}
use mathlib.Core.Path.{◌≡◌, refl, sym, ap, subst⁻¹, ◌∙◌}
use Prim.Native.Nat.{ℕ, suc, ◌+◌, ◌*◌, ◌≤◌, ◌<◌}
use native.Mathlib.Nat.{add-zero, add-suc, suc-add, suc-mul, mul_comm, mul-le-mul_right}
use native.Mathlib.Omega.{arith}
use lib.ListN.{length, length-set, length-map}
use Rattle.terms.specs.Terms.{longest_side, past_32_bits}
use Rattle.division.specs.Division.{Square, Block, Direction, whole, moved, row}
use Rattle.division.specs.Division.Inside.{Inside}
use Rattle.division.proofs.Blocks.{whole_inside}
use Rattle.division.proofs.EachSquareOnce.{row_length}
use Rattle.division.proofs.Descent.{row_more}
use Rattle.division.proofs.Coordinates.{Within}
use Rattle.division.proofs.WithinLimits.{inside_grow, product_limit}
use Rattle.leaves.specs.Walk.{place, over, enter_one, Fits}

-- a square's place in a table of either kind
pub either_below : (n p size : ℕ) (by_square : Bool) → n < size → (by_square ≡ true → p < size) → cond by_square p n < size
either_below n p size true l m = m refl
either_below n p size false l m = l

pub enter_length : (by_square : Bool) (t : List ℕ) (n : ℕ) (ps : List ℕ) → length (over (enter_one by_square) t n ps) ≡ length t
unfolding over
enter_length by_square t n [] = refl
enter_length by_square t n (p ∷ ps) = enter_length by_square (enter_one by_square t n p) (suc n) ps ∙ length-set t (cond by_square p n) (cond by_square n p)

-- two lists in a row are the lists joined
pub over_append :
    {S : Type 0} (step : S → ℕ → ℕ → S) (state : S) (n : ℕ) (ps qs : List ℕ) →
    over step state n (ps ++ qs) ≡ over step (over step state n ps) (n + length ps) qs
unfolding over
over_append step state n [] qs = ap (λ m. over step state m qs) (sym (add-zero n))
over_append step state n (p ∷ ps) qs =
    over_append step (step state n p) (suc n) ps qs
    ∙ ap (λ m. over step (over step (step state n p) (suc n) ps) m qs) (suc-add n (length ps) ∙ sym (add-suc n (length ps)))

-- one square of a row more
pub row_over : {S : Type 0} (step : S → ℕ → ℕ → S) (state : S) (w at : ℕ) (d : Direction) (i : ℕ) (s : Square)
    → over step state at (map (place w) (row d (suc i) s)) ≡ step (over step state at (map (place w) (row d i s))) (at + i) (place w (moved d i s))
unfolding over
row_over step state w at d i s =
    ap (λ zs. over step state at (map (place w) zs)) (row_more d i s)
    ∙ ap (over step state at) (map-append (place w) (row d i s) (moved d i s ∷ []))
    ∙ over_append step state at (map (place w) (row d i s)) (place w (moved d i s) ∷ [])
    ∙ ap (λ m. step (over step state at (map (place w) (row d i s))) (at + m) (place w (moved d i s))) (length-map (row d i s) (place w) ∙ row_length d i s)

-- a square of the area has its place in the table
pub place_below : (w h : ℕ) (s : Square) → Within w h s → place w s < w * h
place_below w h s l =
    let rows : suc s.y * w ≤ h * w = mul-le-mul_right w l.side in
    let more : suc s.y * w ≡ s.y * w + w = suc-mul s.y w in
    let x = l.run in
    omega (arith, mul_comm w h)

-- What a walk knows of its block.
pub largest : {kind : Bool} {w h size : ℕ} {k : Block} {at : ℕ} → Fits kind w h size k at → Inside longest_side longest_side k
largest {w} {h} {k = k} f = inside_grow w h longest_side longest_side f.w_limit f.h_limit k f.inside

pub squares_fit : {kind : Bool} {w h size : ℕ} {k : Block} {at : ℕ} → Fits kind w h size k at → w * h < past_32_bits
squares_fit {w} {h} f = product_limit w h f.w_limit f.h_limit

-- the whole area fits a table of as many places as it has squares
pub whole_fits : (kind : Bool) (w h size : ℕ) → 1 ≤ w → w ≤ longest_side → 1 ≤ h → h ≤ longest_side → w * h ≤ size → (k : Block) → k ≡ whole w h
    → {at : ℕ} → at ≡ 0 → Fits kind w h size k at
unfolding whole
whole_fits kind w h size some_w most_w some_h most_h room k is {at} begins =
    subst⁻¹ (λ (k : Block). Fits kind w h size k at) is
    (record {
      w_limit = most_w;
      h_limit = most_h;
      inside = whole_inside w h some_w some_h;
      numbers = omega arith;
      room = omega arith;
      places = λ e. room;
    })
