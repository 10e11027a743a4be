-- A stretch, block by block: a block that lies before it or behind it leaves it as it is, one that lies in it may be filled, and the whole area leaves the
-- entries of its numbers.
use mathlib.Core.Bool.{false, true≢false}
use mathlib.Core.List.{List, [], ◌∷◌, map}
use mathlib.Core.Path.{◌≡◌, refl, sym, ap, ap₂, subst⁻¹, ◌∙◌}
use Prim.Native.Nat.{ℕ, zero, suc, ◌+◌, ◌-◌, ◌*◌, ◌≤◌, ◌<◌}
use native.Mathlib.Nat.{add-suc, suc-add}
use native.Mathlib.Omega.{arith}
use lib.ListN.{length, get_or, set, drop, length-map, length-drop}
use lib.Seq.{length-take-le, get_or-take, get_or-drop, ext_get_or, get_or-set_same, get_or-set_other}
use Rattle.terms.specs.Terms.{past_32_bits}
use Rattle.division.specs.Division.{Block, whole, curve}
use Rattle.division.proofs.Blocks.{whole_inside}
use Rattle.division.proofs.EachSquareOnce.{length_curve}
use Rattle.leaves.specs.Walk.{place, over, enter_one, filled_with, Fits}
use Rattle.leaves.proofs.Entries.{squares_fit}
use Rattle.copies.proofs.Alike.{entry_below}
use Rattle.stretches.specs.Stretch.{put_from, stretched, Lies, entries_from}
use Rattle.stretches.proofs.Clipped.{put_in, put_length, all_before, all_behind, over_length}

-- squares that lie wholly in the stretch are entered as into a table
filled_so : (first : ℕ) (t : List ℕ) (n : ℕ) (ps : List ℕ) → first ≤ n → over (enter_one false) t (n - first) ps ≡ over (put_from first) t n ps
unfolding over
filled_so first t n [] l = refl
filled_so first t n (p ∷ ps) l =
    ap₂ (λ s m. over (enter_one false) s m ps) (sym (put_in first t n p l)) (omega arith) ∙ filled_so first (put_from first t n p) (suc n) ps (omega arith)

module _ {w h : ℕ} {k : Block} {at : ℕ} (lies : Lies w h k at) where
  -- a block has as many places as squares, and its numbers are 32-bit numbers
  pub places_long : length (map (place w) (curve k)) ≡ k.a * k.b
  places_long = length-map (curve k) (place w) ∙ length_curve k lies.inside.sized

  pub numbers_fit : (k.a * k.b < past_32_bits) × (at + k.a * k.b < past_32_bits)
  numbers_fit =
      let numbers = lies.numbers in
      let all = squares_fit lies in
      (omega arith, omega arith)

  -- it fits any list that has room for it
  pub fits_at : (to size : ℕ) → to ≤ at → to + k.a * k.b ≤ size → Fits false w h size k to
  fits_at to size l room =
      let numbers = lies.numbers in
      record {
        w_limit = lies.w_limit;
        h_limit = lies.h_limit;
        inside = lies.inside;
        numbers = omega arith;
        room = room;
        places = λ e. absurd (true≢false (sym e));
      }

  module _ (first : ℕ) (t : List ℕ) where
    pub skip_before : at + k.a * k.b ≤ first → t ≡ stretched first w t k at
    skip_before l = let long = places_long in sym (all_before first t at (map (place w) (curve k)) (omega arith))

    pub skip_behind : first + length t ≤ at → t ≡ stretched first w t k at
    skip_behind l = sym (all_behind first t at (map (place w) (curve k)) l)

    pub filled_stretch : first ≤ at → {s : List ℕ} → s ≡ filled_with false w t k (at - first) → s ≡ stretched first w t k at
    filled_stretch l is = is ∙ filled_so first t at (map (place w) (curve k)) l

-- what stands at i is the entry of number first + i, where that is among the numbers walked, else what stood there
stays : (first : ℕ) (t : List ℕ) (n : ℕ) (ps : List ℕ) (i : ℕ) → first + i < n → get_or (over (put_from first) t n ps) i 0 ≡ get_or t i 0
unfolding over
stays first t n [] i l = refl
stays first t n (p ∷ ps) i l =
    stays first (put_from first t n p) (suc n) ps i (omega arith)
    ∙ ap (λ s. get_or s i 0) (put_in first t n p (omega arith))
    ∙ get_or-set_other t (n - first) i p 0 (λ e. omega arith)

there : (first : ℕ) (t : List ℕ) (n : ℕ) (ps : List ℕ) (i j : ℕ) → i < length t → j < length ps → n + j ≡ first + i
    → get_or (over (put_from first) t n ps) i 0 ≡ get_or ps j 0
unfolding over
there first t n [] i j l m e = absurd (omega arith)
there first t n (p ∷ ps) i zero l m e =
    stays first (put_from first t n p) (suc n) ps i (omega arith)
    ∙ ap (λ s. get_or s i 0) (put_in first t n p (omega arith))
    ∙ ap (λ k. get_or (set t k p) i 0) (omega arith)
    ∙ get_or-set_same t i p 0 l
there first t n (p ∷ ps) i (suc j) l m e =
    there first (put_from first t n p) (suc n) ps i j
    (subst⁻¹ (λ (k : ℕ). i < k) (put_length first t n p) l) (omega arith) (suc-add n j ∙ sym (add-suc n j) ∙ e)

-- the entries: as many as are asked for, each that of its number, and a place of the area
module _ (w h : ℕ) (some_w : 1 ≤ w) (some_h : 1 ≤ h) (first n : ℕ) (room : first + n ≤ w * h) where
  all_places : length (map (place w) (curve (whole w h))) ≡ w * h
  unfolding whole
  all_places = length-map (curve (whole w h)) (place w) ∙ length_curve (whole w h) (whole_inside w h some_w some_h).sized

  pub entries_length : length (entries_from w h first n) ≡ n
  unfolding entries_from
  entries_length =
      let all = all_places in
      let left = length-drop first (map (place w) (curve (whole w h))) in
      length-take-le n (drop first (map (place w) (curve (whole w h)))) (omega arith)

  pub entry_at : (i : ℕ) → i < n → get_or (entries_from w h first n) i 0 ≡ get_or (map (place w) (curve (whole w h))) (first + i) 0
  unfolding entries_from
  entry_at i l = let ps = map (place w) (curve (whole w h)) in get_or-take n (drop first ps) i 0 l ∙ get_or-drop first ps i 0

  pub entry_in_area : (i : ℕ) → i < n → get_or (entries_from w h first n) i 0 < w * h
  unfolding whole
  entry_in_area i l =
      subst⁻¹ (λ (m : ℕ). m < w * h) (entry_at i l)
      (entry_below w h (whole w h) (whole_inside w h some_w some_h) (first + i) (omega arith))

  -- the walk over the whole area leaves them
  pub all_entries : (t : List ℕ) → length t ≡ n → {k : Block} → k ≡ whole w h → {at : ℕ} → at ≡ 0 → {s : List ℕ} → s ≡ stretched first w t k at
      → s ≡ entries_from w h first n
  all_entries t size is_k begins is =
      let ps = map (place w) (curve (whole w h)) in
      let all = all_places in
      let same = over_length first t 0 ps in
      is
      ∙ ap₂ (λ k n. stretched first w t k n) is_k begins
      ∙ ext_get_or 0 (over (put_from first) t 0 ps) (entries_from w h first n) (same ∙ size ∙ sym entries_length)
      (λ i l. there first t 0 ps i (first + i) (omega arith) (omega arith) (omega arith) ∙ sym (entry_at i (omega arith)))
