-- Places put into a stretch in order: numbers before it or behind it leave it as it is, so that a loop may begin where the stretch begins and end where it
-- ends.
use mathlib.Core.Bool.{Bool, true, false, cond}
use mathlib.Core.List.{List, [], ◌∷◌}
use mathlib.Core.Path.{◌≡◌, refl, sym, ap, ap₂, ◌∙◌}
use Prim.Native.Nat.{ℕ, zero, suc, ◌+◌, ◌-◌, ◌≤◌, ◌<◌, min}
use native.Mathlib.Numerals.{add-one}
use native.Mathlib.Omega.{arith}
use borrow.Author.Tests.{lt-ltb, le-ltb, leb-true, leb-false}
use lib.Dec.{ltb, leb}
use lib.ListN.{length, get_or, set, take, drop, length-set, length-take, take-append-drop}
use lib.Seq.{set_out, take_all, take-suc, length-take-le}
use Rattle.leaves.specs.Walk.{over}
use Rattle.leaves.proofs.Entries.{over_append}
use Rattle.stretches.specs.Stretch.{put_from}

-- one square
put_before : (first : ℕ) (t : List ℕ) (n p : ℕ) → n < first → put_from first t n p ≡ t
put_before first t n p l = rw (lt-ltb n first l)

pub put_in : (first : ℕ) (t : List ℕ) (n p : ℕ) → first ≤ n → put_from first t n p ≡ set t (n - first) p
put_in first t n p l = rw (le-ltb n first l)

put_behind : (first : ℕ) (t : List ℕ) (n p : ℕ) → first + length t ≤ n → put_from first t n p ≡ t
put_behind first t n p l = put_in first t n p (omega arith) ∙ set_out t (n - first) p (omega arith)

-- squares that lie wholly before the stretch, or behind it
pub all_before : (first : ℕ) (t : List ℕ) (n : ℕ) (ps : List ℕ) → n + length ps ≤ first → over (put_from first) t n ps ≡ t
unfolding over
all_before first t n [] l = refl
all_before first t n (p ∷ ps) l =
    ap (λ s. over (put_from first) s (suc n) ps) (put_before first t n p (omega arith)) ∙ all_before first t (suc n) ps (omega arith)

pub all_behind : (first : ℕ) (t : List ℕ) (n : ℕ) (ps : List ℕ) → first + length t ≤ n → over (put_from first) t n ps ≡ t
unfolding over
all_behind first t n [] l = refl
all_behind first t n (p ∷ ps) l =
    ap (λ s. over (put_from first) s (suc n) ps) (put_behind first t n p l) ∙ all_behind first t (suc n) ps (omega arith)

-- a stretch keeps its length
pub put_length : (first : ℕ) (t : List ℕ) (n p : ℕ) → length (put_from first t n p) ≡ length t
put_length first t n p = by (ltb n first)
  where
    by : (early : Bool) → length (cond early t (set t (n - first) p)) ≡ length t
    by true = refl
    by false = length-set t (n - first) p

pub over_length : (first : ℕ) (t : List ℕ) (n : ℕ) (ps : List ℕ) → length (over (put_from first) t n ps) ≡ length t
unfolding over
over_length first t n [] = refl
over_length first t n (p ∷ ps) = over_length first (put_from first t n p) (suc n) ps ∙ put_length first t n p

-- a loop over places numbered on from `at`, of which the first i are put in
module _ (first : ℕ) (t : List ℕ) (at : ℕ) (ps : List ℕ) where
  abbrev pub put_first : ℕ → List ℕ
  put_first i = over (put_from first) t at (take i ps)

  pub put_kept : (i : ℕ) {s : List ℕ} → s ≡ put_first i → length s ≡ length t
  put_kept i is = ap length is ∙ over_length first t at (take i ps)

  -- it begins with the first number of the stretch
  pub put_none : (n i : ℕ) → i ≡ min n (first - at) → t ≡ put_first i
  unfolding over
  put_none n zero is = refl
  put_none n (suc i) is =
      let long = length-take (suc i) ps in
      sym (all_before first t at (take (suc i) ps) (omega arith))

  -- each number of it is one of the stretch
  pub in_stretch : {n i from to : ℕ} → from ≡ min n (first - at) → to ≡ min n (first + length t - at) → from ≤ i → i < to
      → (i < n) × (first ≤ at + i) × (at + i - first < length t)
  in_stretch is_from is_to least most = (omega arith, omega arith, omega arith)

  -- one more
  pub put_next : (i : ℕ) → i < length ps → first ≤ at + i → {s s' : List ℕ} → s ≡ put_first i → {p : ℕ} → p ≡ get_or ps i 0
      → s' ≡ set s (at + i - first) p → s' ≡ put_first (i + 1)
  unfolding over
  put_next i l in_it {s} was {p} is_p is =
      is
      ∙ sym (put_in first s (at + i) p in_it)
      ∙ ap₂ (λ s p. put_from first s (at + i) p) was is_p
      ∙ ap (λ n. put_from first (put_first i) (at + n) (get_or ps i 0)) (sym (length-take-le i ps (omega arith)))
      ∙ sym (over_append (put_from first) t at (take i ps) (get_or ps i 0 ∷ []))
      ∙ ap (over (put_from first) t at) (sym (take-suc ps i 0 l))
      ∙ ap put_first (sym (add-one i))

  -- it ends with the last one
  pub put_all : (i : ℕ) → i ≤ length ps → min (length ps) (first + length t - at) ≤ i → {s : List ℕ} → s ≡ put_first i → s ≡ over (put_from first) t at ps
  put_all i most end {s} was = by (leb (length ps) i) refl
    where
      by : (every : Bool) → leb (length ps) i ≡ every → s ≡ over (put_from first) t at ps
      by true e = was ∙ ap (over (put_from first) t at) (take_all i ps (leb-true (length ps) i e))
      by false e =
          let l = leb-false (length ps) i e in
          let taken = length-take-le i ps most in
          let same = put_kept i was in
          sym (all_behind first s (at + length (take i ps)) (drop i ps) (omega arith))
          ∙ ap (λ s. over (put_from first) s (at + length (take i ps)) (drop i ps)) was
          ∙ sym (over_append (put_from first) t at (take i ps) (drop i ps))
          ∙ ap (over (put_from first) t at) (take-append-drop i ps)
