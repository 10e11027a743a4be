-- The words of a block one by one: what a chain of iterators sums is their sum, which 64 bits hold; and whether all from one on are zero.
use mathlib.Core.Bool.{Bool, true, false, cond, ◌&&◌}
use mathlib.Core.List.{List, [], ◌∷◌, map}
use mathlib.Core.Path.{◌≡◌, refl, sym, ap, subst, ◌∙◌}
use Prim.Native.Nat.{ℕ, zero, suc, ◌+◌, ◌-◌, ◌*◌, ◌≤◌, ◌<◌}
use native.Mathlib.Omega.{arith}
use native.Mathlib.Numerals.{add-one}
use borrow.Author.Tests.{eqb-true, eqb-false, eq-eqb, ltb-true, ltb-false}
use lib.Dec.{eqb, ltb}
use lib.ListN.{length, get_or, take, drop, length-take}
use lib.Seq.{drop-cons, get_or-take}
use Rattle.std.specs.List.{filter, enumerate_from, fold, list_all, range_with_len}
use Rattle.terms.specs.Terms.{past_32_bits}
use Rattle.terms.specs.Telling.{Tells}
use Rattle.terms.proofs.Telling.{grants, refuses, tells_equal, tells_so}
use Rattle.sectors.specs.Sectors.{words_of, sum}
use Rattle.sectors.specs.Steps.{Has, Zeros}
use Rattle.sectors.proofs.Words.{Bytes, words_length, word_small}
use Rattle.sectors.proofs.Small.{Small}

abbrev pub numbered : List ℕ → (from n : ℕ) → List ℕ
numbered words from n = map (λ (i : ℕ). get_or words i 0) (range_with_len from n)

folded : (words : List ℕ) (n from so_far : ℕ) → from + n ≤ length words
    → fold (λ (a x : ℕ). a + x) so_far (numbered words from n) ≡ so_far + sum (take n (drop from words))
unfolding sum
folded words zero from so_far room = omega arith
folded words (suc n) from so_far room =
    let more = folded words n (from + 1) (so_far + get_or words from 0) (omega arith) in
    let next : sum (take n (drop (from + 1) words)) ≡ sum (take n (drop (suc from) words)) =
    ap (λ (k : ℕ). sum (take n (drop k words))) (add-one from) in
    let here : sum (take (suc n) (drop from words)) ≡ get_or words from 0 + sum (take n (drop (suc from) words)) =
    ap (λ (vs : List ℕ). sum (take (suc n) vs)) (drop-cons words from 0 (omega arith)) in
    omega (arith, more, next, here)

pub summed : (words : List ℕ) (n : ℕ) → n ≤ length words → fold (λ (a x : ℕ). a + x) 0 (numbered words 0 n) ≡ sum (take n words)
summed words n room = folded words n 0 0 (omega arith) ∙ omega arith

most : (vs : List ℕ) → Small vs → sum vs ≤ 4294967295 * length vs
unfolding sum
most [] small = omega arith
most (v ∷ vs) small =
    let one = small 0 (omega arith) in
    let more = most vs (λ i l. small (suc i) (omega arith)) in
    omega arith

-- of a block's words before its check
module _ (block : List ℕ) (bytes : Bytes block) (size : length block ≡ 512) where
  enough : 127 ≤ length (words_of block)
  enough = let all = words_length block in omega arith

  pub sum_bound : sum (take 127 (words_of block)) ≤ 545460846465
  sum_bound =
      let long = length-take 127 (words_of block) in
      let room = enough in
      let all = words_length block in
      let least = most (take 127 (words_of block)) (λ i l. subst (λ (v : ℕ). v < past_32_bits) (sym (get_or-take 127 (words_of block) i 0 (omega arith)))
      (word_small block bytes i (omega arith))) in
      omega arith

  pub sum_fits : fold (λ (a x : ℕ). a + x) 0 (numbered (words_of block) 0 127) < 18446744073709551616
  sum_fits = let is = summed (words_of block) 127 enough in let bound = sum_bound in omega arith

-- of some words those that stand in their places: as many as there are exactly if all do
abbrev pub there : List ℕ → ℕ × ℕ → Bool
there words p = eqb (get_or words p.0 0) p.1

pub counted : (words vs : List ℕ) (at : ℕ)
    → (length (filter (there words) (enumerate_from at vs)) ≤ length vs) × Tells (eqb (length (filter (there words) (enumerate_from at vs))) (length vs))
    (Has words at vs)
counted words [] at = (omega arith, grants (λ i l. absurd (omega arith)))
counted words (v ∷ vs) at = by (eqb (get_or words at 0) v) refl (counted words vs (at + 1))
  where
    by : (t : Bool) → eqb (get_or words at 0) v ≡ t
        → (length (filter (there words) (enumerate_from (at + 1) vs)) ≤ length vs)
        × Tells (eqb (length (filter (there words) (enumerate_from (at + 1) vs))) (length vs)) (Has words (at + 1) vs)
        → (length (cond t ((at, v) ∷ filter (there words) (enumerate_from (at + 1) vs)) (filter (there words) (enumerate_from (at + 1) vs))) ≤ suc (length vs))
        × Tells (eqb (length (cond t ((at, v) ∷ filter (there words) (enumerate_from (at + 1) vs)) (filter (there words) (enumerate_from (at + 1) vs))))
        (suc (length vs))) (Has words at (v ∷ vs))
    by true e more = (omega (arith, more.0), tells_equal _ _ all (λ has. ap suc (eqb-true _ _ (more.1.1 (λ i l. later i (has (suc i) (omega arith)))))))
      where
        all : suc (length (filter (there words) (enumerate_from (at + 1) vs))) ≡ suc (length vs) → Has words at (v ∷ vs)
        all same zero l = ap (λ (k : ℕ). get_or words k 0) (let z : at + 0 ≡ at = omega arith in z) ∙ eqb-true (get_or words at 0) v e
        all same (suc i) l =
            ap (λ (k : ℕ). get_or words k 0) (let z : at + suc i ≡ at + 1 + i = omega arith in z)
            ∙ more.1.0 (eq-eqb _ _ (let z : length (filter (there words) (enumerate_from (at + 1) vs)) ≡ length vs = omega arith in z)) i (omega arith)

        later : (i : ℕ) {w : ℕ} → get_or words (at + suc i) 0 ≡ w → get_or words (at + 1 + i) 0 ≡ w
        later i is = ap (λ (k : ℕ). get_or words k 0) (let z : at + 1 + i ≡ at + suc i = omega arith in z) ∙ is
    by false e more = (
      omega (arith, more.0),
      tells_equal _ _ (λ same. absurd (omega (arith, more.0)))
          (λ has. absurd (eqb-false (get_or words at 0) v e (ap (λ (k : ℕ). get_or words k 0) (let z : at ≡ at + 0 = omega arith in z) ∙ has 0 (omega arith)))),
    )

-- whether all from one on are zero
zeros_from : (words : List ℕ) (n from : ℕ)
    → Tells (list_all (λ (i : ℕ). eqb (get_or words i 0) 0) (range_with_len from n)) ((i : ℕ) → from ≤ i → i < from + n → get_or words i 0 ≡ 0)
zeros_from words zero from = grants (λ i l m. absurd (omega arith))
zeros_from words (suc n) from = by (eqb (get_or words from 0) 0) refl (zeros_from words n (from + 1))
  where
    by : (t : Bool) → eqb (get_or words from 0) 0 ≡ t
        → Tells (list_all (λ (i : ℕ). eqb (get_or words i 0) 0) (range_with_len (from + 1) n))
        ((i : ℕ) → from + 1 ≤ i → i < from + 1 + n → get_or words i 0 ≡ 0)
        → Tells (t && list_all (λ (i : ℕ). eqb (get_or words i 0) 0) (range_with_len (from + 1) n))
        ((i : ℕ) → from ≤ i → i < from + suc n → get_or words i 0 ≡ 0)
    by false e more = refuses (λ all. eqb-false (get_or words from 0) 0 e (all from (omega arith) (omega arith)))
    by true e more = tells_so more (λ rest i l m. here rest i l m (ltb from i) refl) (λ all i l m. all i (omega arith) (omega arith))
      where
        here : ((i : ℕ) → from + 1 ≤ i → i < from + 1 + n → get_or words i 0 ≡ 0) → (i : ℕ) → from ≤ i → i < from + suc n
            → (t : Bool) → ltb from i ≡ t → get_or words i 0 ≡ 0
        here rest i l m true f = rest i (let z = ltb-true from i f in omega arith) (omega arith)
        here rest i l m false f =
            let z = ltb-false from i f in
            ap (λ (k : ℕ). get_or words k 0) (let same : i ≡ from = omega arith in same) ∙ eqb-true (get_or words from 0) 0 e

pub zeros_told : (words : List ℕ) (used : ℕ) {r : Bool} → r ≡ list_all (λ (i : ℕ). eqb (get_or words i 0) 0) (range_with_len used (126 - used))
    → Tells r (Zeros words 0 used 126)
zeros_told words used is =
    subst (λ (r : Bool). Tells r (Zeros words 0 used 126)) (sym is) (tells_so (zeros_from words (126 - used) used)
    (λ all j l m. ap (λ (k : ℕ). get_or words k 0) (let z : 0 + j ≡ j = omega arith in z) ∙ all j l (omega arith))
    (λ all j l m. ap (λ (k : ℕ). get_or words k 0) (let z : j ≡ 0 + j = omega arith in z) ∙ all j l (omega arith)))
