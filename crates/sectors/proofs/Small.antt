-- Words of 32 bits: those of packed blocks are so if the words packed are, and their bytes are bytes.
use mathlib.Core.Bool.{Bool, true, false}
use mathlib.Core.List.{List, [], ◌∷◌, ◌++◌}
use mathlib.Core.Path.{◌≡◌, refl, ap, subst⁻¹, ◌∙◌}
use Prim.Native.Nat.{ℕ, zero, suc, ◌+◌, ◌-◌, ◌≤◌, ◌<◌}
use native.Mathlib.Nat.{mod-lt}
use native.Mathlib.Omega.{arith}
use borrow.Author.Tests.{ltb-true, ltb-false}
use lib.Dec.{ltb}
use lib.ListN.{length, get_or, take, drop, replicate, length-append, length-take, length-drop, get_or-append}
use lib.Seq.{get_or-append-add, get_or-take, get_or-drop}
use Rattle.terms.specs.Terms.{past_32_bits}
use Rattle.sectors.specs.Sectors.{bytes_of, check_of, counted, sealed, packed}
use Rattle.sectors.proofs.Words.{Bytes}
use Rattle.sectors.proofs.Entering.{zero_at}
use Rattle.sectors.proofs.Packing.{few_taken}

-- Each of some numbers has 32 bits.
abbrev pub Small : List ℕ → Type 0
Small vs = (i : ℕ) → i < length vs → get_or vs i 0 < past_32_bits

small_one : (v : ℕ) → v < past_32_bits → Small (v ∷ [])
small_one v small zero l = small
small_one v small (suc i) l = absurd (omega arith)

small_zeros : (n : ℕ) → Small (replicate {A = ℕ} n 0)
small_zeros n i l = let is = zero_at n i in omega arith

pub small_append : (xs ys : List ℕ) → Small xs → Small ys → Small (xs ++ ys)
small_append xs ys small_xs small_ys i l = by (ltb i (length xs)) refl
  where
    by : (t : Bool) → ltb i (length xs) ≡ t → get_or (xs ++ ys) i 0 < past_32_bits
    by true e =
        let m = ltb-true i (length xs) e in
        subst⁻¹ (λ (n : ℕ). n < past_32_bits) (get_or-append xs ys 0 i m) (small_xs i m)
    by false e =
        let m = ltb-false i (length xs) e in
        let sum = length-append xs ys in
        let at : i ≡ length xs + (i - length xs) = omega arith in
        subst⁻¹ (λ (n : ℕ). n < past_32_bits) (ap (λ (k : ℕ). get_or (xs ++ ys) k 0) at ∙ get_or-append-add xs ys (i - length xs) 0)
        (small_ys (i - length xs) (omega arith))

pub small_sealed : (vs : List ℕ) → length vs ≤ 126 → Small vs → Small (sealed vs)
unfolding sealed
small_sealed vs few small =
    let content = small_append vs (replicate {A = ℕ} (126 - length vs) 0) small (small_zeros (126 - length vs)) in
    let all = small_append (vs ++ replicate {A = ℕ} (126 - length vs) 0) (length vs ∷ []) content (small_one (length vs) (omega arith)) in
    small_append (counted vs) (check_of (counted vs) ∷ []) all (small_one (check_of (counted vs)) (mod-lt _ (omega arith)))

pub small_packed : (n : ℕ) (vs : List ℕ) → Small vs → Small (packed n vs)
unfolding packed
small_packed zero vs small = λ i l. absurd (omega arith)
small_packed (suc n) vs small =
    small_append (sealed (take 126 vs)) (packed n (drop 126 vs))
    (small_sealed (take 126 vs) (few_taken vs 0)
    (λ i l. let long = length-take 126 vs in subst⁻¹ (λ (v : ℕ). v < past_32_bits) (get_or-take 126 vs i 0 (omega arith)) (small i (omega arith))))
    (small_packed n (drop 126 vs)
    (λ i l. let long = length-drop 126 vs in subst⁻¹ (λ (v : ℕ). v < past_32_bits) (get_or-drop 126 vs i 0) (small (126 + i) (omega arith))))

-- the bytes of such words are bytes
pub small_bytes : (vs : List ℕ) → Small vs → Bytes (bytes_of vs)
unfolding bytes_of
small_bytes [] small i l = absurd (omega arith)
small_bytes (v ∷ vs) small zero l = omega arith
small_bytes (v ∷ vs) small (suc zero) l = omega arith
small_bytes (v ∷ vs) small (suc (suc zero)) l = omega arith
small_bytes (v ∷ vs) small (suc (suc (suc zero))) l = let few = small 0 (omega arith) in omega arith
small_bytes (v ∷ vs) small (suc (suc (suc (suc i)))) l = small_bytes vs (λ j m. small (suc j) (omega arith)) i (omega arith)
