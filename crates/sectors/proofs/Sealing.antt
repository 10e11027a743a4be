-- A block written: its content entered, then zeros, then its count and its check, which come to the block that the definition has.
use mathlib.Core.List.{List, [], ◌∷◌, ◌++◌, append_assoc}
use mathlib.Core.Path.{◌≡◌, sym, ap, ap₂, ◌∙◌}
use Prim.Native.Nat.{ℕ, ◌-◌, ◌*◌, ◌≤◌}
use native.Mathlib.Omega.{arith}
use lib.ListN.{length, take, drop, set, replicate, length-append, length-replicate, length-set}
use borrow.Rule.Slice.PartMut.{put_mid}
use lib.Seq.{take_at, take_all, take-suc-set, length-take-le}
use Rattle.sectors.specs.Sectors.{words_of, check_of, sealed}
use Rattle.sectors.specs.Steps.{closed}
use Rattle.sectors.proofs.Words.{words_length, words_append, words_take, words_zero}

-- zeros behind the content, which stand in the bytes from its end to the count
pub content_there : (block zeros words : List ℕ) (n : ℕ) → length block ≡ 512 → n ≤ 126 → take n (words_of block) ≡ words
    → zeros ≡ replicate {A = ℕ} (504 - 4 * n) 0
    → take 126 (words_of (put_mid (4 * n) (504 - 4 * n) block zeros)) ≡ words ++ replicate {A = ℕ} (126 - n) 0
content_there block zeros words n size few are is =
    let zero : zeros ≡ replicate {A = ℕ} (4 * (126 - n)) 0 =
    is ∙ ap (λ (k : ℕ). replicate {A = ℕ} k 0) (let z : 504 - 4 * n ≡ 4 * (126 - n) = omega arith in z) in
    let rest : List ℕ = drop (504 - 4 * n) (drop (4 * n) block) in
    let front = length-take-le (4 * n) block (omega arith) in
    let back = ap length zero ∙ length-replicate {A = ℕ} (4 * (126 - n)) 0 in
    let all : words_of (take (4 * n) block ++ (zeros ++ rest)) ≡ (words ++ replicate {A = ℕ} (126 - n) 0) ++ words_of rest =
    words_append (take (4 * n) block) (zeros ++ rest) (omega (arith, front))
    ∙ ap₂ ◌++◌ (words_take block n (omega arith) ∙ are)
    (words_append zeros rest (omega (arith, back)) ∙ ap (λ (ws : List ℕ). ws ++ words_of rest) (ap words_of zero ∙ words_zero (126 - n)))
    ∙ sym (append_assoc words (replicate {A = ℕ} (126 - n) 0) (words_of rest)) in
    let taken = ap length (sym are) ∙ length-take-le n (words_of block) (let long = words_length block in omega (arith, long)) in
    let some = length-replicate {A = ℕ} (126 - n) 0 in
    let joined = length-append words (replicate {A = ℕ} (126 - n) 0) in
    ap (take 126) all ∙ take_at (words ++ replicate {A = ℕ} (126 - n) 0) (words_of rest) 126 (omega (arith, taken, some, joined))

-- count and check entered, as the code goes
pub count_and_check : (words : List ℕ) (used due : ℕ) → length words ≡ 128 → {counted checked : List ℕ} → counted ≡ set words 126 used
    → due ≡ check_of (take 127 counted) → checked ≡ set counted 127 due → checked ≡ closed (take 126 words) used
count_and_check words used due long {counted} is_counted is_due is =
    let size : length counted ≡ 128 = ap length is_counted ∙ length-set words 126 used ∙ long in
    let summed : take 127 counted ≡ take 126 words ++ (used ∷ []) = ap (take 127) is_counted ∙ take-suc-set words 126 used (omega arith) in
    is
    ∙ sym (take_all 128 (set counted 127 due) (let z = length-set counted 127 due in omega arith))
    ∙ take-suc-set counted 127 due (omega arith)
    ∙ ap₂ (λ (ws : List ℕ) (d : ℕ). ws ++ (d ∷ [])) summed (is_due ∙ ap check_of summed)

-- content, count and check: the block
pub block_written : (words content : List ℕ) → content ≡ words ++ replicate {A = ℕ} (126 - length words) 0 → closed content (length words) ≡ sealed words
unfolding sealed
block_written words content is = ap (λ (ws : List ℕ). closed ws (length words)) is
