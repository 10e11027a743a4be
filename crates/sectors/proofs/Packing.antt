-- Blocks that pack words, from both sides: a block is that of some words exactly if its places hold them, its frame counts them and its check is good; and
-- words are packed exactly if each block is that of its 126 words.
use mathlib.Core.Bool.{Bool, true, false}
use mathlib.Core.List.{List, [], ◌∷◌, ◌++◌, append_assoc}
use mathlib.Core.Path.{◌≡◌, refl, sym, ap, ap₂, ◌∙◌}
use Prim.Native.Nat.{ℕ, zero, suc, ◌+◌, ◌-◌, ◌*◌, ◌≤◌, ◌<◌}
use native.Mathlib.Omega.{arith}
use borrow.Author.Tests.{eqb-true, eq-eqb, ltb-true, ltb-false}
use lib.Dec.{ltb}
use lib.ListN.{length, get_or, take, drop, replicate, length-append, length-drop, length-take, take-append-drop, get_or-append}
use lib.ListN.{get_or-eq_default}
use lib.Seq.{take-suc, take_at, drop_at, get_or_at, get_or-drop, drop-drop, take-take, take-append-add}
use lib.Seq.{ext_get_or}
use Rattle.sectors.specs.Sectors.{check_of, counted, sealed, packed, good}
use Rattle.sectors.specs.Steps.{slice, Has, Framed}
use Rattle.sectors.proofs.Entering.{zero_at, zeros_fill, slice_length, slice_at}
use Rattle.sectors.proofs.Checks.{good_at}

-- words with zeros behind them, by their places
pub zeros_behind : (vs : List ℕ) (n j : ℕ) → get_or (vs ++ replicate {A = ℕ} n 0) j 0 ≡ get_or vs j 0
zeros_behind [] n j = zero_at n j
zeros_behind (v ∷ vs) n zero = refl
zeros_behind (v ∷ vs) n (suc j) = zeros_behind vs n j

-- a block by its pieces
module _ (vs : List ℕ) (few : length vs ≤ 126) where
  content : List ℕ
  content = vs ++ replicate {A = ℕ} (126 - length vs) 0

  content_length : length content ≡ 126
  unfolding content
  content_length = zeros_fill vs (length vs) refl few

  counted_length : length (counted vs) ≡ 127
  unfolding content
  counted_length = length-append content (length vs ∷ []) ∙ omega (arith, content_length)

  pub sealed_length : length (sealed vs) ≡ 128
  unfolding sealed
  sealed_length = length-append (counted vs) (check_of (counted vs) ∷ []) ∙ omega (arith, counted_length)

  in_pieces : sealed vs ≡ content ++ (length vs ∷ check_of (counted vs) ∷ [])
  unfolding sealed content
  in_pieces = append_assoc content (length vs ∷ []) (check_of (counted vs) ∷ [])

  content_at : (j : ℕ) → j < 126 → get_or (sealed vs) j 0 ≡ get_or vs j 0
  unfolding content
  content_at j l =
      ap (λ (ws : List ℕ). get_or ws j 0) in_pieces
      ∙ get_or-append content (length vs ∷ check_of (counted vs) ∷ []) 0 j (let z = content_length in omega arith)
      ∙ zeros_behind vs (126 - length vs) j

  count_at : get_or (sealed vs) 126 0 ≡ length vs
  count_at = ap (λ (ws : List ℕ). get_or ws 126 0) in_pieces ∙ get_or_at content (length vs) (check_of (counted vs) ∷ []) 0 126 content_length

  check_at : get_or (sealed vs) 127 0 ≡ check_of (counted vs)
  unfolding sealed
  check_at = get_or_at (counted vs) (check_of (counted vs)) [] 0 127 counted_length

  summed : take 127 (sealed vs) ≡ counted vs
  unfolding sealed
  summed = take_at (counted vs) (check_of (counted vs) ∷ []) 127 counted_length

  module _ (words : List ℕ) (b : ℕ) (room : 128 * b + 128 ≤ length words) where
    rest_length : length (drop (128 * b) words) ≡ length words - 128 * b
    rest_length = length-drop (128 * b) words

    -- from the places to the block
    module _ (has : Has words (128 * b) vs) (framed : Framed words b (length vs)) (right : good_at words b ≡ true) where
      place : (j : ℕ) → j < 126 → get_or words (128 * b + j) 0 ≡ get_or vs j 0
      place j l = by (ltb j (length vs)) refl
        where
          by : (used : Bool) → ltb j (length vs) ≡ used → get_or words (128 * b + j) 0 ≡ get_or vs j 0
          by true e = has j (ltb-true j (length vs) e)
          by false e = let unused = ltb-false j (length vs) e in framed.0 j unused l ∙ sym (get_or-eq_default vs 0 unused)

      content_is : slice words (128 * b) 126 ≡ content
      unfolding content
      content_is =
          let long = slice_length words (128 * b) 126 (omega arith) in
          ext_get_or 0 (slice words (128 * b) 126) content (long ∙ sym content_length)
          (λ j l. let below : j < 126 = omega arith in
          slice_at words (128 * b) 126 j below ∙ place j below ∙ sym (zeros_behind vs (126 - length vs) j))

      counted_is : slice words (128 * b) 127 ≡ counted vs
      unfolding content
      counted_is =
          let long = rest_length in
          take-suc (drop (128 * b) words) 126 0 (omega arith)
          ∙ ap₂ (λ (ws : List ℕ) (n : ℕ). ws ++ (n ∷ [])) content_is (get_or-drop (128 * b) words 126 0 ∙ framed.1)

      pub block_is : slice words (128 * b) 128 ≡ sealed vs
      unfolding sealed good
      block_is =
          let long = rest_length in
          take-suc (drop (128 * b) words) 127 0 (omega arith)
          ∙ ap₂ (λ (ws : List ℕ) (n : ℕ). ws ++ (n ∷ [])) counted_is
          (eqb-true (get_or (drop (128 * b) words) 127 0) (check_of (slice words (128 * b) 127)) right ∙ ap check_of counted_is)

    -- from the block to the places
    module _ (is : slice words (128 * b) 128 ≡ sealed vs) where
      word_of_it : (j : ℕ) → j < 128 → get_or words (128 * b + j) 0 ≡ get_or (sealed vs) j 0
      word_of_it j l = sym (slice_at words (128 * b) 128 j l) ∙ ap (λ (ws : List ℕ). get_or ws j 0) is

      pub block_has : Has words (128 * b) vs
      block_has j l = word_of_it j (omega arith) ∙ content_at j (omega arith)

      pub block_framed : Framed words b (length vs)
      block_framed =
          ((λ j m l. word_of_it j (omega arith) ∙ content_at j l ∙ get_or-eq_default vs 0 m), word_of_it 126 (omega arith) ∙ count_at)

      pub block_good : good_at words b ≡ true
      unfolding good
      block_good =
          let others : take 127 (drop (128 * b) words) ≡ counted vs =
          sym (take-take 127 128 (drop (128 * b) words) (omega arith)) ∙ ap (take 127) is ∙ summed in
          eq-eqb (get_or (drop (128 * b) words) 127 0) (check_of (take 127 (drop (128 * b) words)))
          (get_or-drop (128 * b) words 127 0 ∙ word_of_it 127 (omega arith) ∙ check_at ∙ ap check_of (sym others))

-- the 126 words of block b
pub few_taken : (vs : List ℕ) (from : ℕ) → length (slice vs from 126) ≤ 126
few_taken vs from = let is = length-take 126 (drop from vs) in omega (arith, is)

later : (vs : List ℕ) (b : ℕ) → slice (drop 126 vs) (126 * b) 126 ≡ slice vs (126 * suc b) 126
later vs b = ap (take 126) (drop-drop (126 * b) 126 vs ∙ ap (λ (k : ℕ). drop k vs) (let z : 126 + 126 * b ≡ 126 * suc b = omega arith in z))

pub packed_length : (n : ℕ) (vs : List ℕ) → length (packed n vs) ≡ 128 * n
unfolding packed
packed_length zero vs = refl
packed_length (suc n) vs =
    let more = packed_length n (drop 126 vs) in
    let one = sealed_length (take 126 vs) (few_taken vs 0) in
    length-append (sealed (take 126 vs)) (packed n (drop 126 vs)) ∙ omega (arith, more, one)

-- words are packed exactly if each block is that of its 126 words
pub packed_block : (n : ℕ) (vs : List ℕ) (b : ℕ) → b < n → slice (packed n vs) (128 * b) 128 ≡ sealed (slice vs (126 * b) 126)
unfolding packed
packed_block zero vs b l = absurd (omega arith)
packed_block (suc n) vs zero l = take_at (sealed (take 126 vs)) (packed n (drop 126 vs)) 128 (sealed_length (take 126 vs) (few_taken vs 0))
packed_block (suc n) vs (suc b) l =
    let one = sealed_length (take 126 vs) (few_taken vs 0) in
    ap (take 128)
    (ap (λ (k : ℕ). drop k (sealed (take 126 vs) ++ packed n (drop 126 vs))) (let z : 128 * suc b ≡ 128 + 128 * b = omega arith in z)
    ∙ sym (drop-drop (128 * b) 128 (sealed (take 126 vs) ++ packed n (drop 126 vs)))
    ∙ ap (drop (128 * b)) (drop_at (sealed (take 126 vs)) (packed n (drop 126 vs)) 128 one))
    ∙ packed_block n (drop 126 vs) b (omega arith)
    ∙ ap sealed (later vs b)

-- a slice in two pieces
pub slice_join : (l : List ℕ) (at m n : ℕ) → at + m ≤ length l → slice l at (m + n) ≡ slice l at m ++ slice l (at + m) n
slice_join l at m n room =
    let long = slice_length l at m room in
    ap (take (m + n)) (sym (take-append-drop m (drop at l)))
    ∙ ap (λ (k : ℕ). take (k + n) (slice l at m ++ drop m (drop at l))) (sym long)
    ∙ take-append-add (slice l at m) (drop m (drop at l)) n
    ∙ ap (λ (ws : List ℕ). slice l at m ++ take n ws) (drop-drop m at l)

pub blocks_packed : (words : List ℕ) (o n : ℕ) (vs : List ℕ) → 128 * (o + n) ≤ length words
    → ((b : ℕ) → b < n → slice words (128 * (o + b)) 128 ≡ sealed (slice vs (126 * b) 126)) → slice words (128 * o) (128 * n) ≡ packed n vs
unfolding packed
blocks_packed words o zero vs room all = refl
blocks_packed words o (suc n) vs room all =
    ap (slice words (128 * o)) (let z : 128 * suc n ≡ 128 + 128 * n = omega arith in z)
    ∙ slice_join words (128 * o) 128 (128 * n) (omega arith)
    ∙ ap₂ ◌++◌ (ap (λ (k : ℕ). slice words (128 * k) 128) (let z : o ≡ o + 0 = omega arith in z) ∙ all 0 (omega arith))
    (ap (λ (k : ℕ). slice words k (128 * n)) (let z : 128 * o + 128 ≡ 128 * suc o = omega arith in z)
    ∙ blocks_packed words (suc o) n (drop 126 vs) (omega arith)
    (λ b l. ap (λ (k : ℕ). slice words (128 * k) 128) (let z : suc o + b ≡ o + suc b = omega arith in z)
    ∙ all (suc b) (omega arith)
    ∙ ap sealed (sym (later vs b))))
