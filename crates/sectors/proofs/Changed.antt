-- One changed byte, and so one changed word, of a file without a bad check: the check of its own block is bad then, and that block is the first.
use mathlib.Core.Bool.{Bool, true, false}
use mathlib.Core.List.{List, [], ◌∷◌}
use mathlib.Core.Path.{◌≡◌, refl, sym, ap, ap₂, subst⁻¹, ◌∙◌}
use Prim.Native.Nat.{ℕ, zero, suc, ◌+◌, ◌-◌, ◌*◌, ◌/◌, ◌%◌, ◌≤◌, ◌<◌}
use native.Mathlib.Omega.{arith}
use borrow.Author.Tests.{eqb-true, eqb-false, ne_eqb, ltb-true, ltb-false}
use lib.Dec.{eqb, ltb}
use lib.ListN.{length, get_or, take, drop, set, length-set, length-drop}
use lib.Seq.{get_or-set_same, get_or-set_other, set-get_or, get_or-take, get_or-drop, take-set-lt, take-set-le, drop-set-add, length-take-le}
use lib.Seq.{ext_get_or}
use Rattle.terms.specs.Terms.{past_32_bits}
use Rattle.sectors.specs.Sectors.{word_of, words_of, bytes_of, sum, check_of, good, first_bad, first_bad_in, whole_blocks}
use Rattle.sectors.proofs.Words.{Bytes, words_length, word_is, word_small, bytes_back}
use Rattle.sectors.proofs.Checks.{good_at, within_128, found, only_found}

-- the sum of words with one set
set_sum : (vs : List ℕ) (i v : ℕ) → i < length vs → sum (set vs i v) + get_or vs i 0 ≡ sum vs + v
unfolding sum
set_sum [] i v l = absurd (omega arith)
set_sum (x ∷ vs) zero v l = omega arith
set_sum (x ∷ vs) (suc i) v l = let more = set_sum vs i v (omega arith) in omega arith

-- a block with a good check has none once one of its words is changed
changed_bad : (words : List ℕ) (i v : ℕ) → i < 128 → 128 ≤ length words → get_or words i 0 < past_32_bits → v < past_32_bits → (get_or words i 0 ≡ v → ⊥)
    → good words ≡ true → good (set words i v) ≡ false
unfolding good
changed_bad words i v l room small small_v other right = by (ltb i 127) refl
  where
    was : get_or words 127 0 ≡ check_of (take 127 words)
    was = eqb-true (get_or words 127 0) (check_of (take 127 words)) right

    by : (b : Bool) → ltb i 127 ≡ b → eqb (get_or (set words i v) 127 0) (check_of (take 127 (set words i v))) ≡ false
    by true e =
        let m = ltb-true i 127 e in
        let long : length (take 127 words) ≡ 127 = length-take-le 127 words (omega arith) in
        let total : sum (take 127 (set words i v)) + get_or words i 0 ≡ sum (take 127 words) + v =
        ap₂ ◌+◌ (ap sum (take-set-lt 127 words i v m)) (sym (get_or-take 127 words i 0 m)) ∙ set_sum (take 127 words) i v (omega arith) in
        let last : get_or (set words i v) 127 0 ≡ get_or words 127 0 = get_or-set_other words i 127 v 0 (λ z. omega arith) in
        ne_eqb (get_or (set words i v) 127 0) (check_of (take 127 (set words i v)))
        (λ is. let equal : (1 + sum (take 127 words)) % past_32_bits ≡ (1 + sum (take 127 (set words i v))) % past_32_bits = sym was ∙ sym last ∙ is in
        other (omega arith))
    by false e =
        let m = ltb-false i 127 e in
        let there : i ≡ 127 = omega arith in
        ne_eqb (get_or (set words i v) 127 0) (check_of (take 127 (set words i v)))
        (λ is. other (ap (λ (k : ℕ). get_or words k 0) there
        ∙ was
        ∙ ap check_of (sym (take-set-le 127 words i v m))
        ∙ sym is
        ∙ ap (λ (k : ℕ). get_or (set words k v) 127 0) there
        ∙ get_or-set_same words 127 v 0 (omega arith)))

-- of blocks without a bad check, with one word changed, that word's is the first bad one
module _ (words : List ℕ) (n i v : ℕ) (room : 128 * n ≤ length words) (l : i < 128 * n) (small : get_or words i 0 < past_32_bits) (small_v : v < past_32_bits)
    (other : get_or words i 0 ≡ v → ⊥) (none : first_bad n words ≡ n) where
  goods : (b : ℕ) → b < n → good_at words b ≡ true
  goods b m = (found n words).0 b (subst⁻¹ (λ (k : ℕ). b < k) none m)

  before : (b : ℕ) → b < i / 128 → good_at (set words i v) b ≡ true
  before b m =
      let at : i ≡ 128 * b + (i - 128 * b) = omega arith in
      sym (within_128 (drop (128 * b) (set words i v)))
      ∙ ap good
      (ap (λ (k : ℕ). take 128 (drop (128 * b) (set words k v))) at ∙ ap (take 128) (drop-set-add (128 * b) words (i - 128 * b) v)
      ∙ take-set-le 128 (drop (128 * b) words) (i - 128 * b) v (omega arith))
      ∙ within_128 (drop (128 * b) words)
      ∙ goods b (omega arith)

  here : good_at (set words i v) (i / 128) ≡ false
  here =
      let b = i / 128 in
      let at : i ≡ 128 * b + i % 128 = omega arith in
      let word : get_or (drop (128 * b) words) (i % 128) 0 ≡ get_or words i 0 =
      get_or-drop (128 * b) words (i % 128) 0 ∙ ap (λ (k : ℕ). get_or words k 0) (sym at) in
      let long = length-drop (128 * b) words in
      ap good (ap (λ (k : ℕ). drop (128 * b) (set words k v)) at ∙ drop-set-add (128 * b) words (i % 128) v)
      ∙ changed_bad (drop (128 * b) words) (i % 128) v (omega arith) (omega arith) (omega (arith, word, small)) small_v (λ e. other (sym word ∙ e))
      (goods b (omega arith))

  pub one_word : first_bad n (set words i v) ≡ i / 128
  one_word = only_found n (set words i v) (i / 128) (omega arith) (before, λ m. here)

-- one changed byte changes its word, and no other
module _ (file : List ℕ) (p v : ℕ) (whole : length file % 4 ≡ 0) (l : p < length file) where
  kept : (q : ℕ) → (q ≡ p → ⊥) → get_or (set file p v) q 0 ≡ get_or file q 0
  kept q ne = get_or-set_other file p q v 0 ne

  same_length : length (set file p v) ≡ length file
  same_length = length-set file p v

  other_word : (i : ℕ) → 4 * i + 4 ≤ length file → (i ≡ p / 4 → ⊥) → get_or (words_of (set file p v)) i 0 ≡ get_or (words_of file) i 0
  other_word i m ne =
      let same = same_length in
      word_is (set file p v) i (omega arith)
      ∙ (λ t. word_of (kept (4 * i) (λ e. ne (omega arith)) t) (kept (4 * i + 1) (λ e. ne (omega arith)) t)
      (kept (4 * i + 2) (λ e. ne (omega arith)) t) (kept (4 * i + 3) (λ e. ne (omega arith)) t))
      ∙ sym (word_is file i m)

  new : ℕ
  new = get_or (words_of (set file p v)) (p / 4) 0

  words_changed : words_of (set file p v) ≡ set (words_of file) (p / 4) new
  unfolding new
  words_changed =
      let long = words_length file in
      let long_set = words_length (set file p v) in
      let same = same_length in
      ext_get_or 0 (words_of (set file p v)) (set (words_of file) (p / 4) new)
      (long_set ∙ ap (λ (k : ℕ). k / 4) same ∙ sym long ∙ sym (length-set (words_of file) (p / 4) new))
      (λ i m. by i (omega (arith, long_set, same)) (eqb i (p / 4)) refl)
    where
      by : (i : ℕ) → 4 * i + 4 ≤ length file → (b : Bool) → eqb i (p / 4) ≡ b
          → get_or (words_of (set file p v)) i 0 ≡ get_or (set (words_of file) (p / 4) (get_or (words_of (set file p v)) (p / 4) 0)) i 0
      by i m true e =
          let is = eqb-true i (p / 4) e in
          let long = words_length file in
          ap (λ (k : ℕ). get_or (words_of (set file p v)) k 0) is
          ∙ sym (get_or-set_same (words_of file) (p / 4) (get_or (words_of (set file p v)) (p / 4) 0) 0 (omega arith))
          ∙ ap (λ (k : ℕ). get_or (set (words_of file) (p / 4) (get_or (words_of (set file p v)) (p / 4) 0)) k 0) (sym is)
      by i m false e =
          other_word i m (eqb-false i (p / 4) e)
          ∙ sym (get_or-set_other (words_of file) (p / 4) i (get_or (words_of (set file p v)) (p / 4) 0) 0 (eqb-false i (p / 4) e))

  module _ (bytes : Bytes file) (byte : v < 256) (other : get_or file p 0 ≡ v → ⊥) where
    changed_bytes : Bytes (set file p v)
    changed_bytes q m = by (eqb q p) refl
      where
        by : (b : Bool) → eqb q p ≡ b → get_or (set file p v) q 0 < 256
        by true e = let is = ap (λ (k : ℕ). get_or (set file p v) k 0) (eqb-true q p e) ∙ get_or-set_same file p v 0 l in omega arith
        by false e =
            let is = kept q (eqb-false q p e) in
            let small = bytes q (let z = same_length in omega arith) in
            omega arith

    -- were the word the same, so would the bytes be
    word_differs : get_or (words_of file) (p / 4) 0 ≡ new → ⊥
    unfolding new
    word_differs e =
        let same = same_length in
        let words : words_of (set file p v) ≡ words_of file = words_changed ∙ ap (set (words_of file) (p / 4)) (sym e) ∙ set-get_or (words_of file) (p / 4) 0 in
        let all : set file p v ≡ file =
        sym (bytes_back (set file p v) changed_bytes (omega arith)) ∙ ap bytes_of words ∙ bytes_back file bytes whole in
        other (ap (λ (f : List ℕ). get_or f p 0) (sym all) ∙ get_or-set_same file p v 0 l)

    new_small : new < past_32_bits
    unfolding new
    new_small = word_small (set file p v) changed_bytes (p / 4) (let z = same_length in omega arith)

-- One changed byte of a file of whole blocks without a bad check: the first bad block is that byte's.
pub one_byte : (file : List ℕ) → Bytes file → length file % 512 ≡ 0 → first_bad_in file ≡ whole_blocks file
    → (p v : ℕ) → p < length file → v < 256 → (get_or file p 0 ≡ v → ⊥) → first_bad_in (set file p v) ≡ p / 512
one_byte file bytes whole none p v l byte other =
    let fours : length file % 4 ≡ 0 = omega arith in
    let same = length-set file p v in
    let long = words_length file in
    ap₂ first_bad (ap (λ (k : ℕ). k / 512) same) (words_changed file p v fours l)
    ∙ one_word (words_of file) (length file / 512) (p / 4) (new file p v fours l) (omega arith) (omega arith) (word_small file bytes (p / 4) (omega arith))
    (new_small file p v fours l bytes byte other) (word_differs file p v fours l bytes byte other) none
    ∙ (let z : p / 4 / 128 ≡ p / 512 = omega arith in z)
