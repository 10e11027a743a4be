-- Words and their bytes: each is the other's way back; a word by its four bytes, and words with one entered; and the sum of words.
use mathlib.Core.List.{List, [], ◌∷◌, ◌++◌, append_assoc}
use mathlib.Core.Path.{◌≡◌, refl, sym, ap, ap₂, ◌∙◌}
use Prim.Native.Nat.{ℕ, zero, suc, ◌+◌, ◌*◌, ◌/◌, ◌%◌, ◌^◌, ◌≤◌, ◌<◌}
use native.Mathlib.Numerals.{add-one}
use native.Mathlib.Omega.{arith}
use lib.ListN.{length, get_or, take, drop, set, replicate, take-append-drop, length-drop}
use borrow.Rule.Slice.PartMut.{put_mid}
use lib.Seq.{sets, sets-eq, drop-drop, take-suc, take_at, drop_at, length-take-le}
use Rattle.std.specs.Int.{w32, to_le_bytes, from_le_bytes}
use Rattle.terms.specs.Terms.{past_32_bits}
use Rattle.sectors.specs.Sectors.{word_of, words_of, bytes_of, sum}

-- the bytes of a word in a list
four_more : (i : ℕ) → 4 * suc i ≡ suc (suc (suc (suc (4 * i))))
four_more i = omega arith

four_on : (i k : ℕ) → 4 * suc i + k ≡ suc (suc (suc (suc (4 * i + k))))
four_on i k = omega arith

pub words_length : (bytes : List ℕ) → length (words_of bytes) ≡ length bytes / 4
unfolding words_of
words_length [] = refl
words_length (a ∷ []) = refl
words_length (a ∷ b ∷ []) = refl
words_length (a ∷ b ∷ c ∷ []) = refl
words_length (a ∷ b ∷ c ∷ d ∷ rest) = let more = words_length rest in omega arith

pub word_is : (bytes : List ℕ) (i : ℕ) → 4 * i + 4 ≤ length bytes
    → get_or (words_of bytes) i 0 ≡ word_of (get_or bytes (4 * i) 0) (get_or bytes (4 * i + 1) 0) (get_or bytes (4 * i + 2) 0) (get_or bytes (4 * i + 3) 0)
unfolding words_of
word_is [] i l = absurd (omega arith)
word_is (a ∷ []) i l = absurd (omega arith)
word_is (a ∷ b ∷ []) i l = absurd (omega arith)
word_is (a ∷ b ∷ c ∷ []) i l = absurd (omega arith)
word_is (a ∷ b ∷ c ∷ d ∷ rest) zero l = refl
word_is (a ∷ b ∷ c ∷ d ∷ rest) (suc i) l = rw (four_on i 1, four_on i 2, four_on i 3, four_more i) (word_is rest i (omega arith))

pub words_set : (bytes : List ℕ) (i a b c d : ℕ) → 4 * i + 4 ≤ length bytes
    → words_of (set (set (set (set bytes (4 * i) a) (4 * i + 1) b) (4 * i + 2) c) (4 * i + 3) d) ≡ set (words_of bytes) i (word_of a b c d)
unfolding words_of
words_set [] i a b c d l = absurd (omega arith)
words_set (x ∷ []) i a b c d l = absurd (omega arith)
words_set (x ∷ y ∷ []) i a b c d l = absurd (omega arith)
words_set (x ∷ y ∷ z ∷ []) i a b c d l = absurd (omega arith)
words_set (x ∷ y ∷ z ∷ w ∷ rest) zero a b c d l = refl
words_set (x ∷ y ∷ z ∷ w ∷ rest) (suc i) a b c d l =
    rw (four_on i 1, four_on i 2, four_on i 3, four_more i) (ap (λ (ws : List ℕ). word_of x y z w ∷ ws) (words_set rest i a b c d (omega arith)))

-- words of bytes one behind the other, of the bytes up to a word and from it on, and of zeros
pub words_append : (xs ys : List ℕ) → length xs % 4 ≡ 0 → words_of (xs ++ ys) ≡ words_of xs ++ words_of ys
unfolding words_of
words_append [] ys whole = refl
words_append (a ∷ []) ys whole = absurd (omega arith)
words_append (a ∷ b ∷ []) ys whole = absurd (omega arith)
words_append (a ∷ b ∷ c ∷ []) ys whole = absurd (omega arith)
words_append (a ∷ b ∷ c ∷ d ∷ xs) ys whole = ap (λ (ws : List ℕ). word_of a b c d ∷ ws) (words_append xs ys (omega arith))

module _ (bytes : List ℕ) (n : ℕ) (room : 4 * n ≤ length bytes) where
  front : length (words_of (take (4 * n) bytes)) ≡ n
  front =
      let long = length-take-le (4 * n) bytes room in
      words_length (take (4 * n) bytes) ∙ omega (arith, long)

  in_two : words_of bytes ≡ words_of (take (4 * n) bytes) ++ words_of (drop (4 * n) bytes)
  in_two =
      let long = length-take-le (4 * n) bytes room in
      ap words_of (sym (take-append-drop (4 * n) bytes)) ∙ words_append (take (4 * n) bytes) (drop (4 * n) bytes) (omega (arith, long))

  pub words_take : words_of (take (4 * n) bytes) ≡ take n (words_of bytes)
  words_take = sym (take_at (words_of (take (4 * n) bytes)) (words_of (drop (4 * n) bytes)) n front) ∙ ap (take n) (sym in_two)

  pub words_drop : words_of (drop (4 * n) bytes) ≡ drop n (words_of bytes)
  words_drop = sym (drop_at (words_of (take (4 * n) bytes)) (words_of (drop (4 * n) bytes)) n front) ∙ ap (drop n) (sym in_two)

pub words_slice : (bytes : List ℕ) (at n : ℕ) → 4 * (at + n) ≤ length bytes → words_of (take (4 * n) (drop (4 * at) bytes)) ≡ take n (drop at (words_of bytes))
words_slice bytes at n room =
    let long = length-drop (4 * at) bytes in
    words_take (drop (4 * at) bytes) n (omega arith) ∙ ap (take n) (words_drop bytes at (omega arith))

pub words_put : (bytes now : List ℕ) (at n : ℕ) → 4 * (at + n) ≤ length bytes → length now ≡ 4 * n
    → words_of (put_mid (4 * at) (4 * n) bytes now) ≡ sets (words_of bytes) at (words_of now)
words_put bytes now at n room size =
    let front = length-take-le (4 * at) bytes (omega arith) in
    let left = length-drop (4 * at) bytes in
    let all = words_length bytes in
    let many : length (words_of now) ≡ n = words_length now ∙ omega (arith, size) in
    words_append (take (4 * at) bytes) (now ++ drop (4 * n) (drop (4 * at) bytes)) (omega (arith, front))
    ∙ ap₂ ◌++◌ (words_take bytes at (omega arith)) (words_append now (drop (4 * n) (drop (4 * at) bytes)) (omega (arith, size))
    ∙ ap (λ (ws : List ℕ). words_of now ++ ws) (words_drop (drop (4 * at) bytes) n (omega arith)
    ∙ ap (drop n) (words_drop bytes at (omega arith)) ∙ drop-drop n at (words_of bytes) ∙ ap (λ (k : ℕ). drop (at + k) (words_of bytes)) (sym many)))
    ∙ sym (append_assoc (take at (words_of bytes)) (words_of now) (drop (at + length (words_of now)) (words_of bytes)))
    ∙ sym (sets-eq (words_of now) (words_of bytes) at (omega arith))

pub words_zero : (n : ℕ) → words_of (replicate {A = ℕ} (4 * n) 0) ≡ replicate {A = ℕ} n 0
unfolding words_of
words_zero zero = refl
words_zero (suc n) = rw (four_more n) (ap (λ (ws : List ℕ). 0 ∷ ws) (words_zero n))

-- the library's word of four bytes, and its bytes of a word
pub le_word : (a b c d : ℕ) → from_le_bytes w32 (a ∷ b ∷ c ∷ d ∷ []) ≡ word_of a b c d
le_word a b c d = omega arith

pub le_bytes : (v : ℕ) → v < past_32_bits → to_le_bytes w32 v ≡ v % 256 ∷ v / 256 % 256 ∷ v / 256 / 256 % 256 ∷ v / 256 / 256 / 256 ∷ []
le_bytes v small =
    ap₂ (λ (x y : ℕ). v % 256 ∷ v / 256 % 256 ∷ x ∷ y ∷ []) (let z : v / 256 ^ 2 % 256 ≡ v / 256 / 256 % 256 = omega arith in z)
    (let z : v / 256 ^ 3 % 256 ≡ v / 256 / 256 / 256 = omega arith in z)

-- a word is that of its bytes, and bytes are those of their word
pub digits : (v : ℕ) → word_of (v % 256) (v / 256 % 256) (v / 256 / 256 % 256) (v / 256 / 256 / 256) ≡ v
digits v = omega arith

pub words_back : (vs : List ℕ) → words_of (bytes_of vs) ≡ vs
unfolding words_of bytes_of
words_back [] = refl
words_back (v ∷ vs) = ap₂ (λ (u : ℕ) (us : List ℕ). u ∷ us) (digits v) (words_back vs)

pub bytes_length : (vs : List ℕ) → length (bytes_of vs) ≡ 4 * length vs
unfolding bytes_of
bytes_length [] = refl
bytes_length (v ∷ vs) = let more = bytes_length vs in omega (arith, more)

-- Each of some numbers is a byte.
abbrev pub Bytes : List ℕ → Type 0
Bytes bytes = (i : ℕ) → i < length bytes → get_or bytes i 0 < 256

rest_small : (a b c d : ℕ) (rest : List ℕ) → Bytes (a ∷ b ∷ c ∷ d ∷ rest) → Bytes rest
rest_small a b c d rest small i l = small (suc (suc (suc (suc i)))) (omega arith)

module _ (a b c d : ℕ) (la : a < 256) (lb : b < 256) (lc : c < 256) where
  first_byte : word_of a b c d % 256 ≡ a
  first_byte = omega arith

  off_first : word_of a b c d / 256 ≡ b + 256 * (c + 256 * d)
  off_first = omega arith

  off_second : (b + 256 * (c + 256 * d)) / 256 ≡ c + 256 * d
  off_second = omega arith

  off_third : (c + 256 * d) / 256 ≡ d
  off_third = omega arith

  second_byte : word_of a b c d / 256 % 256 ≡ b
  second_byte = ap (λ (n : ℕ). n % 256) off_first ∙ (let z : (b + 256 * (c + 256 * d)) % 256 ≡ b = omega arith in z)

  third_byte : word_of a b c d / 256 / 256 % 256 ≡ c
  third_byte = ap (λ (n : ℕ). n / 256 % 256) off_first ∙ ap (λ (n : ℕ). n % 256) off_second ∙ (let z : (c + 256 * d) % 256 ≡ c = omega arith in z)

  fourth_byte : word_of a b c d / 256 / 256 / 256 ≡ d
  fourth_byte = ap (λ (n : ℕ). n / 256 / 256) off_first ∙ ap (λ (n : ℕ). n / 256) off_second ∙ off_third

pub bytes_back : (bytes : List ℕ) → Bytes bytes → length bytes % 4 ≡ 0 → bytes_of (words_of bytes) ≡ bytes
unfolding words_of bytes_of
bytes_back [] small whole = refl
bytes_back (a ∷ []) small whole = absurd (omega arith)
bytes_back (a ∷ b ∷ []) small whole = absurd (omega arith)
bytes_back (a ∷ b ∷ c ∷ []) small whole = absurd (omega arith)
bytes_back (a ∷ b ∷ c ∷ d ∷ rest) small whole =
    let la = small 0 (omega arith) in
    let lb = small 1 (omega arith) in
    let lc = small 2 (omega arith) in
    (λ t. first_byte a b c d la lb lc t ∷ second_byte a b c d la lb lc t ∷ third_byte a b c d la lb lc t ∷ fourth_byte a b c d la lb lc t
    ∷ bytes_back rest (rest_small a b c d rest small) (omega arith) t)

pub same_bytes : (bytes vs : List ℕ) → Bytes bytes → length bytes ≡ 4 * length vs → words_of bytes ≡ vs → bytes ≡ bytes_of vs
same_bytes bytes vs small long same = sym (bytes_back bytes small (omega arith)) ∙ ap bytes_of same

pub word_small : (bytes : List ℕ) → Bytes bytes → (i : ℕ) → 4 * i + 4 ≤ length bytes → get_or (words_of bytes) i 0 < past_32_bits
word_small bytes small i l =
    let is = word_is bytes i l in
    let a = small (4 * i) (omega arith) in
    let b = small (4 * i + 1) (omega arith) in
    let c = small (4 * i + 2) (omega arith) in
    let d = small (4 * i + 3) (omega arith) in
    omega (arith, is)

-- sums
pub sum_append : (xs ys : List ℕ) → sum (xs ++ ys) ≡ sum xs + sum ys
unfolding sum
sum_append [] ys = omega arith
sum_append (x ∷ xs) ys = let more = sum_append xs ys in omega arith

pub sum_more : (vs : List ℕ) (i : ℕ) → i < length vs → sum (take (i + 1) vs) ≡ sum (take i vs) + get_or vs i 0
unfolding sum
sum_more vs i l =
    ap (λ (n : ℕ). sum (take n vs)) (add-one i) ∙ ap sum (take-suc vs i 0 l) ∙ sum_append (take i vs) (get_or vs i 0 ∷ [])
    ∙ ap (λ (n : ℕ). sum (take i vs) + n) (let z : get_or vs i 0 + 0 ≡ get_or vs i 0 = omega arith in z)

-- "little-endian": of the four bytes of word i the first is its lowest
pub lowest_first : (vs : List ℕ) (i : ℕ) → i < length vs
    → (get_or (bytes_of vs) (4 * i) 0 ≡ get_or vs i 0 % 256)
    × ((get_or (bytes_of vs) (4 * i + 1) 0 ≡ get_or vs i 0 / 256 % 256)
    × ((get_or (bytes_of vs) (4 * i + 2) 0 ≡ get_or vs i 0 / 256 / 256 % 256) × (get_or (bytes_of vs) (4 * i + 3) 0 ≡ get_or vs i 0 / 256 / 256 / 256)))
unfolding bytes_of
lowest_first [] i l = absurd (omega arith)
lowest_first (v ∷ vs) zero l = (refl, (refl, (refl, refl)))
lowest_first (v ∷ vs) (suc i) l = rw (four_on i 1, four_on i 2, four_on i 3, four_more i) (lowest_first vs i (omega arith))

-- the same of a file, whatever its length is, in numbers
pub word_in_numbers : (file : List ℕ) (i : ℕ) → 4 * i + 4 ≤ length file
    → get_or (words_of file) i 0
    ≡ get_or file (4 * i) 0 + 256 * get_or file (4 * i + 1) 0 + 65536 * get_or file (4 * i + 2) 0 + 16777216 * get_or file (4 * i + 3) 0
word_in_numbers file i l = let is = word_is file i l in omega (arith, is)
