-- "Our usual blocks of 512 bytes": words in bytes, a block with its count and its check, words packed into blocks, and the first block whose check is bad.
-- Document 02, order 8, from "A block is 128 little-endian 32-bit words" to "Unused words are zero", and "the first whole block whose check is bad".
use Rattle.std.specs.Prelude.{Bool, cond, List, [], ◌∷◌, ◌++◌, ℕ, zero, suc, ◌+◌, ◌-◌, ◌*◌, ◌/◌, ◌%◌, eqb, length, get_or, take, drop, replicate}
use Rattle.terms.specs.Terms.{past_32_bits}

-- "little-endian 32-bit words": a word of four bytes; the words of some bytes, of which one to three at the end are no word; and the bytes of words.
abbrev pub word_of : (a b c d : ℕ) → ℕ
word_of a b c d = a + 256 * (b + 256 * (c + 256 * d))

unfoldable pub words_of : List ℕ → List ℕ
words_of [] = []
words_of (a ∷ []) = []
words_of (a ∷ b ∷ []) = []
words_of (a ∷ b ∷ c ∷ []) = []
words_of (a ∷ b ∷ c ∷ d ∷ bytes) = word_of a b c d ∷ words_of bytes

unfoldable pub bytes_of : List ℕ → List ℕ
bytes_of [] = []
bytes_of (v ∷ vs) = v % 256 ∷ v / 256 % 256 ∷ v / 256 / 256 % 256 ∷ v / 256 / 256 / 256 ∷ bytes_of vs

-- "a check, which is 1 plus the sum of the other 127 words, modulo 2 to the 32nd"
unfoldable pub sum : List ℕ → ℕ
sum [] = 0
sum (v ∷ vs) = v + sum vs

abbrev pub check_of : List ℕ → ℕ
check_of others = (1 + sum others) % past_32_bits

-- "in this order: 126 of content, one that counts the content words in use, and a check"; "Unused words are zero": the block of some content words.
abbrev pub counted : List ℕ → List ℕ
counted vs = vs ++ replicate (126 - length vs) 0 ++ (length vs ∷ [])

unfoldable pub sealed : List ℕ → List ℕ
sealed vs = counted vs ++ (check_of (counted vs) ∷ [])

-- Words over so many blocks, "each block full but perhaps the last" that has some.
unfoldable pub packed : (blocks : ℕ) → List ℕ → List ℕ
packed zero vs = []
packed (suc n) vs = sealed (take 126 vs) ++ packed n (drop 126 vs)

-- Whether the first of some words' blocks has a good check.
unfoldable pub good : List ℕ → Bool
good words = eqb (get_or words 127 0) (check_of (take 127 words))

-- "the index .. of the first whole block whose check is bad"; how many blocks there are where none is bad.
unfoldable pub first_bad : (blocks : ℕ) → List ℕ → ℕ
first_bad zero words = 0
first_bad (suc n) words = cond (good words) (suc (first_bad n (drop 128 words))) 0

-- The whole blocks that a file has.
abbrev pub whole_blocks : (file : List ℕ) → ℕ
whole_blocks file = length file / 512

abbrev pub first_bad_in : (file : List ℕ) → ℕ
first_bad_in file = first_bad (whole_blocks file) (words_of file)
