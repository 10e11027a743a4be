-- What a field holds: a word, compared byte by byte, or a number. Document 01, "Order lines": "A number is 1 to 10 digits" and "whose first four bytes are
-- AREA"; document 02, order 4, on a number of ten digits and its spellings.
use Rattle.std.specs.Prelude.{Bool, true, false, not, cond, ◌&&◌, ◌||◌, List, [], ◌∷◌, ◌≡◌, ℕ, ◌+◌, ◌-◌, ◌*◌, ◌≤◌, leb, eqb, length, take, Option, Some, None}
use Rattle.terms.specs.declared.Refusal.TheVariants.{NotANumber}
use Rattle.terms.specs.Terms.{Figures, answered, refused}
use Rattle.words.specs.Decimal.{decimal, padded}

-- "digits": bytes 48 to 57.
abbrev pub is_digit : ℕ → Bool
is_digit b = leb 48 b && leb b 57

unfoldable pub all_digits : List ℕ → Bool
all_digits [] = true
all_digits (b ∷ bs) = is_digit b && all_digits bs

-- "first digit not 0 unless it is the single digit"
abbrev pub well_begun : List ℕ → Bool
well_begun [] = true
well_begun (b ∷ []) = true
well_begun (b ∷ c ∷ bs) = not (eqb b 48)

-- "A field of exactly ten digits may now begin with zeros; shorter fields keep the old rule, so `07` is still refused."
abbrev pub may_begin : List ℕ → Bool
may_begin f = eqb (length f) 10 || well_begun f

-- The value of digits that follow the value n.
unfoldable pub value_on : ℕ → List ℕ → ℕ
value_on n [] = n
value_on n (b ∷ bs) = value_on (n * 10 + (b - 48)) bs

abbrev pub value : List ℕ → ℕ
value f = value_on 0 f

-- The largest number.
abbrev pub largest_number : ℕ
largest_number = 4294967295

-- "A number is 1 to 10 digits, first digit not 0 unless it is the single digit, value at most 4,294,967,295", and ten digits may begin with zeros.
unfoldable pub is_number : List ℕ → Bool
is_number f = leb 1 (length f) && leb (length f) 10 && all_digits f && may_begin f && leb (value f) largest_number

unfoldable pub numeral : List ℕ → Option ℕ
numeral f = cond (is_number f) (Some (value f)) None

-- The figures of a field read as a number: its value, or "5: a field of a line is not a number".
abbrev pub numeral_figures : Option ℕ → Figures
numeral_figures (Some n) = answered (n ∷ [])
numeral_figures None = refused NotANumber 1

-- "Each value below 1,000,000,000 then has two spellings, and the reader's contract says which two": in decimal, and padded to ten digits.
pub data Spelling (f : List ℕ) (n : ℕ) : Type 0 where
  unpadded : f ≡ decimal n → Spelling f n
  in_ten : f ≡ padded n → Spelling f n

-- What a field read as a number is: a spelling of that number, which is at most the largest; or, where it is read as none, of no such number.
abbrev pub Spells : List ℕ → Option ℕ → Type 0
Spells f (Some n) = (n ≤ largest_number) × Spelling f n
Spells f None = (n : ℕ) → n ≤ largest_number → Spelling f n → ⊥

-- Whether some bytes are a word's.
unfoldable pub same_bytes : List ℕ → List ℕ → Bool
same_bytes [] [] = true
same_bytes [] (b ∷ bs) = false
same_bytes (a ∷ cs) [] = false
same_bytes (a ∷ cs) (b ∷ bs) = eqb a b && same_bytes cs bs

-- Whether a line's first bytes are a word's: "whose first four bytes are AREA".
abbrev pub begins : (line word : List ℕ) → Bool
begins line word = same_bytes (take (length word) line) word
