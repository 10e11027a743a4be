-- What an order line says: document 01, "Order lines", its shapes, and refusals 5, 6 and 8; document 02, order 4, in which spellings it says it, and order 6,
-- the shape `ORIGIN ox oy` and the fields that may carry a minus.
use Rattle.std.specs.Prelude.{Bool, true, false, cond, ◌||◌, List, [], ◌∷◌, ◌++◌, ◌≡◌, ℕ, leb, ℤ, pos, length, Option, Some, None, Result, Ok, Err}
use Rattle.terms.specs.declared.Refusal.{Refusal}
use Rattle.terms.specs.declared.Refusal.TheVariants.{NotANumber, WrongShape, LongLine}
use Rattle.terms.specs.Terms.{refusal_number}
use Rattle.lines.specs.declared.Request.{Request}
use Rattle.lines.specs.declared.Request.TheVariants.{SetArea, SetOrigin, AskNumber, AskSquare}
use Rattle.fields.specs.Fields.{fields}
use Rattle.words.specs.Letters.{bytes}
use Rattle.words.specs.Words.{numeral, Spells, same_bytes, begins}
use Rattle.words.specs.Signed.{signed_numeral, SpellsSigned}

-- The first words.
abbrev pub AREA : List ℕ
AREA = bytes "AREA"

abbrev pub ORIGIN : List ℕ
ORIGIN = bytes "ORIGIN"

abbrev pub N : List ℕ
N = bytes "N"

abbrev pub S : List ℕ
S = bytes "S"

-- Order 6: "a refused line that begins with the bytes `ORIGIN` leaves no area in force", as one does whose first four bytes are AREA.
abbrev pub begins_setting : List ℕ → Bool
begins_setting line = begins line AREA || begins line ORIGIN

-- What a known word asks with the one field, or the two, after it: an empty field is refusal 6, and one that is not a number refusal 5.
abbrev pub is_empty : List ℕ → Bool
is_empty [] = true
is_empty (b ∷ bs) = false

abbrev pub by_one : {A R : Type 0} → (A → R) → Option A → Result R Refusal
by_one asked (Some i) = Ok (asked i)
by_one asked None = Err NotANumber

abbrev pub of_one : {A R : Type 0} → (List ℕ → Option A) → (A → R) → List ℕ → Result R Refusal
of_one read asked a = cond (is_empty a) (Err WrongShape) (by_one asked (read a))

abbrev pub by_two : {A R : Type 0} → (A → A → R) → Option A → Option A → Result R Refusal
by_two asked (Some x) (Some y) = Ok (asked x y)
by_two asked (Some x) None = Err NotANumber
by_two asked None n = Err NotANumber

abbrev pub of_two : {A R : Type 0} → (List ℕ → Option A) → (A → A → R) → List ℕ → List ℕ → Result R Refusal
of_two read asked a b = cond (is_empty a || is_empty b) (Err WrongShape) (by_two asked (read a) (read b))

-- "AREA w h, N i, S x y", and order 6's "ORIGIN ox oy"; "The fields of ORIGIN and S may carry a minus before the digits". "An unknown first word, a missing,
-- extra or empty field, or an empty line is refusal 6."
abbrev pub two_fields : (word a : List ℕ) → Result Request Refusal
two_fields word a = cond (same_bytes word N) (of_one numeral AskNumber a) (Err WrongShape)

abbrev pub three_fields : (word a b : List ℕ) → Result Request Refusal
three_fields word a b =
    cond (same_bytes word AREA) (of_two numeral SetArea a b)
    (cond (same_bytes word ORIGIN) (of_two signed_numeral SetOrigin a b)
    (cond (same_bytes word S) (of_two signed_numeral AskSquare a b) (Err WrongShape)))

unfoldable pub shaped : List (List ℕ) → Result Request Refusal
shaped [] = Err WrongShape
shaped (word ∷ []) = Err WrongShape
shaped (word ∷ a ∷ []) = two_fields word a
shaped (word ∷ a ∷ b ∷ []) = three_fields word a b
shaped (word ∷ a ∷ b ∷ c ∷ fs) = Err WrongShape

-- "8: a line has over 64 bytes"; "For a line it is 8, 6, 5".
unfoldable pub request : List ℕ → Result Request Refusal
request line = cond (leb (length line) 64) (shaped (fields line)) (Err LongLine)

-- A request on paper: the refusal's number, 0 for none, the first word of its shape, and the numbers after it. "5, 6, 8: the number, all else 0": where it
-- is refused there is no word, and there are no numbers.
pub record Asked : Type 0 where
  pub refusal : ℕ
  pub word : List ℕ
  pub numbers : List ℤ

abbrev pub asked : Result Request Refusal → Asked
asked (Ok (SetArea w h)) = record { refusal = 0; word = AREA; numbers = pos w ∷ pos h ∷ [] }
asked (Ok (SetOrigin ox oy)) = record { refusal = 0; word = ORIGIN; numbers = ox ∷ oy ∷ [] }
asked (Ok (AskNumber i)) = record { refusal = 0; word = N; numbers = pos i ∷ [] }
asked (Ok (AskSquare x y)) = record { refusal = 0; word = S; numbers = x ∷ y ∷ [] }
asked (Err r) = record { refusal = refusal_number r; word = []; numbers = [] }

-- "Each value .. has two spellings, and the reader's contract says which two": a line that asks for something is the shape's word and its numbers, each in
-- one of its spellings, with a space before each, and nothing else. A number over the largest has none: its last ten digits spell another.
abbrev pub Spelt : List ℕ → ℕ → Type 0
Spelt f n = Spells f (Some n)

abbrev pub SpeltSigned : List ℕ → ℤ → Type 0
SpeltSigned f z = SpellsSigned f (Some z)

pub record SaysOne (word : List ℕ) (n : ℕ) (line : List ℕ) : Type 0 where
  pub field : List ℕ
  pub spelt : Spelt field n
  pub is : line ≡ word ++ (32 ∷ field)

pub record SaysTwo {A : Type 0} (Spelling : List ℕ → A → Type 0) (word : List ℕ) (n m : A) (line : List ℕ) : Type 0 where
  pub first : List ℕ
  pub second : List ℕ
  pub first_spelt : Spelling first n
  pub second_spelt : Spelling second m
  pub is : line ≡ word ++ (32 ∷ (first ++ (32 ∷ second)))

abbrev pub Says : Request → List ℕ → Type 0
Says (SetArea w h) line = SaysTwo Spelt AREA w h line
Says (SetOrigin ox oy) line = SaysTwo SpeltSigned ORIGIN ox oy line
Says (AskNumber i) line = SaysOne N i line
Says (AskSquare x y) line = SaysTwo SpeltSigned S x y line
