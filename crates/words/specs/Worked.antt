-- Fields worked by hand, as one table under one claim, which computes: the numbers that document 01, "Order lines", and document 02, orders 4 and 6, give, and
-- for each sentence of them the nearest fields on either side.
use Rattle.std.specs.Prelude.{Bool, true, false, ◌&&◌, List, [], ◌∷◌, ℕ, T, eqb, ℤ, pos, negsuc, Option, Some, None, is_none}
use Prim.Native.String.{String}
use Rattle.terms.specs.Comparing.{same_integer}
use Rattle.words.specs.Letters.{bytes}
use Rattle.words.specs.Words.{all_digits, value_on, is_number, numeral}
use Rattle.words.specs.Signed.{signed_numeral}

-- A field that is a number of some value, or none; and where a field may carry a minus, likewise.
pub data Case : Type 0 where
  number : String → ℕ → Case
  none : String → Case
  signed : String → ℤ → Case
  none_signed : String → Case

is_value : ℕ → Option ℕ → Bool
is_value n (Some m) = eqb m n
is_value n None = false

is_integer : ℤ → Option ℤ → Bool
is_integer z (Some y) = same_integer y z
is_integer z None = false

right : Case → Bool
unfolding is_value is_integer numeral is_number all_digits value_on signed_numeral
right (number field n) = is_value n (numeral (bytes field))
right (none field) = is_none (numeral (bytes field))
right (signed field z) = is_integer z (signed_numeral (bytes field))
right (none_signed field) = is_none (signed_numeral (bytes field))

pub all_right : List Case → Bool
unfolding right
all_right [] = true
all_right (c ∷ cs) = right c && all_right cs

pub worked : List Case
worked =
    -- "A number is 1 to 10 digits, first digit not 0 unless it is the single digit, value at most 4,294,967,295."
    number "0" 0
    ∷ number "7" 7
    ∷ number "30" 30
    ∷ number "999999999" 999999999
    ∷ number "1000000000" 1000000000
    ∷ number "4294967295" 4294967295
    ∷ none ""
    ∷ none "4294967296"
    ∷ none "9999999999"
    ∷ none "42949672950"
    -- "Anything else is refusal 5: `3E4`, `+7`, `07`, `7.0`, a carriage return after the digits."
    ∷ none "3E4"
    ∷ none "+7"
    ∷ none "-7"
    ∷ none "07"
    ∷ none "7.0"
    ∷ none "7\r"
    -- "The printer pads every number to ten digits: `0000000030`. A field of exactly ten digits may now begin with zeros"
    ∷ number "0000000030" 30
    ∷ number "0000000000" 0
    ∷ number "0000000007" 7
    ∷ number "0004294967" 4294967
    ∷ number "0999999999" 999999999
    -- "shorter fields keep the old rule, so `07` is still refused", and longer ones are none
    ∷ none "00"
    ∷ none "030"
    ∷ none "0030"
    ∷ none "00030"
    ∷ none "000030"
    ∷ none "0000030"
    ∷ none "00000030"
    ∷ none "000000000"
    ∷ none "000000030"
    ∷ none "099999999"
    ∷ none "00000000000"
    ∷ none "00000000030"
    ∷ none "04294967295"
    -- ten bytes that are not all digits
    ∷ none "00000003E4"
    ∷ none "-000000030"
    ∷ none "0000000 30"
    ∷ none "00000003.0"
    -- "may carry a minus before the digits". (`negsuc n` is the integer -(n + 1).)
    ∷ signed "-7" (negsuc 6)
    ∷ signed "-1" (negsuc 0)
    ∷ signed "7" (pos 7)
    ∷ signed "0" (pos 0)
    ∷ none_signed ""
    ∷ none_signed "-"
    ∷ none_signed "--1"
    ∷ none_signed "+7"
    ∷ none_signed "7-"
    ∷ none_signed "-3E4"
    ∷ none_signed "- 7"
    -- "there `-0`, padded or not, .. aren't numbers"
    ∷ none_signed "-0"
    ∷ none_signed "-0000000000"
    ∷ signed "0000000000" (pos 0)
    -- padded behind a minus as without one
    ∷ signed "-0000000007" (negsuc 6)
    ∷ none_signed "-07"
    ∷ none_signed "-000000007"
    ∷ none_signed "-00000000007"
    -- "any magnitude over 2,147,483,647"
    ∷ signed "2147483647" (pos 2147483647)
    ∷ signed "-2147483647" (negsuc 2147483646)
    ∷ none_signed "2147483648"
    ∷ none_signed "-2147483648"
    ∷ none_signed "4294967295"
    ∷ none_signed "-4294967296"
    ∷ []

pub worked_right : T (all_right worked)
unfolding worked all_right
worked_right = tt
