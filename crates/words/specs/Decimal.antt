-- A number in decimal, as replies print it: digits only, and no 0 before others. Document 01 shows such numbers in its example and says no more of them;
-- document 02, order 4: "What the program prints is unpadded." A signed one, of order 6. And a number as the new printer pads it.
use Rattle.std.specs.Prelude.{cond, List, [], ◌∷◌, ◌++◌, ℕ, zero, suc, ◌+◌, ◌/◌, ◌%◌, ltb, ℤ, pos, negsuc}

-- Each step takes a digit off a number over 9 and so makes it less: n steps are enough.
unfoldable pub decimal_by : (steps n : ℕ) → List ℕ
decimal_by zero n = (48 + n) ∷ []
decimal_by (suc steps) n = cond (ltb n 10) ((48 + n) ∷ []) (decimal_by steps (n / 10) ++ ((48 + n % 10) ∷ []))

unfoldable pub decimal : ℕ → List ℕ
decimal n = decimal_by n n

-- A signed number: a minus, byte 45, before the digits of one below 0. (`negsuc n` is the integer -(n + 1).)
abbrev pub signed_decimal : ℤ → List ℕ
signed_decimal (pos n) = decimal n
signed_decimal (negsuc n) = 45 ∷ decimal (n + 1)

-- "The printer pads every number to ten digits: `0000000030`." So many digits of a number, its last ones, with zeros before them where it has no more.
unfoldable pub last_digits : (count n : ℕ) → List ℕ
last_digits zero n = []
last_digits (suc count) n = last_digits count (n / 10) ++ ((48 + n % 10) ∷ [])

unfoldable pub padded : ℕ → List ℕ
padded n = last_digits 10 n
