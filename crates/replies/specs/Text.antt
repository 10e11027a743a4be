-- A reply as text: document 01, "prints for each line its number from 1, a space, and one of: AREA w h n fx fy; CELL x y k; NUMBER i k; REFUSED r", and
-- "65536 STOP"; document 02, order 6, "An accepted line prints `ORIGIN ox oy`", and squares are signed.
use Rattle.std.specs.Prelude.{cond, List, [], ◌∷◌, ◌++◌, ◌≡◌, ℕ, ◌+◌, leb, ℤ, length}
use Rattle.std.proofs.lemmas.List.Edits.{sets}
use Rattle.words.specs.Letters.{bytes}
use Rattle.words.specs.Decimal.{decimal, signed_decimal}
use Rattle.clerk.specs.Clerk as Clerks

-- A space and a number in decimal.
abbrev pub spaced : ℤ → List ℕ
spaced z = 32 ∷ signed_decimal z

abbrev pub all_spaced : List ℤ → List ℕ
all_spaced [] = []
all_spaced (z ∷ zs) = spaced z ++ all_spaced zs

-- A space and the word.
abbrev pub spaced_word : Clerks.Word → List ℕ
spaced_word Clerks.AreaSaid = bytes " AREA"
spaced_word Clerks.OriginSaid = bytes " ORIGIN"
spaced_word Clerks.Cell = bytes " CELL"
spaced_word Clerks.Number = bytes " NUMBER"
spaced_word Clerks.Refused = bytes " REFUSED"

abbrev pub body : Clerks.Said → List ℕ
body s = spaced_word s.word ++ all_spaced s.numbers

-- The text of a reply to a line, by its number, up to the newline; and that of a line after which none is read.
unfoldable pub text : (line : ℕ) → Clerks.Said → List ℕ
text line s = decimal line ++ (body s ++ (10 ∷ []))

unfoldable pub stop : (line : ℕ) → List ℕ
stop line = decimal line ++ bytes " STOP\n"

-- No text of a 32-bit line number and 32-bit numbers is longer than this; nor one of these numbers with its space, nor a square's two signed ones with theirs,
-- nor a reply's word with its numbers.
abbrev pub longest : ℕ
longest = 73

abbrev pub longest_spaced : ℕ
longest_spaced = 11

abbrev pub longest_pair : ℕ
longest_pair = 24

abbrev pub longest_body : ℕ
longest_body = 62

-- A buffer with bytes written at a place, and the place after them.
pub record Writes (before : List ℕ) (at : ℕ) (bytes after : List ℕ) (end : ℕ) : Type 0 where
  pub written : after ≡ sets before at bytes
  pub behind : end ≡ at + length bytes

-- The bytes that a call writes: all of them, or none where the longest text would not fit.
abbrev pub if_room : (buffer : List ℕ) (at : ℕ) → List ℕ → List ℕ
if_room buffer at bytes = cond (leb (at + longest) (length buffer)) bytes []
