-- The terms that every contract uses: which areas and origins are accepted, the refusals' numbers, and an answer's figures on paper.
-- Document 01, "What is bought" and "Refusal numbers", the refusals of document 02, order 2, the origin of its order 6 and the limit of its order 7.
use Rattle.std.specs.Prelude.{Bool, false, ◌&&◌, List, [], ◌∷◌, ℕ, ◌*◌, ◌≤◌, leb, ltb, ℤ, pos, negsuc, replicate, Option, Some, None}
use Rattle.std.specs.Int.Signed.{le_z}
use Rattle.terms.specs.declared.Area.{Area}
use Rattle.terms.specs.declared.Refusal.{Refusal}
use Rattle.terms.specs.declared.Refusal.TheVariants.{AreaLimit, SquareOutside, NumberOutside, TableLength, NotANumber, WrongShape, NoArea, LongLine}
use Rattle.terms.specs.declared.Refusal.TheVariants.{TooDeep, CornersCrossed, NoRoom, OriginLimit, TooManySquares, BadCheck, Departure}

-- "An area has a width w and a height h, each from 1 to 65,535."
abbrev pub longest_side : ℕ
longest_side = 65535

abbrev pub length_accepted : ℕ → Bool
length_accepted n = leb 1 n && leb n longest_side

abbrev pub lengths_accepted : (w h : ℕ) → Bool
lengths_accepted w h = length_accepted w && length_accepted h

-- Order 7: "An area of more than 16,777,216 squares is refused from now on".
abbrev pub most_squares : ℕ
most_squares = 16777216

abbrev pub squares_accepted : ℕ → Bool
squares_accepted n = leb n most_squares

-- An area within both limits.
unfoldable pub accepted : (w h : ℕ) → Bool
accepted w h = lengths_accepted w h && squares_accepted (w * h)

-- The same in numbers, for functions that ask for such an area.
pub record Limits (w h : ℕ) : Type 0 where
  pub w_least : 1 ≤ w
  pub w_most : w ≤ longest_side
  pub h_least : 1 ≤ h
  pub h_most : h ≤ longest_side
  pub squares_most : w * h ≤ most_squares

-- The refusals' numbers, in the table's words.
abbrev pub refusal_number : Refusal → ℕ
-- "w or h is 0 or over 65,535"
refusal_number AreaLimit = 1
-- "x >= w or y >= h", of order 6 "with the origin subtracted"
refusal_number SquareOutside = 2
-- "number >= w·h"
refusal_number NumberOutside = 3
-- "table length is not w·h"
refusal_number TableLength = 4
-- "a field of a line is not a number"
refusal_number NotANumber = 5
-- "a line has the wrong shape"
refusal_number WrongShape = 6
-- "N or S line with no area in force"; order 6: "also for ORIGIN"
refusal_number NoArea = 7
-- "a line has over 64 bytes"
refusal_number LongLine = 8
-- "a descent would open a 65th block"
refusal_number TooDeep = 9
-- order 2: "x0 > x1 or y0 > y1"
refusal_number CornersCrossed = 10
-- order 2: "more runs than whole pairs of room"; it tells the number of runs
refusal_number NoRoom = 11
-- order 6: "an origin beyond the range"
refusal_number OriginLimit = 12
-- order 7: "An area of more than 16,777,216 squares"
refusal_number TooManySquares = 13
-- order 8: "the first whole block whose check is bad"; it tells that block's index
refusal_number BadCheck = 14
-- order 8: "any other departure from this layout"
refusal_number Departure = 15

-- So many blocks may hold a square that a call needs.
abbrev pub most_blocks : ℕ
most_blocks = 64

-- An answer's figures on paper: the refusal's number, 0 where there is none, and the values in their order, without a sign or with one.
pub record FiguresOf (A : Type 0) : Type 0 where
  pub refusal : ℕ
  pub values : List A

abbrev pub Figures : Type 0
Figures = FiguresOf ℕ

abbrev pub SignedFigures : Type 0
SignedFigures = FiguresOf ℤ

abbrev pub answered : List ℕ → Figures
answered values = record { refusal = 0; values = values }

-- A refusal with what it tells besides its number; and "the number, all else 0", where n values would be answered.
abbrev pub refused_with : Refusal → List ℕ → Figures
refused_with r values = record { refusal = refusal_number r; values = values }

abbrev pub refused : Refusal → ℕ → Figures
refused r n = refused_with r (replicate n 0)

-- The least number that has not 32 bits. An area has fewer squares.
abbrev pub past_32_bits : ℕ
past_32_bits = 4294967296

-- Order 6: "The area record gains an origin (ox, oy), each from -1,000,000 to 1,000,000". (`negsuc n` is the integer -(n + 1).)
abbrev pub offset_accepted : ℤ → Bool
offset_accepted o = le_z (negsuc 999999) o && le_z o (pos 1000000)

unfoldable pub origin_accepted : (ox oy : ℤ) → Bool
origin_accepted ox oy = offset_accepted ox && offset_accepted oy

-- "set to 0 0 by each accepted AREA line": an area whose first square is the datum post's.
abbrev pub at_post : (w h : ℕ) → Area
at_post w h = record { w = w; h = h; ox = pos 0; oy = pos 0 }

-- An area within the limits with an origin within the range: the calls that ask or answer squares take such a one.
abbrev pub grid_accepted : Area → Bool
grid_accepted area = accepted area.w area.h && origin_accepted area.ox area.oy

-- Natural numbers among integers, and figures so.
unfoldable pub in_signs : List ℕ → List ℤ
in_signs [] = []
in_signs (n ∷ ns) = pos n ∷ in_signs ns

abbrev pub signed : Figures → SignedFigures
signed f = record { refusal = f.refusal; values = in_signs f.values }

-- How far a place lies east or north of the origin, from the difference, if that is not negative.
abbrev pub natural : ℤ → Option ℕ
natural (pos d) = Some d
natural (negsuc d) = None

-- The same; for a negative difference a number that is no area's x or y. It renders no sentence.
abbrev pub beyond_any_area : ℕ
beyond_any_area = 4294967295

abbrev pub distance_of : ℤ → ℕ
distance_of (pos d) = d
distance_of (negsuc d) = beyond_any_area

-- "x >= w or y >= h", "with the origin subtracted": the difference is below a length, and not negative.
abbrev pub below : (difference : ℤ) (length : ℕ) → Bool
below (pos d) n = ltb d n
below (negsuc d) n = false
