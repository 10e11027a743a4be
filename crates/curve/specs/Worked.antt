-- Calls worked by hand, as one table under one claim, which computes: each refusal of a call before those that come after it, with "the number, all else 0";
-- the finish squares of document 02, order 1; on document 01's 3 by 4 area and others origins about 0, at the range's ends and beyond them, and squares at the
-- ends of 32 bits. More squares, numbers and counts of answered lookups are worked in the division's tables.
use Rattle.std.specs.Prelude.{Bool, true, ◌&&◌, ℕ, T, leb, ℤ, pos, negsuc}
use mathlib.Core.List.{List, [], ◌∷◌}
use Rattle.terms.specs.declared.Area.{Area}
use Rattle.terms.specs.declared.Refusal.TheVariants.{TooDeep}
use Rattle.terms.specs.Terms.{in_signs, origin_accepted, most_blocks}
use Rattle.terms.specs.Guards.{◌else◌, guarded}
use Rattle.terms.specs.Comparing.{same_numbers, same_figures, same_integers, same_signed}
use Rattle.division.specs.Division.{whole, choice, even_half, part, parts, parts_of, against, moved, row, curve_by, down, curve, blocks, blocks_holding, count}
use Rattle.division.specs.Division.{square_of, number_of, place_in, same, within, holds}
use Rattle.curve.specs.Lookups.{from_origin, number_to_square_at, square_to_number_at, finish_square_at}

-- A line of the table: of an area, a number, a square or nothing is asked; the refusal and the values.
pub data Case : Type 0 where
  of_number : (area : Area) (number refusal : ℕ) → List ℤ → Case
  of_square : (area : Area) (x y : ℤ) (refusal : ℕ) → List ℕ → Case
  of_finish : (area : Area) (refusal : ℕ) → List ℤ → Case
  -- a lookup whose square so many blocks hold is answered, or refused
  of_deep : (blocks refusal : ℕ) → List ℕ → Case

right : Case → Bool
right (of_number area n r values) = same_signed (number_to_square_at area n) r values
right (of_square area x y r values) = same_figures (square_to_number_at area x y) r values
right (of_finish area r values) = same_signed (finish_square_at area) r values
right (of_deep blocks r values) = same_figures (guarded (leb blocks most_blocks else TooDeep ∷ []) 2 (7 ∷ blocks ∷ [])) r values

pub all_right : List Case → Bool
all_right [] = true
all_right (c ∷ cs) = right c && all_right cs

-- A w by h area at an origin. (`negsuc n` is the integer -(n + 1).)
abbrev at : (w h : ℕ) (ox oy : ℤ) → Area
at w h ox oy = record { w = w; h = h; ox = ox; oy = oy }

zeros : List ℤ
zeros = pos 0 ∷ pos 0 ∷ []

-- So at origin 0 0: a number, a square and the finish square are refused, and the finish square is (x, y).
abbrev number_refused : (w h number refusal : ℕ) → Case
number_refused w h number refusal = of_number (at w h (pos 0) (pos 0)) number refusal (pos 0 ∷ pos 0 ∷ pos 0 ∷ [])

abbrev square_refused : (w h x y refusal : ℕ) → Case
square_refused w h x y refusal = of_square (at w h (pos 0) (pos 0)) (pos x) (pos y) refusal (0 ∷ 0 ∷ [])

abbrev finish_refused : (w h refusal : ℕ) → Case
finish_refused w h refusal = of_finish (at w h (pos 0) (pos 0)) refusal (pos 0 ∷ pos 0 ∷ [])

abbrev finishes_at : (w h x y : ℕ) → Case
finishes_at w h x y = of_finish (at w h (pos 0) (pos 0)) 0 (pos x ∷ pos y ∷ [])

pub worked : List Case
worked =
    -- "origin plus the old square": number 8 is the old square (2, 1), held by 3 blocks, and (2, 0) is the old finish
    of_number (at 3 4 (pos 0) (pos 0)) 8 0 (pos 2 ∷ pos 1 ∷ pos 3 ∷ [])
    ∷ of_number (at 3 4 (negsuc 4) (pos 7)) 8 0 (negsuc 2 ∷ pos 8 ∷ pos 3 ∷ [])
    ∷ of_number (at 3 4 (negsuc 1) (negsuc 0)) 8 0 (pos 0 ∷ pos 0 ∷ pos 3 ∷ [])
    ∷ of_finish (at 3 4 (negsuc 4) (pos 7)) 0 (negsuc 2 ∷ pos 7 ∷ [])
    ∷ of_finish (at 5 2 (pos 10) (negsuc 9)) 0 (pos 13 ∷ negsuc 9 ∷ [])
    ∷ of_square (at 3 4 (negsuc 4) (pos 7)) (negsuc 2) (pos 8) 0 (8 ∷ 3 ∷ [])
    ∷ of_square (at 3 4 (pos 0) (pos 0)) (pos 2) (pos 1) 0 (8 ∷ 3 ∷ [])
    -- outside: the old square's own place, the last square's neighbours, and squares before the origin
    ∷ of_square (at 3 4 (negsuc 4) (pos 7)) (pos 2) (pos 1) 2 (0 ∷ 0 ∷ [])
    ∷ of_square (at 3 4 (negsuc 4) (pos 7)) (negsuc 1) (pos 7) 2 (0 ∷ 0 ∷ [])
    ∷ of_square (at 3 4 (negsuc 4) (pos 7)) (negsuc 5) (pos 7) 2 (0 ∷ 0 ∷ [])
    ∷ of_square (at 3 4 (negsuc 4) (pos 7)) (negsuc 4) (pos 6) 2 (0 ∷ 0 ∷ [])
    ∷ of_square (at 3 4 (negsuc 4) (pos 7)) (negsuc 4) (pos 11) 2 (0 ∷ 0 ∷ [])
    -- every signed 32-bit value has an answer
    ∷ of_square (at 3 4 (pos 1000000) (pos 1000000)) (negsuc 2147483647) (pos 1000000) 2 (0 ∷ 0 ∷ [])
    ∷ of_square (at 3 4 (negsuc 999999) (negsuc 999999)) (pos 2147483647) (negsuc 999999) 2 (0 ∷ 0 ∷ [])
    ∷ of_square (at 3 4 (negsuc 999999) (negsuc 999999)) (negsuc 999999) (negsuc 2147483647) 2 (0 ∷ 0 ∷ [])
    -- "each from -1,000,000 to 1,000,000"
    ∷ of_number (at 1 1 (negsuc 999999) (pos 1000000)) 0 0 (negsuc 999999 ∷ pos 1000000 ∷ pos 1 ∷ [])
    ∷ of_number (at 1 1 (pos 1000001) (pos 0)) 0 12 (pos 0 ∷ zeros)
    ∷ of_number (at 1 1 (pos 0) (negsuc 1000000)) 0 12 (pos 0 ∷ zeros)
    ∷ of_square (at 1 1 (negsuc 1000000) (pos 0)) (negsuc 1000000) (pos 0) 12 (0 ∷ 0 ∷ [])
    ∷ of_finish (at 1 1 (pos 0) (pos 2147483647)) 12 zeros
    -- 13 "directly after 1 and before everything else"
    ∷ of_number (at 4096 4097 (pos 1000001) (pos 0)) 0 13 (pos 0 ∷ zeros)
    ∷ of_square (at 65535 257 (pos 0) (negsuc 1000000)) (pos 0) (pos 0) 13 (0 ∷ 0 ∷ [])
    ∷ of_finish (at 65535 65535 (pos 1000001) (pos 0)) 13 zeros
    ∷ of_number (at 0 65536 (pos 1000001) (pos 0)) 0 1 (pos 0 ∷ zeros)
    ∷ of_number (at 4096 4096 (pos 1000001) (pos 0)) 0 12 (pos 0 ∷ zeros)
    -- 12 "directly after 1", and before the call's own
    ∷ of_number (at 0 1 (pos 1000001) (pos 0)) 0 1 (pos 0 ∷ zeros)
    ∷ of_square (at 65536 1 (pos 1000001) (pos 0)) (pos 0) (pos 0) 1 (0 ∷ 0 ∷ [])
    ∷ of_finish (at 1 0 (pos 1000001) (pos 0)) 1 zeros
    ∷ of_number (at 3 4 (pos 1000001) (pos 0)) 12 12 (pos 0 ∷ zeros)
    ∷ of_square (at 3 4 (pos 1000001) (pos 0)) (negsuc 0) (pos 0) 12 (0 ∷ 0 ∷ [])
    ∷ of_number (at 3 4 (negsuc 4) (pos 7)) 12 3 (pos 0 ∷ zeros)
    -- "w or h is 0 or over 65,535", before 2 and 3: in each of these areas the number and the square are outside too
    ∷ number_refused 0 5 0 1
    ∷ number_refused 5 0 0 1
    ∷ number_refused 65536 1 65536 1
    ∷ number_refused 1 65536 65536 1
    ∷ number_refused 0 0 0 1
    ∷ number_refused 65536 65536 0 1
    ∷ square_refused 0 5 0 0 1
    ∷ square_refused 5 0 0 0 1
    ∷ square_refused 65536 1 65536 0 1
    ∷ square_refused 1 65536 1 0 1
    ∷ square_refused 65536 65536 0 0 1
    ∷ finish_refused 0 5 1
    ∷ finish_refused 5 0 1
    ∷ finish_refused 65536 1 1
    ∷ finish_refused 1 65536 1
    ∷ finish_refused 65536 65536 1
    -- "number >= w·h"
    ∷ number_refused 3 4 12 3
    ∷ number_refused 3 4 4294967295 3
    ∷ number_refused 1 1 1 3
    ∷ number_refused 4096 4096 16777216 3
    ∷ number_refused 8192 2048 16777216 3
    ∷ number_refused 65535 256 16776960 3
    ∷ number_refused 1 65535 65535 3
    -- "x >= w or y >= h"
    ∷ square_refused 3 4 3 0 2
    ∷ square_refused 3 4 0 4 2
    ∷ square_refused 3 4 3 4 2
    ∷ square_refused 4 3 0 3 2
    ∷ square_refused 65535 256 65535 0 2
    ∷ square_refused 65535 256 0 4294967295 2
    -- "An area of more than 16,777,216 squares is refused": one square more, and those that the request names; before 2 and 3, and after 1
    ∷ number_refused 24929 673 0 13
    ∷ number_refused 4096 4097 16781312 13
    ∷ number_refused 4097 4096 0 13
    ∷ number_refused 65535 257 4294967295 13
    ∷ number_refused 65535 65535 4294836225 13
    ∷ square_refused 4096 4097 4096 0 13
    ∷ square_refused 65535 65535 0 0 13
    ∷ finish_refused 4096 4097 13
    ∷ finish_refused 65535 257 13
    ∷ number_refused 0 65536 0 1
    ∷ square_refused 65536 65535 0 0 1
    ∷ finish_refused 0 65536 1
    -- "A van went to (4, 0) for a 5 by 2 area and the crew came out at (3, 0)", and document 02's other areas, each with its neighbours
    ∷ finishes_at 5 2 3 0
    ∷ finishes_at 3 2 1 0
    ∷ finishes_at 9 2 7 0
    ∷ finishes_at 1 2 0 1
    ∷ finishes_at 1 7 0 6
    ∷ finishes_at 1 1 0 0
    ∷ finishes_at 2 2 1 0
    ∷ finishes_at 4 2 3 0
    ∷ finishes_at 3 1 2 0
    ∷ finishes_at 3 3 2 0
    ∷ finishes_at 2 5 1 0
    ∷ finishes_at 3 4 2 0
    -- "a descent would open a 65th block"
    ∷ of_deep 1 0 (7 ∷ 1 ∷ [])
    ∷ of_deep 64 0 (7 ∷ 64 ∷ [])
    ∷ of_deep 65 9 (0 ∷ 0 ∷ [])
    ∷ []

pub worked_right : T (all_right worked)
unfolding worked all_right right zeros same_figures same_numbers same_signed same_integers number_to_square_at square_to_number_at finish_square_at from_origin
    in_signs origin_accepted square_of number_of place_in same whole choice even_half
    part parts parts_of against moved row curve_by down curve blocks blocks_holding count within holds mathlib.Core.List.flatten
worked_right = tt
