-- Calls on tables worked by hand, as one table under one claim, which computes: document 01, "3 by 4, table of 11 or 13 places: refusal 4", that refusals 1 and
-- 13 come first, and fills and checks that are answered. Every area here has an origin beyond the range: table contents are "unaffected", and 12 is no refusal.
use Rattle.std.specs.Prelude.{Bool, true, ◌&&◌, ℕ, T, pos, negsuc, replicate}
use mathlib.Core.List.{List, [], ◌∷◌}
use Rattle.terms.specs.declared.Area.{Area}
use Rattle.terms.specs.Comparing.{same_numbers, same_figures}
use Rattle.division.specs.Division.{whole, choice, even_half, part, parts, parts_of, moved, against, row, curve_by, down, curve, square_of, number_of}
use Rattle.division.specs.Division.{blocks, blocks_holding, count, place_in, same, within, holds}
use Rattle.tables.specs.Tables.{places, by_number, by_square, some_deep, unless_refused, fill, judged, check, fill_at, filled_at, check_at}

abbrev at : (w h : ℕ) → Area
at w h = record { w = w; h = h; ox = pos 1000001; oy = negsuc 2147483647 }

-- A line of the table, of a w by h area.
pub data Case : Type 0 where
  -- a table of so many places is refused so, by fills of both kinds, which leave it as it was, and by checks of both
  refused_so : (w h places refusal : ℕ) → Case
  -- fills report so many blocks and leave these tables, the one by number and the one by square
  fills : (w h blocks : ℕ) (numbered squared : List ℕ) → Case
  -- a check of a table of the kind that is due answers these values: right, or wrong with the first wrong place and the value due there
  checks : (due : (w h : ℕ) → List ℕ) (w h : ℕ) (table values : List ℕ) → Case

right : Case → Bool
right (refused_so w h n r) =
    let table : List ℕ = replicate n 7 in
    same_figures (fill_at (at w h) table) r (0 ∷ [])
    && same_numbers (filled_at (at w h) by_number table) table
    && same_numbers (filled_at (at w h) by_square table) table
    && same_figures (check_at (at w h) by_number table) r (0 ∷ 0 ∷ 0 ∷ [])
    && same_figures (check_at (at w h) by_square table) r (0 ∷ 0 ∷ 0 ∷ [])
right (fills w h n numbered squared) =
    same_figures (fill_at (at w h) numbered) 0 (n ∷ [])
    && same_numbers (filled_at (at w h) by_number squared) numbered
    && same_numbers (filled_at (at w h) by_square numbered) squared
right (checks due w h table values) = same_figures (check_at (at w h) due table) 0 values

pub all_right : List Case → Bool
all_right [] = true
all_right (c ∷ cs) = right c && all_right cs

pub worked : List Case
worked =
    refused_so 3 4 11 4
    ∷ refused_so 3 4 13 4
    ∷ refused_so 3 4 0 4
    ∷ refused_so 1 1 2 4
    ∷ refused_so 4096 4096 1 4
    ∷ refused_so 65535 256 0 4
    -- "more than 16,777,216 squares": 13, before 4
    ∷ refused_so 4096 4097 1 13
    ∷ refused_so 65535 257 0 13
    ∷ refused_so 65535 65535 1 13
    ∷ refused_so 0 65536 0 1
    ∷ refused_so 0 5 0 1
    ∷ refused_so 0 5 1 1
    ∷ refused_so 5 0 3 1
    ∷ refused_so 65536 1 2 1
    ∷ refused_so 1 65536 2 1
    ∷ refused_so 0 0 0 1
    ∷ refused_so 65536 65536 5 1
    -- "place i holds y·w + x of square number i", "place y·w + x holds the square's number"; "a fill reports 10 blocks"
    ∷ fills 3 4 10 (0 ∷ 3 ∷ 6 ∷ 9 ∷ 10 ∷ 11 ∷ 8 ∷ 7 ∷ 5 ∷ 4 ∷ 1 ∷ 2 ∷ []) (0 ∷ 10 ∷ 11 ∷ 1 ∷ 9 ∷ 8 ∷ 2 ∷ 7 ∷ 6 ∷ 3 ∷ 4 ∷ 5 ∷ [])
    ∷ fills 5 2 9 (0 ∷ 5 ∷ 6 ∷ 1 ∷ 2 ∷ 7 ∷ 8 ∷ 9 ∷ 4 ∷ 3 ∷ []) (0 ∷ 3 ∷ 4 ∷ 9 ∷ 8 ∷ 1 ∷ 2 ∷ 5 ∷ 6 ∷ 7 ∷ [])
    ∷ fills 1 1 1 (0 ∷ []) (0 ∷ [])
    -- "right, or the first wrong place and the value due there": 0 is due at place 0 of every table
    ∷ checks by_number 5 2 (0 ∷ 5 ∷ 6 ∷ 1 ∷ 2 ∷ 7 ∷ 8 ∷ 9 ∷ 4 ∷ 3 ∷ []) (0 ∷ 0 ∷ 0 ∷ [])
    ∷ checks by_square 5 2 (0 ∷ 3 ∷ 4 ∷ 9 ∷ 8 ∷ 1 ∷ 2 ∷ 5 ∷ 6 ∷ 7 ∷ []) (0 ∷ 0 ∷ 0 ∷ [])
    ∷ checks by_square 5 2 (0 ∷ 5 ∷ 6 ∷ 1 ∷ 2 ∷ 7 ∷ 8 ∷ 9 ∷ 4 ∷ 3 ∷ []) (1 ∷ 1 ∷ 3 ∷ [])
    ∷ checks by_number 5 2 (0 ∷ 5 ∷ 6 ∷ 1 ∷ 2 ∷ 8 ∷ 8 ∷ 9 ∷ 4 ∷ 4 ∷ []) (1 ∷ 5 ∷ 7 ∷ [])
    ∷ checks by_number 5 2 (4294967295 ∷ 5 ∷ 6 ∷ 1 ∷ 2 ∷ 7 ∷ 8 ∷ 9 ∷ 4 ∷ 3 ∷ []) (1 ∷ 0 ∷ 0 ∷ [])
    ∷ checks by_square 5 2 (0 ∷ 3 ∷ 4 ∷ 9 ∷ 8 ∷ 1 ∷ 2 ∷ 5 ∷ 6 ∷ 8 ∷ []) (1 ∷ 9 ∷ 7 ∷ [])
    ∷ []

pub worked_right : T (all_right worked)
unfolding worked all_right right same_figures same_numbers fill check unless_refused judged places by_number by_square some_deep square_of number_of place_in
    same whole choice even_half part parts parts_of against moved row curve_by down curve blocks blocks_holding count within holds
    mathlib.Core.List.flatten
worked_right = tt
