-- Calls from C worked by hand, as one table under one claim, which computes: each call answered, refused and with a slice that is too short, and what it then
-- returns and leaves; cards in words; lines with an area in force and without, and lines in order. The answers are those of the other tables of cases.
use Rattle.std.specs.Prelude.{Bool, true, false, ◌&&◌, ℕ, ◌-◌, T, eqb, ℤ, pos, negsuc, length, replicate}
use mathlib.Core.List.{List, [], ◌∷◌, ◌++◌}
use Prim.Native.String.{String}
use Rattle.terms.specs.Terms.{accepted, origin_accepted, in_signs}
use Rattle.terms.specs.Comparing.{same_numbers, same_integers}
use Rattle.division.specs.Division.{whole, choice, even_half, part, parts, parts_of, moved, against, row, curve_by, down, curve, square_of, number_of}
use Rattle.division.specs.Division.{blocks, blocks_holding, count, place_in, same, within, holds}
use Rattle.curve.specs.Lookups.{from_origin, number_to_square_at, square_to_number_at, finish_square_at}
use Rattle.tables.specs.Tables.{places, by_number, by_square, some_deep, unless_refused, fill, judged, check}
use Rattle.sectors.specs.Sectors.{words_of, bytes_of, sum, sealed, packed, good, first_bad}
use Rattle.layouts.specs.Layouts.{card_of}
use Rattle.cards.specs.Cards.{measure, write, read}
use Rattle.windows.specs.Windows.{in_window, ahead, runs_from, window_runs, pairs, written, runs_for_window_at, slice_after_at}
use Rattle.windows.specs.Windows as Windows
use Rattle.words.specs.Letters.{bytes}
use Rattle.words.specs.Words.{all_digits, value_on, is_number, numeral, same_bytes}
use Rattle.words.specs.Signed.{signed_numeral}
use Rattle.fields.specs.Fields.{fields}
use Rattle.lines.specs.Lines.{shaped, request}
use Rattle.clerk.specs.Clerk.{after, reply}
use Rattle.boundary.specs.Calls.{Outcome, LentOutcome, FileOutcome, number_to_square_call, square_to_number_call, finish_square_call}
use Rattle.boundary.specs.Calls.{fill_by_number_call, fill_by_square_call, check_by_number_call, check_by_square_call}
use Rattle.boundary.specs.Calls.{card_length_call, write_card_call, read_card_call, runs_for_window_call, handle_line_call}
use Rattle.boundary.specs.Caller.{got}

-- What is due of a call: what it returns and leaves.
pub record Due (A : Type 0) : Type 0 where
  pub returns : ℕ
  pub leaves : List A

abbrev due : {A : Type 0} → ℕ → List A → Due A
due returns leaves = record { returns = returns; leaves = leaves }

-- A line of the table: a call with its arguments, the slice for the values last, and what is due; of a call that writes a table, or a slice for runs, also
-- what is left there. Of the call that writes a file, what is left there.
pub data Case : Type 0 where
  of_number : (w h : ℕ) (ox oy : ℤ) (number : ℕ) (result : List ℤ) → Due ℤ → Case
  of_square : (w h : ℕ) (ox oy x y : ℤ) (result : List ℕ) → Due ℕ → Case
  of_finish : (w h : ℕ) (ox oy : ℤ) (result : List ℤ) → Due ℤ → Case
  fills_by_number : (w h : ℕ) (table blocks : List ℕ) → Due ℕ → (left : List ℕ) → Case
  fills_by_square : (w h : ℕ) (table blocks : List ℕ) → Due ℕ → (left : List ℕ) → Case
  checks_by_number : (w h : ℕ) (table result : List ℕ) → Due ℕ → Case
  checks_by_square : (w h : ℕ) (table result : List ℕ) → Due ℕ → Case
  of_length : (w h : ℕ) (bytes : List ℕ) → Due ℕ → Case
  writes_card : (w h kind : ℕ) (table file : List ℕ) → Due ℕ → Case
  reads_card : (w h kind : ℕ) (file table block : List ℕ) → Due ℕ → (left : List ℕ) → Case
  of_window : (w h : ℕ) (ox oy x0 y0 x1 y1 : ℤ) (runs result : List ℕ) → Due ℕ → (left : List ℕ) → Case
  of_line : (w h : ℕ) (ox oy : ℤ) → String → (result : List ℤ) → Due ℤ → Case
  -- lines in order, from this slice on, each with what the last one left
  of_lines : List String → (slice : List ℤ) → List (Due ℤ) → Case

has_numbers : Outcome ℕ → Due ℕ → Bool
has_numbers o d = eqb o.returned d.returns && same_numbers o.values d.leaves

has_integers : Outcome ℤ → Due ℤ → Bool
has_integers o d = eqb o.returned d.returns && same_integers o.values d.leaves

has_lent : LentOutcome → Due ℕ → List ℕ → Bool
has_lent o d left = eqb o.returned d.returns && same_numbers o.values d.leaves && same_numbers o.lent left

has_file : FileOutcome → Due ℕ → Bool
has_file o d = eqb o.returned d.returns && same_numbers o.file d.leaves

have_all : List (Outcome ℤ) → List (Due ℤ) → Bool
unfolding has_integers
have_all [] [] = true
have_all [] (d ∷ ds) = false
have_all (o ∷ os) [] = false
have_all (o ∷ os) (d ∷ ds) = has_integers o d && have_all os ds

right : Case → Bool
unfolding has_numbers has_integers has_lent has_file have_all
right (of_number w h ox oy n s d) = has_integers (number_to_square_call w h ox oy n s) d
right (of_square w h ox oy x y s d) = has_numbers (square_to_number_call w h ox oy x y s) d
right (of_finish w h ox oy s d) = has_integers (finish_square_call w h ox oy s) d
right (fills_by_number w h t s d left) = has_lent (fill_by_number_call w h t s) d left
right (fills_by_square w h t s d left) = has_lent (fill_by_square_call w h t s) d left
right (checks_by_number w h t s d) = has_numbers (check_by_number_call w h t s) d
right (checks_by_square w h t s d) = has_numbers (check_by_square_call w h t s) d
right (of_length w h s d) = has_numbers (card_length_call w h s) d
right (writes_card w h kind t file d) = has_file (write_card_call w h kind t file) d
right (reads_card w h kind file t s d left) = has_lent (read_card_call w h kind file t s) d left
right (of_window w h ox oy x0 y0 x1 y1 runs s d left) = has_lent (runs_for_window_call w h ox oy x0 y0 x1 y1 runs s) d left
right (of_line w h ox oy line s d) = has_integers (handle_line_call w h ox oy (bytes line) s) d
right (of_lines lines s ds) = have_all (got s (mathlib.Core.List.map bytes lines)) ds

pub all_right : List Case → Bool
all_right [] = true
all_right (c ∷ cs) = right c && all_right cs

-- Slices as they are lent: 9 in every place. (`negsuc n` is the integer -(n + 1).)
abbrev nines : ℕ → List ℕ
nines n = replicate n 9

abbrev signed_nines : ℕ → List ℤ
signed_nines n = replicate n (pos 9)

abbrev zeros : ℕ → List ℤ
zeros n = replicate n (pos 0)

-- A block with these words in use, all under 256 and so each a byte before three zeros, with this count and this check.
spread : List ℕ → List ℕ
spread [] = []
spread (v ∷ vs) = v ∷ 0 ∷ 0 ∷ 0 ∷ spread vs

abbrev block : (used : List ℕ) (count check : ℕ) → List ℕ
block used count check = spread (used ++ replicate (126 - length used) 0 ++ (count ∷ check ∷ []))

-- The cards of 3 by 2. Block 0 has 1, the width, the height and the kind; its check is 1 more than these and 4, the block of the table's 1 more than 15 and 6.
abbrev table_by_number : List ℕ
table_by_number = 0 ∷ 3 ∷ 4 ∷ 5 ∷ 2 ∷ 1 ∷ []

abbrev table_by_square : List ℕ
table_by_square = 0 ∷ 5 ∷ 4 ∷ 1 ∷ 2 ∷ 3 ∷ []

abbrev card_by_number : List ℕ
card_by_number = block (1 ∷ 3 ∷ 2 ∷ 1 ∷ []) 4 12 ++ block table_by_number 6 22

abbrev card_by_square : List ℕ
card_by_square = block (1 ∷ 3 ∷ 2 ∷ 2 ∷ []) 4 13 ++ block table_by_square 6 22

pub worked : List Case
worked =
    -- values to the first places, and the rest as it was; the refusal's number, "all else 0"; 255 and nothing written, "whatever else there is to refuse"
    of_number 3 4 (negsuc 4) (pos 7) 8 (signed_nines 4) (due 0 (negsuc 2 ∷ pos 8 ∷ pos 3 ∷ pos 9 ∷ []))
    ∷ of_number 3 4 (negsuc 4) (pos 7) 12 (signed_nines 4) (due 3 (pos 0 ∷ pos 0 ∷ pos 0 ∷ pos 9 ∷ []))
    ∷ of_number 3 4 (pos 1000001) (pos 0) 8 (signed_nines 3) (due 12 (zeros 3))
    ∷ of_number 3 4 (negsuc 4) (pos 7) 8 (signed_nines 2) (due 255 (signed_nines 2))
    ∷ of_number 0 4 (pos 0) (pos 0) 8 [] (due 255 [])
    ∷ of_square 3 4 (negsuc 4) (pos 7) (negsuc 2) (pos 8) (nines 3) (due 0 (8 ∷ 3 ∷ 9 ∷ []))
    ∷ of_square 3 4 (negsuc 4) (pos 7) (pos 2) (pos 1) (nines 3) (due 2 (0 ∷ 0 ∷ 9 ∷ []))
    ∷ of_square 3 4 (negsuc 4) (pos 7) (negsuc 2) (pos 8) (nines 1) (due 255 (nines 1))
    ∷ of_finish 5 2 (pos 10) (negsuc 9) (signed_nines 3) (due 0 (pos 13 ∷ negsuc 9 ∷ pos 9 ∷ []))
    ∷ of_finish 4096 4097 (pos 0) (pos 0) (signed_nines 3) (due 13 (pos 0 ∷ pos 0 ∷ pos 9 ∷ []))
    ∷ of_finish 5 2 (pos 10) (negsuc 9) (signed_nines 1) (due 255 (signed_nines 1))
    -- 2 by 2, (0, 0) (0, 1) (1, 1) (1, 0): its tables are 0 2 3 1 by number and 0 3 1 2 by square, and its division has 4 blocks
    ∷ fills_by_number 2 2 (nines 4) (nines 2) (due 0 (4 ∷ 9 ∷ [])) (0 ∷ 2 ∷ 3 ∷ 1 ∷ [])
    ∷ fills_by_number 2 2 (nines 3) (nines 2) (due 4 (0 ∷ 9 ∷ [])) (nines 3)
    ∷ fills_by_number 2 2 (nines 4) [] (due 255 []) (nines 4)
    ∷ fills_by_square 2 2 (nines 4) (nines 1) (due 0 (4 ∷ [])) (0 ∷ 3 ∷ 1 ∷ 2 ∷ [])
    ∷ fills_by_square 0 2 [] (nines 2) (due 1 (0 ∷ 9 ∷ [])) []
    ∷ fills_by_square 2 2 (nines 4) [] (due 255 []) (nines 4)
    -- 3 by 2, (0, 0) (0, 1) (1, 1) (2, 1) (2, 0) (1, 0)
    ∷ fills_by_number 3 2 (nines 6) (nines 3) (due 0 (4 ∷ 9 ∷ 9 ∷ [])) (0 ∷ 3 ∷ 4 ∷ 5 ∷ 2 ∷ 1 ∷ [])
    ∷ fills_by_square 3 2 (nines 6) (nines 3) (due 0 (4 ∷ 9 ∷ 9 ∷ [])) (0 ∷ 5 ∷ 4 ∷ 1 ∷ 2 ∷ 3 ∷ [])
    ∷ checks_by_number 3 2 (0 ∷ 3 ∷ 4 ∷ 5 ∷ 2 ∷ 1 ∷ []) (nines 3) (due 0 (0 ∷ 0 ∷ 0 ∷ []))
    ∷ checks_by_square 3 2 (0 ∷ 5 ∷ 4 ∷ 1 ∷ 2 ∷ 3 ∷ []) (nines 3) (due 0 (0 ∷ 0 ∷ 0 ∷ []))
    ∷ checks_by_number 2 2 (0 ∷ 2 ∷ 3 ∷ 1 ∷ []) (nines 4) (due 0 (0 ∷ 0 ∷ 0 ∷ 9 ∷ []))
    ∷ checks_by_number 2 2 (0 ∷ 3 ∷ 1 ∷ 2 ∷ []) (nines 4) (due 0 (1 ∷ 1 ∷ 2 ∷ 9 ∷ []))
    ∷ checks_by_number 2 2 (nines 5) (nines 4) (due 4 (0 ∷ 0 ∷ 0 ∷ 9 ∷ []))
    ∷ checks_by_number 2 2 (nines 5) (nines 2) (due 255 (nines 2))
    ∷ checks_by_square 2 2 (0 ∷ 3 ∷ 1 ∷ 2 ∷ []) (nines 3) (due 0 (0 ∷ 0 ∷ 0 ∷ []))
    ∷ checks_by_square 2 2 (0 ∷ 3 ∷ 1 ∷ 1 ∷ []) (nines 3) (due 0 (1 ∷ 3 ∷ 2 ∷ []))
    ∷ checks_by_square 4096 4097 [] (nines 3) (due 13 (0 ∷ 0 ∷ 0 ∷ []))
    ∷ checks_by_square 2 2 (0 ∷ 3 ∷ 1 ∷ 2 ∷ []) [] (due 255 [])
    -- 126 places fit a block, and 127 take two; "at most 68,174,848"
    ∷ of_length 14 9 (nines 2) (due 0 (1024 ∷ 9 ∷ []))
    ∷ of_length 127 1 (nines 1) (due 0 (1536 ∷ []))
    ∷ of_length 4096 4096 (nines 1) (due 0 (68174848 ∷ []))
    ∷ of_length 4096 4097 (nines 2) (due 13 (0 ∷ 9 ∷ []))
    ∷ of_length 3 0 (nines 1) (due 1 (0 ∷ []))
    ∷ of_length 3 0 [] (due 255 [])
    -- a card is written where there is nothing to refuse: a kind, "only a right" table, and 4 "for the table or the file" before both
    ∷ writes_card 3 2 1 table_by_number (nines 1024) (due 0 card_by_number)
    ∷ writes_card 3 2 2 table_by_square (nines 1024) (due 0 card_by_square)
    ∷ writes_card 3 2 2 table_by_number (nines 1024) (due 15 (nines 1024))
    ∷ writes_card 3 2 3 table_by_number (nines 1024) (due 15 (nines 1024))
    ∷ writes_card 2 3 1 table_by_number (nines 1024) (due 15 (nines 1024))
    ∷ writes_card 3 2 3 table_by_number (nines 1023) (due 4 (nines 1023))
    ∷ writes_card 3 2 3 (nines 5) (nines 1024) (due 4 (nines 1024))
    ∷ writes_card 3 0 1 [] [] (due 1 [])
    -- and read: the block of the first bad check also where it is refused, also behind the card, and 0 for all else that is
    ∷ reads_card 3 2 1 card_by_number (nines 6) (nines 2) (due 0 (0 ∷ 9 ∷ [])) table_by_number
    ∷ reads_card 3 2 2 card_by_square (nines 6) (nines 1) (due 0 (0 ∷ [])) table_by_square
    ∷ reads_card 3 2 3 (block (1 ∷ 3 ∷ 2 ∷ 1 ∷ []) 4 12 ++ block table_by_number 6 23) (nines 6) (nines 2) (due 14 (1 ∷ 9 ∷ [])) (nines 6)
    ∷ reads_card 3 2 1 (block (1 ∷ 3 ∷ 2 ∷ 1 ∷ []) 4 11 ++ block table_by_number 6 23) (nines 6) (nines 2) (due 14 (0 ∷ 9 ∷ [])) (nines 6)
    ∷ reads_card 3 2 1 (card_by_number ++ nines 512) (nines 6) (nines 1) (due 14 (2 ∷ [])) (nines 6)
    ∷ reads_card 3 2 1 (card_by_number ++ nines 511) (nines 6) (nines 1) (due 15 (0 ∷ [])) (nines 6)
    ∷ reads_card 3 2 2 card_by_number (nines 6) (nines 2) (due 15 (0 ∷ 9 ∷ [])) (nines 6)
    ∷ reads_card 2 3 1 card_by_number (nines 6) (nines 2) (due 15 (0 ∷ 9 ∷ [])) (nines 6)
    ∷ reads_card 3 2 1 (nines 512) (nines 5) (nines 2) (due 4 (0 ∷ 9 ∷ [])) (nines 5)
    ∷ reads_card 3 2 1 card_by_number (nines 6) [] (due 255 []) (nines 6)
    ∷ reads_card 3 2 1 (nines 512) (nines 6) [] (due 255 []) (nines 6)
    -- the number of runs also where there is no room for them, refusal 11
    ∷ of_window 3 4 (negsuc 4) (pos 7) (negsuc 4) (pos 7) (negsuc 3) (pos 8) (nines 5) (nines 2) (due 0 (2 ∷ 9 ∷ [])) (0 ∷ 1 ∷ 9 ∷ 10 ∷ 9 ∷ [])
    ∷ of_window 3 4 (negsuc 4) (pos 7) (negsuc 4) (pos 7) (negsuc 3) (pos 8) (nines 3) (nines 2) (due 11 (2 ∷ 9 ∷ [])) (nines 3)
    ∷ of_window 3 4 (negsuc 4) (pos 7) (negsuc 3) (pos 7) (negsuc 4) (pos 8) (nines 4) (nines 2) (due 10 (0 ∷ 9 ∷ [])) (nines 4)
    ∷ of_window 3 4 (negsuc 4) (pos 7) (negsuc 4) (pos 7) (negsuc 3) (pos 8) (nines 4) [] (due 255 []) (nines 4)
    -- lines with no area in force: "0 each for none"
    ∷ of_line 0 0 (pos 0) (pos 0) "N 8" (signed_nines 9) (due 7 (pos 0 ∷ pos 0 ∷ pos 0 ∷ pos 0 ∷ pos 0 ∷ pos 0 ∷ pos 0 ∷ pos 0 ∷ pos 9 ∷ []))
    ∷ of_line 0 0 (pos 0) (pos 0) "ORIGIN 1 2" (signed_nines 8) (due 7 (zeros 8))
    ∷ of_line 0 0 (pos 0) (pos 0) "AREA 3 4" (signed_nines 8) (due 0 (pos 3 ∷ pos 4 ∷ pos 0 ∷ pos 0 ∷ pos 1 ∷ pos 12 ∷ pos 2 ∷ pos 0 ∷ []))
    -- under the caller's area and origin, on either side of the datum post
    ∷ of_line 3 4 (negsuc 4) (pos 7) "N 8" (signed_nines 9)
    (due 0 (pos 3 ∷ pos 4 ∷ negsuc 4 ∷ pos 7 ∷ pos 2 ∷ negsuc 2 ∷ pos 8 ∷ pos 3 ∷ pos 9 ∷ []))
    ∷ of_line 3 4 (pos 5) (negsuc 2) "S 7 -2" (signed_nines 8) (due 0 (pos 3 ∷ pos 4 ∷ pos 5 ∷ negsuc 2 ∷ pos 3 ∷ pos 8 ∷ pos 3 ∷ pos 0 ∷ []))
    ∷ of_line 3 4 (negsuc 4) (pos 7) "ORIGIN 5 -3" (signed_nines 8)
    (due 0 (pos 3 ∷ pos 4 ∷ pos 5 ∷ negsuc 2 ∷ pos 4 ∷ pos 5 ∷ negsuc 2 ∷ pos 0 ∷ []))
    ∷ of_line 3 4 (negsuc 4) (pos 7) "AREA 5 2" (signed_nines 8) (due 0 (pos 5 ∷ pos 2 ∷ pos 0 ∷ pos 0 ∷ pos 1 ∷ pos 10 ∷ pos 3 ∷ pos 0 ∷ []))
    -- a refused line: its number, the area in force, and zeros; a refused AREA or ORIGIN line leaves none
    ∷ of_line 3 4 (negsuc 4) (pos 7) "N 12" (signed_nines 8) (due 3 (pos 3 ∷ pos 4 ∷ negsuc 4 ∷ pos 7 ∷ zeros 4))
    ∷ of_line 3 4 (negsuc 4) (pos 7) "N x" (signed_nines 8) (due 5 (pos 3 ∷ pos 4 ∷ negsuc 4 ∷ pos 7 ∷ zeros 4))
    ∷ of_line 3 4 (negsuc 4) (pos 7) "" (signed_nines 8) (due 6 (pos 3 ∷ pos 4 ∷ negsuc 4 ∷ pos 7 ∷ zeros 4))
    ∷ of_line 3 4 (negsuc 4) (pos 7) "AREA 0 4" (signed_nines 8) (due 1 (zeros 8))
    ∷ of_line 3 4 (negsuc 4) (pos 7) "ORIGIN 1000001 0" (signed_nines 8) (due 12 (zeros 8))
    -- four numbers that "are no accepted area .. count as none"
    ∷ of_line 4096 4097 (pos 0) (pos 0) "N 0" (signed_nines 8) (due 7 (zeros 8))
    ∷ of_line 3 4 (pos 0) (pos 1000001) "ORIGIN 0 0" (signed_nines 8) (due 7 (zeros 8))
    ∷ of_line 3 4 (negsuc 4) (pos 7) "N 8" (signed_nines 7) (due 255 (signed_nines 7))
    -- the header's form, "each under the area that the one before it left", and a refused line between
    ∷ of_lines ("AREA 3 4" ∷ "ORIGIN -5 7" ∷ "N 12" ∷ "N 8" ∷ []) (zeros 8)
    (due 0 (pos 3 ∷ pos 4 ∷ pos 0 ∷ pos 0 ∷ pos 1 ∷ pos 12 ∷ pos 2 ∷ pos 0 ∷ [])
    ∷ due 0 (pos 3 ∷ pos 4 ∷ negsuc 4 ∷ pos 7 ∷ pos 4 ∷ negsuc 4 ∷ pos 7 ∷ pos 0 ∷ [])
    ∷ due 3 (pos 3 ∷ pos 4 ∷ negsuc 4 ∷ pos 7 ∷ zeros 4)
    ∷ due 0 (pos 3 ∷ pos 4 ∷ negsuc 4 ∷ pos 7 ∷ pos 2 ∷ negsuc 2 ∷ pos 8 ∷ pos 3 ∷ [])
    ∷ [])
    ∷ []

pub worked_right : T (all_right worked)
unfolding worked all_right right has_numbers has_integers has_lent has_file have_all spread same_numbers same_integers got after reply request shaped fields
    same_bytes signed_numeral numeral is_number all_digits value_on number_to_square_at square_to_number_at finish_square_at from_origin in_signs
    fill check unless_refused judged places by_number by_square some_deep measure write read card_of sealed packed bytes_of words_of sum good first_bad
    runs_for_window_at slice_after_at written window_runs runs_from ahead pairs in_window Windows.some_deep accepted origin_accepted square_of number_of
    place_in same whole choice even_half part parts parts_of against moved row curve_by down curve blocks blocks_holding count within holds
    mathlib.Core.List.flatten
worked_right = tt
