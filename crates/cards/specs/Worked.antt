-- Cards worked by hand, and calls on them, as one table under one claim, which computes: document 02, order 8. Every area here has an origin beyond the range:
-- "Origins are not stored", and 12 is no refusal of these calls.
use Rattle.std.specs.Prelude.{Bool, true, ◌&&◌, ℕ, zero, suc, ◌+◌, ◌*◌, ◌/◌, T, eqb, pos, negsuc, length, get_or, take, drop, set, replicate}
use mathlib.Core.List.{List, [], ◌∷◌, ◌++◌}
use Rattle.terms.specs.declared.Area.{Area}
use Rattle.terms.specs.Comparing.{same_numbers, same_figures}
use Rattle.division.specs.Division.{whole, choice, even_half, part, parts, parts_of, moved, against, row, curve_by, down, curve, square_of, number_of}
use Rattle.division.specs.Division.{blocks, blocks_holding, count, place_in, same, within, holds}
use Rattle.sectors.specs.Sectors.{words_of, bytes_of, sum, sealed, packed, good, first_bad}
use Rattle.tables.specs.Tables.{places, by_number, by_square, some_deep, unless_refused}
use Rattle.layouts.specs.Layouts.{card_of, card}
use Rattle.cards.specs.Cards.{write, read, measure, write_at, file_after_at, read_at, table_after_at, measure_at}

abbrev at : (w h : ℕ) → Area
at w h = record { w = w; h = h; ox = pos 1000001; oy = negsuc 2147483647 }

-- A file in short: of each block the content words in use, the count and the check; and the sum of the content words that are not in use.
in_short : (blocks : ℕ) → List ℕ → List ℕ
in_short zero words = []
in_short (suc n) words = take (get_or words 126 0) words ++ (get_or words 126 0 ∷ get_or words 127 0 ∷ in_short n (drop 128 words))

unused : (blocks : ℕ) → List ℕ → ℕ
unused zero words = 0
unused (suc n) words = sum (drop (get_or words 126 0) (take 126 words)) + unused n (drop 128 words)

-- A line of the table.
pub data Case : Type 0 where
  -- the card of a w by h area and a kind, in short
  cards : (w h kind : ℕ) (short : List ℕ) → Case
  -- the first bytes of the card of any table
  begins : (w h kind : ℕ) (table bytes : List ℕ) → Case
  -- how many bytes a file must have, or the refusal
  measures : (w h refusal bytes : ℕ) → Case
  -- a table is written into a file of so many bytes: the refusal, and what is left in the file
  writes : (w h kind : ℕ) (table : List ℕ) (bytes refusal : ℕ) (left : List ℕ) → Case
  -- a file is read into a table of so many places: the refusal, the block, and what is left in the table
  reads : (w h kind : ℕ) (file : List ℕ) (places refusal block : ℕ) (left : List ℕ) → Case

right : Case → Bool
right (cards w h kind short) =
    let file : List ℕ = card w h kind in
    same_numbers (in_short (length file / 512) (words_of file)) short
    && eqb (unused (length file / 512) (words_of file)) 0
    && eqb (length file) (512 * (length file / 512))
right (begins w h kind table bytes) = same_numbers (take (length bytes) (card_of w h kind table)) bytes
right (measures w h refusal bytes) = same_figures (measure_at (at w h)) refusal (bytes ∷ [])
right (writes w h kind table bytes refusal left) =
    let file : List ℕ = replicate bytes 7 in
    same_figures (write_at (at w h) kind table file) refusal [] && same_numbers (file_after_at (at w h) kind table file) left
right (reads w h kind file places refusal block left) =
    let table : List ℕ = replicate places 7 in
    same_figures (read_at (at w h) kind file table) refusal (block ∷ []) && same_numbers (table_after_at (at w h) kind file table) left

pub all_right : List Case → Bool
all_right [] = true
all_right (c ∷ cs) = right c && all_right cs

-- A file with one of its words changed, or two.
changed : List ℕ → (i v : ℕ) → List ℕ
changed file i v = bytes_of (set (words_of file) i v)

twice_changed : List ℕ → (i v j u : ℕ) → List ℕ
twice_changed file i v j u = changed (changed file i v) j u

pub worked : List Case
worked =
    -- "126 of content, one that counts the content words in use, and a check"; "version 1, width, height, kind"; the table from block 1
    cards 1 1 1 (1 ∷ 1 ∷ 1 ∷ 1 ∷ 4 ∷ 9 ∷ 0 ∷ 1 ∷ 2 ∷ [])
    ∷ cards 1 1 2 (1 ∷ 1 ∷ 1 ∷ 2 ∷ 4 ∷ 10 ∷ 0 ∷ 1 ∷ 2 ∷ [])
    ∷ cards 3 4 1 (1 ∷ 3 ∷ 4 ∷ 1 ∷ 4 ∷ 14 ∷ 0 ∷ 3 ∷ 6 ∷ 9 ∷ 10 ∷ 11 ∷ 8 ∷ 7 ∷ 5 ∷ 4 ∷ 1 ∷ 2 ∷ 12 ∷ 79 ∷ [])
    ∷ cards 3 4 2 (1 ∷ 3 ∷ 4 ∷ 2 ∷ 4 ∷ 15 ∷ 0 ∷ 10 ∷ 11 ∷ 1 ∷ 9 ∷ 8 ∷ 2 ∷ 7 ∷ 6 ∷ 3 ∷ 4 ∷ 5 ∷ 12 ∷ 79 ∷ [])
    ∷ cards 14 9 1 (1 ∷ 14 ∷ 9 ∷ 1 ∷ 4 ∷ 30 ∷ 0 ∷ 14 ∷ 15 ∷ 1 ∷ 2 ∷ 3 ∷ 17 ∷ 16 ∷ 30 ∷ 31 ∷ 45 ∷ 44 ∷ 43 ∷ 29 ∷ 28 ∷ 42 ∷ 56 ∷ 57 ∷ 71 ∷ 70 ∷ 84 ∷ 85 ∷ 99 ∷
    98 ∷ 112 ∷ 113 ∷ 114 ∷ 115 ∷ 101 ∷ 100 ∷ 86 ∷ 87 ∷ 73 ∷ 72 ∷ 58 ∷ 59 ∷ 60 ∷ 61 ∷ 75 ∷ 74 ∷ 88 ∷ 89 ∷ 103 ∷ 102 ∷ 116 ∷ 117 ∷ 118 ∷ 119 ∷
    105 ∷ 104 ∷ 90 ∷ 91 ∷ 77 ∷ 76 ∷ 62 ∷ 63 ∷ 49 ∷ 35 ∷ 34 ∷ 48 ∷ 47 ∷ 46 ∷ 32 ∷ 33 ∷ 19 ∷ 18 ∷ 4 ∷ 5 ∷ 6 ∷ 20 ∷ 21 ∷ 7 ∷ 8 ∷ 22 ∷ 23 ∷ 9 ∷
    10 ∷ 24 ∷ 38 ∷ 52 ∷ 51 ∷ 37 ∷ 36 ∷ 50 ∷ 64 ∷ 65 ∷ 66 ∷ 80 ∷ 79 ∷ 78 ∷ 92 ∷ 93 ∷ 107 ∷ 106 ∷ 120 ∷ 121 ∷ 122 ∷ 123 ∷ 109 ∷ 108 ∷ 94 ∷ 95 ∷
    96 ∷ 110 ∷ 124 ∷ 125 ∷ 111 ∷ 97 ∷ 83 ∷ 82 ∷ 81 ∷ 67 ∷ 68 ∷ 69 ∷ 55 ∷ 41 ∷ 40 ∷ 54 ∷ 53 ∷ 39 ∷ 25 ∷ 11 ∷ 12 ∷ 26 ∷ 27 ∷ 13 ∷ 126 ∷ 8002 ∷ [])
    ∷ cards 14 9 2 (1 ∷ 14 ∷ 9 ∷ 2 ∷ 4 ∷ 31 ∷ 0 ∷ 3 ∷ 4 ∷ 5 ∷ 66 ∷ 67 ∷ 68 ∷ 71 ∷ 72 ∷ 75 ∷ 76 ∷ 121 ∷ 122 ∷ 125 ∷ 1 ∷ 2 ∷ 7 ∷ 6 ∷ 65 ∷ 64 ∷ 69 ∷ 70 ∷ 73 ∷
    74 ∷ 77 ∷ 120 ∷ 123 ∷ 124 ∷ 14 ∷ 13 ∷ 8 ∷ 9 ∷ 62 ∷ 63 ∷ 58 ∷ 57 ∷ 82 ∷ 81 ∷ 78 ∷ 119 ∷ 116 ∷ 115 ∷ 15 ∷ 12 ∷ 11 ∷ 10 ∷ 61 ∷ 60 ∷ 59 ∷ 56 ∷
    83 ∷ 80 ∷ 79 ∷ 118 ∷ 117 ∷ 114 ∷ 16 ∷ 17 ∷ 34 ∷ 35 ∷ 36 ∷ 37 ∷ 54 ∷ 55 ∷ 84 ∷ 85 ∷ 86 ∷ 111 ∷ 112 ∷ 113 ∷ 19 ∷ 18 ∷ 33 ∷ 32 ∷ 39 ∷ 38 ∷
    53 ∷ 52 ∷ 89 ∷ 88 ∷ 87 ∷ 110 ∷ 109 ∷ 108 ∷ 20 ∷ 21 ∷ 30 ∷ 31 ∷ 40 ∷ 41 ∷ 50 ∷ 51 ∷ 90 ∷ 91 ∷ 100 ∷ 101 ∷ 102 ∷ 107 ∷ 23 ∷ 22 ∷ 29 ∷ 28 ∷
    43 ∷ 42 ∷ 49 ∷ 48 ∷ 93 ∷ 92 ∷ 99 ∷ 98 ∷ 103 ∷ 106 ∷ 24 ∷ 25 ∷ 26 ∷ 27 ∷ 44 ∷ 45 ∷ 46 ∷ 47 ∷ 94 ∷ 95 ∷ 96 ∷ 97 ∷ 104 ∷ 105 ∷ 126 ∷ 8002 ∷ [])
    ∷ cards 127 1 1 (1 ∷ 127 ∷ 1 ∷ 1 ∷ 4 ∷ 135 ∷ 0 ∷ 1 ∷ 2 ∷ 3 ∷ 4 ∷ 5 ∷ 6 ∷ 7 ∷ 8 ∷ 9 ∷ 10 ∷ 11 ∷ 12 ∷ 13 ∷ 14 ∷ 15 ∷ 16 ∷ 17 ∷ 18 ∷ 19 ∷ 20 ∷ 21 ∷ 22 ∷ 23 ∷
    24 ∷ 25 ∷ 26 ∷ 27 ∷ 28 ∷ 29 ∷ 30 ∷ 31 ∷ 32 ∷ 33 ∷ 34 ∷ 35 ∷ 36 ∷ 37 ∷ 38 ∷ 39 ∷ 40 ∷ 41 ∷ 42 ∷ 43 ∷ 44 ∷ 45 ∷ 46 ∷ 47 ∷ 48 ∷ 49 ∷ 50 ∷ 51 ∷
    52 ∷ 53 ∷ 54 ∷ 55 ∷ 56 ∷ 57 ∷ 58 ∷ 59 ∷ 60 ∷ 61 ∷ 62 ∷ 63 ∷ 64 ∷ 65 ∷ 66 ∷ 67 ∷ 68 ∷ 69 ∷ 70 ∷ 71 ∷ 72 ∷ 73 ∷ 74 ∷ 75 ∷ 76 ∷ 77 ∷ 78 ∷ 79 ∷
    80 ∷ 81 ∷ 82 ∷ 83 ∷ 84 ∷ 85 ∷ 86 ∷ 87 ∷ 88 ∷ 89 ∷ 90 ∷ 91 ∷ 92 ∷ 93 ∷ 94 ∷ 95 ∷ 96 ∷ 97 ∷ 98 ∷ 99 ∷ 100 ∷ 101 ∷ 102 ∷ 103 ∷ 104 ∷ 105 ∷
    106 ∷ 107 ∷ 108 ∷ 109 ∷ 110 ∷ 111 ∷ 112 ∷ 113 ∷ 114 ∷ 115 ∷ 116 ∷ 117 ∷ 118 ∷ 119 ∷ 120 ∷ 121 ∷ 122 ∷ 123 ∷ 124 ∷ 125 ∷ 126 ∷ 8002 ∷ 126 ∷
    1 ∷ 128 ∷ [])
    ∷ cards 127 1 2 (1 ∷ 127 ∷ 1 ∷ 2 ∷ 4 ∷ 136 ∷ 0 ∷ 1 ∷ 2 ∷ 3 ∷ 4 ∷ 5 ∷ 6 ∷ 7 ∷ 8 ∷ 9 ∷ 10 ∷ 11 ∷ 12 ∷ 13 ∷ 14 ∷ 15 ∷ 16 ∷ 17 ∷ 18 ∷ 19 ∷ 20 ∷ 21 ∷ 22 ∷ 23 ∷
    24 ∷ 25 ∷ 26 ∷ 27 ∷ 28 ∷ 29 ∷ 30 ∷ 31 ∷ 32 ∷ 33 ∷ 34 ∷ 35 ∷ 36 ∷ 37 ∷ 38 ∷ 39 ∷ 40 ∷ 41 ∷ 42 ∷ 43 ∷ 44 ∷ 45 ∷ 46 ∷ 47 ∷ 48 ∷ 49 ∷ 50 ∷ 51 ∷
    52 ∷ 53 ∷ 54 ∷ 55 ∷ 56 ∷ 57 ∷ 58 ∷ 59 ∷ 60 ∷ 61 ∷ 62 ∷ 63 ∷ 64 ∷ 65 ∷ 66 ∷ 67 ∷ 68 ∷ 69 ∷ 70 ∷ 71 ∷ 72 ∷ 73 ∷ 74 ∷ 75 ∷ 76 ∷ 77 ∷ 78 ∷ 79 ∷
    80 ∷ 81 ∷ 82 ∷ 83 ∷ 84 ∷ 85 ∷ 86 ∷ 87 ∷ 88 ∷ 89 ∷ 90 ∷ 91 ∷ 92 ∷ 93 ∷ 94 ∷ 95 ∷ 96 ∷ 97 ∷ 98 ∷ 99 ∷ 100 ∷ 101 ∷ 102 ∷ 103 ∷ 104 ∷ 105 ∷
    106 ∷ 107 ∷ 108 ∷ 109 ∷ 110 ∷ 111 ∷ 112 ∷ 113 ∷ 114 ∷ 115 ∷ 116 ∷ 117 ∷ 118 ∷ 119 ∷ 120 ∷ 121 ∷ 122 ∷ 123 ∷ 124 ∷ 125 ∷ 126 ∷ 8002 ∷ 126 ∷
    1 ∷ 128 ∷ [])
    -- "little-endian": 300 is 44 and 1, 513 is 1 and 2
    ∷ begins 300 513 2 (7 ∷ []) (1 ∷ 0 ∷ 0 ∷ 0 ∷ 44 ∷ 1 ∷ 0 ∷ 0 ∷ 1 ∷ 2 ∷ 0 ∷ 0 ∷ 2 ∷ 0 ∷ 0 ∷ 0 ∷ 0 ∷ [])
    -- how long a file must be: two blocks for up to 126 squares
    ∷ measures 1 1 0 1024
    ∷ measures 14 9 0 1024
    ∷ measures 127 1 0 1536
    ∷ measures 4096 4096 0 68174848
    ∷ measures 4096 4097 13 0
    ∷ measures 65536 65536 1 0
    ∷ measures 0 1 1 0
    -- the writer: "1, 13, 4 (also for a writer's file whose length isn't the layout's) .. then 15"; "A refusal writes nothing"
    ∷ writes 1 1 1 (0 ∷ []) 1024 0 (card 1 1 1)
    ∷ writes 2 2 2 (0 ∷ 3 ∷ 1 ∷ 2 ∷ []) 1024 0 (card 2 2 2)
    ∷ writes 2 2 2 (0 ∷ 2 ∷ 3 ∷ 1 ∷ []) 1024 15 (replicate 1024 7)
    ∷ writes 2 2 1 (0 ∷ 2 ∷ 3 ∷ 1 ∷ []) 1024 0 (card 2 2 1)
    ∷ writes 3 2 1 (0 ∷ 3 ∷ 4 ∷ 5 ∷ 2 ∷ 1 ∷ []) 1024 0 (card 3 2 1)
    ∷ writes 2 3 1 (0 ∷ 3 ∷ 4 ∷ 5 ∷ 2 ∷ 1 ∷ []) 1024 15 (replicate 1024 7)
    ∷ writes 2 2 3 (0 ∷ 2 ∷ 3 ∷ 1 ∷ []) 1024 15 (replicate 1024 7)
    ∷ writes 2 2 0 (0 ∷ 2 ∷ 3 ∷ 1 ∷ []) 1024 15 (replicate 1024 7)
    ∷ writes 2 2 3 (0 ∷ 2 ∷ 3 ∷ 1 ∷ []) 1023 4 (replicate 1023 7)
    ∷ writes 2 2 1 (0 ∷ 2 ∷ 3 ∷ 1 ∷ []) 1536 4 (replicate 1536 7)
    ∷ writes 2 2 1 (0 ∷ 2 ∷ 3 ∷ []) 1024 4 (replicate 1024 7)
    ∷ writes 4096 4097 1 (0 ∷ []) 5 13 (replicate 5 7)
    ∷ writes 0 65536 3 (0 ∷ []) 5 1 (replicate 5 7)
    -- the reader: 4 for the table only, then 14 with the block, then 15
    ∷ reads 1 1 1 (card 1 1 1) 1 0 0 (0 ∷ [])
    ∷ reads 2 2 1 (card 2 2 1) 4 0 0 (0 ∷ 2 ∷ 3 ∷ 1 ∷ [])
    ∷ reads 2 2 2 (card 2 2 2) 4 0 0 (0 ∷ 3 ∷ 1 ∷ 2 ∷ [])
    ∷ reads 2 2 2 (card 2 2 1) 4 15 0 (7 ∷ 7 ∷ 7 ∷ 7 ∷ [])
    ∷ reads 3 2 1 (card 3 2 1) 6 0 0 (0 ∷ 3 ∷ 4 ∷ 5 ∷ 2 ∷ 1 ∷ [])
    ∷ reads 2 3 1 (card 3 2 1) 6 15 0 (7 ∷ 7 ∷ 7 ∷ 7 ∷ 7 ∷ 7 ∷ [])
    ∷ reads 2 2 1 (card 2 2 1) 3 4 0 (7 ∷ 7 ∷ 7 ∷ [])
    ∷ reads 0 2 1 (card 2 2 1) 4 1 0 (7 ∷ 7 ∷ 7 ∷ 7 ∷ [])
    ∷ reads 65535 257 1 [] 1 13 0 (7 ∷ [])
    -- a changed word: of block 0, of block 1; and of both, where the first is told
    ∷ reads 2 2 1 (changed (card 2 2 1) 0 2) 4 14 0 (7 ∷ 7 ∷ 7 ∷ 7 ∷ [])
    ∷ reads 2 2 1 (changed (card 2 2 1) 129 5) 4 14 1 (7 ∷ 7 ∷ 7 ∷ 7 ∷ [])
    ∷ reads 2 2 3 (twice_changed (card 2 2 1) 129 5 1 9) 4 14 0 (7 ∷ 7 ∷ 7 ∷ 7 ∷ [])
    -- two changed words that keep the checks good: another version; a table with two places exchanged; another count; an unused word that is not zero
    ∷ reads 2 2 1 (twice_changed (card 2 2 1) 0 2 127 12) 4 15 0 (7 ∷ 7 ∷ 7 ∷ 7 ∷ [])
    ∷ reads 2 2 1 (twice_changed (card 2 2 1) 129 3 130 2) 4 15 0 (7 ∷ 7 ∷ 7 ∷ 7 ∷ [])
    ∷ reads 2 2 1 (twice_changed (card 2 2 1) 254 5 255 12) 4 15 0 (7 ∷ 7 ∷ 7 ∷ 7 ∷ [])
    ∷ reads 2 2 1 (twice_changed (card 2 2 1) 132 1 255 12) 4 15 0 (7 ∷ 7 ∷ 7 ∷ 7 ∷ [])
    -- words of 32 bits in a block of which no card has any: 126 times 2^32 - 1 and the count, so that the check is 1, and 2 is bad
    ∷ reads 1 1 1 (replicate 504 255 ++ (126 ∷ 0 ∷ 0 ∷ 0 ∷ 1 ∷ 0 ∷ 0 ∷ 0 ∷ [])) 1 15 0 (7 ∷ [])
    ∷ reads 1 1 1 (replicate 504 255 ++ (126 ∷ 0 ∷ 0 ∷ 0 ∷ 2 ∷ 0 ∷ 0 ∷ 0 ∷ [])) 1 14 0 (7 ∷ [])
    -- a kind that there is not, no file, a tail that is no whole block, an empty block added, and a whole block of zeros, whose check is bad
    ∷ reads 2 2 3 (card 2 2 1) 4 15 0 (7 ∷ 7 ∷ 7 ∷ 7 ∷ [])
    ∷ reads 2 2 1 [] 4 15 0 (7 ∷ 7 ∷ 7 ∷ 7 ∷ [])
    ∷ reads 2 2 1 (card 2 2 1 ++ (0 ∷ [])) 4 15 0 (7 ∷ 7 ∷ 7 ∷ 7 ∷ [])
    ∷ reads 2 2 1 (card 2 2 1 ++ (0 ∷ 0 ∷ [])) 4 15 0 (7 ∷ 7 ∷ 7 ∷ 7 ∷ [])
    ∷ reads 2 2 1 (card 2 2 1 ++ bytes_of (sealed [])) 4 15 0 (7 ∷ 7 ∷ 7 ∷ 7 ∷ [])
    ∷ reads 2 2 1 (card 2 2 1 ++ replicate 512 0) 4 14 2 (7 ∷ 7 ∷ 7 ∷ 7 ∷ [])
    ∷ []

pub worked_right : T (all_right worked)
unfolding worked all_right right in_short unused changed twice_changed same_figures same_numbers write read measure unless_refused places by_number by_square
    some_deep card_of words_of bytes_of sum sealed packed good first_bad square_of number_of place_in
    same whole choice even_half part parts parts_of against moved row curve_by down curve blocks blocks_holding count within holds
    mathlib.Core.List.flatten
worked_right = tt
