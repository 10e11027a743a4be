-- Order lines worked by hand, as one table under one claim, which computes: those that document 01 gives under "Order lines", "Squares worked by hand" and
-- "Errors a good programmer makes here", and for each of its sentences on lines some of our own; AREA lines with document 02's finish squares, and its orders 4
-- and 6. Here stand refusals, by their numbers and in their order, and the area in force after each line with its origin; what an N or S line says
-- otherwise is the call's own (`cell_replied`, `number_replied`), and so is the finish square of an area that is too large to list (`area_replied`).
use Rattle.std.specs.Prelude.{Bool, true, false, ◌&&◌, ℕ, T, eqb, ℤ, pos, negsuc, replicate, take, Some, None}
use mathlib.Core.List.{List, [], ◌∷◌, ◌++◌}
use Prim.Native.String.{String}
use Rattle.terms.specs.Terms.{accepted, origin_accepted, in_signs}
use Rattle.terms.specs.Comparing.{same_integer, same_integers}
use Rattle.division.specs.Division.{whole, choice, even_half, part, parts, parts_of, moved, against, row, curve_by, down, curve, square_of, number_of}
use Rattle.division.specs.Division.{blocks, blocks_holding, count, place_in, same, within}
use Rattle.division.specs.Division as Division
use Rattle.curve.specs.Lookups.{from_origin, number_to_square_at, square_to_number_at, finish_square_at}
use Rattle.words.specs.Letters.{bytes}
use Rattle.words.specs.Words.{all_digits, value_on, is_number, numeral, same_bytes}
use Rattle.words.specs.Signed.{signed_numeral}
use Rattle.fields.specs.Fields.{fields}
use Rattle.lines.specs.Lines.{shaped, request}
use Rattle.clerk.specs.Clerk.{Word, AreaSaid, OriginSaid, Cell, Number, Refused, Said, InForce, after, reply}

-- A line of the table.
pub data Case : Type 0 where
  -- with no area in force a line is refused so, and none is in force after it
  with_none : String → (refusal : ℕ) → Case
  -- under 3 by 4, whose origin is (-2, 7), a line is refused so, and that area stays in force
  stays : String → (refusal : ℕ) → Case
  -- under 3 by 4 a line is refused so, and no area is in force after it
  clears : String → (refusal : ℕ) → Case
  -- whatever is in force, a line sets w by h, and its reply is AREA with these numbers; or, of an area too large to list, with these before the finish square
  sets : String → (w h squares x y : ℕ) → Case
  sets_large : String → (w h squares : ℕ) → Case
  -- under 3 by 4 a line of bytes, too many or too odd to write out, is refused so, and leaves that area, or none
  long_stays : List ℕ → (refusal : ℕ) → Case
  long_clears : List ℕ → (refusal : ℕ) → Case
  -- under 3 by 4 a line sets the origin of that area, and its reply is ORIGIN with these numbers
  places : String → (ox oy : ℤ) → Case
  -- under 3 by 4 a line is answered by this word with these numbers, and that area stays in force
  answers : String → Word → List ℤ → Case
  -- under an area that is not accepted, or whose origin is not, held by a clerk made by hand, a line is refused so, and none is in force after it
  by_hand : (w h : ℕ) (ox oy : ℤ) → String → (refusal : ℕ) → Case

-- (`negsuc n` is the integer -(n + 1).)
three_by_four : InForce
three_by_four = Some (record { w = 3; h = 4; ox = negsuc 1; oy = pos 7 })

-- words told apart
place : Word → ℕ
place AreaSaid = 0
place OriginSaid = 1
place Cell = 2
place Number = 3
place Refused = 4

-- a word with these numbers, or with these among them
has_said : Word → (List ℤ → List ℤ) → List ℤ → Said → Bool
has_said word of due s = eqb (place s.word) (place word) && same_integers (of s.numbers) due

is_refusal : ℕ → Said → Bool
is_refusal r = has_said Refused (λ numbers. numbers) (pos r ∷ [])

holds_none : InForce → Bool
holds_none None = true
holds_none (Some area) = false

holds : (w h : ℕ) (ox oy : ℤ) → InForce → Bool
holds w h ox oy None = false
holds w h ox oy (Some area) = (eqb area.w w && eqb area.h h) && (same_integer area.ox ox && same_integer area.oy oy)

kept : InForce → Bool
kept = holds 3 4 (negsuc 1) (pos 7)

-- a line sets w by h at origin 0 0 under every clerk of the table, and of what its reply says after AREA this part is due
sets_so : String → (w h : ℕ) → (List ℤ → List ℤ) → List ℤ → Bool
unfolding same_integers place has_said holds three_by_four reply after request shaped fields same_bytes numeral is_number all_digits value_on
sets_so line w h of due =
    has_said AreaSaid of due (reply None (bytes line))
    && has_said AreaSaid of due (reply three_by_four (bytes line))
    && holds w h (pos 0) (pos 0) (after None (bytes line))
    && holds w h (pos 0) (pos 0) (after three_by_four (bytes line))

right : Case → Bool
unfolding same_integers is_refusal place has_said holds_none holds kept three_by_four reply after request shaped fields same_bytes signed_numeral numeral
    is_number all_digits value_on sets_so
right (with_none line r) = is_refusal r (reply None (bytes line)) && holds_none (after None (bytes line))
right (stays line r) = is_refusal r (reply three_by_four (bytes line)) && kept (after three_by_four (bytes line))
right (clears line r) = is_refusal r (reply three_by_four (bytes line)) && holds_none (after three_by_four (bytes line))
right (sets line w h squares x y) = sets_so line w h (λ numbers. numbers) (pos w ∷ pos h ∷ pos squares ∷ pos x ∷ pos y ∷ [])
right (sets_large line w h squares) = sets_so line w h (take 3) (pos w ∷ pos h ∷ pos squares ∷ [])
right (long_stays line r) = is_refusal r (reply three_by_four line) && kept (after three_by_four line)
right (long_clears line r) = is_refusal r (reply three_by_four line) && holds_none (after three_by_four line)
right (answers line word numbers) = has_said word (λ all. all) numbers (reply three_by_four (bytes line)) && kept (after three_by_four (bytes line))
right (by_hand w h ox oy line r) =
    let clerk = Some (record { w = w; h = h; ox = ox; oy = oy }) in
    is_refusal r (reply clerk (bytes line)) && holds_none (after clerk (bytes line))
right (places line ox oy) =
    has_said OriginSaid (λ numbers. numbers) (ox ∷ oy ∷ []) (reply three_by_four (bytes line)) && holds 3 4 ox oy (after three_by_four (bytes line))

pub all_right : List Case → Bool
unfolding right accepted origin_accepted in_signs from_origin number_to_square_at square_to_number_at finish_square_at square_of number_of place_in same
    blocks blocks_holding count within Division.holds curve down parts parts_of part choice even_half whole moved against row curve_by
    mathlib.Core.List.flatten
all_right [] = true
all_right (c ∷ cs) = right c && all_right cs

pub worked : List Case
worked =
    -- "AREA w h n fx fy"; each length from 1 to 65,535
    sets "AREA 3 4" 3 4 12 2 0
    ∷ sets "AREA 1 1" 1 1 1 0 0
    ∷ sets_large "AREA 4096 4096" 4096 4096 16777216
    ∷ sets_large "AREA 65535 256" 65535 256 16776960
    -- "AREA lines print the new value"
    ∷ sets "AREA 5 2" 5 2 10 3 0
    ∷ sets "AREA 3 2" 3 2 6 1 0
    ∷ sets "AREA 4 2" 4 2 8 3 0
    ∷ sets "AREA 1 7" 1 7 7 0 6
    -- "w or h is 0 or over 65,535"
    ∷ clears "AREA 0 4" 1
    ∷ clears "AREA 4 0" 1
    ∷ clears "AREA 65536 1" 1
    ∷ clears "AREA 1 65536" 1
    -- "more than 16,777,216 squares": 13, after 1
    ∷ clears "AREA 4096 4097" 13
    ∷ clears "AREA 65535 257" 13
    ∷ clears "AREA 65535 65535" 13
    ∷ clears "AREA 65536 65536" 1
    ∷ with_none "AREA 4096 4097" 13
    -- "whose first four bytes are AREA", "for any reason of refusal": 1 above, 5, 6 and 8
    ∷ clears "AREA 3E4 4" 5
    ∷ clears "AREA 3 +4" 5
    ∷ clears "AREA 3 4\r" 5
    ∷ clears "AREA" 6
    ∷ clears "AREA " 6
    ∷ clears "AREA 3" 6
    ∷ clears "AREA 3 " 6
    ∷ clears "AREA 3 4 5" 6
    ∷ clears "AREA  3 4" 6
    ∷ clears "AREA  4" 6
    ∷ clears "AREAX 3 4" 6
    ∷ clears "AREA\t3 4" 6
    ∷ long_clears (bytes "AREA 3 4" ++ replicate 57 32) 8
    -- "No other line alters the area"
    ∷ stays "area 3 4" 6
    ∷ stays " AREA 3 4" 6
    ∷ stays "ARE" 6
    ∷ stays "AREB 3 4" 6
    -- the numbers of the example and of "A number is 1 to 10 digits": refusal 5; and 3 and 2 for a number or a square that the area does not have
    ∷ stays "N 3E4" 5
    ∷ stays "N +7" 5
    ∷ stays "N -7" 5
    ∷ stays "N 07" 5
    ∷ stays "N 00" 5
    ∷ stays "N 7.0" 5
    ∷ stays "N 7\r" 5
    ∷ stays "N 7\t" 5
    ∷ stays "N x" 5
    ∷ stays "N 12" 3
    ∷ stays "N 4294967295" 3
    ∷ stays "N 4294967296" 5
    ∷ stays "N 9999999999" 5
    ∷ stays "N 00000000012" 5
    ∷ stays "N 42949672950" 5
    ∷ stays "S 1 7" 2
    ∷ stays "S -2 11" 2
    ∷ stays "S 07 0" 5
    ∷ stays "S 0 3E4" 5
    -- document 02, order 4: "A field of exactly ten digits may now begin with zeros; shorter fields keep the old rule"; "5 narrows as said; the order stays"
    ∷ sets "AREA 0000000003 0000000004" 3 4 12 2 0
    ∷ sets "AREA 3 0000000004" 3 4 12 2 0
    ∷ clears "AREA 0000065536 0000000001" 1
    ∷ clears "AREA 000000003 4" 5
    ∷ clears "AREA 3 00000000004" 5
    ∷ clears "AREA 0000000003" 6
    ∷ stays "N 0000000012" 3
    ∷ stays "N 000000011" 5
    ∷ stays "N 0000000011 " 6
    ∷ stays "N 00000003E4" 5
    ∷ stays "S 0000000003 0000000007" 2
    ∷ stays "S 0 0000000011" 2
    ∷ stays "S 000000000 0" 5
    ∷ with_none "N 0000000001" 7
    ∷ with_none "N 000000001" 5
    ∷ with_none "S 0000000001 0000000001" 7
    -- "An unknown first word, a missing, extra or empty field, or an empty line is refusal 6", before 5
    ∷ stays "" 6
    ∷ stays " " 6
    ∷ stays "N" 6
    ∷ stays "N " 6
    ∷ stays "N 3 " 6
    ∷ stays "N  3" 6
    ∷ stays " N 3" 6
    ∷ stays "N 3 4" 6
    ∷ stays "N x y" 6
    ∷ stays "n 3" 6
    ∷ stays "NN 3" 6
    ∷ stays "N\t3" 6
    ∷ stays "N\r" 6
    ∷ stays "S 1" 6
    ∷ stays "S  1" 6
    ∷ stays "S 1 " 6
    ∷ stays "S 1 2 3" 6
    ∷ stays "S x " 6
    ∷ stays "s 1 2" 6
    ∷ stays "3 N" 6
    -- "a line has over 64 bytes": 64 pass, and 8 comes before 6 and 5
    ∷ long_stays (bytes "N " ++ replicate 62 55) 5
    ∷ long_stays (bytes "N " ++ replicate 63 55) 8
    ∷ long_stays (replicate 64 88) 6
    -- bytes 0 and over 127 are ordinary bytes
    ∷ long_stays (bytes "N " ++ (200 ∷ [])) 5
    ∷ long_stays (bytes "N " ++ (0 ∷ [])) 5
    ∷ long_stays (bytes "N" ++ (0 ∷ 51 ∷ [])) 6
    ∷ long_stays (replicate 65 88) 8
    -- "N or S line with no area in force": 7, after 6 and 5 and before the library's own
    ∷ with_none "N 0" 7
    ∷ with_none "N 1" 7
    ∷ with_none "N 99999" 7
    ∷ with_none "S 1 1" 7
    ∷ with_none "N x" 5
    ∷ with_none "N" 6
    ∷ with_none "S 1 x" 5
    ∷ with_none "AREA 0 4" 1
    -- document 02, order 6: "set by a line `ORIGIN ox oy`", "each from -1,000,000 to 1,000,000"; it sets, it does not add
    ∷ places "ORIGIN 5 -3" (pos 5) (negsuc 2)
    ∷ places "ORIGIN 0 0" (pos 0) (pos 0)
    ∷ places "ORIGIN 1000000 -1000000" (pos 1000000) (negsuc 999999)
    ∷ places "ORIGIN -0000000005 0000000003" (negsuc 4) (pos 3)
    -- "a refused line that begins with the bytes `ORIGIN` leaves no area in force": by 12, 5, 6 and 8
    ∷ clears "ORIGIN 1000001 0" 12
    ∷ clears "ORIGIN 0 -1000001" 12
    ∷ clears "ORIGIN -2147483647 0" 12
    ∷ clears "ORIGIN 2147483647 0" 12
    ∷ clears "ORIGIN 0 -0" 5
    ∷ clears "ORIGIN -0000000000 0" 5
    ∷ clears "ORIGIN 2147483648 0" 5
    ∷ clears "ORIGIN -2147483648 0" 5
    ∷ clears "ORIGIN --1 0" 5
    ∷ clears "ORIGIN +1 0" 5
    ∷ clears "ORIGIN -07 0" 5
    ∷ clears "ORIGIN - 0" 5
    ∷ clears "ORIGIN 1 2\r" 5
    ∷ clears "ORIGIN" 6
    ∷ clears "ORIGIN 1" 6
    ∷ clears "ORIGIN  1" 6
    ∷ clears "ORIGIN 1 2 3" 6
    ∷ clears "ORIGINX 1 2" 6
    ∷ long_clears (bytes "ORIGIN 1 2" ++ replicate 55 32) 8
    ∷ stays "origin 1 2" 6
    ∷ stays " ORIGIN 1 2" 6
    ∷ stays "ORIGI 1 2" 6
    -- "7 also for ORIGIN with no area in force", after 5 and 6 and before 12
    ∷ with_none "ORIGIN 1 2" 7
    ∷ with_none "ORIGIN 1000001 0" 7
    ∷ with_none "ORIGIN 0 -0" 5
    ∷ with_none "ORIGIN 1" 6
    -- "The fields of ORIGIN and S may carry a minus": those of AREA and N may not
    ∷ clears "AREA -3 4" 5
    ∷ clears "AREA 3 -4" 5
    ∷ stays "N -0" 5
    ∷ stays "S -3 7" 2
    ∷ stays "S -2147483647 2147483647" 2
    ∷ stays "S -0 7" 5
    ∷ stays "S -2 -2147483648" 5
    ∷ stays "S 4294967295 0" 5
    ∷ stays "S 2147483648 0" 5
    ∷ stays "S 0 -0000000000" 5
    ∷ stays "S -2 7-" 5
    ∷ with_none "S -2 7" 7
    -- "Squares asked and answered .. are then signed and origin plus the old square": number 8 is the old square (2, 1), held by 3 blocks
    ∷ answers "N 8" Cell (pos 0 ∷ pos 8 ∷ pos 3 ∷ [])
    ∷ answers "S 0 8" Number (pos 8 ∷ pos 3 ∷ [])
    -- an area that is none is not in force: 7 for every line that asks for one, after 6 and 5
    ∷ by_hand 0 4 (pos 0) (pos 0) "N 1" 7
    ∷ by_hand 0 4 (pos 0) (pos 0) "ORIGIN 1 2" 7
    ∷ by_hand 4096 4097 (pos 0) (pos 0) "S 0 0" 7
    ∷ by_hand 3 4 (pos 1000001) (pos 0) "N 8" 7
    ∷ by_hand 3 4 (pos 0) (negsuc 1000000) "ORIGIN 0 0" 7
    ∷ by_hand 3 4 (pos 1000001) (pos 0) "N x" 5
    ∷ []

pub worked_right : T (all_right worked)
unfolding worked all_right
worked_right = tt
