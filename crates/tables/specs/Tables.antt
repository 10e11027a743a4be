-- What a fill and a check of a table say, for every area and every table: document 01, "What a lookup and a table say" and "Refusal numbers"; and by document
-- 02, order 6, an origin makes no difference to them.
use Rattle.std.specs.Prelude.{Bool, not, cond, Option, Some, None, Result, Ok, Err, List, [], ◌∷◌, ◌++◌, ℕ, zero, suc, ◌+◌, ◌*◌, ◌/◌, ◌%◌, ltb, eqb, length}
use Rattle.terms.specs.declared.Area.{Area}
use Rattle.terms.specs.declared.Refusal.{Refusal}
use Rattle.terms.specs.declared.Refusal.TheVariants.{AreaLimit, TableLength, TooDeep, TooManySquares}
use Rattle.terms.specs.Terms.{lengths_accepted, squares_accepted, most_blocks, Figures, answered, refused}
use Rattle.terms.specs.Guards.{Guard, ◌else◌, guarded}
use Rattle.division.specs.Division.{square, whole, curve, blocks, square_of, number_of, blocks_holding, count}
use Rattle.leaves.specs.declared.Wrong.{Wrong}

-- The table of n places that holds f p at each place p.
unfoldable pub places : (ℕ → ℕ) → (n : ℕ) → List ℕ
places f zero = []
places f (suc n) = places f n ++ (f n ∷ [])

-- "fill by number: place i holds y·w + x of square number i"
unfoldable pub by_number : (w h : ℕ) → List ℕ
by_number w h = places (λ i. (square_of (whole w h) i).y * w + (square_of (whole w h) i).x) (w * h)

-- "fill by square: place y·w + x holds the square's number"
unfoldable pub by_square : (w h : ℕ) → List ℕ
by_square w h = places (λ p. number_of (whole w h) (square (p % w) (p / w))) (w * h)

-- "9: over 64 blocks of the division hold one and the same square that the call needs": a table needs every square of its area.
unfoldable pub some_deep : (w h : ℕ) → Bool
some_deep w h = ltb 0 (count (λ s. ltb most_blocks (blocks_holding (whole w h) s)) (curve (whole w h)))

-- "For library calls the order is 1, then whichever of 2, 3, 4 belongs to the call, then 9", and 13 "directly after 1". "A table's length must be exactly w·h."
abbrev pub table_guards : (w h places : ℕ) → List Guard
table_guards w h places =
    lengths_accepted w h else AreaLimit
    ∷ squares_accepted (w * h) else TooManySquares
    ∷ eqb places (w * h) else TableLength
    ∷ not (some_deep w h) else TooDeep
    ∷ []

-- What is left of a table that a call fills: "the table is unaltered" where it is refused.
unfoldable pub unless_refused : Figures → (filled table : List ℕ) → List ℕ
unless_refused answer filled table = cond (eqb answer.refusal 0) filled table

-- A fill reports "all blocks of the division".
unfoldable pub fill : (w h : ℕ) → List ℕ → Figures
fill w h table = guarded (table_guards w h (length table)) 1 (length (blocks (whole w h)) ∷ [])

-- The figures of a fill's answer.
abbrev pub fill_figures : Result ℕ Refusal → Figures
fill_figures (Ok blocks) = answered (blocks ∷ [])
fill_figures (Err r) = refused r 1

-- "check a table of either kind: right, or the first wrong place and the value due there", as three values: 0 or 1, the place, the value due.
unfoldable pub judged : (place : ℕ) (due table : List ℕ) → List ℕ
judged place [] vs = 0 ∷ 0 ∷ 0 ∷ []
judged place (d ∷ ds) [] = 1 ∷ place ∷ d ∷ []
judged place (d ∷ ds) (v ∷ vs) = cond (eqb v d) (judged (suc place) ds vs) (1 ∷ place ∷ d ∷ [])

abbrev pub due_by : (kind_by_square : Bool) (w h : ℕ) → List ℕ
due_by kind_by_square w h = cond kind_by_square (by_square w h) (by_number w h)

unfoldable pub check : (w h : ℕ) → (due table : List ℕ) → Figures
check w h due table = guarded (table_guards w h (length table)) 3 (judged 0 due table)

-- Order 6: "table contents and numbers are unaffected", and 12 is for "calls that ask or answer squares". So of an area with an origin these calls see the
-- lengths alone: what a fill answers, the table afterwards, and what a check answers.
abbrev pub fill_at : Area → List ℕ → Figures
fill_at area table = fill area.w area.h table

abbrev pub filled_at : Area → (due : (w h : ℕ) → List ℕ) → List ℕ → List ℕ
filled_at area due table = unless_refused (fill_at area table) (due area.w area.h) table

abbrev pub check_at : Area → (due : (w h : ℕ) → List ℕ) → List ℕ → Figures
check_at area due table = check area.w area.h (due area.w area.h) table

-- The figures of a check's answer.
abbrev pub check_figures : Result (Option Wrong) Refusal → Figures
check_figures (Ok None) = answered (0 ∷ 0 ∷ 0 ∷ [])
check_figures (Ok (Some wrong)) = answered (1 ∷ wrong.place ∷ wrong.due ∷ [])
check_figures (Err r) = refused r 3
