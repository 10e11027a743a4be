-- What writing and reading a card answer, and what they leave of the lent file and the lent table, for every area, kind, table and file; and how long a card's
-- file is. Document 02, order 8, from "Writer and reader are told the area and the kind" to "A refusal writes nothing."
use Rattle.std.specs.Prelude.{Bool, not, cond, ◌||◌, Result, Ok, Err, ⊤, List, [], ◌∷◌, ℕ, ◌*◌, eqb, length}
use Rattle.terms.specs.declared.Area.{Area}
use Rattle.terms.specs.declared.Refusal.{Refusal}
use Rattle.terms.specs.declared.Refusal.TheVariants.{AreaLimit, TableLength, TooDeep, TooManySquares, BadCheck, Departure}
use Rattle.terms.specs.Terms.{lengths_accepted, squares_accepted, refusal_number, Figures, answered, refused, refused_with}
use Rattle.terms.specs.Guards.{Guard, ◌else◌, ◌telling◌, guarded, area_guards}
use Rattle.terms.specs.Comparing.{same_numbers}
use Rattle.sectors.specs.Sectors.{whole_blocks, first_bad_in}
use Rattle.tables.specs.Tables.{some_deep, unless_refused}
use Rattle.layouts.specs.Layouts.{right_table, card, card_bytes}
use Rattle.cards.specs.declared.Unread.{Unread}
use Rattle.cards.specs.declared.Unread.TheVariants as Unreads

-- "kind (1 by number, 2 by square)"
abbrev pub kind_known : (kind : ℕ) → Bool
kind_known kind = eqb kind 1 || eqb kind 2

-- "Refusals: 1, 13, 4 (also for a writer's file whose length isn't the layout's), 9; .. then 15 for .. a kind other than 1 or 2, .. or a wrong table."
abbrev pub write_guards : (w h kind : ℕ) (table : List ℕ) (bytes : ℕ) → List Guard
write_guards w h kind table bytes =
    lengths_accepted w h else AreaLimit
    ∷ squares_accepted (w * h) else TooManySquares
    ∷ eqb (length table) (w * h) else TableLength
    ∷ eqb bytes (card_bytes w h) else TableLength
    ∷ not (some_deep w h) else TooDeep
    ∷ kind_known kind else Departure
    ∷ same_numbers table (right_table w h kind) else Departure
    ∷ []

-- "Refusals: 1, 13, 4, 9; then 14, with the index .. of the first whole block whose check is bad; then 15 for any other departure from this layout, a kind
-- other than 1 or 2, another area or kind than told, or a wrong table": for any file but the card that is due.
abbrev pub read_guards : (w h kind : ℕ) (file : List ℕ) (places : ℕ) → List Guard
read_guards w h kind file places =
    lengths_accepted w h else AreaLimit
    ∷ squares_accepted (w * h) else TooManySquares
    ∷ eqb places (w * h) else TableLength
    ∷ not (some_deep w h) else TooDeep
    ∷ (eqb (first_bad_in file) (whole_blocks file) else BadCheck telling (first_bad_in file ∷ []))
    ∷ kind_known kind else Departure
    ∷ same_numbers file (card w h kind) else Departure
    ∷ []

-- The writer answers nothing but its refusal, and leaves the card in the file; the reader tells 14's index, 0 where there is none, and leaves the right table
-- in the table. "A refusal writes nothing."
unfoldable pub write : (w h kind : ℕ) (table file : List ℕ) → Figures
write w h kind table file = guarded (write_guards w h kind table (length file)) 0 []

unfoldable pub read : (w h kind : ℕ) (file table : List ℕ) → Figures
read w h kind file table = guarded (read_guards w h kind file (length table)) 1 (0 ∷ [])

abbrev pub file_after : (w h kind : ℕ) (table file : List ℕ) → List ℕ
file_after w h kind table file = unless_refused (write w h kind table file) (card w h kind) file

abbrev pub table_after : (w h kind : ℕ) (file table : List ℕ) → List ℕ
table_after w h kind file table = unless_refused (read w h kind file table) (right_table w h kind) table

-- How many bytes the layout has, for who has to lend a file.
unfoldable pub measure : (w h : ℕ) → Figures
measure w h = guarded (area_guards w h) 1 (card_bytes w h ∷ [])

-- "Origins are not stored", and 12 is for "calls that ask or answer squares": of an area with an origin these calls see the lengths alone.
abbrev pub write_at : Area → (kind : ℕ) (table file : List ℕ) → Figures
write_at area = write area.w area.h

abbrev pub file_after_at : Area → (kind : ℕ) (table file : List ℕ) → List ℕ
file_after_at area = file_after area.w area.h

abbrev pub read_at : Area → (kind : ℕ) (file table : List ℕ) → Figures
read_at area = read area.w area.h

abbrev pub table_after_at : Area → (kind : ℕ) (file table : List ℕ) → List ℕ
table_after_at area = table_after area.w area.h

abbrev pub measure_at : Area → Figures
measure_at area = measure area.w area.h

-- The figures of the answers. A bad check is told with its block; one that tells none, which no answer is, has no value, so that each has figures of its own.
abbrev pub length_figures : Result ℕ Refusal → Figures
length_figures (Ok bytes) = answered (bytes ∷ [])
length_figures (Err r) = refused r 1

abbrev pub write_figures : Result ⊤ Refusal → Figures
write_figures (Ok u) = answered []
write_figures (Err r) = refused r 0

abbrev pub read_figures : Result ⊤ Unread → Figures
read_figures (Ok u) = answered (0 ∷ [])
read_figures (Err (Unreads.BadCheck block)) = refused_with BadCheck (block ∷ [])
read_figures (Err (Unreads.Refused r)) = refused_with r (cond (eqb (refusal_number r) 14) [] (0 ∷ []))
