-- What each call from C returns, and what it leaves in the slices that it is lent, for every argument: include/uvalinda.h, call by call, by the figures that
-- the library's own calls answer.
use Rattle.std.specs.Prelude.{List, ℕ, ℤ}
use Rattle.terms.specs.Terms.{FiguresOf, Figures}
use Rattle.curve.specs.Lookups.{number_to_square_at, square_to_number_at, finish_square_at}
use Rattle.tables.specs.Tables.{by_number, by_square, fill, check}
use Rattle.cards.specs.Cards.{measure, write, file_after, read, table_after}
use Rattle.windows.specs.Windows.{runs_for_window_at, slice_after_at}
use Rattle.boundary.specs.Boundary.{returned, written, left, filled, area_at, window_at}
use Rattle.boundary.specs.Handling.{handled}

-- What is returned, and the slice for the values as the call leaves it; so of a call that writes a table, or a slice for runs, beside it; and of one that has
-- no values and writes a file.
pub record Outcome (A : Type 0) : Type 0 where
  pub returned : ℕ
  pub values : List A

pub record LentOutcome : Type 0 where
  pub returned : ℕ
  pub values : List ℕ
  pub lent : List ℕ

pub record FileOutcome : Type 0 where
  pub returned : ℕ
  pub file : List ℕ

abbrev pub tells : {A : Type 0} → (n : ℕ) → FiguresOf A → (result : List A) → Outcome A
tells n f result = record { returned = returned n f result; values = written n f result }

-- "The square of a number. Values: x, y, and how many blocks of the division hold the square".
abbrev pub number_to_square_call : (w h : ℕ) (ox oy : ℤ) (number : ℕ) (result : List ℤ) → Outcome ℤ
number_to_square_call w h ox oy number = tells 3 (number_to_square_at (area_at w h ox oy) number)

-- "The number of a square. Values: the number, and how many blocks of the division hold the square".
abbrev pub square_to_number_call : (w h : ℕ) (ox oy x y : ℤ) (result : List ℕ) → Outcome ℕ
square_to_number_call w h ox oy x y = tells 2 (square_to_number_at (area_at w h ox oy) x y)

-- "The finish square of an area .. Values: x, y."
abbrev pub finish_square_call : (w h : ℕ) (ox oy : ℤ) (result : List ℤ) → Outcome ℤ
finish_square_call w h ox oy = tells 2 (finish_square_at (area_at w h ox oy))

-- "Fills a table of exactly w * h places .. Value, of 64 bits: how many blocks the division has."
abbrev fill_call : (w h : ℕ) (due table blocks : List ℕ) → LentOutcome
fill_call w h due table blocks =
    let f : Figures = fill w h table in
    record { returned = returned 1 f blocks; values = written 1 f blocks; lent = filled f due table blocks }

abbrev pub fill_by_number_call : (w h : ℕ) (table blocks : List ℕ) → LentOutcome
fill_by_number_call w h = fill_call w h (by_number w h)

abbrev pub fill_by_square_call : (w h : ℕ) (table blocks : List ℕ) → LentOutcome
fill_by_square_call w h = fill_call w h (by_square w h)

-- "Checks a table .. Values: 0, 0, 0 where it is right; else 1, the first wrong place, and the value due there."
abbrev pub check_by_number_call : (w h : ℕ) (table result : List ℕ) → Outcome ℕ
check_by_number_call w h table = tells 3 (check w h (by_number w h) table)

abbrev pub check_by_square_call : (w h : ℕ) (table result : List ℕ) → Outcome ℕ
check_by_square_call w h table = tells 3 (check w h (by_square w h) table)

-- "How many bytes the card of an area has. Value, of 64 bits".
abbrev pub card_length_call : (w h : ℕ) (bytes : List ℕ) → Outcome ℕ
card_length_call w h = tells 1 (measure w h)

-- "Writes the card of a table to `file` .. There are no values, and so there is no SHORT_RESULT."
abbrev pub write_card_call : (w h kind : ℕ) (table file : List ℕ) → FileOutcome
write_card_call w h kind table file = record { returned = (write w h kind table file).refusal; file = file_after w h kind table file }

-- "Reads the table of a card from `file` .. Value, of 64 bits: at BAD_CHECK the index of the first whole block whose check is bad .. else 0."
abbrev pub read_card_call : (w h kind : ℕ) (file table block : List ℕ) → LentOutcome
read_card_call w h kind file table block =
    let f : Figures = read w h kind file table in
    record { returned = returned 1 f block; values = written 1 f block; lent = left (table_after w h kind file table) table block }

-- "The numbers of the squares with x from x0 to x1 and y from y0 to y1 .. as runs .. Value: how many runs there are, also at NO_ROOM."
abbrev pub runs_for_window_call : (w h : ℕ) (ox oy x0 y0 x1 y1 : ℤ) (runs result : List ℕ) → LentOutcome
runs_for_window_call w h ox oy x0 y0 x1 y1 runs result =
    let f : Figures = runs_for_window_at (area_at w h ox oy) (window_at x0 y0 x1 y1) runs in
    record {
      returned = returned 1 f result;
      values = written 1 f result;
      lent = left (slice_after_at (area_at w h ox oy) (window_at x0 y0 x1 y1) runs) runs result;
    }

-- "Answers one order line .. Values, ..: w, h, ox and oy of the area in force after the line, .. then" the reply.
abbrev pub handle_line_call : (w h : ℕ) (ox oy : ℤ) (line : List ℕ) (result : List ℤ) → Outcome ℤ
handle_line_call w h ox oy line = tells 8 (handled w h ox oy line)
