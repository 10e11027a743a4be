-- What a call across the boundary returns and writes, given the figures of its answer and a slice for n values: document 01, "the number, all else 0" and
-- "the table is unaltered", for slices of any length.
use Rattle.std.specs.Prelude.{cond, List, ◌++◌, ℕ, leb, ℤ, length, drop}
use Rattle.terms.specs.declared.Area.{Area}
use Rattle.terms.specs.Terms.{FiguresOf, Figures}
use Rattle.tables.specs.Tables.{unless_refused}
use Rattle.windows.specs.declared.Window.{Window}

-- The refusal's number, 0 for none, or 255 where the slice is too short.
abbrev pub returned : {A : Type 0} → (n : ℕ) → FiguresOf A → List A → ℕ
returned n f slice = cond (leb n (length slice)) f.refusal 255

-- The values in the slice's first places and the rest as it was; a slice that is too short, whole as it was.
abbrev pub written : {A : Type 0} → (n : ℕ) → FiguresOf A → List A → List A
written n f slice = cond (leb n (length slice)) (f.values ++ drop n slice) slice

-- A lent slice that a call writes: as the call leaves it, or as it was where the slice for the values is too short.
abbrev pub left : (after before slice : List ℕ) → List ℕ
left after before slice = cond (leb 1 (length slice)) after before

-- A table that is to be filled: as the fill leaves it, or as it was where the slice for the count of blocks is too short.
abbrev pub filled : Figures → (due table slice : List ℕ) → List ℕ
filled f due table slice = left (unless_refused f due table) table slice

-- An area by its lengths and its origin, and a window by its corners.
abbrev pub area_at : (w h : ℕ) (ox oy : ℤ) → Area
area_at w h ox oy = record { w = w; h = h; ox = ox; oy = oy }

abbrev pub window_at : (x0 y0 x1 y1 : ℤ) → Window
window_at x0 y0 x1 y1 = record { x0 = x0; y0 = y0; x1 = x1; y1 = y1 }
