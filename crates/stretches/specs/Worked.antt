-- Stretches worked by hand, as one table under one claim, which computes: of document 01, "place i holds y·w + x of square number i", for successive numbers,
-- at the beginning of an area's numbers, within them, to their end, and for none. The walk over the whole area leaves the same of any list as long.
use Rattle.std.specs.Prelude.{Bool, true, ◌&&◌, ℕ, T, length, replicate}
use mathlib.Core.List.{List, [], ◌∷◌}
use Rattle.terms.specs.Comparing.{same_numbers}
use Rattle.division.specs.Division.{whole, choice, even_half, part, parts, parts_of, moved, against, row, curve_by, down, curve}
use Rattle.leaves.specs.Walk.{over}
use Rattle.stretches.specs.Stretch.{stretched, entries_from}

-- A line of the table: of a w by h area, the numbers from `first` on have these entries.
pub data Case : Type 0 where
  entries : (w h first : ℕ) → List ℕ → Case

right : Case → Bool
right (entries w h first due) =
    let n = length due in
    same_numbers (entries_from w h first n) due && same_numbers (stretched first w (replicate n 7) (whole w h) 0) due

pub all_right : List Case → Bool
all_right [] = true
all_right (c ∷ cs) = right c && all_right cs

pub worked : List Case
worked =
    entries 3 4 0 (0 ∷ 3 ∷ 6 ∷ 9 ∷ 10 ∷ 11 ∷ 8 ∷ 7 ∷ 5 ∷ 4 ∷ 1 ∷ 2 ∷ [])
    ∷ entries 3 4 0 (0 ∷ 3 ∷ 6 ∷ 9 ∷ 10 ∷ [])
    ∷ entries 3 4 4 (10 ∷ 11 ∷ 8 ∷ 7 ∷ [])
    ∷ entries 3 4 7 (7 ∷ 5 ∷ 4 ∷ 1 ∷ 2 ∷ [])
    ∷ entries 3 4 5 []
    ∷ entries 3 4 12 []
    ∷ entries 5 2 0 (0 ∷ 5 ∷ 6 ∷ [])
    ∷ entries 5 2 3 (1 ∷ 2 ∷ 7 ∷ 8 ∷ [])
    ∷ entries 5 2 8 (4 ∷ 3 ∷ [])
    ∷ entries 5 2 0 []
    ∷ entries 1 7 0 (0 ∷ 1 ∷ [])
    ∷ entries 1 7 2 (2 ∷ 3 ∷ 4 ∷ [])
    ∷ entries 1 7 6 (6 ∷ [])
    ∷ entries 1 7 7 []
    ∷ []

pub worked_right : T (all_right worked)
unfolding worked all_right right same_numbers entries_from over whole choice even_half part parts parts_of against moved row curve_by down curve
    mathlib.Core.List.flatten
worked_right = tt
