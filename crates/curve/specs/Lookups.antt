-- What both lookups and the finish square's call say, for every area, number and square, as figures on paper: document 01, "What a lookup and a table say" and
-- "Refusal numbers", with the finish square of document 02, order 1, and the site grid of its order 6. Each call's refusals stand as one list, in their order.
use Rattle.std.specs.Prelude.{Bool, ◌&&◌, cond, List, [], ◌∷◌, ℕ, ◌-◌, ◌*◌, leb, ltb, eqb, ℤ, pos, ◌+ℤ◌, ◌-ℤ◌, Result, Ok, Err}
use Rattle.terms.specs.declared.Area.{Area}
use Rattle.terms.specs.declared.Refusal.{Refusal}
use Rattle.terms.specs.declared.Refusal.TheVariants.{AreaLimit, SquareOutside, NumberOutside, TooDeep, OriginLimit, TooManySquares}
use Rattle.terms.specs.Terms.{lengths_accepted, squares_accepted, origin_accepted, distance_of, below, most_blocks}
use Rattle.terms.specs.Terms.{Figures, SignedFigures, in_signs, signed, answered, refused}
use Rattle.terms.specs.Guards.{Guard, ◌else◌, guarded}
use Rattle.division.specs.Division.{Block, Square, square, whole, square_of, number_of, blocks_holding}
use Rattle.curve.specs.declared.FoundSquare.{FoundSquare}
use Rattle.searches.specs.declared.Numbered.{Numbered}
use Rattle.curve.specs.declared.Square as OnGrid

-- The area as a block: squares are counted from its own corner there. "Squares asked and answered, finish and windows included, are then signed and origin plus
-- the old square": values that begin with an old square's x and y.
abbrev pub all : Area → Block
all area = whole area.w area.h

abbrev pub moved_by_origin : (ox oy : ℤ) → List ℕ → List ℤ
moved_by_origin ox oy [] = []
moved_by_origin ox oy (x ∷ []) = pos x ∷ []
moved_by_origin ox oy (x ∷ y ∷ more) = (ox +ℤ pos x) ∷ (oy +ℤ pos y) ∷ in_signs more

-- So of an answer. "The number, all else 0": a refusal's values are not moved.
unfoldable pub from_origin : (ox oy : ℤ) → Figures → SignedFigures
from_origin ox oy f = cond (eqb f.refusal 0) (record { refusal = 0; values = moved_by_origin ox oy f.values }) (signed f)

-- The old square of a square asked is that "with the origin subtracted". A place west or south of the origin is outside the area, as one is with "x >= w or
-- y >= h".
abbrev pub old_square : Area → (x y : ℤ) → Square
old_square area x y = square (distance_of (x -ℤ area.ox)) (distance_of (y -ℤ area.oy))

abbrev pub inside : Area → (x y : ℤ) → Bool
inside area x y = below (x -ℤ area.ox) area.w && below (y -ℤ area.oy) area.h

-- "9: a descent would open a 65th block, that is, over 64 blocks of the division hold one and the same square that the call needs".
abbrev pub few_blocks : Area → Square → Bool
few_blocks area s = leb (blocks_holding (all area) s) most_blocks

-- "number to square: x, y; blocks of the division that hold that square". "For library calls the order is 1, then whichever of 2, 3, 4 belongs to the call,
-- then 9"; 13 "directly after 1 and before everything else"; 12 "in calls that ask or answer squares directly after 1".
abbrev pub number_guards : (area : Area) (number : ℕ) → List Guard
number_guards area number =
    lengths_accepted area.w area.h else AreaLimit
    ∷ squares_accepted (area.w * area.h) else TooManySquares
    ∷ origin_accepted area.ox area.oy else OriginLimit
    ∷ ltb number (area.w * area.h) else NumberOutside
    ∷ few_blocks area (square_of (all area) number) else TooDeep
    ∷ []

unfoldable pub number_to_square_at : (area : Area) (number : ℕ) → SignedFigures
number_to_square_at area number =
    let s = square_of (all area) number in
    from_origin area.ox area.oy (guarded (number_guards area number) 3 (s.x ∷ s.y ∷ blocks_holding (all area) s ∷ []))

-- "square to number: the number; the same". The order is that of the other lookup, with 2 in the place of 3.
abbrev pub square_guards : (area : Area) (x y : ℤ) → List Guard
square_guards area x y =
    lengths_accepted area.w area.h else AreaLimit
    ∷ squares_accepted (area.w * area.h) else TooManySquares
    ∷ origin_accepted area.ox area.oy else OriginLimit
    ∷ inside area x y else SquareOutside
    ∷ few_blocks area (old_square area x y) else TooDeep
    ∷ []

unfoldable pub square_to_number_at : (area : Area) (x y : ℤ) → Figures
square_to_number_at area x y =
    let s = old_square area x y in
    guarded (square_guards area x y) 2 (number_of (all area) s ∷ blocks_holding (all area) s ∷ [])

-- "The finish square becomes the square of number w·h - 1." Document 01: blocks reported, "none". The area's lengths tell the square without a descent, so that
-- 9 is not one of its refusals.
abbrev pub finish_guards : Area → List Guard
finish_guards area =
    lengths_accepted area.w area.h else AreaLimit
    ∷ squares_accepted (area.w * area.h) else TooManySquares
    ∷ origin_accepted area.ox area.oy else OriginLimit
    ∷ []

unfoldable pub finish_square_at : Area → SignedFigures
finish_square_at area =
    let s = square_of (all area) (area.w * area.h - 1) in
    from_origin area.ox area.oy (guarded (finish_guards area) 2 (s.x ∷ s.y ∷ []))

-- The figures of each answer: "the number, all else 0" where it is refused.
abbrev pub square_figures : Result FoundSquare Refusal → SignedFigures
square_figures (Ok s) = record { refusal = 0; values = s.x ∷ s.y ∷ pos s.blocks ∷ [] }
square_figures (Err r) = signed (refused r 3)

abbrev pub number_figures : Result Numbered Refusal → Figures
number_figures (Ok n) = answered (n.number ∷ n.blocks ∷ [])
number_figures (Err r) = refused r 2

abbrev pub finish_figures : Result OnGrid.Square Refusal → SignedFigures
finish_figures (Ok s) = record { refusal = 0; values = s.x ∷ s.y ∷ [] }
finish_figures (Err r) = signed (refused r 2)
