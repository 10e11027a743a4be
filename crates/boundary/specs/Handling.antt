-- What a line comes to for a caller that keeps the area in force as four numbers: document 01's replies "AREA w h n fx fy; CELL x y k; NUMBER i k; REFUSED r",
-- document 02's "ORIGIN ox oy", and the area in force, as figures.
use Rattle.std.specs.Prelude.{List, [], ◌∷◌, ◌++◌, ℕ, ℤ, pos, nat_abs, drop, get_or, replicate, Some, None}
use Rattle.terms.specs.declared.Area.{Area}
use Rattle.terms.specs.Terms.{SignedFigures, at_post}
use Rattle.clerk.specs.Clerk.{InForce, Word, AreaSaid, OriginSaid, Cell, Number, Refused, Said, clerk_under, after, reply}
use Rattle.boundary.specs.Boundary.{area_at}

-- The area in force; 0 by 0 where there is none.
abbrev pub area_of : InForce → Area
area_of None = at_post 0 0
area_of (Some area) = area

-- A reply as four numbers. AREA: 1, squares, finish square; its w and h are the area in force. CELL: 2, x, y, blocks. NUMBER: 3, number, blocks, 0.
-- ORIGIN: 4, ox, oy, 0.
abbrev pub shown : Word → List ℤ → List ℤ
shown AreaSaid numbers = pos 1 ∷ drop 2 numbers
shown Cell numbers = pos 2 ∷ numbers
shown Number numbers = pos 3 ∷ numbers ++ (pos 0 ∷ [])
shown OriginSaid numbers = pos 4 ∷ numbers ++ (pos 0 ∷ [])
shown Refused numbers = replicate 4 (pos 0)

-- The number of a refusal, 0 for any other reply.
abbrev pub refusal_said : Word → List ℤ → ℕ
refusal_said AreaSaid numbers = 0
refusal_said OriginSaid numbers = 0
refusal_said Cell numbers = 0
refusal_said Number numbers = 0
refusal_said Refused numbers = nat_abs (get_or numbers 0 (pos 0))

-- The area in force and the reply, as figures of eight values.
abbrev pub state : Area → List ℤ
state area = pos area.w ∷ pos area.h ∷ area.ox ∷ area.oy ∷ []

abbrev pub handled_figures : Area → Said → SignedFigures
handled_figures area said = record { refusal = refusal_said said.word said.numbers; values = state area ++ shown said.word said.numbers }

abbrev pub handled_by : InForce → List ℕ → SignedFigures
handled_by held line = handled_figures (area_of (after held line)) (reply held line)

-- The clerk begins with the caller's area in force, or with none where that area or its origin is not accepted.
abbrev pub handled : (w h : ℕ) (ox oy : ℤ) → List ℕ → SignedFigures
handled w h ox oy = handled_by (clerk_under (area_at w h ox oy))
