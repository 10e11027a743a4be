-- "The first refusal that applies": a call has its guards as a list, in the order in which the documents name them. From the list come whether the call is
-- admitted and what it answers: document 01, "Refusal numbers", "the number, all else 0". Each call's own list stands where the call is defined.
use Rattle.std.specs.Prelude.{Bool, cond, List, [], ◌∷◌, ℕ, zero, suc, ◌*◌, replicate, Result, Ok, Err, ⊤}
use Rattle.terms.specs.declared.Area.{Area}
use Rattle.terms.specs.declared.Refusal.{Refusal}
use Rattle.terms.specs.declared.Refusal.TheVariants.{AreaLimit, OriginLimit, TooManySquares}
use Rattle.terms.specs.Terms.{lengths_accepted, squares_accepted, origin_accepted, Figures, answered, refused_with}

-- A test, the refusal of what does not pass it, and what that tells besides its number: nothing, but of 11 "the number of runs".
pub record Guard : Type 0 where
  pub holds : Bool
  pub refusal : Refusal
  pub tells : List ℕ

infix 68 ◌else◌
infix 67 ◌telling◌
abbrev pub ◌else◌ : Bool → Refusal → Guard
test else r = record { holds = test; refusal = r; tells = [] }

abbrev pub ◌telling◌ : Guard → List ℕ → Guard
g telling values = record { holds = g.holds; refusal = g.refusal; tells = values }

-- Whether a call goes on, or why it does not.
abbrev pub Admission : Type 0
Admission = Result ⊤ Refusal

abbrev pub granted : Admission
granted = Ok tt

-- The first guard that fails refuses; where all pass, the call is granted.
abbrev pub admitted : List Guard → Admission
admitted [] = granted
admitted (g ∷ gs) = cond g.holds (admitted gs) (Err g.refusal)

-- What a call with these guards answers: its values where all pass; else the refusal's number, what it tells, and 0 for all else of n values.
abbrev pub padded : ℕ → List ℕ → List ℕ
padded n [] = replicate n 0
padded zero (v ∷ vs) = []
padded (suc n) (v ∷ vs) = v ∷ padded n vs

abbrev pub guarded : List Guard → (n : ℕ) → (values : List ℕ) → Figures
guarded [] n values = answered values
guarded (g ∷ gs) n values = cond g.holds (guarded gs n values) (refused_with g.refusal (padded n g.tells))

-- As the code goes through a list: one guard more, after those that were tried; the first n guards; and those after them.
abbrev pub then_guard : Admission → Guard → Admission
then_guard (Ok u) g = cond g.holds granted (Err g.refusal)
then_guard (Err r) g = Err r

abbrev pub first : ℕ → List Guard → List Guard
first zero gs = []
first (suc n) [] = []
first (suc n) (g ∷ gs) = g ∷ first n gs

abbrev pub rest : ℕ → List Guard → List Guard
rest zero gs = gs
rest (suc k) [] = []
rest (suc k) (g ∷ gs) = rest k gs

-- What every list begins with, "1" and then "13, directly after 1 and before everything else"; and in "calls that ask or answer squares" 12 after them.
abbrev pub area_guards : (w h : ℕ) → List Guard
area_guards w h = lengths_accepted w h else AreaLimit ∷ squares_accepted (w * h) else TooManySquares ∷ []

abbrev pub grid_guards : Area → List Guard
grid_guards area =
    lengths_accepted area.w area.h else AreaLimit
    ∷ squares_accepted (area.w * area.h) else TooManySquares
    ∷ origin_accepted area.ox area.oy else OriginLimit
    ∷ []
