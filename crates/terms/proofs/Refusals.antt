-- A refusal's number names it alone and is never 0, so that a refusal can be told from its figures.
use mathlib.Core.Bool.{false, cond}
use mathlib.Core.List.{List, [], ◌∷◌}
use mathlib.Core.Path.{◌≡◌, refl, sym, ap, ◌∙◌}
use Prim.Native.Nat.{ℕ}
use borrow.Author.Tests.{ne_eqb}
use lib.Dec.{eqb}
use lib.IntN.{ℤ, pos}
use lib.ListN.{length, get_or}
use native.Mathlib.Omega.{arith}
use Rattle.terms.specs.declared.Refusal.{Refusal}
use Rattle.terms.specs.declared.Refusal.TheVariants.{AreaLimit, SquareOutside, NumberOutside, TableLength, NotANumber, WrongShape, NoArea, LongLine}
use Rattle.terms.specs.declared.Refusal.TheVariants.{TooDeep, CornersCrossed, NoRoom, OriginLimit, TooManySquares, BadCheck, Departure}
use Rattle.terms.specs.Terms.{refusal_number, Figures, SignedFigures}

-- the refusals, and which of them has a number; this one law grows with them
refusals : List Refusal
refusals =
    AreaLimit ∷ SquareOutside ∷ NumberOutside ∷ TableLength ∷ NotANumber ∷ WrongShape ∷ NoArea ∷ LongLine ∷ TooDeep ∷ CornersCrossed ∷ NoRoom
    ∷ OriginLimit ∷ TooManySquares ∷ BadCheck ∷ Departure ∷ []

among : List Refusal → ℕ → List Refusal
among [] n = []
among (r ∷ rs) n = cond (eqb (refusal_number r) n) (r ∷ []) (among rs n)

numbered : ℕ → List Refusal
numbered n = among refusals n

numbered_back : (r : Refusal) → numbered (refusal_number r) ≡ r ∷ []
unfolding numbered among refusals
numbered_back AreaLimit = refl
numbered_back SquareOutside = refl
numbered_back NumberOutside = refl
numbered_back TableLength = refl
numbered_back NotANumber = refl
numbered_back WrongShape = refl
numbered_back NoArea = refl
numbered_back LongLine = refl
numbered_back TooDeep = refl
numbered_back CornersCrossed = refl
numbered_back NoRoom = refl
numbered_back OriginLimit = refl
numbered_back TooManySquares = refl
numbered_back BadCheck = refl
numbered_back Departure = refl

-- the refusal of a number, so that no two have one, and none has 0
pub named : ℕ → Refusal
named n = get_or (numbered n) 0 AreaLimit

pub named_back : (r : Refusal) → named (refusal_number r) ≡ r
unfolding named
named_back r = ap (λ (rs : List Refusal). get_or rs 0 AreaLimit) (numbered_back r)

pub refusal_one : (r s : Refusal) → refusal_number r ≡ refusal_number s → r ≡ s
refusal_one r s e = sym (named_back r) ∙ ap named e ∙ named_back s

pub refusal_some : (r : Refusal) → refusal_number r ≡ 0 → ⊥
unfolding numbered among refusals
refusal_some r e = let some : length (numbered 0) ≡ 1 = ap (λ n. length (numbered n)) (sym e) ∙ ap length (numbered_back r) in omega arith

pub refusal_not_0 : (r : Refusal) → eqb (refusal_number r) 0 ≡ false
refusal_not_0 r = ne_eqb (refusal_number r) 0 (refusal_some r)

-- For telling two results apart: the i-th value of some figures.
abbrev pub figure : ℕ → Figures → ℕ
figure i f = get_or f.values i 0

abbrev pub signed_figure : ℕ → SignedFigures → ℤ
signed_figure i f = get_or f.values i (pos 0)
