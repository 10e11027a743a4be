-- Two answers that meet a promise are one: an answer can be told from its figures. And the fields of an answer are what their names say.
use mathlib.Core.Bool.{cond}
use mathlib.Core.Path.{◌≡◌, refl, sym, ap, ◌∙◌}
use Prim.Native.Nat.{ℕ, ◌-◌, ◌*◌}
use lib.Dec.{eqb}
use lib.IntN.{ℤ, pos, ◌+ℤ◌}
use lib.Signed.{mag}
use Rattle.terms.specs.declared.Area.{Area}
use Rattle.terms.specs.Terms.{Figures, SignedFigures}
use Rattle.terms.proofs.Refusals.{named, named_back, refusal_not_0, figure, signed_figure}
use Rattle.terms.proofs.Limits.{all_accepted}
use Rattle.terms.proofs.Meanings.{lengths_exactly, squares_exactly, origin_exactly}
use Rattle.terms.proofs.OneAnswer.{by_figures}
use Rattle.division.specs.Division.{square_of}
use Rattle.std.specs.Prelude.{Result, Ok, Err}
use Rattle.terms.specs.declared.Refusal.{Refusal}
use Rattle.curve.specs.declared.FoundSquare.{FoundSquare}
use Rattle.searches.specs.declared.Numbered.{Numbered}
use Rattle.curve.specs.declared.Square as OnGrid
use Rattle.curve.specs.Lookups.{all, number_to_square_at, square_to_number_at, finish_square_at, square_figures, number_figures, finish_figures}
use Rattle.curve.proofs.Finish.{finish_answered_at}
use Rattle.curve.proofs.Demands.{NumberAnswered, number_asked, SquareAnswered, square_asked}
use Rattle.curve.proofs.Refused.{finish_answered}

-- the answers that are no refusal, by their fields
abbrev pub square_answer : (x y : ℤ) (blocks : ℕ) → Result FoundSquare Refusal
square_answer x y k = Ok (record { x = x; y = y; blocks = k })

abbrev pub number_answer : (number blocks : ℕ) → Result Numbered Refusal
number_answer n k = Ok (record { number = n; blocks = k })

abbrev pub finish_answer : (x y : ℤ) → Result OnGrid.Square Refusal
finish_answer x y = Ok (record { x = x; y = y })

square_from : SignedFigures → Result FoundSquare Refusal
square_from f =
    cond (eqb f.refusal 0) (square_answer (signed_figure 0 f) (signed_figure 1 f) (mag (signed_figure 2 f)))
    (Err (named f.refusal))

square_told : (r : Result FoundSquare Refusal) → square_from (square_figures r) ≡ r
unfolding square_from
square_told (Ok s) = refl
square_told (Err r) = rw (refusal_not_0 r) (ap Err (named_back r))

pub square_one : (r s : Result FoundSquare Refusal) {f : SignedFigures} → square_figures r ≡ f → square_figures s ≡ f → r ≡ s
square_one = by_figures square_figures square_from square_told

number_from : Figures → Result Numbered Refusal
number_from f =
    cond (eqb f.refusal 0) (number_answer (figure 0 f) (figure 1 f)) (Err (named f.refusal))

number_told : (r : Result Numbered Refusal) → number_from (number_figures r) ≡ r
unfolding number_from
number_told (Ok n) = refl
number_told (Err r) = rw (refusal_not_0 r) (ap Err (named_back r))

pub number_one : (r s : Result Numbered Refusal) {f : Figures} → number_figures r ≡ f → number_figures s ≡ f → r ≡ s
number_one = by_figures number_figures number_from number_told

finish_from : SignedFigures → Result OnGrid.Square Refusal
finish_from f =
    cond (eqb f.refusal 0) (finish_answer (signed_figure 0 f) (signed_figure 1 f))
    (Err (named f.refusal))

finish_told : (r : Result OnGrid.Square Refusal) → finish_from (finish_figures r) ≡ r
unfolding finish_from
finish_told (Ok s) = refl
finish_told (Err r) = rw (refusal_not_0 r) (ap Err (named_back r))

pub finish_one : (r s : Result OnGrid.Square Refusal) {f : SignedFigures} → finish_figures r ≡ f → finish_figures s ≡ f → r ≡ s
finish_one = by_figures finish_figures finish_from finish_told

-- x and y are those of the number's square, moved by the origin, and blocks counts the blocks that hold it; the number is the square's, and so on.
module _ (area : Area) where
  pub square_fields : (n : ℕ) (x y : ℤ) (k : ℕ) → square_figures (square_answer x y k) ≡ number_to_square_at area n
      → NumberAnswered area n x y k
  square_fields n x y k e = number_asked area n x y k (sym e)

  pub number_fields : (x y : ℤ) (n k : ℕ) → number_figures (number_answer n k) ≡ square_to_number_at area x y
      → SquareAnswered area x y n k
  number_fields x y n k e = square_asked area x y n k (sym e)

  pub finish_fields : (x y : ℤ) → finish_figures (finish_answer x y) ≡ finish_square_at area →
      let s = square_of (all area) (area.w * area.h - 1) in
      (x ≡ area.ox +ℤ pos s.x) × (y ≡ area.oy +ℤ pos s.y)
  finish_fields x y e =
      let p = (finish_answered area).0 (ap (λ f. f.refusal) (sym e)) in
      let long = (lengths_exactly area.w area.h).1 p.0 in
      let few = (squares_exactly area.w area.h).1 p.1.0 in
      let near = (origin_exactly area.ox area.oy).1 p.1.1 in
      let is = e ∙ finish_answered_at area (all_accepted area long few near) in
      (ap (signed_figure 0) is, ap (signed_figure 1) is)
