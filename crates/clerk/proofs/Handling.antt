-- A reply from a library call's figures: when it is refused with a number, and when it is answered with some; and the clerk after a refused line.
use mathlib.Core.Bool.{Bool, true, false, cond}
use mathlib.Core.List.{List, [], ◌∷◌, ◌++◌}
use mathlib.Core.Logic.{◌↔◌}
use mathlib.Core.Path.{◌≡◌, refl, sym, ap, ◌∙◌}
use Prim.Native.Nat.{ℕ, ◌*◌, ◌<◌}
use native.Mathlib.Omega.{arith}
use borrow.Author.Tests.{ne_eqb, eqb-true}
use lib.Dec.{eqb}
use lib.IntN.{ℤ, pos, nat_abs}
use lib.ListN.{get_or}
use Rattle.terms.specs.declared.Refusal.{Refusal}
use Rattle.terms.specs.Terms.{past_32_bits, SignedFigures, at_post}
use Rattle.std.specs.Prelude.{Result, Ok, Err, None}
use Rattle.curve.specs.declared.Square.{Square}
use Rattle.curve.specs.Lookups.{finish_square_at, finish_figures}
use Rattle.curve.proofs.Refused.{finish_answered}
use Rattle.lines.specs.declared.Request.{Request}
use Rattle.clerk.specs.Clerk as spec

-- the i-th number of what is said
abbrev pub nth_number : ℕ → spec.Said → ℤ
nth_number i s = get_or s.numbers i (pos 0)

-- a call's reply says REFUSED n exactly if the call is refused with n
pub call_refused_exactly : (word : spec.Word) (first : List ℤ) (f : SignedFigures) → (word ≡ spec.Refused → ⊥) → (n : ℕ) → (n ≡ 0 → ⊥)
    → (spec.from_call word first f ≡ spec.says spec.Refused (pos n ∷ [])) ↔ (f.refusal ≡ n)
call_refused_exactly word first f other n some = (to (eqb f.refusal 0), λ e. rw (ne_eqb f.refusal 0 (λ z. some (sym e ∙ z)), e) refl)
  where
    to : (t : Bool) → cond t (spec.says word (first ++ f.values)) (spec.says spec.Refused (pos f.refusal ∷ [])) ≡ spec.says spec.Refused (pos n ∷ [])
        → f.refusal ≡ n
    to true e = absurd (other (ap (λ s. s.word) e))
    to false e = ap (λ s. nat_abs (nth_number 0 s)) e

-- and a call's reply with a word says that word's numbers exactly if the call is answered with them
pub call_answered : (word : spec.Word) (first numbers : List ℤ) (f : SignedFigures) → (word ≡ spec.Refused → ⊥)
    → spec.says word numbers ≡ spec.from_call word first f → (f.refusal ≡ 0) × (first ++ f.values ≡ numbers)
call_answered word first numbers f other = by (eqb f.refusal 0) refl
  where
    by : (t : Bool) → eqb f.refusal 0 ≡ t
        → spec.says word numbers ≡ cond t (spec.says word (first ++ f.values)) (spec.says spec.Refused (pos f.refusal ∷ []))
        → (f.refusal ≡ 0) × (first ++ f.values ≡ numbers)
    by true is e = (eqb-true f.refusal 0 is, ap (λ s. s.numbers) (sym e))
    by false is e = absurd (other (ap (λ s. s.word) e))

-- a finish square is found under an accepted area, whose squares are a 32-bit number
pub found_fits : (w h : ℕ) (s : Square) → finish_figures (Ok s) ≡ finish_square_at (at_post w h) → w * h < past_32_bits
found_fits w h s e = let few = ((finish_answered (at_post w h)).0 (ap (λ f. f.refusal) (sym e))).1.0 in omega arith

-- the clerk after a refused line, which begins with AREA or ORIGIN or does not
module _ (held : spec.InForce) {begins : Bool} {q : Result Request Refusal} {r : Refusal} (is : q ≡ Err r) where
  pub left_none : begins ≡ true → None ≡ spec.clerk_after held begins q
  left_none e = sym (ap (spec.clerk_after held begins) is ∙ rw e refl)

  pub left_alone : begins ≡ false → held ≡ spec.clerk_after held begins q
  left_alone e = sym (ap (spec.clerk_after held begins) is ∙ rw e refl)
