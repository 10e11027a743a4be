-- When a line is refused with 8, 6, 5 or 7: exactly, for every clerk and every line. "For a line it is 8, 6, 5, 7, then the library's order", and no call of
-- the library gives one of these.
use mathlib.Core.Bool.{Bool, true, false, cond}
use mathlib.Core.List.{List, [], ◌∷◌}
use mathlib.Core.Logic.{◌↔◌, ◌⊎◌, inl, inr}
use mathlib.Core.Path.{◌≡◌, refl, ap, ap₂}
use Prim.Native.Nat.{ℕ, ◌*◌, ◌≤◌, ◌<◌}
use native.Mathlib.Omega.{arith}
use lib.IntN.{ℤ, pos, nat_abs}
use lib.ListN.{length}
use Rattle.terms.specs.declared.Area.{Area}
use Rattle.terms.specs.declared.Refusal.{Refusal}
use Rattle.terms.specs.declared.Refusal as Refusals
use Rattle.terms.specs.declared.Refusal.TheVariants.{NotANumber, WrongShape, LongLine, OriginLimit}
use Rattle.terms.specs.Terms.{refusal_number, SignedFigures, origin_accepted, at_post, signed}
use Rattle.terms.proofs.Refusals.{refusal_one, refusal_some}
use Rattle.terms.proofs.Guards.{stands}
use Rattle.curve.specs.Lookups.{number_guards, square_guards, finish_guards, number_to_square_at, square_to_number_at, finish_square_at}
use Rattle.curve.proofs.Refused.{number_no_other, square_no_other, finish_no_other}
use Rattle.lines.specs.declared.Request.{Request}
use Rattle.lines.specs.declared.Request.TheVariants.{SetArea, SetOrigin, AskNumber, AskSquare}
use Rattle.lines.specs.Lines.{request, Says}
use Rattle.lines.proofs.Asking.{Shaped, SaysIfAsked, says_so, number_spelt, origin_spelt, square_spelt}
use Rattle.lines.proofs.Refused.{Asking, line_refused_8, line_refused_6, line_refused_5, line_refused_so}
use Rattle.std.specs.Prelude.{Some, None, Result, Ok, Err}
use Rattle.clerk.specs.Clerk as spec
use Rattle.clerk.proofs.Handling.{nth_number, call_refused_exactly}
use Rattle.clerk.proofs.Answered.{line_refused}

-- a refusal is told from what is said
same_refused : (r s : Refusal) → spec.refuses r ≡ spec.refuses s → r ≡ s
same_refused r s e = refusal_one r s (ap (λ said. nat_abs (nth_number 0 said)) e)

-- A refusal of a line's own: it stands in no list of a call, and is not an origin's.
record Own (r : Refusal) : Type 0 where
  no_finish : (area : Area) → stands r (finish_guards area) ≡ false
  no_number : (area : Area) (i : ℕ) → stands r (number_guards area i) ≡ false
  no_square : (area : Area) (x y : ℤ) → stands r (square_guards area x y) ≡ false
  no_origin : OriginLimit ≡ r → ⊥

own_8 : Own LongLine
own_8 = record { no_finish = λ a. refl; no_number = λ a i. refl; no_square = λ a x y. refl; no_origin = λ e. omega (arith, ap refusal_number e) }

own_6 : Own WrongShape
own_6 = record { no_finish = λ a. refl; no_number = λ a i. refl; no_square = λ a x y. refl; no_origin = λ e. omega (arith, ap refusal_number e) }

own_5 : Own NotANumber
own_5 = record { no_finish = λ a. refl; no_number = λ a i. refl; no_square = λ a x y. refl; no_origin = λ e. omega (arith, ap refusal_number e) }

own_7 : Own Refusals.TheVariants.NoArea
own_7 = record { no_finish = λ a. refl; no_number = λ a i. refl; no_square = λ a x y. refl; no_origin = λ e. omega (arith, ap refusal_number e) }

-- a request that needs an area in force
abbrev NeedsArea : Result Request Refusal → Type 0
NeedsArea (Ok (SetArea w h)) = ⊥
NeedsArea (Ok (SetOrigin ox oy)) = Unit {0}
NeedsArea (Ok (AskNumber i)) = Unit {0}
NeedsArea (Ok (AskSquare x y)) = Unit {0}
NeedsArea (Err r) = ⊥

-- What it is to be refused so: the request itself is, or no area is in force and the request needs one.
module _ {r : Refusal} (own : Own r) where
  by_call : (word : spec.Word) → (word ≡ spec.Refused → ⊥) → (first : List ℤ) (f : SignedFigures) → (f.refusal ≡ refusal_number r → ⊥)
      → spec.from_call word first f ≡ spec.refuses r → ⊥
  by_call word other first f never e = never ((call_refused_exactly word first f other (refusal_number r) (refusal_some r)).0 e)

  by_origin : (ox oy : ℤ) → spec.origin_reply ox oy ≡ spec.refuses r → ⊥
  by_origin ox oy = by (origin_accepted ox oy)
    where
      by : (t : Bool) → cond t (spec.says spec.OriginSaid (ox ∷ oy ∷ [])) (spec.refuses OriginLimit) ≡ spec.refuses r → ⊥
      by true e = cc (ap (λ s. s.word) e)
      by false e = own.no_origin (same_refused OriginLimit r e)

  refused_by : (held : spec.InForce) (q : Result Request Refusal) → spec.reply_to held q ≡ spec.refuses r
      → (q ≡ Err r) ⊎ ((held ≡ None) × (NeedsArea q × (Refusals.TheVariants.NoArea ≡ r)))
  refused_by held (Err s) e = inl (ap Err (same_refused s r e))
  refused_by held (Ok (SetArea w h)) e =
      let f = finish_square_at (at_post w h) in
      absurd (by_call spec.AreaSaid (λ z. cc) (pos w ∷ pos h ∷ pos (w * h) ∷ []) f (finish_no_other (at_post w h) r (own.no_finish (at_post w h))) e)
  refused_by None (Ok (SetOrigin ox oy)) e = inr (refl, (tt, same_refused Refusals.TheVariants.NoArea r e))
  refused_by None (Ok (AskNumber i)) e = inr (refl, (tt, same_refused Refusals.TheVariants.NoArea r e))
  refused_by None (Ok (AskSquare x y)) e = inr (refl, (tt, same_refused Refusals.TheVariants.NoArea r e))
  refused_by (Some a) (Ok (SetOrigin ox oy)) e = absurd (by_origin ox oy e)
  refused_by (Some a) (Ok (AskNumber i)) e =
      absurd (by_call spec.Cell (λ z. cc) [] (number_to_square_at a i) (number_no_other a i r (own.no_number a i)) e)
  refused_by (Some a) (Ok (AskSquare x y)) e =
      absurd (by_call spec.Number (λ z. cc) [] (signed (square_to_number_at a x y)) (square_no_other a x y r (own.no_square a x y)) e)

-- A line that needs an area in force: "N or S line", "also for ORIGIN", with its numbers in whichever spellings.
pub data OfArea (line : List ℕ) : Type 0 where
  of_number : (i : ℕ) → Says (AskNumber i) line → OfArea line
  of_square : (x y : ℤ) → Says (AskSquare x y) line → OfArea line
  of_origin : (ox oy : ℤ) → Says (SetOrigin ox oy) line → OfArea line

module _ (clerk : spec.InForce) (line : List ℕ) where
  early : {r : Refusal} → Own r → (Refusals.TheVariants.NoArea ≡ r → ⊥)
      → (spec.reply clerk line ≡ spec.refuses r) ↔ (request line ≡ Err r)
  unfolding spec.reply
  early {r} own other = (λ e. by (refused_by own (spec.counted clerk) (request line) e), line_refused clerk line r)
    where
      by : (request line ≡ Err r) ⊎ ((spec.counted clerk ≡ None) × (NeedsArea (request line) × (Refusals.TheVariants.NoArea ≡ r)))
          → request line ≡ Err r
      by (inl is) = is
      by (inr area) = absurd (other area.1.1)

  -- "8: a line has over 64 bytes"
  pub reply_refused_8 : (spec.reply clerk line ≡ spec.says spec.Refused (pos 8 ∷ [])) ↔ (64 < length line)
  reply_refused_8 =
      let law = early own_8 (λ e. omega (arith, ap refusal_number e)) in
      let why = line_refused_8 line in
      (λ e. why.0 (law.0 e), λ p. law.1 (why.1 p))

  -- "6: a line has the wrong shape"
  pub reply_refused_6 : (spec.reply clerk line ≡ spec.says spec.Refused (pos 6 ∷ [])) ↔ ((length line ≤ 64) × (Shaped line → ⊥))
  reply_refused_6 =
      let law = early own_6 (λ e. omega (arith, ap refusal_number e)) in
      let why = line_refused_6 line in
      (λ e. why.0 (law.0 e), λ p. law.1 (why.1 p))

  -- "5: a field of a line is not a number"
  pub reply_refused_5 : (spec.reply clerk line ≡ spec.says spec.Refused (pos 5 ∷ [])) ↔ ((length line ≤ 64) × (Shaped line × (Asking line → ⊥)))
  reply_refused_5 =
      let law = early own_5 (λ e. omega (arith, ap refusal_number e)) in
      let why = line_refused_5 line in
      (λ e. why.0 (law.0 e), λ p. law.1 (why.1 p))

  -- "7: N or S line with no area in force", "also for ORIGIN": a clerk that counts as one with no area, and a line that needs one
  pub reply_refused_7 : (spec.reply clerk line ≡ spec.says spec.Refused (pos 7 ∷ [])) ↔ ((spec.counted clerk ≡ None) × OfArea line)
  unfolding spec.reply
  reply_refused_7 = (λ e. by (refused_by own_7 (spec.counted clerk) (request line) e), λ p. back p.0 p.1)
    where
      needs : (q : Result Request Refusal) → SaysIfAsked q line → NeedsArea q → OfArea line
      needs (Ok (SetArea w h)) says n = absurd n
      needs (Ok (SetOrigin ox oy)) says n = of_origin ox oy says
      needs (Ok (AskNumber i)) says n = of_number i says
      needs (Ok (AskSquare x y)) says n = of_square x y says
      needs (Err r) says n = absurd n

      not_so : (Refusals.TheVariants.NoArea ≡ LongLine) ⊎ ((Refusals.TheVariants.NoArea ≡ WrongShape) ⊎ (Refusals.TheVariants.NoArea ≡ NotANumber)) → ⊥
      not_so (inl e) = omega (arith, ap refusal_number e)
      not_so (inr (inl e)) = omega (arith, ap refusal_number e)
      not_so (inr (inr e)) = omega (arith, ap refusal_number e)

      by : (request line ≡ Err Refusals.TheVariants.NoArea)
          ⊎ ((spec.counted clerk ≡ None) × (NeedsArea (request line) × (Refusals.TheVariants.NoArea ≡ Refusals.TheVariants.NoArea)))
          → (spec.counted clerk ≡ None) × OfArea line
      by (inl is) = absurd (not_so (line_refused_so line Refusals.TheVariants.NoArea is))
      by (inr none) = (none.0, needs (request line) (says_so line) none.1.0)

      back : spec.counted clerk ≡ None → OfArea line → spec.reply_to (spec.counted clerk) (request line) ≡ spec.says spec.Refused (pos 7 ∷ [])
      back none (of_number i says) = ap₂ spec.reply_to none (number_spelt line i says)
      back none (of_square x y says) = ap₂ spec.reply_to none (square_spelt x y line says)
      back none (of_origin ox oy says) = ap₂ spec.reply_to none (origin_spelt ox oy line says)
