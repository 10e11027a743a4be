-- What the lines that ask are answered, in the documents' words: a line with its library call's figures, or with its refusal. So a reply's numbers are the
-- call's own, k among them.
use mathlib.Core.Bool.{Bool, true, false, cond}
use mathlib.Core.List.{List, [], ◌∷◌}
use mathlib.Core.Logic.{◌↔◌}
use mathlib.Core.Path.{◌≡◌, refl, sym, ap, ap₂, ◌∙◌}
use Prim.Native.Nat.{ℕ, ◌-◌, ◌*◌}
use native.Mathlib.Omega.{arith}
use lib.IntN.{ℤ, pos}
use Rattle.terms.specs.declared.Area.{Area}
use Rattle.terms.specs.declared.Refusal.{Refusal}
use Rattle.terms.specs.declared.Refusal.TheVariants.{OriginLimit}
use Rattle.terms.specs.Terms.{accepted, grid_accepted, answered, signed, in_signs, origin_accepted, at_post}
use Rattle.terms.proofs.Limits.{both_accepted}
use Rattle.terms.proofs.Meanings.{LengthsWithin, LengthsBeyond, SquaresBeyond, OriginWithin, OriginBeyond, origin_mean}
use Rattle.terms.proofs.Meanings.{lengths_exactly, squares_exactly, origin_exactly}
use Rattle.division.specs.Division.{whole, square_of}
use Rattle.curve.specs.Lookups.{number_to_square_at, square_to_number_at, finish_square_at}
use Rattle.curve.proofs.Demands.{found, number_asked, square_asked}
use Rattle.curve.proofs.Moved.{finish_at_post}
use Rattle.curve.proofs.Refused.{finish_refused_1, finish_refused_13, finish_answered}
use Rattle.lines.specs.Lines.{AREA, ORIGIN, N, S, request, Spelt, SpeltSigned, SaysOne, SaysTwo}
use Rattle.lines.proofs.Asking.{number_spelt, area_spelt, origin_spelt, square_spelt}
use Rattle.clerk.specs.declared.Reply as Replies
use Rattle.std.specs.Prelude.{Some, None, Ok, Err}
use Rattle.clerk.specs.Clerk as spec
use Rattle.clerk.proofs.Handling.{nth_number, call_refused_exactly, call_answered}
use Rattle.clerk.proofs.InForce.{in_force}

-- "5, 6, 8": a line that is refused for what it says.
pub line_refused : (clerk : spec.InForce) (line : List ℕ) (r : Refusal) → request line ≡ Err r
    → spec.reply clerk line ≡ spec.refuses r
unfolding spec.reply
line_refused clerk line r e = ap (spec.reply_to (spec.counted clerk)) e

-- "CELL x y k": the line `N i`, its number in either spelling, under an area, with the figures of number to square, or its refusal; and 7 with no area.
module _ (i : ℕ) (line : List ℕ) (says : SaysOne N i line) where
  pub cell_replied : (area : Area) (x y : ℤ) (k : ℕ) → number_to_square_at area i ≡ found x y k
      → spec.reply (Some area) line ≡ spec.says spec.Cell (x ∷ y ∷ pos k ∷ [])
  unfolding spec.reply
  cell_replied area x y k e =
      ap₂ spec.reply_to (in_force area (number_asked area i x y k e).on) (number_spelt line i says) ∙ ap (spec.from_call spec.Cell []) e

  pub number_refused : (area : Area) → grid_accepted area ≡ true → (n : ℕ) → (n ≡ 0 → ⊥)
      → (spec.reply (Some area) line ≡ spec.says spec.Refused (pos n ∷ [])) ↔ ((number_to_square_at area i).refusal ≡ n)
  unfolding spec.reply
  number_refused area on n some =
      let is = ap₂ spec.reply_to (in_force area on) (number_spelt line i says) in
      let law = call_refused_exactly spec.Cell [] (number_to_square_at area i) (λ z. cc) n some in
      (λ e. law.0 (sym is ∙ e), λ e. is ∙ law.1 e)

  pub number_without_area : spec.reply None line ≡ spec.says spec.Refused (pos 7 ∷ [])
  unfolding spec.reply
  number_without_area = ap (spec.reply_to None) (number_spelt line i says)

-- "NUMBER i k": the line `S x y`, likewise.
module _ (x y : ℤ) (line : List ℕ) (says : SaysTwo SpeltSigned S x y line) where
  pub number_replied : (area : Area) (i k : ℕ) → square_to_number_at area x y ≡ answered (i ∷ k ∷ [])
      → spec.reply (Some area) line ≡ spec.says spec.Number (pos i ∷ pos k ∷ [])
  unfolding spec.reply in_signs
  number_replied area i k e =
      let on = (square_asked area x y i k e).on in
      ap₂ spec.reply_to (in_force area on) (square_spelt x y line says) ∙ ap (λ f. spec.from_call spec.Number [] (signed f)) e

  pub square_refused : (area : Area) → grid_accepted area ≡ true → (n : ℕ) → (n ≡ 0 → ⊥)
      → (spec.reply (Some area) line ≡ spec.says spec.Refused (pos n ∷ [])) ↔ ((square_to_number_at area x y).refusal ≡ n)
  unfolding spec.reply
  square_refused area on n some =
      let is = ap₂ spec.reply_to (in_force area on) (square_spelt x y line says) in
      let law = call_refused_exactly spec.Number [] (signed (square_to_number_at area x y)) (λ z. cc) n some in
      (λ e. law.0 (sym is ∙ e), λ e. is ∙ law.1 e)

  pub square_without_area : spec.reply None line ≡ spec.says spec.Refused (pos 7 ∷ [])
  unfolding spec.reply
  square_without_area = ap (spec.reply_to None) (square_spelt x y line says)

-- "An accepted line prints `ORIGIN ox oy`", and "Refusals: 7 also for ORIGIN with no area in force; 12 for an origin beyond the range, in a line after 7".
module _ (ox oy : ℤ) (line : List ℕ) (says : SaysTwo SpeltSigned ORIGIN ox oy line) where
  origin_said : (area : Area) → grid_accepted area ≡ true → spec.reply (Some area) line ≡ spec.origin_reply ox oy
  unfolding spec.reply
  origin_said area on = ap₂ spec.reply_to (in_force area on) (origin_spelt ox oy line says)

  pub origin_replied : (area : Area) → grid_accepted area ≡ true
      → (spec.reply (Some area) line ≡ spec.says spec.OriginSaid (ox ∷ oy ∷ [])) ↔ OriginWithin ox oy
  origin_replied area on = (
    λ e. (origin_exactly ox oy).0 (by (origin_accepted ox oy) (ap (λ s. s.word) (sym (origin_said area on) ∙ e))),
    λ near. origin_said area on ∙ rw ((origin_exactly ox oy).1 near) refl,
  )
    where
      by : (t : Bool) → (cond t (spec.says spec.OriginSaid (ox ∷ oy ∷ [])) (spec.refuses OriginLimit)).word ≡ spec.OriginSaid → t ≡ true
      by true e = refl
      by false e = cc

  pub origin_refused : (area : Area) → grid_accepted area ≡ true
      → (spec.reply (Some area) line ≡ spec.says spec.Refused (pos 12 ∷ [])) ↔ OriginBeyond ox oy
  origin_refused area on = (
    λ e. (origin_mean ox oy).if_false.0 (by (origin_accepted ox oy) (ap (λ s. s.word) (sym (origin_said area on) ∙ e))),
    λ far. origin_said area on ∙ rw ((origin_mean ox oy).if_false.1 far) refl,
  )
    where
      by : (t : Bool) → (cond t (spec.says spec.OriginSaid (ox ∷ oy ∷ [])) (spec.refuses OriginLimit)).word ≡ spec.Refused → t ≡ false
      by false e = refl
      by true e = cc

  pub origin_without_area : spec.reply None line ≡ spec.says spec.Refused (pos 7 ∷ [])
  unfolding spec.reply
  origin_without_area = ap (spec.reply_to None) (origin_spelt ox oy line says)

-- "AREA w h n fx fy (n squares, finish square)", whatever was in force; 1 for two numbers that are no area, and 13 for too many squares. "AREA lines print the
-- new value": the square of number w·h - 1, at origin 0 0.
module _ (clerk : spec.InForce) (w h : ℕ) (line : List ℕ) (says : SaysTwo Spelt AREA w h line) where
  said : spec.reply clerk line ≡ spec.from_call spec.AreaSaid (pos w ∷ pos h ∷ pos (w * h) ∷ []) (finish_square_at (at_post w h))
  unfolding spec.reply
  said = ap (spec.reply_to (spec.counted clerk)) (area_spelt w h line says)

  pub area_replied : accepted w h ≡ true
      → spec.reply clerk line
      ≡ spec.says spec.AreaSaid
      (pos w ∷ pos h ∷ pos (w * h) ∷ pos (square_of (whole w h) (w * h - 1)).x ∷ pos (square_of (whole w h) (w * h - 1)).y ∷ [])
  area_replied ok = said ∙ ap (spec.from_call spec.AreaSaid (pos w ∷ pos h ∷ pos (w * h) ∷ [])) (finish_at_post w h ok)

  refused_with : (n : ℕ) → (n ≡ 0 → ⊥) → (spec.reply clerk line ≡ spec.says spec.Refused (pos n ∷ [])) ↔ ((finish_square_at (at_post w h)).refusal ≡ n)
  refused_with n some =
      let law = call_refused_exactly spec.AreaSaid (pos w ∷ pos h ∷ pos (w * h) ∷ []) (finish_square_at (at_post w h)) (λ z. cc) n some in
      (λ e. law.0 (sym said ∙ e), λ e. said ∙ law.1 e)

  pub area_refused : (spec.reply clerk line ≡ spec.says spec.Refused (pos 1 ∷ [])) ↔ LengthsBeyond w h
  area_refused =
      let law = refused_with 1 (λ z. omega arith) in
      let why = finish_refused_1 (at_post w h) in
      (λ e. why.0 (law.0 e), λ p. law.1 (why.1 p))

  -- Order 7: "Refusals: 13, directly after 1", for two lengths within the limit.
  pub squares_refused_13 : (spec.reply clerk line ≡ spec.says spec.Refused (pos 13 ∷ [])) ↔ (LengthsWithin w h × SquaresBeyond w h)
  squares_refused_13 =
      let law = refused_with 13 (λ z. omega arith) in
      let why = finish_refused_13 (at_post w h) in
      (λ e. why.0 (law.0 e), λ p. law.1 (why.1 p))

-- The fields of a reply are what their names say: the numbers of the call that the line asks for, or its own.
pub cell_fields : (i : ℕ) (line : List ℕ) → SaysOne N i line → (area : Area) → grid_accepted area ≡ true → (x y : ℤ) (k : ℕ)
    → spec.said (Ok (Replies.TheVariants.Cell x y k)) ≡ spec.reply (Some area) line → number_to_square_at area i ≡ found x y k
unfolding spec.reply
cell_fields i line says area on x y k e =
    let is = e ∙ ap₂ spec.reply_to (in_force area on) (number_spelt line i says) in
    let told = call_answered spec.Cell [] (x ∷ y ∷ pos k ∷ []) (number_to_square_at area i) (λ z. cc) is in
    λ j. record { refusal = told.0 j; values = told.1 j }

pub number_fields : (x y : ℤ) (line : List ℕ) → SaysTwo SpeltSigned S x y line → (area : Area) → grid_accepted area ≡ true → (n k : ℕ)
    → spec.said (Ok (Replies.TheVariants.Number n k)) ≡ spec.reply (Some area) line → signed (square_to_number_at area x y) ≡ signed (answered (n ∷ k ∷ []))
unfolding spec.reply in_signs
number_fields x y line says area on n k e =
    let is = e ∙ ap₂ spec.reply_to (in_force area on) (square_spelt x y line says) in
    let told = call_answered spec.Number [] (pos n ∷ pos k ∷ []) (signed (square_to_number_at area x y)) (λ z. cc) is in
    λ j. record { refusal = told.0 j; values = told.1 j }

pub area_fields : (clerk : spec.InForce) (w h : ℕ) (line : List ℕ) → SaysTwo Spelt AREA w h line → (a b squares : ℕ) (x y : ℤ)
    → spec.said (Ok (Replies.TheVariants.AreaSet a b squares x y)) ≡ spec.reply clerk line
    → (pos a ∷ pos b ∷ pos squares ∷ x ∷ y ∷ [] ≡ pos w ∷ pos h ∷ pos (w * h) ∷ (finish_square_at (at_post w h)).values) × (accepted w h ≡ true)
area_fields clerk w h line says a b squares x y e =
    let first = pos w ∷ pos h ∷ pos (w * h) ∷ [] in
    let is = e ∙ said clerk w h line says in
    let told = call_answered spec.AreaSaid first (pos a ∷ pos b ∷ pos squares ∷ x ∷ y ∷ []) (finish_square_at (at_post w h)) (λ z. cc) is in
    let p = (finish_answered (at_post w h)).0 told.0 in
    (sym told.1, both_accepted w h ((lengths_exactly w h).1 p.0) ((squares_exactly w h).1 p.1.0))

pub origin_fields : (ox oy : ℤ) (line : List ℕ) → SaysTwo SpeltSigned ORIGIN ox oy line → (area : Area) → grid_accepted area ≡ true → (a b : ℤ)
    → spec.said (Ok (Replies.TheVariants.OriginSet a b)) ≡ spec.reply (Some area) line → (a ≡ ox) × (b ≡ oy)
origin_fields ox oy line says area on a b e = by (origin_accepted ox oy) (e ∙ origin_said ox oy line says area on)
  where
    by : (t : Bool) → spec.says spec.OriginSaid (a ∷ b ∷ []) ≡ cond t (spec.says spec.OriginSaid (ox ∷ oy ∷ [])) (spec.refuses OriginLimit)
        → (a ≡ ox) × (b ≡ oy)
    by true is = (ap (nth_number 0) is, ap (nth_number 1) is)
    by false is = absurd (cc (ap (λ s. s.word) is))
