-- When a line is refused with 8, 6 or 5 for what it says, and when it asks for something: exactly, by its bytes, for every line. "For a line it is 8, 6, 5".
use mathlib.Core.Bool.{Bool, true, false}
use mathlib.Core.List.{List}
use mathlib.Core.Logic.{◌↔◌, ◌⊎◌, inl, inr}
use Rattle.std.specs.Prelude.{Option, Some, None, Err}
use mathlib.Core.Path.{◌≡◌, refl, sym, ap, subst, ◌∙◌}
use Prim.Native.Nat.{ℕ, ◌≤◌, ◌<◌}
use native.Mathlib.Omega.{arith}
use borrow.Author.Tests.{leb-true, leb-false}
use lib.Dec.{leb}
use lib.IntN.{ℤ}
use lib.ListN.{length}
use Rattle.terms.specs.declared.Refusal.{Refusal}
use Rattle.terms.specs.declared.Refusal.TheVariants.{NotANumber, WrongShape, LongLine}
use Rattle.terms.proofs.Refusals.{refusal_one, refusal_some}
use Rattle.lines.specs.declared.Request.{Request}
use Rattle.lines.specs.declared.Request.TheVariants.{SetArea, SetOrigin, AskNumber, AskSquare}
use Rattle.lines.specs.Lines.{AREA, ORIGIN, S, request, asked, SaysTwo, Says}
use Rattle.words.specs.Words.{numeral}
use Rattle.lines.proofs.Spelt.{Way, plain, signed}
use Rattle.lines.proofs.Shapes.{long_line}
use Rattle.lines.proofs.Asking.{with_two, AskedTwo, Shaped, n_shaped, area_shaped, origin_shaped, s_shaped, shaped_or_refused}
use Rattle.lines.proofs.Asking.{number_line, area_line, origin_line, square_line, number_spelt, area_spelt, origin_spelt, square_spelt}

-- A line that is a known word and its numbers, each in one of its spellings.
pub data Asking (line : List ℕ) : Type 0 where
  asks_area : (w h : ℕ) → Says (SetArea w h) line → Asking line
  asks_origin : (ox oy : ℤ) → Says (SetOrigin ox oy) line → Asking line
  asks_number : (i : ℕ) → Says (AskNumber i) line → Asking line
  asks_square : (x y : ℤ) → Says (AskSquare x y) line → Asking line

-- the numeral of what a line is refused with, 0 for none
abbrev refusal_of : List ℕ → ℕ
refusal_of line = (asked (request line)).refusal

asking_passes : (line : List ℕ) → Asking line → refusal_of line ≡ 0
asking_passes line (asks_area w h says) = ap (λ q. (asked q).refusal) (area_spelt w h line says)
asking_passes line (asks_origin ox oy says) = ap (λ q. (asked q).refusal) (origin_spelt ox oy line says)
asking_passes line (asks_number i says) = ap (λ q. (asked q).refusal) (number_spelt line i says)
asking_passes line (asks_square x y says) = ap (λ q. (asked q).refusal) (square_spelt x y line says)

-- a line of a known shape asks, or a field of it is no number
module _ {A : Type 0} {read : List ℕ → Option A} {Spelling : List ℕ → A → Type 0} (way : Way read Spelling) (ask : A → A → Request) (line known f g : List ℕ)
    (is : line ≡ with_two known f g) where
  two_asked : AskedTwo read ask f g (request (with_two known f g)) → ((x y : A) → SaysTwo Spelling known x y line → Asking line)
      → Asking line ⊎ (request line ≡ Err NotANumber)
  two_asked law asks = by (read f) (read g) refl refl
    where
      by : (m n : Option A) → read f ≡ m → read g ≡ n → Asking line ⊎ (request line ≡ Err NotANumber)
      by (Some x) (Some y) p q = inl (asks x y (record { first = f; second = g; first_spelt = way.says f x p; second_spelt = way.says g y q; is = is }))
      by None n p q = inr (ap request is ∙ law.1 p)
      by (Some x) None p q = inr (ap request is ∙ law.2 q)

shaped_asks : (line : List ℕ) → length line ≤ 64 → Shaped line → Asking line ⊎ (request line ≡ Err NotANumber)
shaped_asks line l (n_shaped f filled is) = by (numeral f) refl
  where
    by : (n : Option ℕ) → numeral f ≡ n → Asking line ⊎ (request line ≡ Err NotANumber)
    by (Some i) e = inl (asks_number i (record { field = f; spelt = plain.says f i e; is = is }))
    by None e = inr (ap request is ∙ (number_line f filled (subst (λ (l : List ℕ). length l ≤ 64) is l)).1 e)
shaped_asks line l (area_shaped f g p q is) =
    two_asked plain SetArea line AREA f g is (area_line f g p q (subst (λ (l : List ℕ). length l ≤ 64) is l)) asks_area
shaped_asks line l (origin_shaped f g p q is) =
    two_asked signed SetOrigin line ORIGIN f g is (origin_line f g p q (subst (λ (l : List ℕ). length l ≤ 64) is l)) asks_origin
shaped_asks line l (s_shaped f g p q is) =
    two_asked signed AskSquare line S f g is (square_line f g p q (subst (λ (l : List ℕ). length l ≤ 64) is l)) asks_square

-- Every line is one of four: too long, of no shape, with a field that is no numeral, or one that asks.
data Judged (line : List ℕ) : Type 0 where
  too_long : 64 < length line → request line ≡ Err LongLine → Judged line
  unshaped : length line ≤ 64 → (Shaped line → ⊥) → request line ≡ Err WrongShape → Judged line
  misread : length line ≤ 64 → Shaped line → (Asking line → ⊥) → request line ≡ Err NotANumber → Judged line
  asking : Shaped line → Asking line → Judged line

judged : (line : List ℕ) → Judged line
judged line = by_length (leb (length line) 64) refl
  where
    not_asking : (n : ℕ) → refusal_of line ≡ n → (n ≡ 0 → ⊥) → Asking line → ⊥
    not_asking n e not_0 asks = not_0 (sym e ∙ asking_passes line asks)

    by_asking : length line ≤ 64 → Shaped line → Asking line ⊎ (request line ≡ Err NotANumber) → Judged line
    by_asking l shape (inl asks) = asking shape asks
    by_asking l shape (inr e) = misread l shape (not_asking 5 (ap (λ q. (asked q).refusal) e) (λ z. omega arith)) e

    no_shape : length line ≤ 64 → request line ≡ Err WrongShape → Asking line ⊎ (request line ≡ Err NotANumber) → ⊥
    no_shape l e (inl asks) = not_asking 6 (ap (λ q. (asked q).refusal) e) (λ z. omega arith) asks
    no_shape l e (inr other) = omega (arith, ap (λ q. (asked q).refusal) (sym e ∙ other))

    by_shape : length line ≤ 64 → Shaped line ⊎ (request line ≡ Err WrongShape) → Judged line
    by_shape l (inl shape) = by_asking l shape (shaped_asks line l shape)
    by_shape l (inr e) = unshaped l (λ shape. no_shape l e (shaped_asks line l shape)) e

    by_length : (short : Bool) → leb (length line) 64 ≡ short → Judged line
    by_length true e = let l = leb-true (length line) 64 e in by_shape l (shaped_or_refused line l)
    by_length false e = let l = leb-false (length line) 64 e in too_long l (sym (long_line line l))

module _ (line : List ℕ) where
  -- "8: a line has over 64 bytes"
  pub line_refused_8 : (request line ≡ Err LongLine) ↔ (64 < length line)
  line_refused_8 = (λ e. by (judged line) (ap (λ q. (asked q).refusal) e), λ l. sym (long_line line l))
    where
      by : Judged line → refusal_of line ≡ 8 → 64 < length line
      by (too_long l is) e = l
      by (unshaped l never is) e = absurd (omega (arith, ap (λ q. (asked q).refusal) is))
      by (misread l shape never is) e = absurd (omega (arith, ap (λ q. (asked q).refusal) is))
      by (asking shape asks) e = absurd (omega (arith, asking_passes line asks))

  -- "An unknown first word, a missing, extra or empty field, or an empty line is refusal 6": a line of none of the four shapes
  pub line_refused_6 : (request line ≡ Err WrongShape) ↔ ((length line ≤ 64) × (Shaped line → ⊥))
  line_refused_6 = (λ e. by (judged line) (ap (λ q. (asked q).refusal) e), λ p. back (judged line) p.0 p.1)
    where
      by : Judged line → refusal_of line ≡ 6 → (length line ≤ 64) × (Shaped line → ⊥)
      by (too_long l is) e = absurd (omega (arith, ap (λ q. (asked q).refusal) is))
      by (unshaped l never is) e = (l, never)
      by (misread l shape never is) e = absurd (omega (arith, ap (λ q. (asked q).refusal) is))
      by (asking shape asks) e = absurd (omega (arith, asking_passes line asks))

      back : Judged line → length line ≤ 64 → (Shaped line → ⊥) → request line ≡ Err WrongShape
      back (too_long l is) short other = absurd (omega arith)
      back (unshaped l never is) short other = is
      back (misread l shape never is) short other = absurd (other shape)
      back (asking shape asks) short other = absurd (other shape)

  -- "5: a field of a line is not a number": a line of one of the four shapes that spells no numbers
  pub line_refused_5 : (request line ≡ Err NotANumber) ↔ ((length line ≤ 64) × (Shaped line × (Asking line → ⊥)))
  line_refused_5 = (λ e. by (judged line) (ap (λ q. (asked q).refusal) e), λ p. back (judged line) p.0 p.1.0 p.1.1)
    where
      by : Judged line → refusal_of line ≡ 5 → (length line ≤ 64) × (Shaped line × (Asking line → ⊥))
      by (too_long l is) e = absurd (omega (arith, ap (λ q. (asked q).refusal) is))
      by (unshaped l never is) e = absurd (omega (arith, ap (λ q. (asked q).refusal) is))
      by (misread l shape never is) e = (l, (shape, never))
      by (asking shape asks) e = absurd (omega (arith, asking_passes line asks))

      back : Judged line → length line ≤ 64 → Shaped line → (Asking line → ⊥) → request line ≡ Err NotANumber
      back (too_long l is) short shape other = absurd (omega arith)
      back (unshaped l never is) short shape other = absurd (never shape)
      back (misread l s never is) short shape other = is
      back (asking s asks) short shape other = absurd (other asks)

  -- and any other line says what it asks
  pub line_asks : ((asked (request line)).refusal ≡ 0) ↔ Asking line
  line_asks = (by (judged line), asking_passes line)
    where
      by : Judged line → refusal_of line ≡ 0 → Asking line
      by (too_long l is) e = absurd (omega (arith, ap (λ q. (asked q).refusal) is))
      by (unshaped l never is) e = absurd (omega (arith, ap (λ q. (asked q).refusal) is))
      by (misread l shape never is) e = absurd (omega (arith, ap (λ q. (asked q).refusal) is))
      by (asking shape asks) e = asks

  -- No line is refused for another reason by what it says.
  pub line_refused_so : (r : Refusal) → request line ≡ Err r → (r ≡ LongLine) ⊎ ((r ≡ WrongShape) ⊎ (r ≡ NotANumber))
  line_refused_so r e = by (judged line)
    where
      same : (s : Refusal) → request line ≡ Err s → r ≡ s
      same s is = refusal_one r s (ap (λ q. (asked q).refusal) (sym e ∙ is))

      by : Judged line → (r ≡ LongLine) ⊎ ((r ≡ WrongShape) ⊎ (r ≡ NotANumber))
      by (too_long l is) = inl (same LongLine is)
      by (unshaped l never is) = inr (inl (same WrongShape is))
      by (misread l shape never is) = inr (inr (same NotANumber is))
      by (asking shape asks) = absurd (refusal_some r (sym (ap (λ q. (asked q).refusal) e) ∙ asking_passes line asks))
