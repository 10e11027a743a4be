-- A field that may carry a minus: document 02, order 6, "The fields of ORIGIN and S may carry a minus before the digits". What stands behind the minus, and a
-- field without one, is a number as `Words` has it, padded ones included.
use Rattle.std.specs.Prelude.{cond, ◌&&◌, List, [], ◌∷◌, ◌≡◌, ℕ, ◌+◌, ◌≤◌, leb, eqb, ℤ, pos, negsuc, neg_ℤ, nat_abs, Option, Some, None}
use Rattle.terms.specs.declared.Refusal.TheVariants.{NotANumber}
use Rattle.terms.specs.Terms.{refused, SignedFigures, signed}
use Rattle.words.specs.Words.{numeral, Spelling}

-- "any magnitude over 2,147,483,647 aren't numbers"
abbrev pub largest_magnitude : ℕ
largest_magnitude = 2147483647

abbrev pub upwards : Option ℕ → Option ℤ
upwards (Some n) = cond (leb n largest_magnitude) (Some (pos n)) None
upwards None = None

-- "there `-0`, padded or not, .. aren't numbers": behind a minus a number is at least 1.
abbrev pub downwards : Option ℕ → Option ℤ
downwards (Some n) = cond (leb 1 n && leb n largest_magnitude) (Some (neg_ℤ (pos n))) None
downwards None = None

-- "a minus before the digits": byte 45, the field's first.
unfoldable pub signed_numeral : List ℕ → Option ℤ
signed_numeral [] = None
signed_numeral (b ∷ bs) = cond (eqb b 45) (downwards (numeral bs)) (upwards (numeral (b ∷ bs)))

-- The figures of a field so read: its value, or "5: a field of a line is not a number".
abbrev pub signed_numeral_figures : Option ℤ → SignedFigures
signed_numeral_figures (Some z) = record { refusal = 0; values = z ∷ [] }
signed_numeral_figures None = signed (refused NotANumber 1)

-- The spellings of a signed number: those of its magnitude, with the minus before them where it is negative. (`negsuc n` is the integer -(n + 1).)
pub data SignedSpelling (f : List ℕ) : ℤ → Type 0 where
  unsigned : {n : ℕ} → Spelling f n → SignedSpelling f (pos n)
  minus : {n : ℕ} (digits : List ℕ) → f ≡ 45 ∷ digits → Spelling digits (n + 1) → SignedSpelling f (negsuc n)

-- What a field so read is: a spelling of that number, or, where it is read as none, of no number of such a magnitude.
abbrev pub SpellsSigned : List ℕ → Option ℤ → Type 0
SpellsSigned f (Some z) = (nat_abs z ≤ largest_magnitude) × SignedSpelling f z
SpellsSigned f None = (z : ℤ) → nat_abs z ≤ largest_magnitude → SignedSpelling f z → ⊥
