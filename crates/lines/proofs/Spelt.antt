-- The two ways in which a line's field is read, as a number and as one that may carry a minus: what is read is spelt so, what is so spelt is read, and such a
-- field has a few bytes and no space.
use mathlib.Core.Bool.{Bool, true, not, ◌&&◌, and-eq-true_iff}
use mathlib.Core.List.{List, [], ◌∷◌}
use Rattle.std.specs.Prelude.{Option, Some}
use mathlib.Core.Path.{◌≡◌, refl, subst⁻¹}
use Prim.Native.Nat.{ℕ, ◌+◌, ◌≤◌}
use native.Mathlib.Omega.{arith}
use borrow.Author.Tests.{leb-true, ne_eqb}
use lib.Dec.{leb, eqb}
use lib.IntN.{ℤ, pos, negsuc, nat_abs}
use lib.ListN.{length}
use Rattle.words.specs.Words.{largest_number, is_digit, all_digits, numeral, Spelling}
use Rattle.words.specs.Signed.{largest_magnitude, signed_numeral, SignedSpelling, unsigned, minus}
use Rattle.words.proofs.Decimals.{Reads, reads}
use Rattle.words.proofs.Spellings.{read_so, two_spellings}
use Rattle.words.proofs.Signs.{read_signed, signed_spelt}
use Rattle.lines.specs.Lines.{Spelt, SpeltSigned}

-- Bytes none of which is a space, as a word's and a number's.
unfoldable pub spaceless : List ℕ → Bool
spaceless [] = true
spaceless (b ∷ bs) = not (eqb b 32) && spaceless bs

-- A field that can hold a number: some bytes, and no space.
pub record Filled (f : List ℕ) : Type 0 where
  pub any : 1 ≤ length f
  pub whole : spaceless f ≡ true

pub record Way {A : Type 0} (read : List ℕ → Option A) (Spelling : List ℕ → A → Type 0) : Type 0 where
  pub says : (f : List ℕ) (n : A) → read f ≡ Some n → Spelling f n
  pub reads : (f : List ℕ) (n : A) → Spelling f n → read f ≡ Some n
  pub filled : (f : List ℕ) (n : A) → Spelling f n → Filled f
  pub few : (f : List ℕ) (n : A) → Spelling f n → length f ≤ 11

-- a number's digits
digits_spaceless : (f : List ℕ) → all_digits f ≡ true → spaceless f ≡ true
unfolding all_digits spaceless
digits_spaceless [] e = refl
digits_spaceless (b ∷ f) e =
    let both = (and-eq-true_iff (is_digit b) (all_digits f)).0 e in
    let low = leb-true 48 b ((and-eq-true_iff (leb 48 b) (leb b 57)).0 both.0).0 in
    rw (ne_eqb b 32 (λ z. omega arith)) (digits_spaceless f both.1)

read_spelt : (f : List ℕ) (n : ℕ) → n ≤ largest_number → Spelling f n → Reads f n
read_spelt f n l s = reads f n (read_so f n l s)

pub plain : Way numeral Spelt
plain =
    record {
      says = λ f n e. ((reads f n e).most, two_spellings f n e);
      reads = λ f n s. read_so f n s.0 s.1;
      filled = λ f n s. let r = read_spelt f n s.0 s.1 in record { any = r.some; whole = digits_spaceless f r.digits };
      few = λ f n s. let r = read_spelt f n s.0 s.1 in let l = r.few in omega arith;
    }

-- a spelling with a minus has one byte more
record Short (f : List ℕ) : Type 0 where
  filled : Filled f
  few : length f ≤ 11

behind_minus : (digits : List ℕ) {m : ℕ} → Reads digits m → Short (45 ∷ digits)
unfolding spaceless
behind_minus digits r =
    let most = r.few in
    record { filled = record { any = omega arith; whole = digits_spaceless digits r.digits }; few = omega arith }

signed_short : (f : List ℕ) (z : ℤ) → nat_abs z ≤ largest_magnitude → SignedSpelling f z → Short f
signed_short f (pos n) l (unsigned s) =
    let r = read_spelt f n (omega arith) s in
    let most = r.few in
    record { filled = record { any = r.some; whole = digits_spaceless f r.digits }; few = omega arith }
signed_short f (negsuc n) l (minus digits is s) = subst⁻¹ Short is (behind_minus digits (read_spelt digits (n + 1) (omega arith) s))

pub signed : Way signed_numeral SpeltSigned
signed =
    record {
      says = signed_spelt;
      reads = λ f z s. read_signed f z s.0 s.1;
      filled = λ f z s. (signed_short f z s.0 s.1).filled;
      few = λ f z s. (signed_short f z s.0 s.1).few;
    }
