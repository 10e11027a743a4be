-- A field with a minus or without, read as a signed number: it is one of that number's spellings, and no other field is read so. A number's digits begin with
-- no minus, so the first byte tells which of the two a field is.
use mathlib.Core.Bool.{Bool, true, false, cond, ◌&&◌, false≢true, and-eq-true_iff}
use mathlib.Core.List.{List, [], ◌∷◌}
use mathlib.Core.Path.{◌≡◌, refl, sym, ap, subst, subst⁻¹, ◌∙◌}
use Prim.Native.Nat.{ℕ, zero, suc, ◌+◌, ◌-◌, ◌≤◌}
use native.Mathlib.Numerals.{add-one}
use native.Mathlib.Omega.{arith}
use borrow.Author.Tests.{le-leb, leb-true, ne_eqb, eq-eqb, eqb-true}
use lib.Dec.{leb, eqb}
use lib.IntN.{ℤ, pos, negsuc, nat_abs}
use lib.ListN.{length, get_or, take, drop, length-drop}
use lib.Seq.{take_all}
use lib.Pointwise.{pointwise}
use Rattle.std.specs.Prelude.{Option, Some, None}
use Rattle.words.specs.Decimal.{decimal, signed_decimal}
use Rattle.words.specs.Words.{is_digit, all_digits, numeral, is_number, Spells, unpadded}
use Rattle.words.specs.Signed.{largest_magnitude, upwards, downwards, signed_numeral, signed_numeral_figures}
use Rattle.words.specs.Signed.{SignedSpelling, unsigned, minus, SpellsSigned}
use Rattle.words.proofs.Decimals.{reads, digit}
use Rattle.words.proofs.Spellings.{read_so, two_spellings, only_answer}

-- a number without a minus begins with a digit
plain_read : (f : List ℕ) (n : ℕ) → numeral f ≡ Some n → signed_numeral f ≡ upwards (Some n)
unfolding signed_numeral all_digits
plain_read [] n e = let some = (reads [] n e).some in absurd (omega arith)
plain_read (b ∷ bs) n e =
    let first = digit b ((and-eq-true_iff (is_digit b) (all_digits bs)).0 (reads (b ∷ bs) n e).digits).0 in
    let low = first.low in
    rw (ne_eqb b 45 (λ z. omega arith)) (ap upwards e)

-- each spelling is read as its number
pub read_signed : (f : List ℕ) (z : ℤ) → nat_abs z ≤ largest_magnitude → SignedSpelling f z → signed_numeral f ≡ Some z
unfolding signed_numeral
read_signed f (pos n) l (unsigned s) = plain_read f n (read_so f n (omega arith) s) ∙ rw (le-leb n largest_magnitude l)
read_signed f (negsuc n) l (minus digits is s) =
    ap signed_numeral is
    ∙ ap downwards (read_so digits (n + 1) (omega arith) s)
    ∙ rw (add-one, le-leb 1 (suc n) (omega arith), le-leb (suc n) largest_magnitude l)

-- What is printed of a number is read back.
pub read_back_signed : (z : ℤ) → nat_abs z ≤ largest_magnitude → signed_numeral (signed_decimal z) ≡ Some z
read_back_signed (pos n) l = read_signed (decimal n) (pos n) l (unsigned (unpadded refl))
read_back_signed (negsuc n) l = read_signed (45 ∷ decimal (n + 1)) (negsuc n) l (minus (decimal (n + 1)) refl (unpadded refl))

-- and a field that is read as a number is one of its spellings
abbrev Spelt : List ℕ → ℤ → Type 0
Spelt f z = SpellsSigned f (Some z)

up_by : (f : List ℕ) (z : ℤ) (m : Option ℕ) → numeral f ≡ m → upwards m ≡ Some z → Spelt f z
up_by f z (Some n) is e = by (leb n largest_magnitude) refl e
  where
    by : (t : Bool) → leb n largest_magnitude ≡ t → cond t (Some (pos n)) None ≡ Some z → Spelt f z
    by true l e =
        let same : pos n ≡ z = cc in
        subst (Spelt f) same (leb-true n largest_magnitude l, unsigned (two_spellings f n is))
    by false l e = cc
up_by f z None is e = cc

down_by : (f bs : List ℕ) (z : ℤ) → f ≡ 45 ∷ bs → (m : Option ℕ) → numeral bs ≡ m → downwards m ≡ Some z → Spelt f z
down_by f bs z field (Some zero) is e = cc
down_by f bs z field (Some (suc n)) is e =
    by (leb (suc n) largest_magnitude) refl (rw (le-leb 1 (suc n) (omega arith)) at e)
  where
    by : (t : Bool) → leb (suc n) largest_magnitude ≡ t → cond t (Some (negsuc n)) None ≡ Some z → Spelt f z
    by true l e =
        let same : negsuc n ≡ z = cc in
        let more : suc n ≡ n + 1 = omega arith in
        subst (Spelt f) same
        (leb-true (suc n) largest_magnitude l, minus bs field (two_spellings bs (n + 1) (is ∙ ap Some more)))
    by false l e = cc
down_by f bs z field None is e = cc

pub signed_spelt : (f : List ℕ) (z : ℤ) → signed_numeral f ≡ Some z → Spelt f z
unfolding signed_numeral
signed_spelt [] z e = cc
signed_spelt (b ∷ bs) z e = by (eqb b 45) refl e
  where
    by : (t : Bool) → eqb b 45 ≡ t → cond t (downwards (numeral bs)) (upwards (numeral (b ∷ bs))) ≡ Some z → Spelt (b ∷ bs) z
    by true sign e = down_by (b ∷ bs) bs z (ap (λ c. c ∷ bs) (eqb-true b 45 sign)) (numeral bs) refl e
    by false sign e = up_by (b ∷ bs) z (numeral (b ∷ bs)) refl e

-- So what a field is read as says which spellings it has, and is the only answer that does.
spells_signed : (f : List ℕ) → SpellsSigned f (signed_numeral f)
spells_signed f = by (signed_numeral f) refl
  where
    by : (m : Option ℤ) → signed_numeral f ≡ m → SpellsSigned f m
    by (Some z) e = signed_spelt f z e
    by None e = λ z l s. cc (read_signed f z l s)

pub told_signed : (f : List ℕ) {m : Option ℤ} → m ≡ signed_numeral f
    → (signed_numeral_figures m ≡ signed_numeral_figures (signed_numeral f)) × SpellsSigned f m
told_signed f e = (ap signed_numeral_figures e, subst⁻¹ (SpellsSigned f) e (spells_signed f))

pub only_signed : (f : List ℕ) (m : Option ℤ) → SpellsSigned f m → m ≡ signed_numeral f
only_signed f (Some z) s = sym (read_signed f z s.0 s.1)
only_signed f None nothing = by (signed_numeral f) refl
  where
    by : (m : Option ℤ) → signed_numeral f ≡ m → None ≡ m
    by (Some z) e = let s = signed_spelt f z e in absurd (nothing z s.0 s.1)
    by None e = refl

-- what a field is read as, by its first byte
pub by_minus : (f : List ℕ) → 1 ≤ length f → get_or f 0 0 ≡ 45 → signed_numeral f ≡ downwards (numeral (drop 1 f))
unfolding signed_numeral
by_minus [] some sign = absurd (omega arith)
by_minus (b ∷ bs) some sign = rw (eq-eqb b 45 sign)

pub by_digits : (f : List ℕ) → 1 ≤ length f → (get_or f 0 0 ≡ 45 → ⊥) → signed_numeral f ≡ upwards (numeral f)
unfolding signed_numeral
by_digits [] some other = absurd (omega arith)
by_digits (b ∷ bs) some other = rw (ne_eqb b 45 other)

-- and as the code reads it, by whether a minus stands before it: `m` is what the code reads behind the minus, or of the whole field
module _ (f : List ℕ) where
  pub behind_minus : 1 ≤ length f → get_or f 0 0 ≡ 45 → (m : Option ℕ) → Spells (take (length f - 1) (drop 1 f)) m → downwards m ≡ signed_numeral f
  unfolding signed_numeral
  behind_minus l sign m spelt =
      let all = take_all (length f - 1) (drop 1 f) (omega (arith, length-drop 1 f)) in
      ap downwards (only_answer (take (length f - 1) (drop 1 f)) m spelt ∙ ap numeral all) ∙ sym (by_minus f l sign)

  pub without_minus : pointwise eqb (take 1 f) (45 ∷ []) ≡ false → (m : Option ℕ) → Spells f m → upwards m ≡ signed_numeral f
  unfolding signed_numeral numeral is_number
  without_minus other m spelt = ap upwards (only_answer f m spelt) ∙ by f other
    where
      by : (f : List ℕ) → pointwise eqb (take 1 f) (45 ∷ []) ≡ false → upwards (numeral f) ≡ signed_numeral f
      by [] other = refl
      by (b ∷ bs) other = cases (eqb b 45) refl other
        where
          cases : (t : Bool) → eqb b 45 ≡ t → (t && true) ≡ false → upwards (numeral (b ∷ bs)) ≡ signed_numeral (b ∷ bs)
          cases true e other = absurd (false≢true (sym other))
          cases false e other = sym (rw e)

pub figures_told : (f : List ℕ) (m : Option ℤ) → m ≡ signed_numeral f → signed_numeral_figures m ≡ signed_numeral_figures (signed_numeral f)
figures_told f m e = (told_signed f e).0

pub spelling_told : (f : List ℕ) (m : Option ℤ) → m ≡ signed_numeral f → SpellsSigned f m
spelling_told f m e = (told_signed f e).1

pub spelt_as : (f : List ℕ) (r : Option ℤ) → r ≡ signed_numeral f → SpellsSigned f r
spelt_as = spelling_told

-- these laws by one name
pub ruleset signs = (without_minus, figures_told, spelling_told)
