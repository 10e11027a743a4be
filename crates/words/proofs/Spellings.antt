-- The two spellings of a number, in decimal and padded to ten digits: each is read as that number, and no other field is. Digits that follow a number are its
-- last digits, so ten digits are their value padded, by induction over them; where a number has ten digits of its own, both spellings are one.
use mathlib.Core.Bool.{Bool, true, false, ◌||◌, and-eq-true_iff}
use mathlib.Core.List.{List, [], ◌∷◌, ◌++◌, append-nil, append_assoc}
use mathlib.Core.Logic.{◌⊎◌, inl, inr}
use mathlib.Core.Path.{◌≡◌, refl, sym, ap, ap₂, subst⁻¹, ◌∙◌}
use Prim.Native.Nat.{ℕ, zero, suc, ◌+◌, ◌-◌, ◌*◌, ◌/◌, ◌%◌, ◌≤◌, ◌<◌, ◌^◌}
use native.Mathlib.Nat.{one-le-pow}
use native.Mathlib.Omega.{arith}
use borrow.Author.Tests.{le-leb, eqb-true, eq-eqb}
use lib.Dec.{eqb, lit<}
use lib.ListN.{length, length-append}
use Rattle.std.specs.Prelude.{Option, Some, None}
use Rattle.words.specs.Words.{largest_number, is_digit, all_digits, well_begun, value_on, value, is_number, numeral, numeral_figures}
use Rattle.words.specs.Words.{Spelling, unpadded, in_ten, Spells}
use Rattle.words.specs.Decimal.{decimal, last_digits, padded}
use Rattle.words.proofs.Numerals.{no_digits, in_32_bits}
use Rattle.words.proofs.Decimals.{digits_more, few_digits, ten_digits, value_append, digits_append, a_digit, prints, printed_begun, read_back}
use Rattle.words.proofs.Decimals.{Reads, reads, digit, spelt}

-- the last digits of a number are as many as were asked for, are digits, and have the number's value where it has no more of them
last_length : (count n : ℕ) → length (last_digits count n) ≡ count
unfolding last_digits
last_length zero n = refl
last_length (suc count) n =
    let front = last_length count (n / 10) in
    let all = length-append (last_digits count (n / 10)) ((48 + n % 10) ∷ []) in
    omega arith

last_are_digits : (count n : ℕ) → all_digits (last_digits count n) ≡ true
unfolding last_digits all_digits
last_are_digits zero n = refl
last_are_digits (suc count) n =
    digits_append (last_digits count (n / 10)) ((48 + n % 10) ∷ []) (last_are_digits count (n / 10)) (a_digit (n % 10) (omega arith))

last_value : (count n : ℕ) → n < 10 ^ count → value (last_digits count n) ≡ n
unfolding last_digits value_on
last_value zero n l = omega arith
last_value (suc count) n l =
    let front = last_value count (n / 10) (omega arith) in
    let whole : n / 10 * 10 + (48 + n % 10 - 48) ≡ n = omega arith in
    value_append 0 (last_digits count (n / 10)) ((48 + n % 10) ∷ []) ∙ ap (λ v. v * 10 + (48 + n % 10 - 48)) front ∙ whole

-- digits that follow a number are the last ones of the number that they make
last_on : (f : List ℕ) (count n : ℕ) → all_digits f ≡ true → last_digits (length f + count) (value_on n f) ≡ last_digits count n ++ f
unfolding all_digits value_on last_digits
last_on [] count n e = let none : 0 + count ≡ count = omega arith in ap (λ k. last_digits k n) none ∙ sym (append-nil (last_digits count n))
last_on (b ∷ f) count n e =
    let both = (and-eq-true_iff (is_digit b) (all_digits f)).0 e in
    let d = digit b both.0 in
    let low = d.low in
    let high = d.high in
    let on : length (b ∷ f) + count ≡ length f + suc count = omega arith in
    let front : (n * 10 + (b - 48)) / 10 ≡ n = omega arith in
    let last : 48 + (n * 10 + (b - 48)) % 10 ≡ b = omega arith in
    ap (λ k. last_digits k (value_on (n * 10 + (b - 48)) f)) on
    ∙ last_on f (suc count) (n * 10 + (b - 48)) both.1
    ∙ ap₂ (λ m c. (last_digits count m ++ (c ∷ [])) ++ f) front last
    ∙ append_assoc (last_digits count n) (b ∷ []) f

-- ten digits are their value padded
spelt_in_ten : (f : List ℕ) → length f ≡ 10 → all_digits f ≡ true → f ≡ padded (value f)
unfolding padded last_digits
spelt_in_ten f ten e =
    let all : length f + 0 ≡ 10 = omega arith in
    sym (ap (λ k. last_digits k (value f)) (sym all) ∙ last_on f 0 0 e)

-- What the printer makes of a number, up to the largest, is read as that number.
pub read_padded : (n : ℕ) → n ≤ largest_number → numeral (padded n) ≡ Some n
unfolding numeral is_number padded
read_padded n l =
    let ten = last_length 10 n in
    let same = last_value 10 n (omega arith) in
    let within = le-leb (value (last_digits 10 n)) largest_number (omega arith) in
    rw (
      le-leb 1 (length (last_digits 10 n)) (omega arith),
      le-leb (length (last_digits 10 n)) 10 (omega arith),
      last_are_digits 10 n,
      eq-eqb (length (last_digits 10 n)) 10 ten,
      within,
    )
    (ap Some same)

-- A field is a number of value n exactly if n is at most the largest number and the field is one of its two spellings.
pub read_so : (f : List ℕ) (n : ℕ) → n ≤ largest_number → Spelling f n → numeral f ≡ Some n
read_so f n l (unpadded e) = ap numeral e ∙ read_back n l
read_so f n l (in_ten e) = ap numeral e ∙ read_padded n l

pub two_spellings : (f : List ℕ) (n : ℕ) → numeral f ≡ Some n → Spelling f n
two_spellings f n e = by (reads f n e) (eqb (length f) 10) refl
  where
    by : Reads f n → (t : Bool) → eqb (length f) 10 ≡ t → Spelling f n
    by r true ten = in_ten (spelt_in_ten f (eqb-true (length f) 10 ten) r.digits ∙ ap padded r.valued)
    by r false fewer =
        let begun : well_begun f ≡ true = ap (λ t. t || well_begun f) (sym fewer) ∙ r.begun in
        unpadded (spelt f r.some r.digits begun ∙ ap decimal r.valued)

-- So what a field is read as says which spellings it has, and is the only answer that does.
pub spells : (f : List ℕ) → Spells f (numeral f)
spells f = by (numeral f) refl
  where
    by : (m : Option ℕ) → numeral f ≡ m → Spells f m
    by (Some n) e = ((reads f n e).most, two_spellings f n e)
    by None e = λ n l s. cc (read_so f n l s)

pub told_so : (f : List ℕ) {m : Option ℕ} → m ≡ numeral f → (numeral_figures m ≡ numeral_figures (numeral f)) × Spells f m
told_so f e = (ap numeral_figures e, subst⁻¹ (Spells f) e (spells f))

pub figures_told : (f : List ℕ) (m : Option ℕ) → m ≡ numeral f → numeral_figures m ≡ numeral_figures (numeral f)
figures_told f m e = (told_so f e).0

pub spelling_told : (f : List ℕ) (m : Option ℕ) → m ≡ numeral f → Spells f m
spelling_told f m e = (told_so f e).1

pub only_answer : (f : List ℕ) (m : Option ℕ) → Spells f m → m ≡ numeral f
only_answer f (Some n) s = sym (read_so f n s.0 s.1)
only_answer f None none = by (numeral f) refl
  where
    by : (m : Option ℕ) → numeral f ≡ m → None ≡ m
    by (Some n) e = absurd (none n (reads f n e).most (two_spellings f n e))
    by None e = refl

-- a number from ten to the power k on has over k digits
many_digits : (k n : ℕ) → 10 ^ k ≤ n → suc k ≤ length (decimal n)
many_digits zero n l = (prints n).some
many_digits (suc k) n l =
    let some : 1 ≤ 10 ^ k = one-le-pow k 10 (lit< tt) in
    let more = digits_more n (omega arith) in
    let front = many_digits k (n / 10) (omega arith) in
    omega arith

-- "Each value below 1,000,000,000 then has two spellings": they differ, both are read as that value, and no third one is. From there on the two are one.
pub one_from : (n : ℕ) → 1000000000 ≤ n → n ≤ largest_number → decimal n ≡ padded n
one_from n low high =
    let some = many_digits 9 n (omega arith) in
    let few = ten_digits n (omega arith) in
    let p = prints n in
    spelt_in_ten (decimal n) (omega arith) p.digits ∙ ap padded p.valued

pub padded_ten : (n : ℕ) → length (padded n) ≡ 10
unfolding padded
padded_ten n = last_length 10 n

pub record TwoSpellings (n : ℕ) : Type 0 where
  pub differ : decimal n ≡ padded n → ⊥
  pub unpadded_read : numeral (decimal n) ≡ Some n
  pub padded_read : numeral (padded n) ≡ Some n
  pub no_third : (f : List ℕ) → numeral f ≡ Some n → (f ≡ decimal n) ⊎ (f ≡ padded n)

pub two_below : (n : ℕ) → n < 1000000000 → TwoSpellings n
two_below n l =
    let few = few_digits 8 n (omega arith) in
    record {
      differ = λ e. let same = ap length e in let ten = padded_ten n in omega arith;
      unpadded_read = read_back n (omega arith);
      padded_read = read_padded n (omega arith);
      no_third = λ f e. either (two_spellings f n e);
    }
  where
    either : {f : List ℕ} → Spelling f n → (f ≡ decimal n) ⊎ (f ≡ padded n)
    either (unpadded e) = inl e
    either (in_ten e) = inr e

-- "What the program prints is unpadded": it begins by the old rule, and is read back.
pub printed_unpadded : (n : ℕ) → n ≤ largest_number → (well_begun (decimal n) ≡ true) × (numeral (decimal n) ≡ Some n)
printed_unpadded n l = (printed_begun n, read_back n l)

-- the laws of what the code reads of a field that is formed well, by one name
pub ruleset told = (no_digits, in_32_bits, figures_told, spelling_told)
