-- Digits read one by one: what is due of the whole field is what is due of the rest, with the value so far, which is below ten to the number of digits.
use mathlib.Core.Bool.{Bool, true, false, cond, ◌&&◌, and-eq-true_iff}
use mathlib.Core.List.{List}
use mathlib.Core.Path.{◌≡◌, refl, sym, ap, ◌∙◌}
use Prim.Native.Nat.{ℕ, suc, ◌+◌, ◌-◌, ◌*◌, ◌≤◌, ◌<◌, ◌^◌}
use native.Mathlib.Nat.{zero-lt-suc, lt_of_lt_of_le, pow-le-pow_right}
use native.Mathlib.Omega.{arith}
use borrow.Author.Tests.{le-leb, lt-leb, leb-true}
use lib.Dec.{leb}
use lib.ListN.{length, get_or, drop}
use lib.Seq.{drop-cons, drop-length}
use Rattle.std.specs.Prelude.{Option, Some, None, Result, Ok, Err, OkIff}
use Rattle.std.specs.Result.{result_ok}
use Rattle.words.specs.Words.{largest_number, is_digit, all_digits, may_begin, value_on, value, is_number, numeral}

-- the value of digits that follow the value n, unless a byte is no digit
abbrev pub due : ℕ → List ℕ → Option ℕ
due n bs = cond (all_digits bs) (Some (value_on n bs)) None

-- one digit more, d, at the place i
module _ (s : List ℕ) (i v d : ℕ) (l : i < length s) (is : d ≡ get_or s i 0 - 48) (digit : is_digit (get_or s i 0) ≡ true) where
  pub due_on : due (v * 10 + d) (drop (i + 1) s) ≡ due v (drop i s)
  unfolding all_digits value_on
  due_on =
      let on : i + 1 ≡ suc i = omega arith in
      rw on (rw (drop-cons s i 0 l) (rw digit (ap (λ n. due (v * 10 + n) (drop (suc i) s)) is)))

  -- a value of i digits
  pub below_ten : v < 10 ^ i → v * 10 + d < 10 ^ (i + 1)
  below_ten less =
      let high = leb-true (get_or s i 0) 57 ((and-eq-true_iff (leb 48 (get_or s i 0)) (leb (get_or s i 0) 57)).0 digit).1 in
      let on : i + 1 ≡ suc i = omega arith in
      rw on (omega arith)

pub due_other : (s : List ℕ) (i v : ℕ) → i < length s → is_digit (get_or s i 0) ≡ false → None ≡ due v (drop i s)
unfolding all_digits
due_other s i v l other = rw (drop-cons s i 0 l) (rw other refl)

pub due_end : (s : List ℕ) (i v : ℕ) → i ≡ length s → Some v ≡ due v (drop i s)
unfolding all_digits value_on
due_end s i v e = rw (ap (λ n. drop n s) e ∙ drop-length s) refl

pub ten_digits : (v i : ℕ) → v < 10 ^ i → i ≤ 10 → v < 10000000000
ten_digits v i l m = lt_of_lt_of_le l (pow-le-pow_right (zero-lt-suc 9) m)

-- the laws of what is due where a turn ends it, by one name
pub ruleset dues = (due_other, due_end, ten_digits)

-- a field's length and how it begins
abbrev pub formed : List ℕ → Bool
formed s = leb 1 (length s) && leb (length s) 10 && may_begin s

-- five tests, of which the code makes the first two and the fourth at once
by_form : (a b c d e : Bool) → (a && b && c && d && e) ≡ ((a && b && d) && (c && e))
by_form false b c d e = refl
by_form true false c d e = refl
by_form true true false false e = refl
by_form true true false true e = refl
by_form true true true false e = refl
by_form true true true true e = refl

-- what the tests leave of a field
module _ (s : List ℕ) where
  told : numeral s ≡ cond (formed s && (all_digits s && leb (value s) largest_number)) (Some (value s)) None
  unfolding numeral is_number
  told = ap (λ t. cond t (Some (value s)) None) (by_form (leb 1 (length s)) (leb (length s) 10) (all_digits s) (may_begin s) (leb (value s) largest_number))

  pub ill_formed : formed s ≡ false → numeral s ≡ None
  ill_formed e = told ∙ rw e refl

  -- the code reads the digits only of a field that is formed so
  module _ (well : formed s ≡ true) where
    pub no_digits : None ≡ due 0 s → numeral s ≡ None
    no_digits e = by (all_digits s) refl
      where
        by : (t : Bool) → all_digits s ≡ t → numeral s ≡ None
        by true f = cc (rw f at e)
        by false f = told ∙ rw (well, f) refl

    pub by_value : (v : ℕ) → Some v ≡ due 0 s → numeral s ≡ cond (leb v largest_number) (Some v) None
    by_value v e = by (all_digits s) refl
      where
        by : (t : Bool) → all_digits s ≡ t → numeral s ≡ cond (leb v largest_number) (Some v) None
        by true f = let same : value s ≡ v = cc (rw f at e) in told ∙ rw (well, f) (ap (λ n. cond (leb n largest_number) (Some n) None) same)
        by false f = cc (rw f at e)

    pub in_32_bits : {E : Type 0} (v : ℕ) → Some v ≡ due 0 s → (r : Result ℕ E) → OkIff r (v < 4294967296) v → result_ok r ≡ numeral s
    in_32_bits v e (Ok n) fits = sym (by_value v e ∙ rw (le-leb v largest_number (omega arith)) (ap Some (sym fits.1)))
    in_32_bits v e (Err x) over = sym (by_value v e ∙ rw (lt-leb v largest_number (let most : 4294967296 ≤ v = omega arith in omega arith)))
