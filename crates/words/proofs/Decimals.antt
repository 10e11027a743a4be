-- A number in decimal is read back as itself, and no other field that is begun so is read as it. One digit more on the right makes ten times the value and the
-- digit, whether it is printed or read: so both go by induction over the digits; powers are needed only to count them.
use mathlib.Core.Bool.{Bool, true, false, cond, ◌&&◌, ◌||◌, and-eq-true_iff}
use mathlib.Core.List.{List, [], ◌∷◌, ◌++◌, append-nil, append_assoc}
use mathlib.Core.Path.{◌≡◌, refl, sym, ap, ap₂, ◌∙◌}
use Prim.Native.Nat.{ℕ, zero, suc, ◌+◌, ◌-◌, ◌*◌, ◌/◌, ◌%◌, ◌≤◌, ◌<◌, ◌^◌}
use native.Mathlib.Nat.{le_refl}
use native.Mathlib.Omega.{arith}
use borrow.Author.Tests.{ltb-true, ltb-false, lt-ltb, le-ltb, leb-true, le-leb, eqb-false, ne_eqb, not-true}
use lib.Dec.{leb, ltb, eqb}
use lib.ListN.{length, length-append, get_or, get_or-append}
use Rattle.terms.specs.Terms.{past_32_bits}
use Rattle.std.specs.Prelude.{Some, None}
use Rattle.words.specs.Words.{largest_number, is_digit, all_digits, well_begun, may_begin, value_on, value, is_number, numeral}
use Rattle.words.specs.Decimal.{decimal_by, decimal}

-- the digits before the last are those of the tenth part
tenth : (n steps : ℕ) → n ≤ suc steps → n / 10 ≤ steps
tenth n steps l = omega arith

same_digits : (s t n : ℕ) → n ≤ s → n ≤ t → decimal_by s n ≡ decimal_by t n
unfolding decimal_by
same_digits zero zero n l m = refl
same_digits zero (suc t) n l m = let none : n ≡ 0 = omega arith in rw none refl
same_digits (suc s) zero n l m = let none : n ≡ 0 = omega arith in rw none refl
same_digits (suc s) (suc t) n l m =
    ap (λ ds. cond (ltb n 10) ((48 + n) ∷ []) (ds ++ ((48 + n % 10) ∷ []))) (same_digits s t (n / 10) (tenth n s l) (tenth n t m))

pub one_digit : (n : ℕ) → n < 10 → decimal n ≡ (48 + n) ∷ []
unfolding decimal decimal_by
one_digit zero l = refl
one_digit (suc n) l = rw (lt-ltb (suc n) 10 l)

pub more_digits : (n : ℕ) → 10 ≤ n → decimal n ≡ decimal (n / 10) ++ ((48 + n % 10) ∷ [])
unfolding decimal decimal_by
more_digits zero l = absurd (omega arith)
more_digits (suc n) l =
    rw (le-ltb (suc n) 10 l)
    (ap (λ ds. ds ++ ((48 + suc n % 10) ∷ [])) (same_digits n (suc n / 10) (suc n / 10) (tenth (suc n) n (omega arith)) (omega arith)))

pub digits_more : (n : ℕ) → 10 ≤ n → length (decimal n) ≡ length (decimal (n / 10)) + 1
digits_more n l = ap length (more_digits n l) ∙ length-append (decimal (n / 10)) ((48 + n % 10) ∷ [])

-- a 32-bit number has at most ten digits
pub few_digits : (k n : ℕ) → n < 10 ^ suc k → length (decimal n) ≤ suc k
few_digits zero n l = let one = ap length (one_digit n l) in omega arith
few_digits (suc k) n l = by (ltb n 10) refl (few_digits k (n / 10))
  where
    by : (t : Bool) → ltb n 10 ≡ t → (n / 10 < 10 ^ suc k → length (decimal (n / 10)) ≤ suc k) → length (decimal n) ≤ suc (suc k)
    by true e rest = let one = ap length (one_digit n (ltb-true n 10 e)) in omega arith
    by false e rest =
        let more = digits_more n (ltb-false n 10 e) in
        let few = rest (omega arith) in
        omega arith

pub ten_digits : (n : ℕ) → n < past_32_bits → length (decimal n) ≤ 10
ten_digits n l = few_digits 9 n (omega arith)

-- digits read one after the other
pub value_append : (n : ℕ) (f g : List ℕ) → value_on n (f ++ g) ≡ value_on (value_on n f) g
unfolding value_on
value_append n [] g = refl
value_append n (b ∷ f) g = value_append (n * 10 + (b - 48)) f g

pub digits_append : (f g : List ℕ) → all_digits f ≡ true → all_digits g ≡ true → all_digits (f ++ g) ≡ true
unfolding all_digits
digits_append [] g p q = q
digits_append (b ∷ f) g p q =
    let both = (and-eq-true_iff (is_digit b) (all_digits f)).0 p in
    rw both.0 (digits_append f g both.1 q)

pub a_digit : (d : ℕ) → d < 10 → all_digits ((48 + d) ∷ []) ≡ true
unfolding all_digits
a_digit d l = rw (le-leb 48 (48 + d) (omega arith), le-leb (48 + d) 57 (omega arith)) refl

-- What is printed for a number: digits of that value, the first of which is not 0 unless the number is.
pub record Prints (n : ℕ) (f : List ℕ) : Type 0 where
  pub some : 1 ≤ length f
  pub digits : all_digits f ≡ true
  pub valued : value f ≡ n
  pub begun : 1 ≤ n → 49 ≤ get_or f 0 0

prints_one : (n : ℕ) → n < 10 → Prints n ((48 + n) ∷ [])
unfolding value_on
prints_one n l = record { some = omega arith; digits = a_digit n l; valued = omega arith; begun = λ m. omega arith }

prints_more : (n : ℕ) → 10 ≤ n → Prints (n / 10) (decimal (n / 10)) → Prints n (decimal (n / 10) ++ ((48 + n % 10) ∷ []))
unfolding value_on
prints_more n l p =
    let front = decimal (n / 10) in
    let last = (48 + n % 10) ∷ [] in
    let size = length-append front last in
    let some = p.some in
    let whole : n / 10 * 10 + (48 + n % 10 - 48) ≡ n = omega arith in
    record {
      some = omega arith;
      digits = digits_append front last p.digits (a_digit (n % 10) (omega arith));
      valued = value_append 0 front last ∙ ap (λ v. v * 10 + (48 + n % 10 - 48)) p.valued ∙ whole;
      begun = λ m. let first = get_or-append front last 0 0 some in let high = p.begun (omega arith) in omega arith;
    }

prints_to : (k n : ℕ) → n ≤ k → Prints n (decimal n)
prints_to zero n l = rw (one_digit n (omega arith)) (prints_one n (omega arith))
prints_to (suc k) n l = by (ltb n 10) refl (prints_to k (n / 10))
  where
    by : (t : Bool) → ltb n 10 ≡ t → (n / 10 ≤ k → Prints (n / 10) (decimal (n / 10))) → Prints n (decimal n)
    by true e rest = rw (one_digit n (ltb-true n 10 e)) (prints_one n (ltb-true n 10 e))
    by false e rest = let large = ltb-false n 10 e in rw (more_digits n large) (prints_more n large (rest (omega arith)))

pub prints : (n : ℕ) → Prints n (decimal n)
prints n = prints_to n n (le_refl n)

well_begun_from : (f : List ℕ) → 49 ≤ get_or f 0 0 → well_begun f ≡ true
well_begun_from [] l = refl
well_begun_from (b ∷ []) l = refl
well_begun_from (b ∷ c ∷ f) l = rw (ne_eqb b 48 (λ e. omega arith)) refl

pub printed_begun : (n : ℕ) → well_begun (decimal n) ≡ true
printed_begun n = by (ltb n 10) refl
  where
    by : (t : Bool) → ltb n 10 ≡ t → well_begun (decimal n) ≡ true
    by true e = rw (one_digit n (ltb-true n 10 e)) refl
    by false e = well_begun_from (decimal n) ((prints n).begun (let large = ltb-false n 10 e in omega arith))

-- the old rule for a field's beginning still lets it pass
begun_passes : (f : List ℕ) → well_begun f ≡ true → may_begin f ≡ true
begun_passes f e = by (eqb (length f) 10)
  where
    by : (t : Bool) → (t || well_begun f) ≡ true
    by true = refl
    by false = e

-- What is printed for a number, up to the largest of the rule, is read as that number.
pub read_back : (n : ℕ) → n ≤ largest_number → numeral (decimal n) ≡ Some n
unfolding numeral is_number
read_back n l =
    let p = prints n in
    let few = ten_digits n (omega arith) in
    let same = p.valued in
    let within = le-leb (value (decimal n)) largest_number (omega arith) in
    let begun = begun_passes (decimal n) (printed_begun n) in
    rw (le-leb 1 (length (decimal n)) p.some, le-leb (length (decimal n)) 10 few, p.digits, begun, within) (ap Some same)

-- What is known of a field that is read as n.
pub record Reads (f : List ℕ) (n : ℕ) : Type 0 where
  pub some : 1 ≤ length f
  pub few : length f ≤ 10
  pub digits : all_digits f ≡ true
  pub begun : may_begin f ≡ true
  pub valued : value f ≡ n
  pub most : n ≤ largest_number

pub reads : (f : List ℕ) (n : ℕ) → numeral f ≡ Some n → Reads f n
unfolding numeral is_number
reads f n e = by (is_number f) refl e
  where
    by : (t : Bool) → is_number f ≡ t → cond t (Some (value f)) None ≡ Some n → Reads f n
    by false p q = cc
    by true p q =
        let same : value f ≡ n = cc in
        let fifth = (and-eq-true_iff (leb 1 (length f) && leb (length f) 10 && all_digits f && may_begin f) (leb (value f) largest_number)).0 p in
        let fourth = (and-eq-true_iff (leb 1 (length f) && leb (length f) 10 && all_digits f) (may_begin f)).0 fifth.0 in
        let third = (and-eq-true_iff (leb 1 (length f) && leb (length f) 10) (all_digits f)).0 fourth.0 in
        let second = (and-eq-true_iff (leb 1 (length f)) (leb (length f) 10)).0 third.0 in
        let most = leb-true (value f) largest_number fifth.1 in
        record {
          some = leb-true 1 (length f) second.0;
          few = leb-true (length f) 10 second.1;
          digits = third.1;
          begun = fourth.1;
          valued = same;
          most = omega arith;
        }

pub record Digit (b : ℕ) : Type 0 where
  pub low : 48 ≤ b
  pub high : b ≤ 57

pub digit : (b : ℕ) → is_digit b ≡ true → Digit b
digit b e = let both = (and-eq-true_iff (leb 48 b) (leb b 57)).0 e in record { low = leb-true 48 b both.0; high = leb-true b 57 both.1 }

-- one digit more, printed
one_more : (n b : ℕ) → 1 ≤ n → Digit b → decimal (n * 10 + (b - 48)) ≡ decimal n ++ (b ∷ [])
one_more n b l d =
    let low = d.low in
    let high = d.high in
    let front : (n * 10 + (b - 48)) / 10 ≡ n = omega arith in
    let last : 48 + (n * 10 + (b - 48)) % 10 ≡ b = omega arith in
    more_digits (n * 10 + (b - 48)) (omega arith) ∙ ap₂ (λ m c. decimal m ++ (c ∷ [])) front last

-- digits that follow a number, printed with it
decimal_on : (n : ℕ) (f : List ℕ) → 1 ≤ n → all_digits f ≡ true → decimal (value_on n f) ≡ decimal n ++ f
unfolding all_digits value_on
decimal_on n [] l e = sym (append-nil (decimal n))
decimal_on n (b ∷ f) l e =
    let both = (and-eq-true_iff (is_digit b) (all_digits f)).0 e in
    decimal_on (n * 10 + (b - 48)) f (omega arith) both.1
    ∙ ap (λ ds. ds ++ f) (one_more n b l (digit b both.0))
    ∙ append_assoc (decimal n) (b ∷ []) f

-- digits that begin by the old rule are their value in decimal
pub spelt : (f : List ℕ) → 1 ≤ length f → all_digits f ≡ true → well_begun f ≡ true → f ≡ decimal (value f)
unfolding all_digits value_on
spelt [] l e g = absurd (omega arith)
spelt (b ∷ []) l e g =
    let d = digit b ((and-eq-true_iff (is_digit b) true).0 e).0 in
    let low = d.low in
    let high = d.high in
    let same : b ≡ 48 + (0 * 10 + (b - 48)) = omega arith in
    ap (λ c. c ∷ []) same ∙ sym (one_digit (0 * 10 + (b - 48)) (omega arith))
spelt (b ∷ c ∷ f) l e g =
    let both = (and-eq-true_iff (is_digit b) (all_digits (c ∷ f))).0 e in
    let d = digit b both.0 in
    let low = d.low in
    let high = d.high in
    let other = eqb-false b 48 (not-true (eqb b 48) g) in
    let same : b ≡ 48 + (0 * 10 + (b - 48)) = omega arith in
    ap (λ z. z ∷ c ∷ f) same
    ∙ ap (λ ds. ds ++ (c ∷ f)) (sym (one_digit (0 * 10 + (b - 48)) (omega arith)))
    ∙ sym (decimal_on (0 * 10 + (b - 48)) (c ∷ f) (omega arith) both.1)
