-- Each guard's test in numbers, both ways; and by the law of guards when a call is refused with r, or answered, in numbers.
use mathlib.Core.Bool.{Bool, true, false, not, ◌&&◌}
use mathlib.Core.List.{List, [], ◌∷◌}
use mathlib.Core.Logic.{◌↔◌, ◌⊎◌, inl, inr}
use mathlib.Core.Path.{◌≡◌, refl, sym, subst, ◌∙◌}
use Prim.Native.Nat.{ℕ, ◌*◌, ◌≤◌, ◌<◌}
use borrow.Author.Tests.{le-leb, lt-leb, leb-true, leb-false, lt-ltb, le-ltb, ltb-true, ltb-false, eq-eqb, ne_eqb, eqb-true, eqb-false, not-true, not-false}
use lib.Dec.{T, leb, ltb, eqb}
use lib.IntN.{ℤ, pos, negsuc}
use lib.Signed.{le_z, lt_z, ◌≤ℤ◌, ◌<ℤ◌}
use Rattle.terms.specs.declared.Refusal.{Refusal}
use Rattle.terms.specs.Terms.{lengths_accepted, squares_accepted, offset_accepted, origin_accepted, refusal_number}
use Rattle.terms.specs.Guards.{Guard, guarded}
use Rattle.terms.proofs.Guards.{same, stands, AtGuard, Passed, Fails, refused_exactly, answered_exactly}
use Rattle.terms.proofs.Signs.{less_leZ, not_less_leZ}

-- What it says that a test holds, and that it fails.
pub record Meaning (test : Bool) : Type 1 where
  pub Holds : Type 0
  pub Not : Type 0
  pub if_true : (test ≡ true) ↔ Holds
  pub if_false : (test ≡ false) ↔ Not

abbrev pub at_most : (m n : ℕ) → Meaning (leb m n)
at_most m n = record { Holds = m ≤ n; Not = n < m; if_true = (leb-true m n, le-leb m n); if_false = (leb-false m n, lt-leb m n) }

abbrev pub less : (m n : ℕ) → Meaning (ltb m n)
less m n = record { Holds = m < n; Not = n ≤ m; if_true = (ltb-true m n, lt-ltb m n); if_false = (ltb-false m n, le-ltb m n) }

abbrev pub equal : (m n : ℕ) → Meaning (eqb m n)
equal m n = record { Holds = m ≡ n; Not = m ≡ n → ⊥; if_true = (eqb-true m n, eq-eqb m n); if_false = (eqb-false m n, ne_eqb m n) }

-- a test of no number, as it is
abbrev pub itself : (t : Bool) → Meaning t
itself t = record { Holds = t ≡ true; Not = t ≡ false; if_true = (λ e. e, λ e. e); if_false = (λ e. e, λ e. e) }

-- signed numbers
is_true : (t : Bool) → T t → t ≡ true
is_true true h = refl
is_true false h = absurd h

pub at_most_is : {a b : ℤ} → a ≤ℤ b → le_z a b ≡ true
at_most_is {a} {b} l = is_true (le_z a b) l.le

pub at_most_told : {a b : ℤ} → le_z a b ≡ true → a ≤ℤ b
at_most_told e = record { le = subst T (sym e) tt }

pub not_at_most_is : {a b : ℤ} → b <ℤ a → le_z a b ≡ false
not_at_most_is {a} {b} l = less_leZ b a (is_true (lt_z b a) l.lt)

pub not_at_most_told : {a b : ℤ} → le_z a b ≡ false → b <ℤ a
not_at_most_told {a} {b} e = by (lt_z b a) refl
  where
    by : (t : Bool) → lt_z b a ≡ t → b <ℤ a
    by true p = record { lt = subst T (sym p) tt }
    by false p = absurd (subst T (sym (not_less_leZ b a p) ∙ e) tt)

abbrev pub at_most_ℤ : (a b : ℤ) → Meaning (le_z a b)
at_most_ℤ a b = record { Holds = a ≤ℤ b; Not = b <ℤ a; if_true = (at_most_told, at_most_is); if_false = (not_at_most_told, not_at_most_is) }

-- both of two tests; one of them fails
module _ {s t : Bool} (m : Meaning s) (n : Meaning t) where
  both_to : s && t ≡ true → m.Holds × n.Holds
  both_to e = by s t e m.if_true.0 n.if_true.0
    where
      by : (s t : Bool) → s && t ≡ true → (s ≡ true → m.Holds) → (t ≡ true → n.Holds) → m.Holds × n.Holds
      by true true e f g = (f refl, g refl)
      by true false e f g = absurd (subst T (sym e) tt)
      by false t e f g = absurd (subst T (sym e) tt)

  one_to : s && t ≡ false → m.Not ⊎ n.Not
  one_to e = by s t e m.if_false.0 n.if_false.0
    where
      by : (s t : Bool) → s && t ≡ false → (s ≡ false → m.Not) → (t ≡ false → n.Not) → m.Not ⊎ n.Not
      by true true e f g = absurd (subst T e tt)
      by true false e f g = inr (g refl)
      by false t e f g = inl (f refl)

  one_from : m.Not ⊎ n.Not → s && t ≡ false
  one_from (inl f) = rw (m.if_false.1 f)
  one_from (inr f) = by s (n.if_false.1 f)
    where
      by : (s : Bool) → t ≡ false → s && t ≡ false
      by true e = e
      by false e = refl

  pub both_to_and_fro : ((s && t ≡ true) ↔ (m.Holds × n.Holds)) × ((s && t ≡ false) ↔ (m.Not ⊎ n.Not))
  both_to_and_fro = ((both_to, λ p. rw (m.if_true.1 p.0, n.if_true.1 p.1)), (one_to, one_from))

  abbrev pub both : Meaning (s && t)
  both = record { Holds = m.Holds × n.Holds; Not = m.Not ⊎ n.Not; if_true = both_to_and_fro.0; if_false = both_to_and_fro.1 }

-- the contrary of a test, and a test that is defined as another
module _ {t : Bool} (m : Meaning t) where
  abbrev pub negated : Meaning (not t)
  negated =
      record {
        Holds = m.Not;
        Not = m.Holds;
        if_true = (λ e. m.if_false.0 (not-true t e), λ p. rw (m.if_false.1 p));
        if_false = (λ e. m.if_true.0 (not-false t e), λ p. rw (m.if_true.1 p));
      }

  module _ {s : Bool} (is : s ≡ t) where
    abbrev pub defined : Meaning s
    defined =
        record {
          Holds = m.Holds;
          Not = m.Not;
          if_true = (λ e. m.if_true.0 (sym is ∙ e), λ p. is ∙ m.if_true.1 p);
          if_false = (λ e. m.if_false.0 (sym is ∙ e), λ p. is ∙ m.if_false.1 p);
        }

-- The guards that the calls share, in numbers. "An area has a width w and a height h, each from 1 to 65,535"; "1: w or h is 0 or over 65,535".
abbrev pub LengthsWithin : (w h : ℕ) → Type 0
LengthsWithin w h = ((1 ≤ w) × (w ≤ 65535)) × ((1 ≤ h) × (h ≤ 65535))

abbrev pub LengthsBeyond : (w h : ℕ) → Type 0
LengthsBeyond w h = ((w < 1) ⊎ (65535 < w)) ⊎ ((h < 1) ⊎ (65535 < h))

-- "An area of more than 16,777,216 squares is refused"
abbrev pub SquaresWithin : (w h : ℕ) → Type 0
SquaresWithin w h = w * h ≤ 16777216

abbrev pub SquaresBeyond : (w h : ℕ) → Type 0
SquaresBeyond w h = 16777216 < w * h

-- "an origin (ox, oy), each from -1,000,000 to 1,000,000". (`negsuc n` is the integer -(n + 1).)
abbrev pub OriginWithin : (ox oy : ℤ) → Type 0
OriginWithin ox oy = ((negsuc 999999 ≤ℤ ox) × (ox ≤ℤ pos 1000000)) × ((negsuc 999999 ≤ℤ oy) × (oy ≤ℤ pos 1000000))

abbrev pub OriginBeyond : (ox oy : ℤ) → Type 0
OriginBeyond ox oy = ((ox <ℤ negsuc 999999) ⊎ (pos 1000000 <ℤ ox)) ⊎ ((oy <ℤ negsuc 999999) ⊎ (pos 1000000 <ℤ oy))

abbrev pub lengths_mean : (w h : ℕ) → Meaning (lengths_accepted w h)
lengths_mean w h = both (both (at_most 1 w) (at_most w 65535)) (both (at_most 1 h) (at_most h 65535))

abbrev pub squares_mean : (w h : ℕ) → Meaning (squares_accepted (w * h))
squares_mean w h = at_most (w * h) 16777216

pub origin_is : (ox oy : ℤ) → origin_accepted ox oy ≡ offset_accepted ox && offset_accepted oy
unfolding origin_accepted
origin_is ox oy = refl

abbrev offset_mean : (o : ℤ) → Meaning (offset_accepted o)
offset_mean o = both (at_most_ℤ (negsuc 999999) o) (at_most_ℤ o (pos 1000000))

abbrev pub origin_mean : (ox oy : ℤ) → Meaning (origin_accepted ox oy)
origin_mean ox oy = defined (both (offset_mean ox) (offset_mean oy)) (origin_is ox oy)

-- So each test passes exactly within its limits.
pub lengths_exactly : (w h : ℕ) → (lengths_accepted w h ≡ true) ↔ LengthsWithin w h
lengths_exactly w h = (lengths_mean w h).if_true

pub squares_exactly : (w h : ℕ) → (squares_accepted (w * h) ≡ true) ↔ SquaresWithin w h
squares_exactly w h = (squares_mean w h).if_true

pub origin_exactly : (ox oy : ℤ) → (origin_accepted ox oy ≡ true) ↔ OriginWithin ox oy
origin_exactly ox oy = (origin_mean ox oy).if_true

-- A meaning for each guard of a list, and what it is then that all pass, and that the first that fails refuses with r.
abbrev pub Meanings : List Guard → Type 1
Meanings [] = Unit {1}
Meanings (g ∷ gs) = Meaning g.holds × Meanings gs

abbrev pub PassedSo : (gs : List Guard) → Meanings gs → Type 0
PassedSo [] ms = Unit {0}
PassedSo (g ∷ []) ms = ms.0.Holds
PassedSo (g ∷ h ∷ gs) ms = ms.0.Holds × PassedSo (h ∷ gs) ms.1

abbrev pub FailsSo : (gs : List Guard) → Meanings gs → Refusal → Type 0
FailsSo [] ms r = ⊥
FailsSo (g ∷ gs) ms r = AtGuard (same g.refusal r) (stands r gs) ms.0.Holds ms.0.Not (FailsSo gs ms.1 r)

pub passed_so : (gs : List Guard) (ms : Meanings gs) → Passed gs ↔ PassedSo gs ms
passed_so [] ms = (λ p. p, λ p. p)
passed_so (g ∷ []) ms = ms.0.if_true
passed_so (g ∷ h ∷ gs) ms =
    let more = passed_so (h ∷ gs) ms.1 in
    (λ p. (ms.0.if_true.0 p.0, more.0 p.1), λ p. (ms.0.if_true.1 p.0, more.1 p.1))

fails_so : (gs : List Guard) (ms : Meanings gs) (r : Refusal) → Fails gs r ↔ FailsSo gs ms r
fails_so [] ms r = (λ f. f, λ f. f)
fails_so (g ∷ gs) ms r = by (same g.refusal r) (stands r gs) (fails_so gs ms.1 r)
  where
    by : (here later : Bool) → Fails gs r ↔ FailsSo gs ms.1 r
        → AtGuard here later (g.holds ≡ true) (g.holds ≡ false) (Fails gs r)
        ↔ AtGuard here later ms.0.Holds ms.0.Not (FailsSo gs ms.1 r)
    by true true rest = (
      elim [ inl f ↦ inl (ms.0.if_false.0 f) | inr f ↦ inr (ms.0.if_true.0 f.0, rest.0 f.1) ],
      elim [ inl f ↦ inl (ms.0.if_false.1 f) | inr f ↦ inr (ms.0.if_true.1 f.0, rest.1 f.1) ],
    )
    by true false rest = ms.0.if_false
    by false later rest = (λ f. (ms.0.if_true.0 f.0, rest.0 f.1), λ f. (ms.0.if_true.1 f.0, rest.1 f.1))

-- A call is refused with r exactly if, in numbers, the guards before r's pass and r's fails; and it is answered exactly if, in numbers, all pass.
module _ (gs : List Guard) (ms : Meanings gs) (n : ℕ) (values : List ℕ) where
  pub refused_in_numbers : (r : Refusal) → ((guarded gs n values).refusal ≡ refusal_number r) ↔ FailsSo gs ms r
  refused_in_numbers r =
      let law = refused_exactly gs n values r in
      let so = fails_so gs ms r in
      (λ e. so.0 (law.0 e), λ f. law.1 (so.1 f))

  pub answered_in_numbers : ((guarded gs n values).refusal ≡ 0) ↔ PassedSo gs ms
  answered_in_numbers =
      let law = answered_exactly gs n values in
      let so = passed_so gs ms in
      (λ e. so.0 (law.0 e), λ f. law.1 (so.1 f))
