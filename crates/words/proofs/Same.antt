-- Bytes and a word compared byte by byte: they are the same exactly if the test says so, and the library's tests of slices, `==` and `starts_with`, go by the
-- same equations.
use mathlib.Core.Bool.{true, ◌&&◌, and-eq-true_iff}
use mathlib.Core.List.{List, [], ◌∷◌}
use mathlib.Core.Path.{◌≡◌, refl, ap, ap₂}
use Prim.Native.Nat.{ℕ}
use native.Mathlib.Omega.{arith}
use borrow.Author.Tests.{eq-eqb, eqb-true}
use lib.Dec.{eqb}
use lib.ListN.{length, take}
use lib.Pointwise.{pointwise}
use Rattle.std.specs.List.{starts_with}
use Rattle.std.proofs.lemmas.Bool.Decides.{nat_tests}
use Rattle.words.specs.Words.{same_bytes, begins}

pub same_itself : (s : List ℕ) → same_bytes s s ≡ true
unfolding same_bytes
same_itself [] = refl
same_itself (a ∷ s) = rw (eq-eqb a a refl) (same_itself s)

pub same_true : (s t : List ℕ) → same_bytes s t ≡ true → s ≡ t
unfolding same_bytes
same_true [] [] e = refl
same_true [] (b ∷ t) e = cc
same_true (a ∷ s) [] e = cc
same_true (a ∷ s) (b ∷ t) e =
    let both = (and-eq-true_iff (eqb a b) (same_bytes s t)).0 e in
    ap₂ ◌∷◌ (eqb-true a b both.0) (same_true s t both.1)

-- the library's `==` of slices
pub by_equality : (s t : List ℕ) → pointwise eqb s t ≡ same_bytes s t
unfolding same_bytes
by_equality [] [] = refl
by_equality [] (b ∷ t) = refl
by_equality (a ∷ s) [] = refl
by_equality (a ∷ s) (b ∷ t) = ap (λ u. eqb a b && u) (by_equality s t)

-- and its `starts_with`, which compares the word's bytes with the line's
same_eqb : (a b : ℕ) → eqb a b ≡ eqb b a
same_eqb a b = grind (arith, nat_tests)

turned : (s t : List ℕ) → pointwise eqb s t ≡ same_bytes t s
unfolding same_bytes
turned [] [] = refl
turned [] (b ∷ t) = refl
turned (a ∷ s) [] = refl
turned (a ∷ s) (b ∷ t) = ap₂ ◌&&◌ (same_eqb a b) (turned s t)

pub by_beginning : (line known : List ℕ) → starts_with eqb line known ≡ begins line known
by_beginning line known = turned known (take (length known) line)
