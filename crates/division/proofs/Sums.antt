-- Sums over a list, and how counts, lengths and All go through a list that is joined from pieces.
use mathlib.Core.Bool.{Bool}
use mathlib.Core.List.{List, [], ◌∷◌, ◌++◌, map, flatten, append_assoc}
use mathlib.Core.Logic.{◌⊎◌, inl, inr, ⊎_elim}
use mathlib.Core.Path.{◌≡◌, refl, sym, ap, ap₂, ◌∙◌}
use Prim.Native.Nat.{ℕ, ◌+◌, ◌≤◌, ◌<◌}
use native.Mathlib.Nat.{add_assoc, eq-zero-or-pos}
use native.Mathlib.Omega.{arith}
use lib.ListN.{length, length-append}
use Rattle.division.specs.Division.{one, count}
use Rattle.division.proofs.Rules.{All}

-- the sum of f over a list
abbrev pub total : {X : Type 0} → (X → ℕ) → List X → ℕ
total f [] = 0
total f (z ∷ zs) = f z + total f zs

pub total_all : {X : Type 0} (f g : X → ℕ) (zs : List X) → All (λ z. f z ≡ g z) zs → total f zs ≡ total g zs
total_all f g [] h = refl
total_all f g (z ∷ zs) h = ap₂ ◌+◌ h.0 (total_all f g zs h.1)

count_append : {X : Type 0} (f : X → Bool) (xs ys : List X) → count f (xs ++ ys) ≡ count f xs + count f ys
unfolding count
count_append f [] ys = omega arith
count_append f (x ∷ xs) ys = ap (λ n. one (f x) + n) (count_append f xs ys) ∙ sym (add_assoc (one (f x)) (count f xs) (count f ys))

pub count_joined : {X Y : Type 0} (f : X → Bool) (g : Y → List X) (ys : List Y) → count f (flatten (map g ys)) ≡ total (λ y. count f (g y)) ys
unfolding count flatten
count_joined f g [] = refl
count_joined f g (y ∷ ys) = count_append f (g y) (flatten (map g ys)) ∙ ap (λ n. count f (g y) + n) (count_joined f g ys)

pub length_joined : {X Y : Type 0} (g : Y → List X) (ys : List Y) → length (flatten (map g ys)) ≡ total (λ y. length (g y)) ys
unfolding flatten
length_joined g [] = refl
length_joined g (y ∷ ys) = length-append (g y) (flatten (map g ys)) ∙ ap (λ n. length (g y) + n) (length_joined g ys)

pub AllUse : {X : Type 0} (P Q : X → Type 0) (zs : List X) → All (λ z. P z → Q z) zs → All P zs → All Q zs
AllUse P Q [] f h = tt
AllUse P Q (z ∷ zs) f h = (f.0 h.0, AllUse P Q zs f.1 h.1)

all_append : {X : Type 0} (P : X → Type 0) (xs ys : List X) → All P xs → All P ys → All P (xs ++ ys)
all_append P [] ys h g = g
all_append P (x ∷ xs) ys h g = (h.0, all_append P xs ys h.1 g)

pub all_joined : {X Y : Type 0} (P : X → Type 0) (g : Y → List X) (ys : List Y) → All (λ y. All P (g y)) ys → All P (flatten (map g ys))
unfolding flatten
all_joined P g [] h = tt
all_joined P g (y ∷ ys) h = all_append P (g y) (flatten (map g ys)) h.0 (all_joined P g ys h.1)

pub none_of : {X : Type 0} (m d : X → ℕ) (zs : List X) → All (λ z. m z ≡ 0 → d z ≡ 0) zs → total m zs ≡ 0 → total d zs ≡ 0
none_of m d [] h e = refl
none_of m d (z ∷ zs) h e =
    let here : d z ≡ 0 = h.0 (omega arith) in
    let rest : total d zs ≡ 0 = none_of m d zs h.1 (omega arith) in
    omega arith

-- where at most one of a list is marked, and d is 0 at what is not marked, none is marked, or the sum of d is d at the one that is
pub one_of : {X : Type 0} (R : X → Type 0) (m d : X → ℕ) (zs : List X) → All R zs → All (λ z. m z ≡ 0 → d z ≡ 0) zs → total m zs ≤ 1
    → (total m zs ≡ 0) ⊎ ((z : X) × R z × (m z ≡ 1) × (total m zs ≡ 1) × (total d zs ≡ d z))
one_of R m d [] r h l = inl refl
one_of R m d (z ∷ zs) r h l = by (eq-zero-or-pos (m z)) (one_of R m d zs r.1 h.1)
  where
    by : (m z ≡ 0) ⊎ (0 < m z)
        → (total m zs ≤ 1 → (total m zs ≡ 0) ⊎ ((y : _) × R y × (m y ≡ 1) × (total m zs ≡ 1) × (total d zs ≡ d y)))
        → (total m (z ∷ zs) ≡ 0) ⊎ ((y : _) × R y × (m y ≡ 1) × (total m (z ∷ zs) ≡ 1) × (total d (z ∷ zs) ≡ d y))
    by (inl e) next =
        let gone : d z ≡ 0 = h.0 e in
        ⊎_elim (λ none. inl (omega arith)) (λ f. inr (f.0, f.1, f.2, (let all = f.3 in omega arith), (let same = f.4 in omega arith))) (next (omega arith))
    by (inr p) next =
        let rest : total d zs ≡ 0 = none_of m d zs h.1 (omega arith) in
        inr (z, r.0, omega arith, omega arith, omega arith)

pub total_append : {X : Type 0} (f : X → ℕ) (xs ys : List X) → total f (xs ++ ys) ≡ total f xs + total f ys
total_append f [] ys = omega arith
total_append f (x ∷ xs) ys = let rest = total_append f xs ys in omega arith

pub flatten_append : {X Y : Type 0} (g : Y → List X) (xs ys : List Y) → flatten (map g (xs ++ ys)) ≡ flatten (map g xs) ++ flatten (map g ys)
unfolding flatten
flatten_append g [] ys = refl
flatten_append g (x ∷ xs) ys = ap (λ zs. g x ++ zs) (flatten_append g xs ys) ∙ sym (append_assoc (g x) (flatten (map g xs)) (flatten (map g ys)))

pub all_left : {X : Type 0} (P : X → Type 0) (xs ys : List X) → All P (xs ++ ys) → All P xs
all_left P [] ys h = tt
all_left P (x ∷ xs) ys h = (h.0, all_left P xs ys h.1)

pub all_right : {X : Type 0} (P : X → Type 0) (xs ys : List X) → All P (xs ++ ys) → All P ys
all_right P [] ys h = h
all_right P (x ∷ xs) ys h = all_right P xs ys h.1

pub total_le : {X : Type 0} (f g : X → ℕ) (zs : List X) → All (λ z. f z ≤ g z) zs → total f zs ≤ total g zs
total_le f g [] h = omega arith
total_le f g (z ∷ zs) h = let here = h.0 in let rest = total_le f g zs h.1 in omega arith
