-- Numbers taken up into runs: two stretches, one right behind the other, are one stretch; a walk over squares of which those from p on and below q pass
-- its test takes up one stretch. There are never more runs than there were numbers, and how many there are does not depend on where their pairs go.
use mathlib.Core.Bool.{Bool, true, false, not, cond, and-eq-true_iff}
use mathlib.Core.List.{List, [], ◌∷◌, ◌++◌, map}
use mathlib.Core.Path.{◌≡◌, refl, sym, ap, ap₂, ◌∙◌}
use Prim.Native.Nat.{ℕ, zero, suc, ◌+◌, ◌-◌, ◌*◌, ◌≤◌, ◌<◌}
use native.Mathlib.Nat.{add-zero, add-suc, suc-add}
use native.Mathlib.Omega.{arith}
use borrow.Author.Tests.{eq-eqb, leb-true, ltb-true, le-leb, lt-ltb}
use lib.Dec.{leb, ltb}
use lib.ListN.{length, get_or}
use lib.Seq.{set-set}
use Rattle.std.specs.Prelude.{Some}
use Rattle.division.specs.Division.{Square, square, whole, curve}
use Rattle.panes.specs.declared.Pane.{Pane}
use Rattle.panes.specs.Panes.{in_span, Tally, tally, none, begun, ended, follows, joined, over, in_pane, seen, runs_of}

-- the runs with p to q taken up, by whether they follow the last one
pub joined_by : (t : Tally) (p q : ℕ) (same : Bool) → follows t p ≡ same → joined t p q ≡ ended (cond same t (begun t p)) q
unfolding joined
joined_by t p q same e = ap (λ b. ended (cond b t (begun t p)) q) e

-- as the code has it, which begins a run where they do not
pub joined_told : (t : Tally) (p q : ℕ) (other : Bool) → other ≡ not (follows t p) → ended (cond other (begun t p) t) q ≡ joined t p q
unfolding joined
joined_told t p q other e = ap (λ b. ended (cond b (begun t p) t) q) e ∙ by (follows t p)
  where
    by : (same : Bool) → ended (cond (not same) (begun t p) t) q ≡ ended (cond same t (begun t p)) q
    by true = refl
    by false = refl

-- a stretch, and the one right behind it
ended_on : (t : Tally) (q r : ℕ) → joined (ended t q) q r ≡ ended t r
ended_on t q r =
    let k = 2 * t.count - 1 in
    joined_by (ended t q) q r true (eq-eqb q q refl) ∙ ap (tally t.count (Some r)) (set-set t.pairs k (q - 1) (r - 1))

pub joined_on : (t : Tally) (p q r : ℕ) → joined (joined t p q) q r ≡ joined t p r
unfolding joined
joined_on t p q r = ended_on (cond (follows t p) t (begun t p)) q r

-- a walk over two lists, one behind the other
pub over_append : (test : Square → Bool) (t : Tally) (n : ℕ) (xs ys : List Square) → over test t n (xs ++ ys) ≡ over test (over test t n xs) (n + length xs) ys
unfolding over
over_append test t n [] ys = ap (λ m. over test t m ys) (sym (add-zero n))
over_append test t n (x ∷ xs) ys =
    over_append test (cond (test x) (joined t n (n + 1)) t) (suc n) xs ys
    ∙ ap (λ m. over test (over test (cond (test x) (joined t n (n + 1)) t) (suc n) xs) m ys) (suc-add n (length xs) ∙ sym (add-suc n (length xs)))

-- over squares that are seen from elsewhere, by a test that says the same of them
pub over_alike : (test there : Square → Bool) (f : Square → Square) (t : Tally) (n : ℕ) (ss : List Square)
    → ((i : ℕ) → i < length ss → test (f (get_or ss i (square 0 0))) ≡ there (get_or ss i (square 0 0))) → over test t n (map f ss) ≡ over there t n ss
unfolding over
over_alike test there f t n [] same = refl
over_alike test there f t n (s ∷ ss) same =
    ap (λ b. over test (cond b (joined t n (n + 1)) t) (suc n) (map f ss)) (same 0 (omega arith))
    ∙ over_alike test there f (cond (there s) (joined t n (n + 1)) t) (suc n) ss (λ i l. same (suc i) (omega arith))

-- a place within a span, and two spans that say the same of two places
bool_same : (s t : Bool) → (s ≡ true → t ≡ true) → (t ≡ true → s ≡ true) → s ≡ t
bool_same true t to from = sym (to refl)
bool_same false true to from = from refl
bool_same false false to from = refl

pub span_true : (p q i : ℕ) → in_span p q i ≡ true → (p ≤ i) × (i < q)
span_true p q i e =
    let both = (and-eq-true_iff (leb p i) (ltb i q)).0 e in
    (leb-true p i both.0, ltb-true i q both.1)

pub true_span : (p q i : ℕ) → p ≤ i → i < q → in_span p q i ≡ true
true_span p q i l m = rw (le-leb p i l, lt-ltb i q m)

pub span_same : (p q i p' q' i' : ℕ) → (p ≤ i → i < q → (p' ≤ i') × (i' < q')) → (p' ≤ i' → i' < q' → (p ≤ i) × (i < q)) → in_span p q i ≡ in_span p' q' i'
span_same p q i p' q' i' to from =
    bool_same (in_span p q i) (in_span p' q' i')
    (λ e. let l = span_true p q i e in let m = to l.0 l.1 in true_span p' q' i' m.0 m.1)
    (λ e. let l = span_true p' q' i' e in let m = from l.0 l.1 in true_span p q i m.0 m.1)

pub span_none : (p q i : ℕ) → (p ≤ i → i < q → ⊥) → in_span p q i ≡ false
span_none p q i other =
    bool_same (in_span p q i) false (λ e. let l = span_true p q i e in absurd (other l.0 l.1)) (λ e. let z : ◌≡◌ {A = ℕ} 0 1 = cc in absurd (omega arith))

-- Which squares of a list pass a test: those at the places from p on and below q.
abbrev pub Seen : (Square → Bool) → List Square → (p q : ℕ) → Type 0
Seen test ss p q = (i : ℕ) → i < length ss → test (get_or ss i (square 0 0)) ≡ in_span p q i

pub over_none : (test : Square → Bool) (t : Tally) (n : ℕ) (ss : List Square) (p q : ℕ) → q ≤ p → Seen test ss p q → over test t n ss ≡ t
unfolding over
over_none test t n [] p q l s = refl
over_none test t n (x ∷ xs) p q l s =
    ap (λ b. over test (cond b (joined t n (n + 1)) t) (suc n) xs) (s 0 (omega arith) ∙ span_none p q 0 (λ a b. omega arith))
    ∙ over_none test t (suc n) xs 0 0 (omega arith)
    (λ i m. s (suc i) (omega arith) ∙ span_none p q (suc i) (λ a b. omega arith) ∙ sym (span_none 0 0 i (λ a b. omega arith)))

-- The squares at places from p on and below q are one stretch of numbers.
pub over_stretch : (test : Square → Bool) (t : Tally) (n : ℕ) (ss : List Square) (p q : ℕ) → p < q → q ≤ length ss → Seen test ss p q
    → over test t n ss ≡ joined t (n + p) (n + q)
unfolding over
over_stretch test t n [] p q l m s = absurd (omega arith)
over_stretch test t n (x ∷ xs) p zero l m s = absurd (omega arith)
over_stretch test t n (x ∷ xs) (suc p) (suc q) l m s =
    ap (λ b. over test (cond b (joined t n (n + 1)) t) (suc n) xs) (s 0 (omega arith) ∙ span_none (suc p) (suc q) 0 (λ a b. omega arith))
    ∙ over_stretch test t (suc n) xs p q (omega arith) (omega arith)
    (λ i k. s (suc i) (omega arith) ∙ span_same (suc p) (suc q) (suc i) p q i (λ a b. (omega arith, omega arith)) (λ a b. (omega arith, omega arith)))
    ∙ ap₂ (joined t) (omega arith) (omega arith)
over_stretch test t n (x ∷ xs) zero (suc zero) l m s =
    ap (λ b. over test (cond b (joined t n (n + 1)) t) (suc n) xs) (s 0 (omega arith) ∙ true_span 0 1 0 (omega arith) (omega arith))
    ∙ over_none test (joined t n (n + 1)) (suc n) xs 0 0 (omega arith)
    (λ i k. s (suc i) (omega arith) ∙ span_none 0 1 (suc i) (λ a b. omega arith) ∙ sym (span_none 0 0 i (λ a b. omega arith)))
    ∙ ap (λ k. joined t k (n + 1)) (sym (add-zero n))
over_stretch test t n (x ∷ xs) zero (suc (suc q)) l m s =
    ap (λ b. over test (cond b (joined t n (n + 1)) t) (suc n) xs) (s 0 (omega arith) ∙ true_span 0 (suc (suc q)) 0 (omega arith) (omega arith))
    ∙ over_stretch test (joined t n (n + 1)) (suc n) xs zero (suc q) (omega arith) (omega arith)
    (λ i k. s (suc i) (omega arith)
    ∙ span_same 0 (suc (suc q)) (suc i) 0 (suc q) i (λ a b. (omega arith, omega arith)) (λ a b. (omega arith, omega arith)))
    ∙ ap₂ (joined (joined t n (n + 1))) (omega arith) (omega arith)
    ∙ joined_on t n (n + 1) (n + suc (suc q))
    ∙ ap (λ k. joined t k (n + suc (suc q))) (sym (add-zero n))

-- A stretch adds one run at most, and squares no more than there are.
pub joined_few : (t : Tally) (p q : ℕ) → (joined t p q).count ≤ t.count + 1
unfolding joined
joined_few t p q = by (follows t p)
  where
    by : (same : Bool) → (ended (cond same t (begun t p)) q).count ≤ t.count + 1
    by true = omega arith
    by false = omega arith

pub over_few : (test : Square → Bool) (t : Tally) (n : ℕ) (ss : List Square) → (over test t n ss).count ≤ t.count + length ss
unfolding over
over_few test t n [] = omega arith
over_few test t n (x ∷ xs) = by (test x) (λ u. over_few test u (suc n) xs)
  where
    by : (b : Bool) → ((u : Tally) → (over test u (suc n) xs).count ≤ u.count + length xs)
        → (over test (cond b (joined t n (n + 1)) t) (suc n) xs).count ≤ t.count + suc (length xs)
    by true rest = let one = joined_few t n (n + 1) in let all = rest (joined t n (n + 1)) in omega arith
    by false rest = let all = rest t in omega arith

-- as many runs, whatever list their pairs are written to
abbrev pub bare : Tally → Tally
bare t = tally t.count t.behind []

joined_bare : (t : Tally) (p q : ℕ) → bare (joined t p q) ≡ joined (bare t) p q
unfolding joined
joined_bare t p q = by (follows t p)
  where
    by : (same : Bool) → bare (ended (cond same t (begun t p)) q) ≡ ended (cond same (bare t) (begun (bare t) p)) q
    by true = refl
    by false = refl

pub over_bare : (test : Square → Bool) (t : Tally) (n : ℕ) (ss : List Square) → bare (over test t n ss) ≡ over test (bare t) n ss
unfolding over
over_bare test t n [] = refl
over_bare test t n (x ∷ xs) = over_bare test (cond (test x) (joined t n (n + 1)) t) (suc n) xs ∙ ap (λ u. over test u (suc n) xs) (by (test x))
  where
    by : (b : Bool) → bare (cond b (joined t n (n + 1)) t) ≡ cond b (joined (bare t) n (n + 1)) (bare t)
    by true = joined_bare t n (n + 1)
    by false = refl

pub runs_alike : (p : Pane) (pairs : List ℕ) → (seen p (none pairs) 0).count ≡ runs_of p
runs_alike p pairs = ap (λ t. t.count) (over_bare (in_pane p) (none pairs) 0 (curve (whole p.a p.b)))
