-- The law of guards, from both sides: a call is refused with r exactly if the guards before r's pass and r's fails, and answered exactly if all pass. And how
-- the code gets there, one guard after the other.
use mathlib.Core.Bool.{Bool, true, false, not, cond, ◌||◌, ◌&&◌}
use mathlib.Core.List.{List, [], ◌∷◌}
use mathlib.Core.Logic.{◌↔◌, ◌⊎◌, inl, inr}
use mathlib.Core.Path.{◌≡◌, refl, sym, ap, ap₂, ◌∙◌}
use Prim.Native.Nat.{ℕ, zero, suc, ◌<◌}
use native.Mathlib.Omega.{arith}
use borrow.Author.Tests.{eqb-true, eqb-false}
use lib.Dec.{eqb}
use lib.ListN.{length}
use Rattle.terms.specs.declared.Refusal.{Refusal}
use Rattle.terms.specs.declared.Refusal.TheVariants.{AreaLimit}
use Rattle.std.specs.Prelude.{Result, Ok, Err, IsErr, IsErrAnd}
use Rattle.terms.specs.Terms.{refusal_number, Figures, answered, refused, refused_with}
use Rattle.terms.specs.Guards.{Guard, ◌else◌, Admission, granted, admitted, padded, guarded, then_guard, first, rest}
use Rattle.terms.proofs.Refusals.{refusal_one, refusal_some}

-- Facts, one for each guard of a list, as the list itself is written: they are nested pairs.
infixr 1 ◌and◌
abbrev pub ◌and◌ {ℓ κ} : {A : Type ℓ} {B : Type κ} → A → B → A × B
a and b = (a, b)

-- All guards pass: of a list that is written out, the product of its tests.
abbrev pub Passed : List Guard → Type 0
Passed [] = Unit {0}
Passed (g ∷ []) = g.holds ≡ true
Passed (g ∷ h ∷ gs) = (g.holds ≡ true) × Passed (h ∷ gs)

-- The first that fails refuses with r: of a list that is written out, that those before r's pass and r's fails. Where r stands twice, one or the other.
abbrev pub same : Refusal → Refusal → Bool
same r s = eqb (refusal_number r) (refusal_number s)

abbrev pub stands : Refusal → List Guard → Bool
stands r [] = false
stands r (g ∷ gs) = same g.refusal r || stands r gs

abbrev pub AtGuard : (here later : Bool) → (Holds Not Later : Type 0) → Type 0
AtGuard true true Holds Not Later = Not ⊎ (Holds × Later)
AtGuard true false Holds Not Later = Not
AtGuard false later Holds Not Later = Holds × Later

abbrev pub Fails : List Guard → Refusal → Type 0
Fails [] r = ⊥
Fails (g ∷ gs) r = AtGuard (same g.refusal r) (stands r gs) (g.holds ≡ true) (g.holds ≡ false) (Fails gs r)

-- granted exactly if all pass
pub passed : (gs : List Guard) → admitted gs ≡ granted → Passed gs
passed [] e = tt
passed (g ∷ []) e = by g.holds e
  where
    by : (t : Bool) → cond t granted (Err g.refusal) ≡ granted → t ≡ true
    by true e = refl
    by false e = absurd (let z : ◌≡◌ {A = ℕ} 0 1 = cc in omega arith)
passed (g ∷ h ∷ gs) e = by g.holds e (passed (h ∷ gs))
  where
    by : (t : Bool) → cond t (admitted (h ∷ gs)) (Err g.refusal) ≡ granted → (admitted (h ∷ gs) ≡ granted → Passed (h ∷ gs))
        → (t ≡ true) × Passed (h ∷ gs)
    by true e rest = (refl, rest e)
    by false e rest = absurd (let z : ◌≡◌ {A = ℕ} 0 1 = cc in omega arith)

pub all_pass : (gs : List Guard) → Passed gs → admitted gs ≡ granted
all_pass [] p = refl
all_pass (g ∷ []) p = rw p
all_pass (g ∷ h ∷ gs) p = rw p.0 (all_pass (h ∷ gs) p.1)

-- what refuses stands in the list
stands_there : (gs : List Guard) (r : Refusal) → admitted gs ≡ Err r → stands r gs ≡ true
stands_there [] r e = absurd (let z : ◌≡◌ {A = ℕ} 0 1 = cc in omega arith)
stands_there (g ∷ gs) r e = by g.holds (same g.refusal r) refl e (stands_there gs r)
  where
    by : (t here : Bool) → same g.refusal r ≡ here → cond t (admitted gs) (Err g.refusal) ≡ Err r
        → (admitted gs ≡ Err r → stands r gs ≡ true) → here || stands r gs ≡ true
    by t true is e rest = refl
    by true false is e rest = rest e
    by false false is e rest =
        let one : g.refusal ≡ r = cc in
        absurd (eqb-false (refusal_number g.refusal) (refusal_number r) is (ap refusal_number one))

-- refused with r exactly if the guards before r's pass and r's fails
pub fails : (gs : List Guard) (r : Refusal) → admitted gs ≡ Err r → Fails gs r
fails [] r e = absurd (let z : ◌≡◌ {A = ℕ} 0 1 = cc in omega arith)
fails (g ∷ gs) r e = by g.holds (same g.refusal r) (stands r gs) refl refl e (fails gs r)
  where
    by : (t here later : Bool) → same g.refusal r ≡ here → stands r gs ≡ later → cond t (admitted gs) (Err g.refusal) ≡ Err r
        → (admitted gs ≡ Err r → Fails gs r) → AtGuard here later (t ≡ true) (t ≡ false) (Fails gs r)
    by false true true is l e rest = inl refl
    by false true false is l e rest = refl
    by false false later is l e rest =
        let one : g.refusal ≡ r = cc in
        absurd (eqb-false (refusal_number g.refusal) (refusal_number r) is (ap refusal_number one))
    by true true true is l e rest = inr (refl, rest e)
    by true true false is l e rest = sym (stands_there gs r e) ∙ l
    by true false later is l e rest = (refl, rest e)

pub refuses : (gs : List Guard) (r : Refusal) → Fails gs r → admitted gs ≡ Err r
refuses [] r f = elim f [ ]
refuses (g ∷ gs) r f = by g.holds (same g.refusal r) (stands r gs) refl f (refuses gs r)
  where
    by : (t here later : Bool) → same g.refusal r ≡ here → AtGuard here later (t ≡ true) (t ≡ false) (Fails gs r) → (Fails gs r → admitted gs ≡ Err r)
        → cond t (admitted gs) (Err g.refusal) ≡ Err r
    by t true true is (inl f) rest = rw f (ap Err (refusal_one g.refusal r (eqb-true (refusal_number g.refusal) (refusal_number r) is)))
    by t true true is (inr f) rest = rw f.0 (rest f.1)
    by t true false is f rest = rw f (ap Err (refusal_one g.refusal r (eqb-true (refusal_number g.refusal) (refusal_number r) is)))
    by t false later is f rest = rw f.0 (rest f.1)

-- A call's figures by its admission: its values where it is granted, else the refusal.
pub number_of : Admission → ℕ
number_of (Ok u) = 0
number_of (Err r) = refusal_number r

guarded_number : (gs : List Guard) (n : ℕ) (values : List ℕ) → (guarded gs n values).refusal ≡ number_of (admitted gs)
unfolding number_of
guarded_number [] n values = refl
guarded_number (g ∷ gs) n values = by g.holds (guarded_number gs n values)
  where
    by : (t : Bool) → (guarded gs n values).refusal ≡ number_of (admitted gs)
        → (cond t (guarded gs n values) (refused_with g.refusal (padded n g.tells))).refusal ≡ number_of (cond t (admitted gs) (Err g.refusal))
    by true rest = rest
    by false rest = refl

module _ (gs : List Guard) (n : ℕ) (values : List ℕ) where
  -- Refused with r exactly if the guards before r's pass and r's fails. A refusal that is not in the list never comes: `Fails` is empty then.
  pub refused_exactly : (r : Refusal) → ((guarded gs n values).refusal ≡ refusal_number r) ↔ Fails gs r
  unfolding number_of
  refused_exactly r = (λ e. fails gs r (by (admitted gs) (sym (guarded_number gs n values) ∙ e)), λ f. guarded_number gs n values ∙ rw (refuses gs r f))
    where
      by : (j : Admission) → number_of j ≡ refusal_number r → j ≡ Err r
      by (Ok u) e = absurd (refusal_some r (sym e))
      by (Err s) e = ap Err (refusal_one s r e)

  -- Answered exactly if all pass, and then with the values.
  pub answered_exactly : ((guarded gs n values).refusal ≡ 0) ↔ Passed gs
  unfolding number_of
  answered_exactly = (λ e. passed gs (by (admitted gs) (sym (guarded_number gs n values) ∙ e)), λ p. guarded_number gs n values ∙ rw (all_pass gs p))
    where
      by : (j : Admission) → number_of j ≡ 0 → j ≡ granted
      by (Ok u) e = refl
      by (Err s) e = absurd (refusal_some s e)

pub answered_so : (gs : List Guard) (n : ℕ) (values : List ℕ) → Passed gs → guarded gs n values ≡ answered values
answered_so [] n values p = refl
answered_so (g ∷ []) n values p = rw p
answered_so (g ∷ h ∷ gs) n values p = rw p.0 (answered_so (h ∷ gs) n values p.1)

-- every number of a call's figures is 0 or that of a refusal which stands in its list
pub never : (gs : List Guard) (r : Refusal) (n : ℕ) (values : List ℕ) → stands r gs ≡ false → (guarded gs n values).refusal ≡ refusal_number r → ⊥
never gs r n values none e =
    let there = stands_there gs r (refuses gs r ((refused_exactly gs n values r).0 e)) in
    let z : true ≡ false = sym there ∙ none in
    absurd (let z : ◌≡◌ {A = ℕ} 0 1 = cc in omega arith)

-- What a call answers by the admission of its first guards, which tell nothing, and by the others after them.
abbrev pub as_admitted : Admission → (n : ℕ) → Figures → Figures
as_admitted (Ok u) n answer = answer
as_admitted (Err r) n answer = refused r n

abbrev none : List ℕ → Bool
none [] = true
none (v ∷ vs) = false

abbrev pub quiet : List Guard → Bool
quiet [] = true
quiet (g ∷ gs) = none g.tells && quiet gs

pub by_admission : (k : ℕ) (gs : List Guard) (n : ℕ) (values : List ℕ) → quiet (first k gs) ≡ true
    → guarded gs n values ≡ as_admitted (admitted (first k gs)) n (guarded (rest k gs) n values)
by_admission zero gs n values q = refl
by_admission (suc k) [] n values q = refl
by_admission (suc k) (g ∷ gs) n values q = by g.holds g.tells q (by_admission k gs n values)
  where
    by : (t : Bool) (told : List ℕ) → none told && quiet (first k gs) ≡ true
        → (quiet (first k gs) ≡ true → guarded gs n values ≡ as_admitted (admitted (first k gs)) n (guarded (rest k gs) n values))
        → cond t (guarded gs n values) (refused_with g.refusal (padded n told))
        ≡ as_admitted (cond t (admitted (first k gs)) (Err g.refusal)) n (guarded (rest k gs) n values)
    by true [] q later = later q
    by false [] q later = refl
    by t (v ∷ vs) q later = absurd (let z : ◌≡◌ {A = ℕ} 0 1 = cc in omega arith)

-- "the number, all else 0": the refusal of a list that tells nothing besides
pub refused_whole : (gs : List Guard) (n : ℕ) (values : List ℕ) → quiet gs ≡ true → (r : Refusal) → (guarded gs n values).refusal ≡ refusal_number r
    → guarded gs n values ≡ refused r n
refused_whole [] n values q r e = absurd (refusal_some r (sym e))
refused_whole (g ∷ gs) n values q r e = by g.holds g.tells q e (refused_whole gs n values)
  where
    by : (t : Bool) (told : List ℕ) → none told && quiet gs ≡ true
        → (cond t (guarded gs n values) (refused_with g.refusal (padded n told))).refusal ≡ refusal_number r
        → (quiet gs ≡ true → (r : Refusal) → (guarded gs n values).refusal ≡ refusal_number r → guarded gs n values ≡ refused r n)
        → cond t (guarded gs n values) (refused_with g.refusal (padded n told)) ≡ refused r n
    by true [] q e later = later q r e
    by false [] q e later = ap (λ (s : Refusal). refused s n) (refusal_one g.refusal r e)
    by t (v ∷ vs) q e later = absurd (let z : ◌≡◌ {A = ℕ} 0 1 = cc in omega arith)

-- So of a list of which some refusals tell something: those with r tell nothing.
abbrev pub silent_at : Refusal → List Guard → Bool
silent_at r [] = true
silent_at r (g ∷ gs) = (none g.tells || not (same g.refusal r)) && silent_at r gs

pub refused_silent : (gs : List Guard) (n : ℕ) (values : List ℕ) (r : Refusal) → silent_at r gs ≡ true → (guarded gs n values).refusal ≡ refusal_number r
    → guarded gs n values ≡ refused r n
refused_silent [] n values r q e = absurd (refusal_some r (sym e))
refused_silent (g ∷ gs) n values r q e = by g.holds (same g.refusal r) g.tells refl q e (refused_silent gs n values r)
  where
    by : (t here : Bool) (told : List ℕ) → same g.refusal r ≡ here → (none told || not here) && silent_at r gs ≡ true
        → (cond t (guarded gs n values) (refused_with g.refusal (padded n told))).refusal ≡ refusal_number r
        → (silent_at r gs ≡ true → (guarded gs n values).refusal ≡ refusal_number r → guarded gs n values ≡ refused r n)
        → cond t (guarded gs n values) (refused_with g.refusal (padded n told)) ≡ refused r n
    by true here [] is q e later = later q e
    by true false (v ∷ vs) is q e later = later q e
    by false here [] is q e later = ap (λ (s : Refusal). refused s n) (refusal_one g.refusal r e)
    by false false (v ∷ vs) is q e later = absurd (eqb-false (refusal_number g.refusal) (refusal_number r) is e)
    by t true (v ∷ vs) is q e later = absurd (let z : ◌≡◌ {A = ℕ} 0 1 = cc in omega arith)

module _ (k : ℕ) (gs : List Guard) (n : ℕ) (values : List ℕ) (q : quiet (first k gs) ≡ true) where
  pub refused_first : (r : Refusal) → admitted (first k gs) ≡ Err r → refused r n ≡ guarded gs n values
  refused_first r e = sym (by_admission k gs n values q ∙ ap (λ (j : Admission). as_admitted j n (guarded (rest k gs) n values)) e)

  pub granted_first : admitted (first k gs) ≡ granted → guarded (rest k gs) n values ≡ guarded gs n values
  granted_first e = sym (by_admission k gs n values q ∙ ap (λ (j : Admission). as_admitted j n (guarded (rest k gs) n values)) e)

-- Two lists that have the same guards, one by one: of lists that are written out, an equation for each guard. So a law on two calls repeats no list.
abbrev pub Alike : List Guard → List Guard → Type 0
Alike [] [] = Unit {0}
Alike [] (h ∷ hs) = ⊥
Alike (g ∷ gs) [] = ⊥
Alike (g ∷ gs) (h ∷ hs) = (g ≡ h) × Alike gs hs

pub alike : (gs hs : List Guard) → Alike gs hs → gs ≡ hs
alike [] [] a = refl
alike [] (h ∷ hs) a = absurd a
alike (g ∷ gs) [] a = absurd a
alike (g ∷ gs) (h ∷ hs) a = ap₂ ◌∷◌ a.0 (alike gs hs a.1)

-- The code tries the guards in turn. A test need be right only where those before it passed.
abbrev pub nth : ℕ → List Guard → Guard
nth n [] = true else AreaLimit
nth zero (g ∷ gs) = g
nth (suc n) (g ∷ gs) = nth n gs

-- Guard k, and no other, refuses with r.
abbrev pub alone : ℕ → Refusal → List Guard → Bool
alone k r [] = false
alone zero r (g ∷ gs) = same g.refusal r && not (stands r gs)
alone (suc k) r (g ∷ gs) = not (same g.refusal r) && alone k r gs

one_more : (gs : List Guard) (n : ℕ) → n < length gs → then_guard (admitted (first n gs)) (nth n gs) ≡ admitted (first (suc n) gs)
one_more [] n l = absurd (omega arith)
one_more (g ∷ gs) zero l = refl
one_more (g ∷ gs) (suc n) l = by g.holds (one_more gs n (omega arith))
  where
    by : (t : Bool) → then_guard (admitted (first n gs)) (nth n gs) ≡ admitted (first (suc n) gs)
        → then_guard (cond t (admitted (first n gs)) (Err g.refusal)) (nth n gs) ≡ cond t (admitted (first (suc n) gs)) (Err g.refusal)
    by true later = later
    by false later = refl

pub next : (gs : List Guard) (n : ℕ) {told : Bool} {j k : Admission} → n < length gs → j ≡ admitted (first n gs)
    → k ≡ then_guard j (told else (nth n gs).refusal) → (Passed (first n gs) → told ≡ (nth n gs).holds) → k ≡ admitted (first (suc n) gs)
next gs n {told} {j} {k} l is step right =
    step
    ∙ ap (λ (i : Admission). then_guard i (told else (nth n gs).refusal)) is
    ∙ by (admitted (first n gs)) refl
    ∙ one_more gs n l
  where
    by : (i : Admission) → admitted (first n gs) ≡ i → then_guard i (told else (nth n gs).refusal) ≡ then_guard i (nth n gs)
    by (Ok u) e = ap (λ (t : Bool). cond t granted (Err (nth n gs).refusal)) (right (passed (first n gs) e))
    by (Err s) e = refl

-- and where all before it passed, which is where the code tries it, it alone admits or refuses
pub next_granted : (gs : List Guard) (n : ℕ) {told : Bool} {k : Admission} → n < length gs → admitted (first n gs) ≡ granted
    → k ≡ admitted (told else (nth n gs).refusal ∷ []) → (Passed (first n gs) → told ≡ (nth n gs).holds) → k ≡ admitted (first (suc n) gs)
next_granted gs n l tried step right = next gs n {j = granted} l (sym tried) step right

-- a guard that holds wherever those before it passed need not be tried
pub untried : (gs : List Guard) (n : ℕ) {j : Admission} → n < length gs → j ≡ admitted (first n gs) → (Passed (first n gs) → (nth n gs).holds ≡ true)
    → j ≡ admitted (first (suc n) gs)
untried gs n l is holds = is ∙ by (admitted (first n gs)) refl ∙ one_more gs n l
  where
    by : (j : Admission) → admitted (first n gs) ≡ j → j ≡ then_guard j (nth n gs)
    by (Ok u) e = ap (λ (t : Bool). cond t granted (Err (nth n gs).refusal)) (sym (holds (passed (first n gs) e)))
    by (Err r) e = refl

-- what guard k tells where it refuses, and its refusal stands nowhere else
pub told_at : (gs : List Guard) (k n : ℕ) (values : List ℕ) (r : Refusal) → alone k r gs ≡ true → (guarded gs n values).refusal ≡ refusal_number r
    → guarded gs n values ≡ refused_with r (padded n (nth k gs).tells)
told_at [] k n values r a e = absurd (refusal_some r (sym e))
told_at (g ∷ gs) zero n values r a e = by g.holds (same g.refusal r) (stands r gs) refl refl a e
  where
    by : (t here later : Bool) → same g.refusal r ≡ here → stands r gs ≡ later → here && not later ≡ true
        → (cond t (guarded gs n values) (refused_with g.refusal (padded n g.tells))).refusal ≡ refusal_number r
        → cond t (guarded gs n values) (refused_with g.refusal (padded n g.tells)) ≡ refused_with r (padded n g.tells)
    by true true false is l a e = absurd (never gs r n values l e)
    by false true false is l a e = ap (λ (s : Refusal). refused_with s (padded n g.tells)) (refusal_one g.refusal r e)
    by t true true is l a e = absurd (let z : ◌≡◌ {A = ℕ} 0 1 = cc in omega arith)
    by t false later is l a e = absurd (let z : ◌≡◌ {A = ℕ} 0 1 = cc in omega arith)
told_at (g ∷ gs) (suc k) n values r a e = by g.holds (same g.refusal r) refl a e (told_at gs k n values r)
  where
    by : (t here : Bool) → same g.refusal r ≡ here → not here && alone k r gs ≡ true
        → (cond t (guarded gs n values) (refused_with g.refusal (padded n g.tells))).refusal ≡ refusal_number r
        → (alone k r gs ≡ true → (guarded gs n values).refusal ≡ refusal_number r → guarded gs n values ≡ refused_with r (padded n (nth k gs).tells))
        → cond t (guarded gs n values) (refused_with g.refusal (padded n g.tells)) ≡ refused_with r (padded n (nth k gs).tells)
    by true false is a e later = later a e
    by false false is a e later = absurd (eqb-false (refusal_number g.refusal) (refusal_number r) is e)
    by t true is a e later = absurd (let z : ◌≡◌ {A = ℕ} 0 1 = cc in omega arith)

-- what `?` hands on of a refusal is that refusal
pub handed_on : {T : Type 0} {r : Result T Refusal} {s : Refusal} → IsErr r × IsErrAnd r (λ t. t ≡ s) → r ≡ Err s
handed_on {r = Ok v} p = absurd p.1
handed_on {r = Err t} p = ap Err p.1
