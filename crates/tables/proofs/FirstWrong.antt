-- The least wrong place of a walk over a whole area is the first wrong place of the table: every place is looked at, and what is due there is what
-- the table of that kind holds.
use mathlib.Core.Bool.{Bool, true, false, cond}
use mathlib.Core.List.{List, [], ◌∷◌}
use mathlib.Core.Path.{◌≡◌, refl, sym, ap, ap₂, subst, subst⁻¹, ◌∙◌}
use Prim.Native.Nat.{ℕ, zero, suc, ◌+◌, ◌*◌, ◌≤◌, ◌<◌}
use native.Mathlib.Nat.{add-zero, zero-add, suc-add, add-suc, le_of_suc-le-suc}
use native.Mathlib.Omega.{arith}
use borrow.Author.Tests.{eq-eqb, ne_eqb, eqb-true, eqb-false}
use lib.Dec.{eqb}
use lib.ListN.{length, get_or}
use Rattle.terms.specs.Terms.{accepted, answered}
use Rattle.terms.proofs.Limits.{limits}
use Rattle.division.specs.Division.{Block, whole}
use Rattle.std.specs.Prelude.{Option, Some, None, Ok}
use Rattle.tables.specs.Tables.{judged, due_by, check_figures}
use Rattle.leaves.specs.declared.Wrong.{Wrong}
use Rattle.leaves.specs.Walk.{checked}
use Rattle.leaves.proofs.Entries.{either_below}
use Rattle.leaves.proofs.Checks.{Late, over_below, over_some}
use Rattle.tables.proofs.PlaceByPlace.{ps, ps_length, values_below, due_there, looked_for, looked_below, looked_at, due_length}

abbrev Same : (ds vs : List ℕ) → ℕ → Type 0
Same ds vs i = get_or vs i 0 ≡ get_or ds i 0

pub judged_right : (p : ℕ) (ds vs : List ℕ) → length vs ≡ length ds → ((i : ℕ) → i < length ds → Same ds vs i) → judged p ds vs ≡ 0 ∷ 0 ∷ 0 ∷ []
unfolding judged
judged_right p [] vs e same = refl
judged_right p (d ∷ ds) [] e same = absurd (omega arith)
judged_right p (d ∷ ds) (v ∷ vs) e same =
    rw (eq-eqb v d (same 0 (omega arith))) (judged_right (suc p) ds vs (omega arith) (λ i l. same (suc i) (omega arith)))

judged_wrong : (p : ℕ) (ds vs : List ℕ) → length vs ≡ length ds → (l : ℕ) → l < length ds → (Same ds vs l → ⊥) → ((i : ℕ) → i < l → Same ds vs i)
    → judged p ds vs ≡ 1 ∷ (p + l) ∷ get_or ds l 0 ∷ []
unfolding judged
judged_wrong p [] vs e l b other same = absurd (omega arith)
judged_wrong p (d ∷ ds) [] e l b other same = absurd (omega arith)
judged_wrong p (d ∷ ds) (v ∷ vs) e zero b other same = rw (ne_eqb v d other) (ap (λ n. 1 ∷ n ∷ d ∷ []) (sym (add-zero p)))
judged_wrong p (d ∷ ds) (v ∷ vs) e (suc l) b other same =
    rw (eq-eqb v d (same 0 (omega arith)))
    (judged_wrong (suc p) ds vs (omega arith) l (le_of_suc-le-suc b) other (λ i m. same (suc i) (omega arith))
    ∙ ap (λ n. 1 ∷ n ∷ get_or ds l 0 ∷ []) (suc-add p l ∙ sym (add-suc p l)))

-- What the least wrong place says, if there is one.
abbrev verdict : Option Wrong → List ℕ
verdict None = 0 ∷ 0 ∷ 0 ∷ []
verdict (Some wrong) = 1 ∷ wrong.place ∷ wrong.due ∷ []

-- Of a table vs that should hold ds, both of n places: m is none, or a wrong place, and no wrong place comes before it.
module _ (ds vs : List ℕ) (n : ℕ) (long : length ds ≡ n) (size : length vs ≡ n) (m : Option Wrong)
    (below : (i : ℕ) → i < n → (Same ds vs i → ⊥) → (l : ℕ) → Late l m → l ≤ i)
    (some : (P : Option Wrong → Type 0) → P None → ((i : ℕ) → i < n → (Same ds vs i → ⊥) → P (Some (record { place = i; due = get_or ds i 0 }))) → P m) where
  same_before : (i : ℕ) → i < n → (l : ℕ) → i < l → Late l m → Same ds vs i
  same_before i b l less late = by (eqb (get_or vs i 0) (get_or ds i 0)) refl
    where
      by : (right : Bool) → eqb (get_or vs i 0) (get_or ds i 0) ≡ right → Same ds vs i
      by true e = eqb-true _ _ e
      by false e = let no_sooner = below i b (eqb-false _ _ e) l late in absurd (omega arith)

  first_wrong : judged 0 ds vs ≡ verdict m
  first_wrong =
      some (λ x. x ≡ m → judged 0 ds vs ≡ verdict x)
      (λ e. judged_right 0 ds vs (size ∙ sym long) (λ i l. same_before i (omega arith) (suc i) (omega arith) (subst (Late (suc i)) e tt)))
      (λ i b other e. let here : i ≤ i = omega arith in
      judged_wrong 0 ds vs (size ∙ sym long) i (omega arith) other
      (λ j l. same_before j (omega arith) i l (subst (Late i) e here))
      ∙ ap (λ k. 1 ∷ k ∷ get_or ds i 0 ∷ []) (zero-add i))
      refl

module _ (w h : ℕ) (a : 1 ≤ w) (b : 1 ≤ h) (kind : Bool) (t : List ℕ) (size : length t ≡ w * h) where
  abbrev due : List ℕ
  due = due_by kind w h

  abbrev least : Option Wrong
  least = checked kind w t (whole w h) 0 None

  -- the place of each look, and each place's look
  value : (j : ℕ) → j < w * h → get_or due (cond kind (get_or (ps w h) j 0) (0 + j)) 0 ≡ cond kind (0 + j) (get_or (ps w h) j 0)
  value j l = due_there w h a b j l (0 + j) (zero-add j) kind

  at : (i : ℕ) → i < w * h → cond kind (get_or (ps w h) (looked_for w h a b kind i) 0) (0 + looked_for w h a b kind i) ≡ i
  at i l = looked_at w h a b kind i l (0 + looked_for w h a b kind i) (zero-add (looked_for w h a b kind i))

  value_at : (i : ℕ) → i < w * h → cond kind (0 + looked_for w h a b kind i) (get_or (ps w h) (looked_for w h a b kind i) 0) ≡ get_or due i 0
  value_at i l = sym (value (looked_for w h a b kind i) (looked_below w h a b kind i l)) ∙ ap (λ k. get_or due k 0) (at i l)

  below : (i : ℕ) → i < w * h → (Same due t i → ⊥) → (l : ℕ) → Late l least → l ≤ i
  below i l other m late =
      let j = looked_for w h a b kind i in
      subst (λ (n : ℕ). m ≤ n) (at i l)
      (over_below kind t None 0 (ps w h) j (subst⁻¹ (λ (n : ℕ). j < n) (ps_length w h a b) (looked_below w h a b kind i l))
      (λ r. other (ap (λ k. get_or t k 0) (sym (at i l)) ∙ r ∙ value_at i l)) m late)

  some : (P : Option Wrong → Type 0) → P None → ((i : ℕ) → i < w * h → (Same due t i → ⊥) → P (Some (record { place = i; due = get_or due i 0 }))) → P least
  some P none wrong =
      over_some kind t P None 0 (ps w h) none
      (λ j l other. let b' : j < w * h = subst (λ (n : ℕ). j < n) (ps_length w h a b) l in
      let i = cond kind (get_or (ps w h) j 0) (0 + j) in
      let both = values_below w h a b j b' (0 + j) (zero-add j) in
      subst (λ (v : ℕ). P (Some (record { place = i; due = v }))) (value j b')
      (wrong i (either_below (0 + j) (get_or (ps w h) j 0) (w * h) kind both.0 (λ e. both.1)) (λ s. other (s ∙ value j b'))))

  whole_checked : judged 0 due t ≡ verdict least
  whole_checked = first_wrong due t (w * h) (due_length w h a b kind) size least below some

figures_of : (found : Option Wrong) → check_figures (Ok found) ≡ answered (verdict found)
figures_of None = refl
figures_of (Some wrong) = refl

-- What a walk over the whole area finds in a table that fits is the verdict that is due.
pub verdict_is : (w h : ℕ) (kind : Bool) (t : List ℕ) → accepted w h ≡ true → length t ≡ w * h → {k : Block} → k ≡ whole w h → {at : ℕ} → at ≡ 0
    → {found : Option Wrong} → found ≡ checked kind w t k at None → check_figures (Ok found) ≡ answered (judged 0 (due_by kind w h) t)
unfolding whole
verdict_is w h kind t ok size is begins {found} found_is =
    let all = limits w h ok in
    figures_of found
    ∙ ap (λ m. answered (verdict m)) (found_is ∙ ap₂ (λ j n. checked kind w t j n None) is begins)
    ∙ ap answered (sym (whole_checked w h all.w_least all.h_least kind t size))
