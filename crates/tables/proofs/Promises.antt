-- What the tables' promises come to: a filled table holds what the lookups' definitions say, the two kinds undo each other, a check says right
-- exactly of the table that a fill leaves, the count meets demand 3, an answer is the only one, and the wrong programs that are turned away.
use mathlib.Core.Bool.{Bool, true, false, cond}
use mathlib.Core.List.{List, [], ◌∷◌}
use mathlib.Core.Logic.{◌⊎◌, inl, inr}
use mathlib.Core.Path.{◌≡◌, refl, sym, ap, ap₂, subst⁻¹, ◌∙◌}
use Prim.Native.Nat.{ℕ, zero, suc, ◌+◌, ◌-◌, ◌*◌, ◌/◌, ◌%◌, ◌≤◌, ◌<◌}
use native.Mathlib.Nat.{zero-add}
use native.Mathlib.Omega.{arith}
use borrow.Author.Tests.{eqb-true, eqb-false}
use lib.Dec.{eqb, lit≤, lit<}
use lib.ListN.{length, get_or}
use Rattle.division.proofs.Small.{blocks_two}
use Rattle.terms.specs.declared.Area.{Area}
use Rattle.terms.specs.Terms.{accepted, Figures, answered}
use Rattle.terms.specs.Guards.{guarded}
use Rattle.terms.proofs.Limits.{limits}
use Rattle.terms.proofs.Refusals.{named, named_back, refusal_not_0, figure}
use Rattle.terms.proofs.Guards.{all_pass, answered_exactly}
use Rattle.terms.proofs.OneAnswer.{one_equation, by_figures}
use Rattle.division.specs.Division.{square, whole, square_of, number_of, blocks, +x, +y}
use Rattle.division.proofs.Blocks.{whole_inside, few_blocks}
use Rattle.std.specs.Prelude.{Option, Some, None, Result, Ok, Err}
use Rattle.terms.specs.declared.Refusal.{Refusal}
use Rattle.leaves.specs.declared.Wrong.{Wrong}
use Rattle.tables.specs.Tables.{by_number, by_square, due_by, judged, table_guards, unless_refused, fill, check, fill_figures, check_figures}
use Rattle.tables.specs.Tables.{fill_at, filled_at, check_at}
use Rattle.tables.proofs.Admitted.{table_granted, taken, given, answered_left, refused_left}
use Rattle.tables.proofs.FirstWrong.{judged_right}
use Rattle.tables.proofs.PlaceByPlace.{place_holds, values_below, due_there, looked_for, looked_below, looked_at, due_length}

-- A filled table holds what the lookups' definitions say.
pub number_holds : (w h i : ℕ) → i < w * h → get_or (by_number w h) i 0 ≡ (square_of (whole w h) i).y * w + (square_of (whole w h) i).x
unfolding by_number
number_holds w h i l = place_holds (λ n. (square_of (whole w h) n).y * w + (square_of (whole w h) n).x) (w * h) i l

pub square_holds : (w h p : ℕ) → p < w * h → get_or (by_square w h) p 0 ≡ number_of (whole w h) (square (p % w) (p / w))
unfolding by_square
square_holds w h p l = place_holds (λ q. number_of (whole w h) (square (q % w) (q / w))) (w * h) p l

-- The two kinds undo each other, place by place: each is a permutation of the numbers below w·h, and the other's inverse.
pub kinds_inverse : (w h : ℕ) → 1 ≤ w → 1 ≤ h → (i : ℕ) → i < w * h
    → (get_or (by_square w h) (get_or (by_number w h) i 0) 0 ≡ i) × (get_or (by_number w h) (get_or (by_square w h) i 0) 0 ≡ i)
kinds_inverse w h a b i l =
    let j = looked_for w h a b true i in
    let m = looked_below w h a b true i l in
    let there = looked_at w h a b true i l j refl in (
      ap (λ p. get_or (by_square w h) p 0) (due_there w h a b i l i refl false) ∙ due_there w h a b i l i refl true,
      ap (λ n. get_or (by_number w h) n 0) (ap (λ p. get_or (by_square w h) p 0) (sym there) ∙ due_there w h a b j m j refl true)
          ∙ due_there w h a b j m j refl false
          ∙ there,
    )

-- A check says right exactly of the table that a fill leaves, and so of one in which a fill changes nothing.
same_by : (p d v : ℕ) (ds vs : List ℕ) (same : Bool) → eqb v d ≡ same → (judged (suc p) ds vs ≡ 0 ∷ 0 ∷ 0 ∷ [] → vs ≡ ds)
    → cond same (judged (suc p) ds vs) (1 ∷ p ∷ d ∷ []) ≡ 0 ∷ 0 ∷ 0 ∷ [] → v ∷ vs ≡ d ∷ ds
same_by p d v ds vs true e rest right = ap₂ ◌∷◌ (eqb-true v d e) (rest right)
same_by p d v ds vs false e rest right = absurd (omega (arith, ap (λ zs. get_or zs 0 0) right))

judged_same : (p : ℕ) (ds vs : List ℕ) → length vs ≡ length ds → judged p ds vs ≡ 0 ∷ 0 ∷ 0 ∷ [] → vs ≡ ds
unfolding judged
judged_same p [] [] e right = refl
judged_same p [] (v ∷ vs) e right = absurd (omega arith)
judged_same p (d ∷ ds) [] e right = absurd (omega arith)
judged_same p (d ∷ ds) (v ∷ vs) e right = same_by p d v ds vs (eqb v d) refl (judged_same (suc p) ds vs (omega arith)) right

right_or_wrong : (p : ℕ) (ds vs : List ℕ)
    → (judged p ds vs ≡ 0 ∷ 0 ∷ 0 ∷ []) ⊎ ((place : ℕ) × (value : ℕ) × (judged p ds vs ≡ 1 ∷ place ∷ value ∷ []))
unfolding judged
right_or_wrong p [] vs = inl refl
right_or_wrong p (d ∷ ds) [] = inr (p, d, refl)
right_or_wrong p (d ∷ ds) (v ∷ vs) = by (eqb v d) (right_or_wrong (suc p) ds vs)
  where
    by : (same : Bool) → (judged (suc p) ds vs ≡ 0 ∷ 0 ∷ 0 ∷ []) ⊎ ((place : ℕ) × (value : ℕ) × (judged (suc p) ds vs ≡ 1 ∷ place ∷ value ∷ []))
        → (cond same (judged (suc p) ds vs) (1 ∷ p ∷ d ∷ []) ≡ 0 ∷ 0 ∷ 0 ∷ [])
        ⊎ ((place : ℕ) × (value : ℕ) × (cond same (judged (suc p) ds vs) (1 ∷ p ∷ d ∷ []) ≡ 1 ∷ place ∷ value ∷ []))
    by true later = later
    by false later = inr (p, d, refl)

module _ (w h : ℕ) (yes : accepted w h ≡ true) (kind : Bool) (t : List ℕ) (size : length t ≡ w * h) where
  abbrev due : List ℕ
  due = due_by kind w h

  long : length due ≡ w * h
  long = let all = limits w h yes in due_length w h all.w_least all.h_least kind

  judged_is : check w h due t ≡ answered (judged 0 due t)
  unfolding check
  judged_is = taken w h t 3 (judged 0 due t) yes size

  pub right_then_filled : check w h due t ≡ answered (0 ∷ 0 ∷ 0 ∷ []) → t ≡ due
  right_then_filled e = judged_same 0 due t (size ∙ sym long) (ap (λ f. f.values) (sym judged_is ∙ e))

  pub filled_then_right : t ≡ due → check w h due t ≡ answered (0 ∷ 0 ∷ 0 ∷ [])
  filled_then_right e = judged_is ∙ ap answered (judged_right 0 due t (size ∙ sym long) (λ i l. ap (λ zs. get_or zs i 0) e))

  -- and a wrong table is told wrong
  pub wrong_told : (t ≡ due → ⊥) → (place : ℕ) × (value : ℕ) × (check w h due t ≡ answered (1 ∷ place ∷ value ∷ []))
  wrong_told other = by (right_or_wrong 0 due t)
    where
      by : (judged 0 due t ≡ 0 ∷ 0 ∷ 0 ∷ []) ⊎ ((place : ℕ) × (value : ℕ) × (judged 0 due t ≡ 1 ∷ place ∷ value ∷ []))
          → (place : ℕ) × (value : ℕ) × (check w h due t ≡ answered (1 ∷ place ∷ value ∷ []))
      by (inl right) = absurd (other (right_then_filled (judged_is ∙ ap answered right)))
      by (inr (place, value, is)) = (place, value, judged_is ∙ ap answered is)

-- "the first wrong place and the value due there": the table has that place, what it holds is not what is due there, and every place before it is right.
pub record First (due t : List ℕ) (place value : ℕ) : Type 0 where
  pub there : place < length due
  pub value_due : get_or due place 0 ≡ value
  pub wrong : get_or t place 0 ≡ value → ⊥
  pub before : (i : ℕ) → i < place → get_or t i 0 ≡ get_or due i 0

-- the verdict of a table's rest from place p on, and where in the rest its wrong place lies
abbrev Met : (p : ℕ) (ds vs : List ℕ) (place value : ℕ) → Type 0
Met p ds vs place value = (l : ℕ) × (place ≡ p + l) × First ds vs l value

met_later : (p d v : ℕ) (ds vs : List ℕ) (place value : ℕ) → v ≡ d → Met (suc p) ds vs place value → Met p (d ∷ ds) (v ∷ vs) place value
met_later p d v ds vs place value e m =
    let l = m.0 in
    let f = m.2 in
    let at = m.1 in
    let there = f.there in (
      suc l,
      omega arith,
      record { there = omega arith; value_due = f.value_due; wrong = f.wrong; before = before f },
    )
  where
    before : {l : ℕ} → First ds vs l value → (i : ℕ) → i < suc l → get_or (v ∷ vs) i 0 ≡ get_or (d ∷ ds) i 0
    before f zero b = e
    before f (suc i) b = f.before i (omega arith)

judged_met : (p : ℕ) (ds vs : List ℕ) (place value : ℕ) → length vs ≡ length ds → judged p ds vs ≡ 1 ∷ place ∷ value ∷ [] → Met p ds vs place value
unfolding judged
judged_met p [] vs place value size e = absurd (omega (arith, ap (λ zs. get_or zs 0 0) e))
judged_met p (d ∷ ds) [] place value size e = absurd (omega arith)
judged_met p (d ∷ ds) (v ∷ vs) place value size e = by (eqb v d) refl e (judged_met (suc p) ds vs place value (omega arith))
  where
    by : (same : Bool) → eqb v d ≡ same → cond same (judged (suc p) ds vs) (1 ∷ p ∷ d ∷ []) ≡ 1 ∷ place ∷ value ∷ []
        → (judged (suc p) ds vs ≡ 1 ∷ place ∷ value ∷ [] → Met (suc p) ds vs place value) → Met p (d ∷ ds) (v ∷ vs) place value
    by true is told later = met_later p d v ds vs place value (eqb-true v d is) (later told)
    by false is told later =
        let at : p ≡ place = ap (λ zs. get_or zs 1 0) told in
        let due : d ≡ value = ap (λ zs. get_or zs 2 0) told in
        let other = eqb-false v d is in (
          0,
          omega arith,
          record { there = omega arith; value_due = due; wrong = λ z. other (z ∙ sym due); before = λ i b. absurd (omega arith) },
        )

-- an answered fill, or check, was asked for a table of exactly w·h places of an accepted area
asked_so : (w h : ℕ) (t : List ℕ) (n : ℕ) (values : List ℕ) → (guarded (table_guards w h (length t)) n values).refusal ≡ 0
    → (accepted w h ≡ true) × (length t ≡ w * h)
asked_so w h t n values e =
    table_granted w h (length t) (all_pass (table_guards w h (length t)) ((answered_exactly (table_guards w h (length t)) n values).0 e))

module _ (w h : ℕ) (t : List ℕ) where
  -- a table of w·h places is filled
  pub that_length_filled : accepted w h ≡ true → length t ≡ w * h → (fill w h t).refusal ≡ 0
  unfolding fill
  that_length_filled ok size = ap (λ f. f.refusal) (taken w h t 1 (length (blocks (whole w h)) ∷ []) ok size)

  pub fill_asked : (fill w h t).refusal ≡ 0 → (accepted w h ≡ true) × (length t ≡ w * h)
  unfolding fill
  fill_asked = asked_so w h t 1 (length (blocks (whole w h)) ∷ [])

  -- Demand 3: a fill reports all blocks of the division, at most 2 · squares - 1.
  pub all_blocks_reported : (n : ℕ) → fill w h t ≡ answered (n ∷ []) → n ≡ length (blocks (whole w h))
  unfolding fill
  all_blocks_reported n e =
      let was = fill_asked (ap (λ f. f.refusal) e) in
      ap (figure 0) (sym e ∙ taken w h t 1 (length (blocks (whole w h)) ∷ []) was.0 was.1)

  pub few_reported : (n : ℕ) → fill w h t ≡ answered (n ∷ []) → n ≤ 2 * (w * h) - 1
  unfolding whole
  few_reported n e =
      let all = limits w h (fill_asked (ap (λ f. f.refusal) e)).0 in
      let is = all_blocks_reported n e in
      let few = few_blocks (whole w h) (whole_inside w h all.w_least all.h_least).sized in
      omega arith

  -- What an answered fill leaves is the table of its kind, whole.
  pub filled_so : (ds : List ℕ) → (fill w h t).refusal ≡ 0 → unless_refused (fill w h t) ds t ≡ ds
  filled_so ds answer = answered_left (fill w h t) ds t answer

  -- Demand 1: a refused table is unaltered.
  pub refused_unaltered : (ds : List ℕ) → ((fill w h t).refusal ≡ 0 → ⊥) → unless_refused (fill w h t) ds t ≡ t
  refused_unaltered ds no_answer = refused_left (fill w h t) ds t no_answer

module _ (w h : ℕ) (kind : Bool) (t : List ℕ) where
  pub first_wrong_place : (place value : ℕ) → check w h (due_by kind w h) t ≡ answered (1 ∷ place ∷ value ∷ []) → First (due_by kind w h) t place value
  unfolding check
  first_wrong_place place value e =
      let was = asked_so w h t 3 (judged 0 (due_by kind w h) t) (ap (λ f. f.refusal) e) in
      let all = limits w h was.0 in
      let size = was.1 ∙ sym (due_length w h all.w_least all.h_least kind) in
      let told = ap (λ f. f.values) (sym (taken w h t 3 (judged 0 (due_by kind w h) t) was.0 was.1) ∙ e) in
      let met = judged_met 0 (due_by kind w h) t place value size told in
      subst⁻¹ (λ (p : ℕ). First (due_by kind w h) t p value) (met.1 ∙ zero-add met.0) met.2

-- The fields of an answer are what their names say: of a fill all blocks of the division, of a check the first wrong place and the value due there.
module _ (area : Area) (t : List ℕ) where
  pub filled_fields : (n : ℕ) → fill_figures (Ok n) ≡ fill_at area t → n ≡ length (blocks (whole area.w area.h))
  filled_fields n e = all_blocks_reported area.w area.h t n (sym e)

  pub right_fields : (kind : Bool) → check_figures (Ok None) ≡ check_at area (due_by kind) t → t ≡ due_by kind area.w area.h
  unfolding check
  right_fields kind e =
      let w = area.w in
      let h = area.h in
      let was = asked_so w h t 3 (judged 0 (due_by kind w h) t) (ap (λ f. f.refusal) (sym e)) in
      right_then_filled w h was.0 kind t was.1 (sym e)

  pub wrong_fields : (kind : Bool) (place due : ℕ) → check_figures (Ok (Some (record { place = place; due = due }))) ≡ check_at area (due_by kind) t
      → First (due_by kind area.w area.h) t place due
  wrong_fields kind place due e = first_wrong_place area.w area.h kind t place due (sym e)

-- Two answers that meet a promise are one, and so are the tables that two fills leave.
fill_from : Figures → Result ℕ Refusal
fill_from f = cond (eqb f.refusal 0) (Ok (figure 0 f)) (Err (named f.refusal))

fill_told : (r : Result ℕ Refusal) → fill_from (fill_figures r) ≡ r
unfolding fill_from
fill_told (Ok n) = refl
fill_told (Err r) = rw (refusal_not_0 r) (ap Err (named_back r))

pub fill_one : (r s : Result ℕ Refusal) {f : Figures} {t u due : List ℕ} → (fill_figures r ≡ f) × (t ≡ due) → (fill_figures s ≡ f) × (u ≡ due)
    → (r ≡ s) × (t ≡ u)
fill_one r s p q = (by_figures fill_figures fill_from fill_told r s p.0 q.0, one_equation p.1 q.1)

check_from : Figures → Result (Option Wrong) Refusal
check_from f =
    cond (eqb f.refusal 0) (Ok (cond (eqb (figure 0 f) 0) None (Some (record { place = figure 1 f; due = figure 2 f })))) (Err (named f.refusal))

check_told : (r : Result (Option Wrong) Refusal) → check_from (check_figures r) ≡ r
unfolding check_from
check_told (Ok None) = refl
check_told (Ok (Some wrong)) = refl
check_told (Err r) = rw (refusal_not_0 r) (ap Err (named_back r))

pub check_one : (r s : Result (Option Wrong) Refusal) {f : Figures} → check_figures r ≡ f → check_figures s ≡ f → r ≡ s
check_one = by_figures check_figures check_from check_told

-- The wrong programs that the promises turn away. No table of one square of either kind holds 7.
one_square : accepted 1 1 ≡ true
unfolding accepted
one_square = refl

not_seven : (kind : Bool) → 7 ∷ [] ≡ due_by kind 1 1 → ⊥
not_seven false e =
    let small = (values_below 1 1 (lit≤ tt) (lit≤ tt) 0 (lit< tt) 0 refl).1 in
    let held = ap (λ zs. get_or zs 0 0) e ∙ due_there 1 1 (lit≤ tt) (lit≤ tt) 0 (lit< tt) 0 refl false in
    omega arith
not_seven true e =
    let j = looked_for 1 1 (lit≤ tt) (lit≤ tt) true 0 in
    let small = looked_below 1 1 (lit≤ tt) (lit≤ tt) true 0 (lit< tt) in
    let there = looked_at 1 1 (lit≤ tt) (lit≤ tt) true 0 (lit< tt) j refl in
    let held = ap (λ zs. get_or zs 0 0) e ∙ ap (λ p. get_or (by_square 1 1) p 0) (sym there) ∙ due_there 1 1 (lit≤ tt) (lit≤ tt) j small j refl true in
    omega arith

-- one that fills nothing, of either kind
pub fills_nothing : (kind : Bool) → ((w h : ℕ) (t : List ℕ) → t ≡ unless_refused (fill w h t) (due_by kind w h) t) → ⊥
unfolding fill
fills_nothing kind promise =
    not_seven kind
    (promise 1 1 (7 ∷ [])
    ∙ sym (given (length (blocks (whole 1 1)) ∷ []) (due_by kind 1 1) (7 ∷ [])
    (taken 1 1 (7 ∷ []) 1 (length (blocks (whole 1 1)) ∷ []) one_square refl)))

-- one that finds every table right
pub finds_all_right :
    (kind : Bool) → ((w h : ℕ) (t : List ℕ) → accepted w h ≡ true → length t ≡ w * h → check w h (due_by kind w h) t ≡ answered (0 ∷ 0 ∷ 0 ∷ [])) → ⊥
finds_all_right kind promise = not_seven kind (right_then_filled 1 1 one_square kind (7 ∷ []) refl (promise 1 1 (7 ∷ []) one_square refl))

-- one whose count is made up: a single square is one block, and a 2 by 2 area four
four_squares : accepted 2 2 ≡ true
unfolding accepted
four_squares = refl

four_reported : fill 2 2 (0 ∷ 0 ∷ 0 ∷ 0 ∷ []) ≡ answered (4 ∷ [])
unfolding fill whole
four_reported =
    taken 2 2 (0 ∷ 0 ∷ 0 ∷ 0 ∷ []) 1 (length (blocks (whole 2 2)) ∷ []) four_squares refl
    ∙ ap (λ n. answered (n ∷ [])) (sym (blocks_two (square 0 0) +x +y))

pub made_up_count :
    (n : ℕ) → ((w h : ℕ) (t : List ℕ) → accepted w h ≡ true → length t ≡ w * h → fill_figures (Ok n) ≡ fill w h t) → ⊥
made_up_count n promise =
    let most = few_reported 1 1 (0 ∷ []) n (sym (promise 1 1 (0 ∷ []) one_square refl)) in
    omega (arith, ap (figure 0) (promise 2 2 (0 ∷ 0 ∷ 0 ∷ 0 ∷ []) four_squares refl ∙ four_reported))

-- and one that reports the bound itself: 7 against 4
pub bound_reported :
    ((w h : ℕ) (t : List ℕ) → accepted w h ≡ true → length t ≡ w * h → fill_figures (Ok (2 * (w * h) - 1)) ≡ fill w h t) → ⊥
bound_reported promise = omega (arith, ap (figure 0) (promise 2 2 (0 ∷ 0 ∷ 0 ∷ 0 ∷ []) four_squares refl ∙ four_reported))

-- "table contents and numbers are unaffected": two areas of the same lengths, whatever their origins are, are filled and checked alike.
module _ (a b : Area) (wide : a.w ≡ b.w) (high : a.h ≡ b.h) (due : ℕ → ℕ → List ℕ) (t : List ℕ) where
  pub origin_unseen : (fill_at a t ≡ fill_at b t) × ((filled_at a due t ≡ filled_at b due t) × (check_at a due t ≡ check_at b due t))
  origin_unseen = (
    ap₂ (λ w h. fill w h t) wide high,
    (ap₂ (λ w h. unless_refused (fill w h t) (due w h) t) wide high, ap₂ (λ w h. check w h (due w h) t) wide high),
  )
