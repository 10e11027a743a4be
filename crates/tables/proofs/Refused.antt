-- When a fill or a check is refused with which number, and when it is answered: exactly, in numbers, for every area and every table. A call on a table has one
-- list of guards, so that one law says it of both.
use mathlib.Core.Bool.{true, false, not, true≢false}
use mathlib.Core.List.{List, [], ◌∷◌}
use mathlib.Core.Logic.{◌↔◌}
use mathlib.Core.Path.{◌≡◌, refl, sym, ap, ◌∙◌}
use Prim.Native.Nat.{ℕ, ◌*◌}
use lib.ListN.{length}
use Rattle.terms.specs.declared.Refusal.{Refusal}
use Rattle.terms.specs.declared.Refusal.TheVariants.{AreaLimit, TableLength, TooDeep, TooManySquares}
use Rattle.terms.specs.Terms.{refusal_number, Figures, refused}
use Rattle.terms.specs.Guards.{guarded}
use Rattle.terms.proofs.Limits.{both_accepted}
use Rattle.terms.proofs.Guards.{◌and◌, stands, never, refused_whole}
use Rattle.terms.proofs.Meanings.{LengthsWithin, LengthsBeyond, SquaresWithin, SquaresBeyond, Meanings, FailsSo, refused_in_numbers, answered_in_numbers}
use Rattle.terms.proofs.Meanings.{equal, itself, lengths_mean, squares_mean, lengths_exactly, squares_exactly}
use Rattle.division.specs.Division.{whole, blocks}
use Rattle.tables.specs.Tables.{judged, some_deep, table_guards, fill, check}
use Rattle.tables.proofs.Admitted.{not_deep}

-- a call on a table by what it would answer
module _ (w h : ℕ) (t : List ℕ) (n : ℕ) (values : List ℕ) where
  abbrev figures : Figures
  figures = guarded (table_guards w h (length t)) n values

  abbrev table_means : Meanings (table_guards w h (length t))
  table_means = lengths_mean w h and squares_mean w h and equal (length t) (w * h) and itself (not (some_deep w h)) and tt

  by : (r : Refusal) → (figures.refusal ≡ refusal_number r) ↔ FailsSo (table_guards w h (length t)) table_means r
  by r = refused_in_numbers (table_guards w h (length t)) table_means n values r

  shallow : LengthsWithin w h → SquaresWithin w h → not (some_deep w h) ≡ true
  shallow long short = ap not (not_deep w h (both_accepted w h ((lengths_exactly w h).1 long) ((squares_exactly w h).1 short)))

  no_other : (r : Refusal) → stands r (table_guards w h (length t)) ≡ false → figures.refusal ≡ refusal_number r → ⊥
  no_other r other e = never (table_guards w h (length t)) r n values other e

  refused_1 : (figures.refusal ≡ 1) ↔ LengthsBeyond w h
  refused_1 = by AreaLimit

  refused_13 : (figures.refusal ≡ 13) ↔ (LengthsWithin w h × SquaresBeyond w h)
  refused_13 = by TooManySquares

  refused_4 : (figures.refusal ≡ 4) ↔ (LengthsWithin w h × (SquaresWithin w h × (length t ≡ w * h → ⊥)))
  refused_4 = by TableLength

  never_9 : figures.refusal ≡ 9 → ⊥
  never_9 e =
      let deep = (by TooDeep).0 e in
      let z : true ≡ false = sym (shallow deep.0 deep.1.0) ∙ deep.1.1.1 in
      true≢false z

  answered_so : (figures.refusal ≡ 0) ↔ (LengthsWithin w h × (SquaresWithin w h × (length t ≡ w * h)))
  answered_so =
      let law = answered_in_numbers (table_guards w h (length t)) table_means n values in
      (λ e. let p = law.0 e in p.0 and p.1.0 and p.1.1.0, λ p. law.1 (p.0 and p.1.0 and p.1.1 and shallow p.0 p.1.0))

  all_else_0 : (r : Refusal) → figures.refusal ≡ refusal_number r → figures ≡ refused r n
  all_else_0 r e = refused_whole (table_guards w h (length t)) n values refl r e

-- a fill
module _ (w h : ℕ) (t : List ℕ) where
  abbrev count : List ℕ
  count = length (blocks (whole w h)) ∷ []

  -- a refusal that is not in the list never comes
  pub fill_no_other : (r : Refusal) → stands r (table_guards w h (length t)) ≡ false → (fill w h t).refusal ≡ refusal_number r → ⊥
  unfolding fill
  fill_no_other = no_other w h t 1 count

  pub fill_refused_1 : ((fill w h t).refusal ≡ 1) ↔ LengthsBeyond w h
  unfolding fill
  fill_refused_1 = refused_1 w h t 1 count

  pub fill_refused_13 : ((fill w h t).refusal ≡ 13) ↔ (LengthsWithin w h × SquaresBeyond w h)
  unfolding fill
  fill_refused_13 = refused_13 w h t 1 count

  -- "A table's length must be exactly w·h."
  pub fill_refused_4 : ((fill w h t).refusal ≡ 4) ↔ (LengthsWithin w h × (SquaresWithin w h × (length t ≡ w * h → ⊥)))
  unfolding fill
  fill_refused_4 = refused_4 w h t 1 count

  pub fill_never_9 : (fill w h t).refusal ≡ 9 → ⊥
  unfolding fill
  fill_never_9 = never_9 w h t 1 count

  pub fill_answered : ((fill w h t).refusal ≡ 0) ↔ (LengthsWithin w h × (SquaresWithin w h × (length t ≡ w * h)))
  unfolding fill
  fill_answered = answered_so w h t 1 count

  -- "the number, all else 0"
  pub fill_all_else_0 : (r : Refusal) → (fill w h t).refusal ≡ refusal_number r → fill w h t ≡ refused r 1
  unfolding fill
  fill_all_else_0 = all_else_0 w h t 1 count

-- a check, whatever is due
module _ (w h : ℕ) (ds t : List ℕ) where
  pub check_no_other : (r : Refusal) → stands r (table_guards w h (length t)) ≡ false → (check w h ds t).refusal ≡ refusal_number r → ⊥
  unfolding check
  check_no_other = no_other w h t 3 (judged 0 ds t)

  pub check_refused_1 : ((check w h ds t).refusal ≡ 1) ↔ LengthsBeyond w h
  unfolding check
  check_refused_1 = refused_1 w h t 3 (judged 0 ds t)

  pub check_refused_13 : ((check w h ds t).refusal ≡ 13) ↔ (LengthsWithin w h × SquaresBeyond w h)
  unfolding check
  check_refused_13 = refused_13 w h t 3 (judged 0 ds t)

  pub check_refused_4 : ((check w h ds t).refusal ≡ 4) ↔ (LengthsWithin w h × (SquaresWithin w h × (length t ≡ w * h → ⊥)))
  unfolding check
  check_refused_4 = refused_4 w h t 3 (judged 0 ds t)

  pub check_never_9 : (check w h ds t).refusal ≡ 9 → ⊥
  unfolding check
  check_never_9 = never_9 w h t 3 (judged 0 ds t)

  pub check_answered : ((check w h ds t).refusal ≡ 0) ↔ (LengthsWithin w h × (SquaresWithin w h × (length t ≡ w * h)))
  unfolding check
  check_answered = answered_so w h t 3 (judged 0 ds t)

  pub check_all_else_0 : (r : Refusal) → (check w h ds t).refusal ≡ refusal_number r → check w h ds t ≡ refused r 3
  unfolding check
  check_all_else_0 = all_else_0 w h t 3 (judged 0 ds t)
