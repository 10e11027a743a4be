-- When each lookup and the finish square's call is refused with which number, and when it is answered: exactly, in numbers, for every area, number and square.
use mathlib.Core.Bool.{false}
use mathlib.Core.List.{[], ◌∷◌}
use mathlib.Core.Logic.{◌↔◌}
use mathlib.Core.Path.{◌≡◌, refl, sym, ap, ◌∙◌}
use Prim.Native.Nat.{ℕ, ◌-◌, ◌*◌, ◌≤◌, ◌<◌}
use native.Mathlib.Omega.{arith}
use borrow.Author.Tests.{leb-true}
use lib.IntN.{ℤ}
use Rattle.terms.specs.declared.Area.{Area}
use Rattle.terms.specs.declared.Refusal.{Refusal}
use Rattle.terms.specs.declared.Refusal.TheVariants.{AreaLimit, SquareOutside, NumberOutside, TooDeep, OriginLimit, TooManySquares}
use Rattle.terms.specs.Terms.{most_blocks, refusal_number, refused, signed}
use Rattle.terms.specs.Guards.{guarded}
use Rattle.terms.proofs.Limits.{both_accepted}
use Rattle.terms.proofs.Guards.{◌and◌, stands, never, refused_whole}
use Rattle.terms.proofs.Meanings.{LengthsWithin, LengthsBeyond, SquaresWithin, SquaresBeyond, OriginWithin, OriginBeyond}
use Rattle.terms.proofs.Meanings.{Meanings, FailsSo, refused_in_numbers, answered_in_numbers, lengths_exactly, squares_exactly}
use Rattle.terms.proofs.Meanings.{at_most, less, lengths_mean, squares_mean, origin_mean}
use Rattle.terms.proofs.Places.{IsSquareInside, IsSquareOutside, square_mean}
use Rattle.division.specs.Division.{Square, square_of, number_of, blocks_holding}
use Rattle.curve.specs.Lookups.{all, from_origin, old_square, number_guards, square_guards, finish_guards}
use Rattle.curve.specs.Lookups.{number_to_square_at, square_to_number_at, finish_square_at}
use Rattle.curve.proofs.Answers.{few_hold, refusal_stays}
use Rattle.curve.proofs.Demands.{moved_refusal}

-- What few blocks hold, in an area within its limits: 9 never comes.
few : (area : Area) → LengthsWithin area.w area.h → SquaresWithin area.w area.h → (s : Square) → blocks_holding (all area) s ≤ most_blocks
few area long short s =
    let ok = both_accepted area.w area.h ((lengths_exactly area.w area.h).1 long) ((squares_exactly area.w area.h).1 short) in
    leb-true (blocks_holding (all area) s) most_blocks (few_hold area.w area.h ok s)

module _ (area : Area) (n : ℕ) where
  abbrev s : Square
  s = square_of (all area) n

  abbrev number_means : Meanings (number_guards area n)
  number_means =
      lengths_mean area.w area.h
      and squares_mean area.w area.h
      and origin_mean area.ox area.oy
      and less n (area.w * area.h)
      and at_most (blocks_holding (all area) s) most_blocks
      and tt

  number_refusal : (number_to_square_at area n).refusal ≡ (guarded (number_guards area n) 3 (s.x ∷ s.y ∷ blocks_holding (all area) s ∷ [])).refusal
  unfolding number_to_square_at
  number_refusal = moved_refusal area.ox area.oy (guarded (number_guards area n) 3 (s.x ∷ s.y ∷ blocks_holding (all area) s ∷ []))

  number_refused : (r : Refusal) → ((number_to_square_at area n).refusal ≡ refusal_number r) ↔ FailsSo (number_guards area n) number_means r
  number_refused r =
      let law = refused_in_numbers (number_guards area n) number_means 3 (s.x ∷ s.y ∷ blocks_holding (all area) s ∷ []) r in
      (λ e. law.0 (sym number_refusal ∙ e), λ f. number_refusal ∙ law.1 f)

  -- a refusal that is not in the list never comes
  pub number_no_other : (r : Refusal) → stands r (number_guards area n) ≡ false → (number_to_square_at area n).refusal ≡ refusal_number r → ⊥
  number_no_other r other e =
      never (number_guards area n) r 3 (s.x ∷ s.y ∷ blocks_holding (all area) s ∷ []) other (sym number_refusal ∙ e)

  pub number_refused_1 : ((number_to_square_at area n).refusal ≡ 1) ↔ LengthsBeyond area.w area.h
  number_refused_1 = number_refused AreaLimit

  pub number_refused_13 : ((number_to_square_at area n).refusal ≡ 13) ↔ (LengthsWithin area.w area.h × SquaresBeyond area.w area.h)
  number_refused_13 = number_refused TooManySquares

  pub number_refused_12 : ((number_to_square_at area n).refusal ≡ 12)
      ↔ (LengthsWithin area.w area.h × (SquaresWithin area.w area.h × OriginBeyond area.ox area.oy))
  number_refused_12 = number_refused OriginLimit

  pub number_refused_3 : ((number_to_square_at area n).refusal ≡ 3)
      ↔ (LengthsWithin area.w area.h
      × (SquaresWithin area.w area.h × (OriginWithin area.ox area.oy × (area.w * area.h ≤ n))))
  number_refused_3 = number_refused NumberOutside

  pub number_never_9 : (number_to_square_at area n).refusal ≡ 9 → ⊥
  number_never_9 e = let deep = (number_refused TooDeep).0 e in let most = few area deep.0 deep.1.0 s in omega (arith, deep.1.1.1.1)

  pub number_answered : ((number_to_square_at area n).refusal ≡ 0)
      ↔ (LengthsWithin area.w area.h × (SquaresWithin area.w area.h × (OriginWithin area.ox area.oy × (n < area.w * area.h))))
  number_answered =
      let law = answered_in_numbers (number_guards area n) number_means 3 (s.x ∷ s.y ∷ blocks_holding (all area) s ∷ []) in (
        λ e. let p = law.0 (sym number_refusal ∙ e) in p.0 and p.1.0 and p.1.1.0 and p.1.1.1.0,
        λ p. number_refusal ∙ law.1 (p.0 and p.1.0 and p.1.1.0 and p.1.1.1 and few area p.0 p.1.0 s),
      )

  -- "the number, all else 0"
  pub number_all_else_0 : (r : Refusal) → (number_to_square_at area n).refusal ≡ refusal_number r → number_to_square_at area n ≡ signed (refused r 3)
  unfolding number_to_square_at
  number_all_else_0 r e =
      ap (from_origin area.ox area.oy)
      (refused_whole (number_guards area n) 3 (s.x ∷ s.y ∷ blocks_holding (all area) s ∷ []) refl r (sym number_refusal ∙ e))
      ∙ refusal_stays area.ox area.oy r 3

module _ (area : Area) (x y : ℤ) where
  abbrev old : Square
  old = old_square area x y

  abbrev square_means : Meanings (square_guards area x y)
  square_means =
      lengths_mean area.w area.h
      and squares_mean area.w area.h
      and origin_mean area.ox area.oy
      and square_mean area x y
      and at_most (blocks_holding (all area) old) most_blocks
      and tt

  square_refused : (r : Refusal) → ((square_to_number_at area x y).refusal ≡ refusal_number r) ↔ FailsSo (square_guards area x y) square_means r
  unfolding square_to_number_at
  square_refused r = refused_in_numbers (square_guards area x y) square_means 2 (number_of (all area) old ∷ blocks_holding (all area) old ∷ []) r

  pub square_no_other : (r : Refusal) → stands r (square_guards area x y) ≡ false → (square_to_number_at area x y).refusal ≡ refusal_number r → ⊥
  unfolding square_to_number_at
  square_no_other r other e = never (square_guards area x y) r 2 (number_of (all area) old ∷ blocks_holding (all area) old ∷ []) other e

  pub square_refused_1 : ((square_to_number_at area x y).refusal ≡ 1) ↔ LengthsBeyond area.w area.h
  square_refused_1 = square_refused AreaLimit

  pub square_refused_13 : ((square_to_number_at area x y).refusal ≡ 13) ↔ (LengthsWithin area.w area.h × SquaresBeyond area.w area.h)
  square_refused_13 = square_refused TooManySquares

  pub square_refused_12 : ((square_to_number_at area x y).refusal ≡ 12)
      ↔ (LengthsWithin area.w area.h × (SquaresWithin area.w area.h × OriginBeyond area.ox area.oy))
  square_refused_12 = square_refused OriginLimit

  pub square_refused_2 : ((square_to_number_at area x y).refusal ≡ 2)
      ↔ (LengthsWithin area.w area.h × (SquaresWithin area.w area.h × (OriginWithin area.ox area.oy × IsSquareOutside area x y)))
  square_refused_2 = square_refused SquareOutside

  pub square_never_9 : (square_to_number_at area x y).refusal ≡ 9 → ⊥
  square_never_9 e = let deep = (square_refused TooDeep).0 e in let most = few area deep.0 deep.1.0 old in omega (arith, deep.1.1.1.1)

  pub square_answered : ((square_to_number_at area x y).refusal ≡ 0)
      ↔ (LengthsWithin area.w area.h × (SquaresWithin area.w area.h × (OriginWithin area.ox area.oy × IsSquareInside area x y)))
  unfolding square_to_number_at
  square_answered =
      let law = answered_in_numbers (square_guards area x y) square_means 2 (number_of (all area) old ∷ blocks_holding (all area) old ∷ []) in (
        λ e. let p = law.0 e in p.0 and p.1.0 and p.1.1.0 and p.1.1.1.0,
        λ p. law.1 (p.0 and p.1.0 and p.1.1.0 and p.1.1.1 and few area p.0 p.1.0 old),
      )

  pub square_all_else_0 : (r : Refusal) → (square_to_number_at area x y).refusal ≡ refusal_number r → square_to_number_at area x y ≡ refused r 2
  unfolding square_to_number_at
  square_all_else_0 r e = refused_whole (square_guards area x y) 2 (number_of (all area) old ∷ blocks_holding (all area) old ∷ []) refl r e

module _ (area : Area) where
  abbrev last : Square
  last = square_of (all area) (area.w * area.h - 1)

  abbrev finish_means : Meanings (finish_guards area)
  finish_means = lengths_mean area.w area.h and squares_mean area.w area.h and origin_mean area.ox area.oy and tt

  finish_refusal : (finish_square_at area).refusal ≡ (guarded (finish_guards area) 2 (last.x ∷ last.y ∷ [])).refusal
  unfolding finish_square_at
  finish_refusal = moved_refusal area.ox area.oy (guarded (finish_guards area) 2 (last.x ∷ last.y ∷ []))

  finish_refused : (r : Refusal) → ((finish_square_at area).refusal ≡ refusal_number r) ↔ FailsSo (finish_guards area) finish_means r
  finish_refused r =
      let law = refused_in_numbers (finish_guards area) finish_means 2 (last.x ∷ last.y ∷ []) r in
      (λ e. law.0 (sym finish_refusal ∙ e), λ f. finish_refusal ∙ law.1 f)

  pub finish_no_other : (r : Refusal) → stands r (finish_guards area) ≡ false → (finish_square_at area).refusal ≡ refusal_number r → ⊥
  finish_no_other r other e = never (finish_guards area) r 2 (last.x ∷ last.y ∷ []) other (sym finish_refusal ∙ e)

  pub finish_refused_1 : ((finish_square_at area).refusal ≡ 1) ↔ LengthsBeyond area.w area.h
  finish_refused_1 = finish_refused AreaLimit

  pub finish_refused_13 : ((finish_square_at area).refusal ≡ 13) ↔ (LengthsWithin area.w area.h × SquaresBeyond area.w area.h)
  finish_refused_13 = finish_refused TooManySquares

  pub finish_refused_12 : ((finish_square_at area).refusal ≡ 12)
      ↔ (LengthsWithin area.w area.h × (SquaresWithin area.w area.h × OriginBeyond area.ox area.oy))
  finish_refused_12 = finish_refused OriginLimit

  pub finish_answered : ((finish_square_at area).refusal ≡ 0)
      ↔ (LengthsWithin area.w area.h × (SquaresWithin area.w area.h × OriginWithin area.ox area.oy))
  finish_answered =
      let law = answered_in_numbers (finish_guards area) finish_means 2 (last.x ∷ last.y ∷ []) in
      (λ e. law.0 (sym finish_refusal ∙ e), λ p. finish_refusal ∙ law.1 p)

  pub finish_all_else_0 : (r : Refusal) → (finish_square_at area).refusal ≡ refusal_number r → finish_square_at area ≡ signed (refused r 2)
  unfolding finish_square_at
  finish_all_else_0 r e =
      ap (from_origin area.ox area.oy) (refused_whole (finish_guards area) 2 (last.x ∷ last.y ∷ []) refl r (sym finish_refusal ∙ e))
      ∙ refusal_stays area.ox area.oy r 2
