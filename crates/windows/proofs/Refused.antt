-- When a window's call is refused with which number, and when it is answered: exactly, in numbers, for every area, window and slice. Every refusal leaves the
-- slice as it was.
use mathlib.Core.Bool.{true, false, not, true≢false}
use mathlib.Core.List.{List, [], ◌∷◌}
use mathlib.Core.Logic.{◌↔◌, ◌⊎◌}
use mathlib.Core.Path.{◌≡◌, refl, sym, ap, ◌∙◌}
use Prim.Native.Nat.{ℕ, ◌/◌, ◌≤◌, ◌<◌}
use borrow.Author.Tests.{ne_eqb}
use lib.ListN.{length}
use lib.Signed.{◌≤ℤ◌, ◌<ℤ◌}
use Rattle.terms.specs.declared.Area.{Area}
use Rattle.terms.specs.declared.Refusal.{Refusal}
use Rattle.terms.specs.declared.Refusal.TheVariants.{AreaLimit, SquareOutside, TooDeep, CornersCrossed, NoRoom, OriginLimit, TooManySquares}
use Rattle.terms.specs.Terms.{refusal_number}
use Rattle.terms.proofs.Guards.{◌and◌, stands, never}
use Rattle.terms.proofs.Limits.{both_accepted}
use Rattle.terms.proofs.Meanings.{LengthsWithin, LengthsBeyond, SquaresWithin, SquaresBeyond, OriginWithin, OriginBeyond, Meanings, FailsSo}
use Rattle.terms.proofs.Meanings.{refused_in_numbers, answered_in_numbers, at_most, at_most_ℤ, both, itself}
use Rattle.terms.proofs.Meanings.{lengths_mean, squares_mean, origin_mean, lengths_exactly, squares_exactly}
use Rattle.terms.proofs.Places.{IsSquareInside, IsSquareOutside, square_mean}
use Rattle.windows.specs.declared.Window.{Window}
use Rattle.windows.specs.Windows.{some_deep, old_corners, runs_at, window_guards, runs_for_window_at, slice_after_at}
use Rattle.windows.proofs.Answers.{not_deep}

-- "10 if x0 > x1 or y0 > y1"
abbrev pub Uncrossed : Window → Type 0
Uncrossed v = (v.x0 ≤ℤ v.x1) × (v.y0 ≤ℤ v.y1)

abbrev pub Crossed : Window → Type 0
Crossed v = (v.x1 <ℤ v.x0) ⊎ (v.y1 <ℤ v.y0)

-- "a corner outside the area", and both inside
abbrev pub CornersInside : Area → Window → Type 0
CornersInside area v = IsSquareInside area v.x0 v.y0 × IsSquareInside area v.x1 v.y1

abbrev pub CornerOutside : Area → Window → Type 0
CornerOutside area v = IsSquareOutside area v.x0 v.y0 ⊎ IsSquareOutside area v.x1 v.y1

module _ (area : Area) (v : Window) (slice : List ℕ) where
  abbrev runs : ℕ
  runs = length (runs_at area v)

  abbrev window_means : Meanings (window_guards area v slice)
  window_means =
      lengths_mean area.w area.h
      and squares_mean area.w area.h
      and origin_mean area.ox area.oy
      and both (at_most_ℤ v.x0 v.x1) (at_most_ℤ v.y0 v.y1)
      and both (square_mean area v.x0 v.y0) (square_mean area v.x1 v.y1)
      and at_most runs (length slice / 2)
      and itself (not (some_deep area.w area.h (old_corners area v)))
      and tt

  window_refused : (r : Refusal) → ((runs_for_window_at area v slice).refusal ≡ refusal_number r) ↔ FailsSo (window_guards area v slice) window_means r
  unfolding runs_for_window_at
  window_refused r = refused_in_numbers (window_guards area v slice) window_means 1 (runs ∷ []) r

  -- a refusal that is not in the list never comes
  pub window_no_other : (r : Refusal) → stands r (window_guards area v slice) ≡ false → (runs_for_window_at area v slice).refusal ≡ refusal_number r → ⊥
  unfolding runs_for_window_at
  window_no_other r other e = never (window_guards area v slice) r 1 (runs ∷ []) other e

  pub window_refused_1 : ((runs_for_window_at area v slice).refusal ≡ 1) ↔ LengthsBeyond area.w area.h
  window_refused_1 = window_refused AreaLimit

  pub window_refused_13 : ((runs_for_window_at area v slice).refusal ≡ 13) ↔ (LengthsWithin area.w area.h × SquaresBeyond area.w area.h)
  window_refused_13 = window_refused TooManySquares

  pub window_refused_12 : ((runs_for_window_at area v slice).refusal ≡ 12)
      ↔ (LengthsWithin area.w area.h × (SquaresWithin area.w area.h × OriginBeyond area.ox area.oy))
  window_refused_12 = window_refused OriginLimit

  pub window_refused_10 : ((runs_for_window_at area v slice).refusal ≡ 10)
      ↔ (LengthsWithin area.w area.h × (SquaresWithin area.w area.h × (OriginWithin area.ox area.oy × Crossed v)))
  window_refused_10 = window_refused CornersCrossed

  pub window_refused_2 : ((runs_for_window_at area v slice).refusal ≡ 2)
      ↔ (LengthsWithin area.w area.h
      × (SquaresWithin area.w area.h
      × (OriginWithin area.ox area.oy × (Uncrossed v × CornerOutside area v))))
  window_refused_2 = window_refused SquareOutside

  -- "11 .. exactly if there are more runs than whole pairs of room"
  pub window_refused_11 : ((runs_for_window_at area v slice).refusal ≡ 11)
      ↔ (LengthsWithin area.w area.h
      × (SquaresWithin area.w area.h
      × (OriginWithin area.ox area.oy
      × (Uncrossed v × (CornersInside area v × (length slice / 2 < runs))))))
  window_refused_11 = window_refused NoRoom

  shallow : LengthsWithin area.w area.h → SquaresWithin area.w area.h → not (some_deep area.w area.h (old_corners area v)) ≡ true
  shallow long short =
      let ok = both_accepted area.w area.h ((lengths_exactly area.w area.h).1 long) ((squares_exactly area.w area.h).1 short) in
      ap not (not_deep area.w area.h (old_corners area v) ok)

  pub window_never_9 : (runs_for_window_at area v slice).refusal ≡ 9 → ⊥
  window_never_9 e =
      let deep = (window_refused TooDeep).0 e in
      let z : true ≡ false = sym (shallow deep.0 deep.1.0) ∙ deep.1.1.1.1.1.1 in
      true≢false z

  pub window_answered : ((runs_for_window_at area v slice).refusal ≡ 0)
      ↔ (LengthsWithin area.w area.h
      × (SquaresWithin area.w area.h
      × (OriginWithin area.ox area.oy
      × (Uncrossed v × (CornersInside area v × (runs ≤ length slice / 2))))))
  unfolding runs_for_window_at
  window_answered =
      let law = answered_in_numbers (window_guards area v slice) window_means 1 (runs ∷ []) in (
        λ e. let p = law.0 e in p.0 and p.1.0 and p.1.1.0 and p.1.1.1.0 and p.1.1.1.1.0 and p.1.1.1.1.1.0,
        λ p. law.1 (p.0 and p.1.0 and p.1.1.0 and p.1.1.1.0 and p.1.1.1.1.0 and p.1.1.1.1.1 and shallow p.0 p.1.0),
      )

  -- "All leave the slice unaltered": every refusal.
  pub refused_kept : ((runs_for_window_at area v slice).refusal ≡ 0 → ⊥) → slice_after_at area v slice ≡ slice
  unfolding slice_after_at
  refused_kept other = rw (ne_eqb (runs_for_window_at area v slice).refusal 0 other) refl
