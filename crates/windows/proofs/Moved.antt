-- Order 6's sentence on windows: an old window that is moved by the origin is answered as at origin 0 0, a window that lies in its area is such a one, and its
-- runs are the only ones that cover exactly the numbers whose square, moved, lies between the signed corners.
use mathlib.Core.Bool.{true, ◌&&◌, not, cond}
use mathlib.Core.List.{List, [], ◌∷◌}
use mathlib.Core.Logic.{◌↔◌}
use mathlib.Core.Path.{◌≡◌, refl, sym, ap, ap₂, subst, ◌∙◌}
use Prim.Native.Nat.{ℕ, ◌*◌, ◌/◌, ◌≤◌, ◌<◌}
use native.Mathlib.Nat.{zero-add}
use native.Mathlib.Omega.{arith}
use lib.Dec.{leb, ltb, eqb}
use lib.IntN.{pos, ◌+ℤ◌}
use lib.ListN.{length}
use lib.Signed.{◌≤ℤ◌}
use Rattle.terms.specs.declared.Area.{Area}
use Rattle.terms.specs.declared.Refusal.TheVariants.{SquareOutside, TooDeep, CornersCrossed, NoRoom, OriginLimit}
use Rattle.terms.specs.Terms.{origin_accepted, at_post, grid_accepted, distance_of, Figures, Limits}
use Rattle.terms.specs.Guards.{Guard, ◌else◌, ◌telling◌, granted, admitted, guarded, first}
use Rattle.terms.proofs.Limits.{limits, grid_passed, grid_guards_passed}
use Rattle.terms.proofs.Guards.{◌and◌, alike}
use Rattle.terms.proofs.Signs.{added_off}
use Rattle.terms.proofs.Meanings.{at_most_is}
use Rattle.terms.proofs.Places.{moved_order, in_order, ahead_of, from_it_on, within, placed, IsSquareInside}
use Rattle.division.specs.Division.{Square, square, whole, square_of, number_of}
use Rattle.windows.specs.declared.Window.{Window}
use Rattle.windows.specs.declared.Corners.{Corners}
use Rattle.windows.specs.Windows.{Run, Apart, Covered, window_runs, some_deep, old_corners, runs_at, uncrossed, corners_inside, window_guards}
use Rattle.windows.specs.Windows.{runs_for_window_at, written, slice_after_at}
use Rattle.windows.proofs.Determined.{FromTo, WindowNumber, window_apart, window_covered, covered_window, square_covered, covered_square}
use Rattle.windows.proofs.Determined.{sentence_determines}

-- A window of old squares, moved: "origin plus the old square"; and at origin 0 0.
abbrev pub moved_window : Area → Corners → Window
moved_window area k =
    record {
      x0 = area.ox +ℤ pos k.x0;
      y0 = area.oy +ℤ pos k.y0;
      x1 = area.ox +ℤ pos k.x1;
      y1 = area.oy +ℤ pos k.y1;
    }

abbrev pub signed_corners : Corners → Window
signed_corners k = record { x0 = pos k.x0; y0 = pos k.y0; x1 = pos k.x1; y1 = pos k.y1 }

-- the guard of room, by the old corners
abbrev room_guard : (w h : ℕ) (slice : List ℕ) → Corners → Guard
room_guard w h slice k = leb (length (window_runs w h k)) (length slice / 2) else NoRoom telling (length (window_runs w h k) ∷ [])

-- a window moved is judged by its old corners
module _ (area : Area) (k : Corners) where
  moved_back : old_corners area (moved_window area k) ≡ k
  moved_back =
      λ i.
      record {
        x0 = distance_of (added_off area.ox (pos k.x0) i);
        y0 = distance_of (added_off area.oy (pos k.y0) i);
        x1 = distance_of (added_off area.ox (pos k.x1) i);
        y1 = distance_of (added_off area.oy (pos k.y1) i);
      }

  order_moved : uncrossed (moved_window area k) ≡ leb k.x0 k.x1 && leb k.y0 k.y1
  order_moved = ap₂ ◌&&◌ (moved_order area.ox (pos k.x0) (pos k.x1)) (moved_order area.oy (pos k.y0) (pos k.y1))

  inside_moved : corners_inside area (moved_window area k) ≡ (ltb k.x0 area.w && ltb k.y0 area.h) && (ltb k.x1 area.w && ltb k.y1 area.h)
  inside_moved =
      rw (
        added_off area.ox (pos k.x0),
        added_off area.oy (pos k.y0),
        added_off area.ox (pos k.x1),
        added_off area.oy (pos k.y1),
      )

-- "Squares asked .., windows included, are then signed and origin plus the old square": every old window, moved, is answered, or refused, as at origin 0 0.
module _ (area : Area) (on : grid_accepted area ≡ true) (k : Corners) where
  abbrev post : Area
  post = at_post area.w area.h

  unmoved : moved_window post k ≡ signed_corners k
  unmoved = λ i. record { x0 = pos (zero-add k.x0 i); y0 = pos (zero-add k.y0 i); x1 = pos (zero-add k.x1 i); y1 = pos (zero-add k.y1 i) }

  near : origin_accepted area.ox area.oy ≡ origin_accepted (pos 0) (pos 0)
  unfolding origin_accepted
  near = (grid_guards_passed area on).2

  -- the same guards, one by one, and the same old corners
  module _ (slice : List ℕ) where
    old : old_corners area (moved_window area k) ≡ old_corners post (moved_window post k)
    old = moved_back area k ∙ sym (moved_back post k)

    same_guards : window_guards area (moved_window area k) slice ≡ window_guards post (moved_window post k) slice
    same_guards =
        alike (window_guards area (moved_window area k) slice) (window_guards post (moved_window post k) slice)
        (refl
        and refl
        and ap (λ t. t else OriginLimit) near
        and ap (λ t. t else CornersCrossed) (order_moved area k ∙ sym (order_moved post k))
        and ap (λ t. t else SquareOutside) (inside_moved area k ∙ sym (inside_moved post k))
        and ap (room_guard area.w area.h slice) old
        and ap (λ c. not (some_deep area.w area.h c) else TooDeep) old
        and tt)

  pub moved_answered : (slice : List ℕ)
      → (runs_for_window_at area (moved_window area k) slice ≡ runs_for_window_at post (signed_corners k) slice)
      × (slice_after_at area (moved_window area k) slice ≡ slice_after_at post (signed_corners k) slice)
  unfolding runs_for_window_at slice_after_at
  moved_answered slice =
      let runs = ap (λ c. window_runs area.w area.h c) (old slice) in
      let figures = ap₂ (λ (gs : List Guard) (rs : List Run). guarded gs 1 (length rs ∷ [])) (same_guards slice) runs in (
        figures ∙ ap (λ (v : Window). runs_for_window_at post v slice) unmoved,
        ap₂ (λ (f : Figures) (rs : List Run). cond (eqb f.refusal 0) (written rs slice) slice) figures runs
            ∙ ap (λ (v : Window). slice_after_at post v slice) unmoved,
      )

-- A window that lies in its area: the area and its origin are within their limits, the corners are in order, and neither is outside.
pub record LiesAt (area : Area) (v : Window) : Type 0 where
  pub on : grid_accepted area ≡ true
  pub along : v.x0 ≤ℤ v.x1
  pub across : v.y0 ≤ℤ v.y1
  pub start : IsSquareInside area v.x0 v.y0
  pub end : IsSquareInside area v.x1 v.y1

-- such a one passes the first five guards
pub granted_at : (area : Area) (v : Window) (slice : List ℕ) → LiesAt area v → admitted (first 5 (window_guards area v slice)) ≡ granted
granted_at area v slice lies =
    let tests = grid_guards_passed area lies.on in
    let near = lies.start in
    let far = lies.end in
    rw (
      tests.0,
      tests.1,
      tests.2,
      at_most_is lies.along,
      at_most_is lies.across,
      within v.x0 area.ox area.w near.0.0 near.0.1,
      within v.y0 area.oy area.h near.1.0 near.1.1,
      within v.x1 area.ox area.w far.0.0 far.0.1,
      within v.y1 area.oy area.h far.1.0 far.1.1,
    )

-- and an old window within the lengths, moved, is such a one
module _ (area : Area) (on : grid_accepted area ≡ true) (k : Corners) where
  inside_at : (x y : ℕ) → x < area.w → y < area.h → IsSquareInside area (area.ox +ℤ pos x) (area.oy +ℤ pos y)
  inside_at x y l m =
      ((from_it_on area.ox x, ahead_of area.ox x area.w l), (from_it_on area.oy y, ahead_of area.oy y area.h m))

  pub moved_lies : k.x0 ≤ k.x1 → k.y0 ≤ k.y1 → k.x1 < area.w → k.y1 < area.h → LiesAt area (moved_window area k)
  moved_lies along across l m =
      record {
        on = on;
        along = (in_order area.ox k.x0 k.x1).1 along;
        across = (in_order area.oy k.y0 k.y1).1 across;
        start = inside_at k.x0 k.y0 (omega arith) (omega arith);
        end = inside_at k.x1 k.y1 l m;
      }

-- "x from x0 to x1 and y from y0 to y1, ends included", of an old square that is moved by the origin.
abbrev pub FromToAt : Area → Window → Square → Type 0
FromToAt area v s =
    let x = area.ox +ℤ pos s.x in
    let y = area.oy +ℤ pos s.y in
    (v.x0 ≤ℤ x) × (x ≤ℤ v.x1) × (v.y0 ≤ℤ y) × (y ≤ℤ v.y1)

between_moved : (area : Area) (k : Corners) (s : Square) → FromToAt area (moved_window area k) s ↔ FromTo k s
between_moved area k s =
    let x0 = in_order area.ox k.x0 s.x in
    let x1 = in_order area.ox s.x k.x1 in
    let y0 = in_order area.oy k.y0 s.y in
    let y1 = in_order area.oy s.y k.y1 in
    (λ p. (x0.0 p.0, x1.0 p.1, y0.0 p.2, y1.0 p.3), λ p. (x0.1 p.0, x1.1 p.1, y0.1 p.2, y1.1 p.3))

-- The window's numbers: those of the area whose square, moved, lies between the corners.
abbrev pub WindowNumberAt : Area → Window → (m : ℕ) → Type 0
WindowNumberAt area v m = (m < area.w * area.h) × FromToAt area v (square_of (whole area.w area.h) m)

-- Order 2's sentence with the origin: "ascending, no two runs touching or overlapping, together exactly the window's numbers".
pub record RunsOf (area : Area) (v : Window) (rs : List Run) : Type 0 where
  pub apart : Apart 0 rs
  pub exactly : (m : ℕ) → Covered m rs ↔ WindowNumberAt area v m

module _ (area : Area) (v : Window) (lies : LiesAt area v) where
  -- it is an old window, moved
  pub from_old : moved_window area (old_corners area v) ≡ v
  from_old =
      let near = lies.start in
      let far = lies.end in
      λ i.
      record {
        x0 = placed v.x0 area.ox area.w (within v.x0 area.ox area.w near.0.0 near.0.1) i;
        y0 = placed v.y0 area.oy area.h (within v.y0 area.oy area.h near.1.0 near.1.1) i;
        x1 = placed v.x1 area.ox area.w (within v.x1 area.ox area.w far.0.0 far.0.1) i;
        y1 = placed v.y1 area.oy area.h (within v.y1 area.oy area.h far.1.0 far.1.1) i;
      }

  sides : Limits area.w area.h
  sides = limits area.w area.h (grid_passed area lies.on).0

  between : (s : Square) → FromToAt area v s ↔ FromTo (old_corners area v) s
  between s = subst (λ (u : Window). FromToAt area u s ↔ FromTo (old_corners area v) s) from_old (between_moved area (old_corners area v) s)

  numbers : (m : ℕ) → WindowNumberAt area v m ↔ WindowNumber area.w area.h (old_corners area v) m
  numbers m =
      let at = between (square_of (whole area.w area.h) m) in
      (λ is. (is.0, at.0 is.1), λ is. (is.0, at.1 is.1))

  -- its runs are as the sentence says, and no others are
  pub runs_as_asked : RunsOf area v (runs_at area v)
  runs_as_asked =
      let old = old_corners area v in
      record {
        apart = window_apart area.w area.h sides.w_least sides.h_least old;
        exactly = λ m. (
          λ z. (numbers m).1 (covered_window area.w area.h sides.w_least sides.h_least old m z),
          λ is. window_covered area.w area.h sides.w_least sides.h_least old m ((numbers m).0 is),
        );
      }

  pub no_other_runs : (rs : List Run) → RunsOf area v rs → rs ≡ runs_at area v
  no_other_runs rs are =
      sentence_determines area.w area.h sides.w_least sides.h_least (old_corners area v) 0 rs are.apart
      (λ m z. (numbers m).0 ((are.exactly m).0 z))
      (λ m is. (are.exactly m).1 ((numbers m).1 is))

  -- of squares: the number of a square of the area is covered exactly if the square, moved, lies between the corners
  pub squares_covered : (x y : ℕ) → x < area.w → y < area.h
      → Covered (number_of (whole area.w area.h) (square x y)) (runs_at area v) ↔ FromToAt area v (square x y)
  squares_covered x y l m =
      let old = old_corners area v in
      let at = between (square x y) in (
        λ z. at.1 (covered_square area.w area.h sides.w_least sides.h_least old x y l m z),
        λ p.
            let is = at.0 p in
            square_covered area.w area.h sides.w_least sides.h_least old x y l m is.0 is.1 is.2 is.3,
      )
