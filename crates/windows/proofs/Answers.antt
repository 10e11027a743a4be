-- What the call's functions come to: a window that the first five guards grant lies in its area, and is a pane of the whole block there; the runs that the
-- walks count and write; and that refusal 9 never arises.
use mathlib.Core.Bool.{Bool, true, false, not, ◌&&◌, cond, and-false, and-eq-true_iff}
use mathlib.Core.List.{List, [], ◌∷◌}
use mathlib.Core.Path.{◌≡◌, refl, sym, ap, ap₂, subst, ◌∙◌}
use Prim.Native.Nat.{ℕ, ◌+◌, ◌/◌, ◌≤◌, ◌<◌}
use native.Mathlib.Omega.{arith}
use borrow.Author.Tests.{lt-ltb, le-ltb, le-leb, lt-leb, leb-true, leb-false, ltb-true}
use lib.Dec.{leb, ltb, eqb}
use lib.IntN.{pos, ◌-ℤ◌}
use lib.ListN.{length}
use lib.Signed.{le_z}
use Rattle.terms.specs.declared.Area.{Area}
use Rattle.std.specs.Prelude.{Err}
use Rattle.terms.specs.declared.Refusal.{Refusal}
use Rattle.terms.specs.declared.Refusal.TheVariants.{NoRoom, TooDeep}
use Rattle.terms.specs.Terms.{most_blocks, accepted, grid_accepted, below, Figures, answered, refused, refused_with}
use Rattle.terms.specs.Guards.{◌else◌, ◌telling◌, granted, admitted, guarded, first}
use Rattle.terms.proofs.Limits.{limits, all_accepted, grid_passed}
use Rattle.terms.proofs.Refusals.{refusal_not_0}
use Rattle.terms.proofs.Guards.{Passed, passed, refused_first, granted_first}
use Rattle.terms.proofs.Places.{moved_order, below_by, placed}
use Rattle.division.specs.Division.{whole, curve, blocks_holding, count}
use Rattle.division.proofs.Blocks.{at_most_54}
use Rattle.panes.specs.declared.Pane.{Pane}
use Rattle.panes.specs.Panes.{pane_at, in_span, in_pane, Tally, none, over, seen, runs_of, pairs_into}
use Rattle.windows.specs.declared.Window.{Window}
use Rattle.windows.specs.declared.Corners.{Corners}
use Rattle.windows.specs.Windows.{in_window, window_runs, some_deep, old_corners, runs_at, corners_inside, window_guards}
use Rattle.windows.specs.Windows.{runs_for_window_at, written, slice_after_at}
use Rattle.windows.specs.Within.{Lies, within_figures, within_slice}
use Rattle.windows.proofs.CountedRuns.{counted_runs, written_runs}

-- the test on the old corners is the definition's, in an area within the limits
pub inside_told : (area : Area) (v : Window) → accepted area.w area.h ≡ true
    → (let old = old_corners area v in (ltb old.x0 area.w && ltb old.y0 area.h) && (ltb old.x1 area.w && ltb old.y1 area.h)) ≡ corners_inside area v
inside_told area v ok =
    let most = limits area.w area.h ok in
    ap₂ ◌&&◌ (ap₂ ◌&&◌ (below_by (v.x0 -ℤ area.ox) area.w most.w_most) (below_by (v.y0 -ℤ area.oy) area.h most.h_most))
    (ap₂ ◌&&◌ (below_by (v.x1 -ℤ area.ox) area.w most.w_most) (below_by (v.y1 -ℤ area.oy) area.h most.h_most))

-- a window that is granted lies in its area
module _ (area : Area) (v : Window) (slice : List ℕ) (e : admitted (first 5 (window_guards area v slice)) ≡ granted) where
  tests : Passed (first 5 (window_guards area v slice))
  tests = passed (first 5 (window_guards area v slice)) e

  pub granted_on : grid_accepted area ≡ true
  granted_on = all_accepted area tests.0 tests.1.0 tests.1.1.0

  pub granted_lies : Lies area.w area.h (old_corners area v)
  granted_lies =
      let most = limits area.w area.h (grid_passed area granted_on).0 in
      let order = (and-eq-true_iff (le_z v.x0 v.x1) (le_z v.y0 v.y1)).0 tests.1.1.1.0 in
      let near = below (v.x0 -ℤ area.ox) area.w && below (v.y0 -ℤ area.oy) area.h in
      let far = below (v.x1 -ℤ area.ox) area.w && below (v.y1 -ℤ area.oy) area.h in
      let corners = (and-eq-true_iff near far).0 tests.1.1.1.1 in
      let start = (and-eq-true_iff (below (v.x0 -ℤ area.ox) area.w) (below (v.y0 -ℤ area.oy) area.h)).0 corners.0 in
      let end = (and-eq-true_iff (below (v.x1 -ℤ area.ox) area.w) (below (v.y1 -ℤ area.oy) area.h)).0 corners.1 in
      let old = old_corners area v in
      let x_order = ap₂ le_z (placed v.x0 area.ox area.w start.0) (placed v.x1 area.ox area.w end.0) ∙ order.0 in
      let y_order = ap₂ le_z (placed v.y0 area.oy area.h start.1) (placed v.y1 area.oy area.h end.1) ∙ order.1 in
      record {
        w_limit = most.w_most;
        h_limit = most.h_most;
        along = leb-true old.x0 old.x1 (sym (moved_order area.ox (pos old.x0) (pos old.x1)) ∙ x_order);
        across = leb-true old.y0 old.y1 (sym (moved_order area.oy (pos old.y0) (pos old.y1)) ∙ y_order);
        in_width = ltb-true old.x1 area.w (below_by (v.x1 -ℤ area.ox) area.w most.w_most ∙ end.0);
        in_height = ltb-true old.y1 area.h (below_by (v.y1 -ℤ area.oy) area.h most.h_most ∙ end.1);
      }

-- the window as a pane of the whole block
abbrev pub pane_of : (w h : ℕ) → Corners → Pane
pane_of w h v = pane_at w h v.x0 (v.x1 + 1) v.y0 (v.y1 + 1)

-- up to an end, and below the number behind it
up_to : (from to i : ℕ) → in_span from (to + 1) i ≡ leb from i && leb i to
up_to from to i = ap (λ b. leb from i && b) (by (leb i to) refl)
  where
    by : (b : Bool) → leb i to ≡ b → ltb i (to + 1) ≡ b
    by true e = let l = leb-true i to e in lt-ltb i (to + 1) (omega arith)
    by false e = let l = leb-false i to e in le-ltb i (to + 1) (omega arith)

window_test : (w h : ℕ) (v : Corners) → in_pane (pane_of w h v) ≡ in_window v
unfolding in_pane in_window
window_test w h v = λ i s. up_to v.x0 v.x1 s.x i && up_to v.y0 v.y1 s.y i

module _ (w h : ℕ) (v : Corners) where
  window_seen : (t : Tally) → seen (pane_of w h v) t 0 ≡ over (in_window v) t 0 (curve (whole w h))
  window_seen t = ap (λ test. over test t 0 (curve (whole w h))) (window_test w h v)

  -- the walks count and write the definition's runs
  pub seen_many : runs_of (pane_of w h v) ≡ length (window_runs w h v)
  unfolding window_runs
  seen_many = ap (λ t. t.count) (window_seen (none [])) ∙ counted_runs (in_window v) (curve (whole w h)) []

  pub written_is : (l : List ℕ) → length (window_runs w h v) ≤ length l / 2 → pairs_into (pane_of w h v) l ≡ written (window_runs w h v) l
  unfolding window_runs
  written_is l room = ap (λ t. t.pairs) (window_seen (none l)) ∙ written_runs (in_window v) (curve (whole w h)) l (omega arith)

-- a window in its area, without room and with it
module _ (w h : ℕ) (v : Corners) (slice : List ℕ) {count : ℕ} (is : count ≡ length (window_runs w h v)) where
  pub short_told : length slice / 2 < count
      → (refused_with NoRoom (count ∷ []) ≡ within_figures w h v slice) × (slice ≡ within_slice w h v slice)
  short_told l =
      let more = lt-leb (length (window_runs w h v)) (length slice / 2) (subst (λ (n : ℕ). length slice / 2 < n) is l) in
      (ap (λ n. refused_with NoRoom (n ∷ [])) is ∙ rw more refl, rw more refl)

  pub found_told : count ≤ length slice / 2 → {last : List ℕ} → last ≡ written (window_runs w h v) slice
      → (answered (count ∷ []) ≡ within_figures w h v slice) × (last ≡ within_slice w h v slice)
  found_told l wrote =
      let fits = le-leb (length (window_runs w h v)) (length slice / 2) (subst (λ (n : ℕ). n ≤ length slice / 2) is l) in
      (ap (λ n. answered (n ∷ [])) is ∙ rw fits refl, wrote ∙ rw fits refl)

-- no accepted area has a square that over 64 blocks hold
none_counted : {X : Type 0} (f : X → Bool) (zs : List X) → ((z : X) → f z ≡ false) → count f zs ≡ 0
unfolding count
none_counted f [] h = refl
none_counted f (z ∷ zs) h = rw (h z) (ap (λ n. 0 + n) (none_counted f zs h))

pub not_deep : (w h : ℕ) (v : Corners) → accepted w h ≡ true → some_deep w h v ≡ false
unfolding some_deep
not_deep w h v ok =
    let all = limits w h ok in
    let none : count (λ s. in_window v s && ltb most_blocks (blocks_holding (whole w h) s)) (curve (whole w h)) ≡ 0 =
    none_counted (λ s. in_window v s && ltb most_blocks (blocks_holding (whole w h) s)) (curve (whole w h))
    (λ s.
    ap (λ b. in_window v s && b)
    (le-ltb most_blocks (blocks_holding (whole w h) s)
    (let few = at_most_54 w h all.w_least all.w_most all.h_least all.h_most s in omega arith))
    ∙ and-false (in_window v s)) in
    rw none

-- the whole call, refused by its first five guards or granted
module _ (area : Area) (v : Window) (slice : List ℕ) where
  values : List ℕ
  values = length (runs_at area v) ∷ []

  pub refused_told_at : (r : Refusal) → admitted (first 5 (window_guards area v slice)) ≡ Err r
      → (refused r 1 ≡ runs_for_window_at area v slice) × (slice ≡ slice_after_at area v slice)
  unfolding runs_for_window_at slice_after_at values
  refused_told_at r e =
      let is : refused r 1 ≡ runs_for_window_at area v slice = refused_first 5 (window_guards area v slice) 1 values refl r e in
      (is, sym (ap (λ f. cond (eqb f.refusal 0) (written (runs_at area v) slice) slice) (sym is) ∙ rw (refusal_not_0 r) refl))

  module _ (e : admitted (first 5 (window_guards area v slice)) ≡ granted) where
    figures_within : within_figures area.w area.h (old_corners area v) slice ≡ runs_for_window_at area v slice
    unfolding runs_for_window_at values
    figures_within =
        let runs = length (runs_at area v) in
        let room = leb runs (length slice / 2) else NoRoom telling (runs ∷ []) in
        sym (ap (λ deep. guarded (room ∷ not deep else TooDeep ∷ []) 1 (runs ∷ []))
        (not_deep area.w area.h (old_corners area v) (grid_passed area (granted_on area v slice e)).0))
        ∙ granted_first 5 (window_guards area v slice) 1 values refl e

    slice_within : within_slice area.w area.h (old_corners area v) slice ≡ slice_after_at area v slice
    unfolding slice_after_at
    slice_within =
        by (leb (length (runs_at area v)) (length slice / 2)) (length (runs_at area v))
        ∙ ap (λ f. cond (eqb f.refusal 0) (written (runs_at area v) slice) slice) figures_within
      where
        by : (fits : Bool) (runs : ℕ)
            → cond fits (written (runs_at area v) slice) slice
            ≡ cond (eqb (guarded ((fits else NoRoom telling (runs ∷ [])) ∷ []) 1 (runs ∷ [])).refusal 0) (written (runs_at area v) slice) slice
        by true runs = refl
        by false runs = refl

    pub granted_told_at : {f : Figures} {last : List ℕ}
        → (f ≡ within_figures area.w area.h (old_corners area v) slice) × (last ≡ within_slice area.w area.h (old_corners area v) slice)
        → (f ≡ runs_for_window_at area v slice) × (last ≡ slice_after_at area v slice)
    granted_told_at told = (told.0 ∙ figures_within, told.1 ∙ slice_within)
