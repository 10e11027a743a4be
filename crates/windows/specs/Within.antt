-- A window that lies in its area, and what is answered and left of it: by its old corners, without the refusals that are past then. They render no sentence of
-- document 02.
use Rattle.std.specs.Prelude.{cond, List, [], ◌∷◌, ℕ, ◌/◌, ◌≤◌, ◌<◌, leb, length}
use Rattle.terms.specs.declared.Refusal.TheVariants.{NoRoom}
use Rattle.terms.specs.Terms.{longest_side, Figures}
use Rattle.terms.specs.Guards.{◌else◌, ◌telling◌, guarded}
use Rattle.windows.specs.declared.Corners.{Corners}
use Rattle.windows.specs.Windows.{window_runs, written}

pub record Lies (w h : ℕ) (v : Corners) : Type 0 where
  pub w_limit : w ≤ longest_side
  pub h_limit : h ≤ longest_side
  pub along : v.x0 ≤ v.x1
  pub across : v.y0 ≤ v.y1
  pub in_width : v.x1 < w
  pub in_height : v.y1 < h

abbrev pub within_figures : (w h : ℕ) → Corners → List ℕ → Figures
within_figures w h v slice =
    let runs = length (window_runs w h v) in
    guarded ((leb runs (length slice / 2) else NoRoom telling (runs ∷ [])) ∷ []) 1 (runs ∷ [])

abbrev pub within_slice : (w h : ℕ) → Corners → List ℕ → List ℕ
within_slice w h v slice = cond (leb (length (window_runs w h v)) (length slice / 2)) (written (window_runs w h v) slice) slice
