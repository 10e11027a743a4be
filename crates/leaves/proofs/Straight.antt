-- A straight block, square by square along its run: each number and each place lies in the table, and a walk that goes on by a square at a time is the
-- block's when the run ends.
use mathlib.Core.Bool.{Bool, cond}
use mathlib.Core.List.{List, map}
use mathlib.Core.Path.{◌≡◌, sym, ap, ap₂, subst, subst⁻¹, ◌∙◌}
use Prim.Native.Nat.{ℕ, ◌+◌, ◌*◌, ◌<◌}
use native.Mathlib.Nat.{mul-one}
use native.Mathlib.Numerals.{add-one}
use native.Mathlib.Omega.{arith}
use lib.ListN.{length, get_or}
use Rattle.terms.specs.Terms.{past_32_bits}
use Rattle.division.specs.declared.Choice.TheVariants.{StraightRun}
use Rattle.division.specs.declared.Placed.{Placed}
use Rattle.division.specs.Division.{Square, square, choice, moved, row, curve, blocks}
use Rattle.division.specs.Forms.{block, stepped_to}
use Rattle.division.proofs.Cases.{rule, run_length}
use Rattle.division.proofs.Plane.{moved_none}
use Rattle.division.proofs.Coordinates.{spot, spot_inside}
use Rattle.division.proofs.Descent.{row_at}
use Rattle.division.proofs.EachSquareOnce.{row_length}
use Rattle.division.proofs.PlaceInList.{getD_map_in}
use Rattle.division.proofs.PlacedParts.{run_moved}
use Rattle.leaves.specs.Walk.{place, over, over_block, Fits}
use Rattle.leaves.proofs.Entries.{either_below, place_below, row_over, squares_fit}

-- the places of a block's first i squares, along its run
abbrev pub run_places : Placed → (w i : ℕ) → List ℕ
run_places k w i = map (place w) (row (block k).run i (block k).start)

-- What a walk asks of such a block.
abbrev pub Straight : (kind : Bool) (w h size : ℕ) → Placed → (at : ℕ) → Type 0
Straight kind w h size k at = Fits kind w h size (block k) at × (choice k.a k.b ≡ StraightRun)

module _ (k : Placed) {kind : Bool} {w h size : ℕ} {at : ℕ} (straight : Straight kind w h size k at) where
  one_wide : k.b ≡ 1
  one_wide = run_length (block k) straight.0.inside.sized straight.1

  pub all_along : k.a * k.b ≡ k.a
  all_along = ap (λ n. k.a * n) one_wide ∙ mul-one k.a

  -- the square i along, of which the code has the coordinate along the run
  module _ (i : ℕ) (l : i < k.a) where
    pub run_number : at + i < past_32_bits
    run_number =
        let along = all_along in
        let numbers = straight.0.numbers in
        let all = squares_fit straight.0 in
        omega arith

    run_below : place w (moved (block k).run i (block k).start) < w * h
    unfolding spot
    run_below =
        subst (λ (s : Square). place w s < w * h) (moved_none (block k).side (moved (block k).run i (block k).start))
        (place_below w h (spot (block k) (square i 0))
        (spot_inside w h (block k) straight.0.inside (square i 0) (record { run = l; side = let one = one_wide in omega arith })))

    module _ {there : ℕ} (is : there ≡ stepped_to k.along i k.back) where
      run_place : place w (cond k.turned (square k.across there) (square there k.across)) ≡ place w (moved (block k).run i (block k).start)
      run_place =
          ap (place w)
          (ap (λ n. cond k.turned (square k.across n) (square n k.across)) is ∙ run_moved k.along k.across k.turned k.back i)

      pub run_place_fits : place w (cond k.turned (square k.across there) (square there k.across)) < past_32_bits
      run_place_fits =
          let same = run_place in
          let below = run_below in
          let all = squares_fit straight.0 in
          omega arith

      module _ {p : ℕ} (placed : p ≡ place w (cond k.turned (square k.across there) (square there k.across))) where
        pub run_fits : {long : ℕ} → long ≡ size → cond kind p (at + i) < long
        run_fits same =
            let along = all_along in
            let room = straight.0.room in
            let at_place = placed ∙ run_place in
            let below = run_below in
            either_below (at + i) p _ kind (omega arith) (λ e. let places = straight.0.places e in omega arith)

        -- it is the block's entry i
        pub run_entry : p ≡ get_or (map (place w) (curve (block k))) i 0
        run_entry =
            let squares = (rule (block k) StraightRun straight.0.inside.sized straight.1).0 in
            placed
            ∙ run_place
            ∙ ap (place w) (sym (row_at (block k).run k.a i (block k).start (square 0 0) l))
            ∙ sym
            (ap (λ zs. get_or (map (place w) zs) i 0) squares
            ∙ getD_map_in (place w) (row (block k).run k.a (block k).start) i 0 (square 0 0)
            (subst⁻¹ (λ (n : ℕ). i < n) (row_length (block k).run k.a (block k).start) l))

        -- one square more
        pub run_on : {S : Type 0} (step : S → ℕ → ℕ → S) (state : S) {so_far next : S} → so_far ≡ over step state at (run_places k w i)
            → next ≡ step so_far (at + i) p → next ≡ over step state at (run_places k w (i + 1))
        run_on step state was is_next =
            is_next
            ∙ ap₂ (λ s q. step s (at + i) q) was (placed ∙ run_place)
            ∙ sym (row_over step state w at (block k).run i (block k).start)
            ∙ ap (λ n. over step state at (run_places k w n)) (sym (add-one i))

  -- the whole run
  pub run_whole : {S : Type 0} (step : S → ℕ → ℕ → S) (state : S) {i : ℕ} → i ≡ k.a → {last : S} → last ≡ over step state at (run_places k w i)
      → last ≡ over_block step state w (block k) at
  run_whole step state all is =
      is
      ∙ ap (λ n. over step state at (run_places k w n)) all
      ∙ ap (λ zs. over step state at (map (place w) zs)) (sym (rule (block k) StraightRun straight.0.inside.sized straight.1).0)

  pub run_count : 1 ≡ length (blocks (block k))
  run_count = sym (ap length (rule (block k) StraightRun straight.0.inside.sized straight.1).1)
