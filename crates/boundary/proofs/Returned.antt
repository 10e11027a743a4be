-- What each call from C returns and leaves, in the header's words, for every argument and for slices of any length: 255 and nothing written where the slice for
-- the values is too short; else the refusal's number, or 0, the values in the first places, and the rest as it was. A table or a file is as it was where the
-- call is refused.
use mathlib.Core.Bool.{Bool, true, false, cond}
use mathlib.Core.List.{List, [], ◌∷◌, ◌++◌}
use mathlib.Core.Path.{◌≡◌, refl, sym, ap, ◌∙◌}
use Prim.Native.Nat.{ℕ, ◌*◌, ◌≤◌, ◌<◌}
use borrow.Author.Tests.{le-leb, lt-leb}
use lib.Dec.{leb}
use lib.IntN.{ℤ, pos}
use lib.ListN.{length, drop}
use Rattle.terms.specs.declared.Area.{Area}
use Rattle.terms.specs.declared.Refusal.{Refusal}
use Rattle.terms.specs.declared.Refusal.TheVariants.{AreaLimit, TooManySquares}
use Rattle.terms.specs.Terms.{lengths_accepted, squares_accepted, FiguresOf, Figures, answered, refused, refusal_number}
use Rattle.terms.proofs.Refusals.{refusal_some}
use Rattle.curve.specs.Lookups.{number_to_square_at, square_to_number_at, finish_square_at}
use Rattle.tables.specs.Tables.{by_number, by_square, fill_at, filled_at, check_at}
use Rattle.tables.proofs.Admitted.{answered_left, refused_left}
use Rattle.layouts.specs.Layouts.{right_table, card, card_bytes}
use Rattle.cards.specs.Cards.{measure, write, read, measure_at, write_at, file_after_at, read_at, table_after, table_after_at}
use Rattle.windows.specs.Windows.{runs_for_window_at, slice_after_at}
use Rattle.clerk.specs.declared.Reply.TheVariants.{AreaSet, OriginSet, Cell, Number}
use Rattle.std.specs.Prelude.{Ok, Err}
use Rattle.clerk.specs.Clerk.{said, clerk_under, after, reply}
use Rattle.boundary.specs.Boundary.{returned, written, left, area_at, window_at}
use Rattle.boundary.specs.Handling.{area_of, handled_figures}
use Rattle.boundary.specs.Calls.{Outcome, LentOutcome, FileOutcome, tells, number_to_square_call, square_to_number_call, finish_square_call}
use Rattle.boundary.specs.Calls.{fill_by_number_call, fill_by_square_call, check_by_number_call, check_by_square_call}
use Rattle.boundary.specs.Calls.{card_length_call, write_card_call, read_card_call, runs_for_window_call, handle_line_call}

-- A call that tells n values of these figures in a lent slice.
pub record Tells {A : Type 0} (n : ℕ) (f : FiguresOf A) (slice : List A) (call : Outcome A) : Type 0 where
  pub too_short : length slice < n → (call.returned ≡ 255) × (call.values ≡ slice)
  pub told : n ≤ length slice → (call.returned ≡ f.refusal) × (call.values ≡ f.values ++ drop n slice)

tells_so : {A : Type 0} (n : ℕ) (f : FiguresOf A) (slice : List A) → Tells n f slice (tells n f slice)
tells_so n f slice = record { too_short = λ l. short (lt-leb n (length slice) l); told = λ l. long (le-leb n (length slice) l) }
  where
    short : leb n (length slice) ≡ false → ((tells n f slice).returned ≡ 255) × ((tells n f slice).values ≡ slice)
    short e = (rw e refl, rw e refl)

    long : leb n (length slice) ≡ true → ((tells n f slice).returned ≡ f.refusal) × ((tells n f slice).values ≡ f.values ++ drop n slice)
    long e = (rw e refl, rw e refl)

-- So of one that tells one value and writes a table, or a slice for runs: as the library's own call leaves it, or as it was.
pub record TellsAndWrites (f : Figures) (slice before after : List ℕ) (call : LentOutcome) : Type 0 where
  pub too_short : length slice < 1 → (call.returned ≡ 255) × ((call.values ≡ slice) × (call.lent ≡ before))
  pub told : 1 ≤ length slice → (call.returned ≡ f.refusal) × ((call.values ≡ f.values ++ drop 1 slice) × (call.lent ≡ after))

abbrev writes : (f : Figures) (slice before after : List ℕ) → LentOutcome
writes f slice before after = record { returned = returned 1 f slice; values = written 1 f slice; lent = left after before slice }

writes_so : (f : Figures) (slice before after : List ℕ) → TellsAndWrites f slice before after (writes f slice before after)
writes_so f slice before after =
    let call = tells_so 1 f slice in
    record {
      too_short = λ l. let no = call.too_short l in (no.0, (no.1, rw (lt-leb 1 (length slice) l) refl));
      told = λ l. let is = call.told l in (is.0, (is.1, rw (le-leb 1 (length slice) l) refl));
    }

-- And of one that has no values and writes a file: there is no slice to be too short.
pub record WritesFile (f : Figures) (after : List ℕ) (call : FileOutcome) : Type 0 where
  pub returns : call.returned ≡ f.refusal
  pub leaves : call.file ≡ after

-- An area by its width, its height and its origin, and what its calls are told.
module _ (w h : ℕ) (ox oy : ℤ) where
  pub number_call_tells : (number : ℕ) (result : List ℤ)
      → Tells 3 (number_to_square_at (area_at w h ox oy) number) result (number_to_square_call w h ox oy number result)
  number_call_tells number result = tells_so 3 (number_to_square_at (area_at w h ox oy) number) result

  pub square_call_tells : (x y : ℤ) (result : List ℕ)
      → Tells 2 (square_to_number_at (area_at w h ox oy) x y) result (square_to_number_call w h ox oy x y result)
  square_call_tells x y result = tells_so 2 (square_to_number_at (area_at w h ox oy) x y) result

  pub finish_call_tells : (result : List ℤ) → Tells 2 (finish_square_at (area_at w h ox oy)) result (finish_square_call w h ox oy result)
  finish_call_tells result = tells_so 2 (finish_square_at (area_at w h ox oy)) result

  -- "table contents and numbers are unaffected": whatever the area's origin is
  pub number_fill_tells : (table blocks : List ℕ)
      → TellsAndWrites (fill_at (area_at w h ox oy) table) blocks table (filled_at (area_at w h ox oy) by_number table) (fill_by_number_call w h table blocks)
  number_fill_tells table blocks =
      writes_so (fill_at (area_at w h ox oy) table) blocks table (filled_at (area_at w h ox oy) by_number table)

  pub square_fill_tells : (table blocks : List ℕ)
      → TellsAndWrites (fill_at (area_at w h ox oy) table) blocks table (filled_at (area_at w h ox oy) by_square table) (fill_by_square_call w h table blocks)
  square_fill_tells table blocks =
      writes_so (fill_at (area_at w h ox oy) table) blocks table (filled_at (area_at w h ox oy) by_square table)

  pub number_check_tells : (table result : List ℕ) → Tells 3 (check_at (area_at w h ox oy) by_number table) result (check_by_number_call w h table result)
  number_check_tells table result = tells_so 3 (check_at (area_at w h ox oy) by_number table) result

  pub square_check_tells : (table result : List ℕ) → Tells 3 (check_at (area_at w h ox oy) by_square table) result (check_by_square_call w h table result)
  square_check_tells table result = tells_so 3 (check_at (area_at w h ox oy) by_square table) result

  -- "The origin is not on a card": so of cards
  pub length_call_tells : (bytes : List ℕ) → Tells 1 (measure_at (area_at w h ox oy)) bytes (card_length_call w h bytes)
  length_call_tells bytes = tells_so 1 (measure_at (area_at w h ox oy)) bytes

  pub write_call_tells : (kind : ℕ) (table file : List ℕ)
      → WritesFile (write_at (area_at w h ox oy) kind table file) (file_after_at (area_at w h ox oy) kind table file) (write_card_call w h kind table file)
  write_call_tells kind table file = record { returns = refl; leaves = refl }

  pub read_call_tells : (kind : ℕ) (file table block : List ℕ)
      → TellsAndWrites (read_at (area_at w h ox oy) kind file table) block table (table_after_at (area_at w h ox oy) kind file table)
      (read_card_call w h kind file table block)
  read_call_tells kind file table block =
      writes_so (read_at (area_at w h ox oy) kind file table) block table (table_after_at (area_at w h ox oy) kind file table)

  pub window_call_tells : (x0 y0 x1 y1 : ℤ) (runs result : List ℕ) →
      let v = window_at x0 y0 x1 y1 in
      TellsAndWrites (runs_for_window_at (area_at w h ox oy) v runs) result runs (slice_after_at (area_at w h ox oy) v runs)
      (runs_for_window_call w h ox oy x0 y0 x1 y1 runs result)
  window_call_tells x0 y0 x1 y1 runs result =
      let v = window_at x0 y0 x1 y1 in
      writes_so (runs_for_window_at (area_at w h ox oy) v runs) result runs (slice_after_at (area_at w h ox oy) v runs)

  pub line_call_tells : (line : List ℕ) (result : List ℤ) →
      let held = clerk_under (area_at w h ox oy) in
      Tells 8 (handled_figures (area_of (after held line)) (reply held line)) result (handle_line_call w h ox oy line result)
  line_call_tells line result =
      let held = clerk_under (area_at w h ox oy) in
      tells_so 8 (handled_figures (area_of (after held line)) (reply held line)) result

-- What cards come to, by what is returned: how many bytes one has, "The file is then as it was" where writing is refused, and so the table where reading is.
module _ (w h : ℕ) where
  measured : ((measure w h).refusal ≡ 0 → (measure w h).values ≡ card_bytes w h ∷ []) × (((measure w h).refusal ≡ 0 → ⊥) → (measure w h).values ≡ 0 ∷ [])
  unfolding measure
  measured = by (lengths_accepted w h) (squares_accepted (w * h))
    where
      by : (s t : Bool) →
          let f : Figures = cond s (cond t (answered (card_bytes w h ∷ [])) (refused TooManySquares 1)) (refused AreaLimit 1) in
          (f.refusal ≡ 0 → f.values ≡ card_bytes w h ∷ []) × ((f.refusal ≡ 0 → ⊥) → f.values ≡ 0 ∷ [])
      by true true = (λ e. refl, λ n. absurd (n refl))
      by true false = (λ e. absurd (refusal_some TooManySquares e), λ n. refl)
      by false t = (λ e. absurd (refusal_some AreaLimit e), λ n. refl)

  pub length_shown : (bytes : List ℕ) → 1 ≤ length bytes →
      let call = card_length_call w h bytes in
      (call.returned ≡ 0 → call.values ≡ card_bytes w h ∷ drop 1 bytes) × ((call.returned ≡ 0 → ⊥) → call.values ≡ 0 ∷ drop 1 bytes)
  length_shown bytes l =
      let is = (tells_so 1 (measure w h) bytes).told l in (
        λ e. is.1 ∙ ap (λ (vs : List ℕ). vs ++ drop 1 bytes) (measured.0 (sym is.0 ∙ e)),
        λ n. is.1 ∙ ap (λ (vs : List ℕ). vs ++ drop 1 bytes) (measured.1 (λ e. n (is.0 ∙ e))),
      )

  module _ (kind : ℕ) where
    pub write_shown : (table file : List ℕ) →
        let call = write_card_call w h kind table file in
        (call.returned ≡ 0 → call.file ≡ card w h kind) × ((call.returned ≡ 0 → ⊥) → call.file ≡ file)
    write_shown table file = (answered_left (write w h kind table file) (card w h kind) file, refused_left (write w h kind table file) (card w h kind) file)

    pub read_shown : (file table block : List ℕ) → 1 ≤ length block →
        let call = read_card_call w h kind file table block in
        (call.returned ≡ 0 → call.lent ≡ right_table w h kind) × ((call.returned ≡ 0 → ⊥) → call.lent ≡ table)
    read_shown file table block l =
        let f = read w h kind file table in
        let is = (writes_so f block table (table_after w h kind file table)).told l in (
          λ e. is.1.1 ∙ answered_left f (right_table w h kind) table (sym is.0 ∙ e),
          λ n. is.1.1 ∙ refused_left f (right_table w h kind) table (λ e. n (is.0 ∙ e)),
        )

-- A line's eight values, by its reply: "w, h, ox and oy of the area in force after the line", then the kind and its numbers, 0 in each place that it has none
-- for.
module _ (area : Area) where
  pub area_shown : (w h squares : ℕ) (x y : ℤ) → handled_figures area (said (Ok (AreaSet w h squares x y)))
      ≡ record { refusal = 0; values = pos area.w ∷ pos area.h ∷ area.ox ∷ area.oy ∷ pos 1 ∷ pos squares ∷ x ∷ y ∷ [] }
  area_shown w h squares x y = refl

  pub cell_shown : (x y : ℤ) (blocks : ℕ) → handled_figures area (said (Ok (Cell x y blocks)))
      ≡ record { refusal = 0; values = pos area.w ∷ pos area.h ∷ area.ox ∷ area.oy ∷ pos 2 ∷ x ∷ y ∷ pos blocks ∷ [] }
  cell_shown x y blocks = refl

  pub number_shown : (number blocks : ℕ) → handled_figures area (said (Ok (Number number blocks)))
      ≡ record { refusal = 0; values = pos area.w ∷ pos area.h ∷ area.ox ∷ area.oy ∷ pos 3 ∷ pos number ∷ pos blocks ∷ pos 0 ∷ [] }
  number_shown number blocks = refl

  pub origin_shown : (ox oy : ℤ) → handled_figures area (said (Ok (OriginSet ox oy)))
      ≡ record { refusal = 0; values = pos area.w ∷ pos area.h ∷ area.ox ∷ area.oy ∷ pos 4 ∷ ox ∷ oy ∷ pos 0 ∷ [] }
  origin_shown ox oy = refl

  pub refused_shown : (r : Refusal) → handled_figures area (said (Err r))
      ≡ record { refusal = refusal_number r; values = pos area.w ∷ pos area.h ∷ area.ox ∷ area.oy ∷ pos 0 ∷ pos 0 ∷ pos 0 ∷ pos 0 ∷ [] }
  refused_shown r = refl
