-- A caller from C that has many lines: include/uvalinda.h, "begins with 0 each for none, and hands on from line to line what the last call left", and how it
-- reads what it gets. It renders no sentence of the documents: what it comes to is said beside the clerk's own replies.
use Rattle.std.specs.Prelude.{cond, List, [], ◌∷◌, ◌≡◌, ℕ, eqb, ℤ, pos, nat_abs, get_or}
use Rattle.terms.specs.declared.Area.{Area}
use Rattle.clerk.specs.declared.Handled.{Handled}
use Rattle.clerk.specs.Clerk.{InForce, AreaSaid, OriginSaid, Cell, Number, Refused, Said, says, said, after, reply}
use Rattle.boundary.specs.Boundary.{area_at}
use Rattle.boundary.specs.Calls.{Outcome, handle_line_call}

-- "The caller keeps the area in force as four numbers, w, h, ox and oy": the first four places of its slice.
abbrev pub nth : ℕ → List ℤ → ℤ
nth i slice = get_or slice i (pos 0)

abbrev pub area_kept : List ℤ → Area
area_kept slice = area_at (nat_abs (nth 0 slice)) (nat_abs (nth 1 slice)) (nth 2 slice) (nth 3 slice)

-- A line, under the four numbers that the slice holds, and with the slice for the values; and lines in order, each with the slice that the last one left.
abbrev pub line_from : List ℤ → (line : List ℕ) → Outcome ℤ
line_from slice line = handle_line_call (area_kept slice).w (area_kept slice).h (area_kept slice).ox (area_kept slice).oy line slice

unfoldable pub got : (slice : List ℤ) → (lines : List (List ℕ)) → List (Outcome ℤ)
got slice [] = []
got slice (line ∷ lines) = line_from slice line ∷ got (line_from slice line).values lines

-- What was replied, as the caller reads it: what is returned, where it is a refusal; else by the fifth value, UVALINDA_REPLY_AREA and so on.
abbrev pub by_kind : (kind : ℕ) → List ℤ → Said
by_kind kind slice =
    cond (eqb kind 1) (says AreaSaid (nth 0 slice ∷ nth 1 slice ∷ nth 5 slice ∷ nth 6 slice ∷ nth 7 slice ∷ []))
    (cond (eqb kind 2) (says Cell (nth 5 slice ∷ nth 6 slice ∷ nth 7 slice ∷ []))
    (cond (eqb kind 3) (says Number (nth 5 slice ∷ nth 6 slice ∷ [])) (says OriginSaid (nth 5 slice ∷ nth 6 slice ∷ []))))

abbrev pub read_off : Outcome ℤ → Said
read_off call = cond (eqb call.returned 0) (by_kind (nat_abs (nth 4 call.values)) call.values) (says Refused (pos call.returned ∷ []))

-- The clerk's own replies to lines in order, each under the area that the line before it left.
unfoldable pub replies : InForce → (lines : List (List ℕ)) → List Said
replies held [] = []
replies held (line ∷ lines) = reply held line ∷ replies (after held line) lines

-- What `handle` of the clerk hands back for lines in order, by its promise.
pub data Handles : InForce → (lines : List (List ℕ)) → List Handled → Type 0 where
  no_lines : {held : InForce} → Handles held [] []
  one_more : {held : InForce} {lines : List (List ℕ)} {rest : List Handled} (line : List ℕ) (done : Handled)
      → (done.clerk.area ≡ after held line) × (said done.reply ≡ reply held line) → Handles done.clerk.area lines rest
      → Handles held (line ∷ lines) (done ∷ rest)
