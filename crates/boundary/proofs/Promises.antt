-- What the promises across the boundary come to: filled tables hold what the lookups say, and calls that leave a slice, a table or a file as it is, or find
-- every slice too short, are turned away. Two results that meet a promise are one by `two_equations` and `three_equations` of terms.
use mathlib.Core.Bool.{Bool, true}
use mathlib.Core.List.{List, [], ◌∷◌, ◌++◌}
use mathlib.Core.Path.{◌≡◌, refl, sym, ap, ap₂, ◌∙◌}
use Prim.Native.Nat.{ℕ, ◌+◌, ◌*◌, ◌≤◌}
use native.Mathlib.Omega.{arith}
use borrow.Author.Tests.{le-leb}
use lib.Dec.{leb}
use lib.IntN.{ℤ, pos, ◌+ℤ◌}
use lib.ListN.{length, drop, get_or, replicate, length-replicate, get_or-replicate, drop_of_length-le}
use Rattle.terms.specs.declared.Area.{Area}
use Rattle.terms.specs.Terms.{FiguresOf, answered}
use Rattle.terms.specs.Comparing.{same_numbers}
use Rattle.terms.proofs.Limits.{limits, grid_passed}
use Rattle.division.specs.Division.{whole, choice, even_half, part, parts, parts_of, moved, against, row, curve_by, down, curve, square_of}
use Rattle.division.specs.Division.{blocks, blocks_holding, count, within, holds}
use Rattle.curve.specs.Lookups.{all, number_to_square_at, square_to_number_at}
use Rattle.curve.proofs.Finish.{same_added}
use Rattle.curve.proofs.Demands.{found, number_asked, square_asked, square_back_at}
use Rattle.tables.specs.Tables.{places, by_number, by_square, due_by, some_deep, unless_refused, fill}
use Rattle.tables.proofs.Promises.{number_holds, kinds_inverse, that_length_filled, filled_so, fills_nothing}
use Rattle.sectors.specs.Sectors.{words_of, bytes_of, sum, sealed, packed, good, first_bad}
use Rattle.layouts.specs.Layouts.{card_of, card}
use Rattle.cards.specs.Cards.{write, read}
use Rattle.clerk.specs.Clerk.{InForce, Refused, reply}
use Rattle.boundary.specs.Boundary.{returned, written, filled, area_at}
use Rattle.boundary.specs.Handling.{shown, handled_by}
use Rattle.boundary.specs.Calls.{write_card_call, read_card_call}

-- Demand 2: "filled tables hold what the lookups say". The calls' squares are counted from the datum post, the table's from the area's own corner, "with the
-- origin subtracted". Of the lists that are due:
module _ (w h : ℕ) (ox oy : ℤ) where
  abbrev area : Area
  area = area_at w h ox oy

  by_number_due : (i x y k : ℕ) → number_to_square_at area i ≡ found (ox +ℤ pos x) (oy +ℤ pos y) k → get_or (by_number w h) i 0 ≡ y * w + x
  by_number_due i x y k e =
      let was = number_asked area i (ox +ℤ pos x) (oy +ℤ pos y) k e in
      let s = square_of (all area) i in
      number_holds w h i was.numbered ∙ ap₂ (λ b a. b * w + a) (same_added oy s.y y was.y_is) (same_added ox s.x x was.x_is)

  by_square_due : (x y n k : ℕ) → square_to_number_at area (ox +ℤ pos x) (oy +ℤ pos y) ≡ answered (n ∷ k ∷ []) → get_or (by_square w h) (y * w + x) 0 ≡ n
  by_square_due x y n k e =
      let back = square_back_at area (ox +ℤ pos x) (oy +ℤ pos y) n k e in
      let was = number_asked area n (ox +ℤ pos x) (oy +ℤ pos y) k back in
      let least = limits w h (grid_passed area was.on).0 in
      ap (λ p. get_or (by_square w h) p 0) (sym (by_number_due n x y k back)) ∙ (kinds_inverse w h least.w_least least.h_least n was.numbered).0

  -- and of any table of w·h places as a fill leaves it.
  module _ (t : List ℕ) (size : length t ≡ w * h) where
    pub by_number_holds_at : (i x y k : ℕ) → number_to_square_at area i ≡ found (ox +ℤ pos x) (oy +ℤ pos y) k
        → get_or (unless_refused (fill w h t) (by_number w h) t) i 0 ≡ y * w + x
    by_number_holds_at i x y k e =
        let ok = (grid_passed area (number_asked area i (ox +ℤ pos x) (oy +ℤ pos y) k e).on).0 in
        ap (λ ds. get_or ds i 0) (filled_so w h t (by_number w h) (that_length_filled w h t ok size)) ∙ by_number_due i x y k e

    pub by_square_holds_at : (x y n k : ℕ) → square_to_number_at area (ox +ℤ pos x) (oy +ℤ pos y) ≡ answered (n ∷ k ∷ [])
        → get_or (unless_refused (fill w h t) (by_square w h) t) (y * w + x) 0 ≡ n
    by_square_holds_at x y n k e =
        let ok = (grid_passed area (square_asked area (ox +ℤ pos x) (oy +ℤ pos y) n k e).on).0 in
        ap (λ ds. get_or ds (y * w + x) 0) (filled_so w h t (by_square w h) (that_length_filled w h t ok size)) ∙ by_square_due x y n k e

-- "the number, all else 0", of a line: after the area in force stand zeros where the line is refused.
pub refused_rest_0 : (held : InForce) (line : List ℕ) → (reply held line).word ≡ Refused → drop 4 (handled_by held line).values ≡ replicate 4 (pos 0)
refused_rest_0 held line e = ap (λ word. shown word (reply held line).numbers) e

-- Of any call that writes n values, signed or not: let u and v be two values that differ.
module _ {A : Type 0} (n : ℕ) (f : FiguresOf A) (u v : A) (differ : u ≡ v → ⊥) where
  -- a slice of n places that holds one value
  abbrev full : A → List A
  full value = replicate n value

  has_room : (value : A) → leb n (length (full value)) ≡ true
  has_room value = let size = length-replicate n value in le-leb n (length (full value)) (omega arith)

  -- It is wholly written, and what it held leaves no trace.
  whole_written : (value : A) → written n f (full value) ≡ f.values ++ []
  whole_written value =
      let size = length-replicate n value in
      let none : drop n (full value) ≡ [] = drop_of_length-le (full value) {i = n} (omega arith) in
      rw (has_room value) (ap (λ t. f.values ++ t) none)

  -- Slices of either value would become the same.
  pub slice_left_alone : 1 ≤ n → ((s : List A) → s ≡ written n f s) → ⊥
  slice_left_alone l promise =
      let same : full u ≡ full v = promise (full u) ∙ whole_written u ∙ sym (promise (full v) ∙ whole_written v) in
      differ (sym (get_or-replicate n 0 u u (omega arith)) ∙ ap (λ s. get_or s 0 u) same ∙ get_or-replicate n 0 v u (omega arith))

  pub always_too_short : f.refusal ≡ 0 → ((s : List A) → 255 ≡ returned n f s) → ⊥
  always_too_short answered promise =
      let told : returned n f (full u) ≡ f.refusal = rw (has_room u) refl in
      let other : 255 ≡ f.refusal = promise (full u) ∙ told in
      omega arith

-- A fill of either kind that leaves its table as it is, with room for the count.
pub table_left_alone : (kind : Bool) → ((w h : ℕ) (t : List ℕ) → t ≡ filled (fill w h t) (due_by kind w h) t (0 ∷ [])) → ⊥
table_left_alone kind promise = fills_nothing kind promise

-- The card of 1 by 1, which has 1,024 bytes, is written over a file of nines, and read over a 9; and of two blocks the second one's check is bad.
abbrev bad_behind : List ℕ
bad_behind = bytes_of (sealed []) ++ replicate 512 0

cards_of_1 : (get_or (write_card_call 1 1 1 (0 ∷ []) (replicate 1024 9)).file 0 0 ≡ 1)
    × ((length (card 1 1 1) ≡ 1024)
    × (((read_card_call 1 1 1 (card 1 1 1) (9 ∷ []) (9 ∷ [])).lent ≡ 0 ∷ []) × ((read_card_call 1 1 1 bad_behind (9 ∷ []) (9 ∷ [])).values ≡ 1 ∷ [])))
unfolding write read card_of sealed packed bytes_of words_of sum good first_bad same_numbers unless_refused places by_number by_square some_deep square_of
    whole choice even_half part parts parts_of against moved row curve_by down curve blocks blocks_holding count within holds mathlib.Core.List.flatten
cards_of_1 = (refl, (refl, (refl, refl)))

-- A writer that leaves its file as it is, and one that writes whatever there is to refuse.
pub file_left_alone : ((w h kind : ℕ) (table file : List ℕ) → file ≡ (write_card_call w h kind table file).file) → ⊥
file_left_alone promise =
    let same : ◌≡◌ {A = ℕ} 9 1 = ap (λ (file : List ℕ). get_or file 0 0) (promise 1 1 1 (0 ∷ []) (replicate 1024 9)) ∙ cards_of_1.0 in
    omega arith

pub file_written_at_all : ((w h kind : ℕ) (table file : List ℕ) → card w h kind ≡ (write_card_call w h kind table file).file) → ⊥
unfolding write unless_refused
file_written_at_all promise =
    let same : ◌≡◌ {A = ℕ} 1024 0 = sym cards_of_1.1.0 ∙ ap length (promise 1 1 1 (0 ∷ []) []) in
    omega arith

-- A reader that leaves its table as it is, and one that never tells a block.
pub table_left_unread : ((w h kind : ℕ) (file table block : List ℕ) → table ≡ (read_card_call w h kind file table block).lent) → ⊥
table_left_unread promise =
    let same : ◌≡◌ {A = ℕ} 9 0 = ap (λ (table : List ℕ). get_or table 0 0) (promise 1 1 1 (card 1 1 1) (9 ∷ []) (9 ∷ []) ∙ cards_of_1.1.1.0) in
    omega arith

pub block_never_told : ((w h kind : ℕ) (file table block : List ℕ) → 1 ≤ length block → 0 ∷ drop 1 block ≡ (read_card_call w h kind file table block).values)
    → ⊥
block_never_told promise =
    let same : ◌≡◌ {A = ℕ} 0 1 = ap (λ (block : List ℕ). get_or block 0 0) (promise 1 1 1 bad_behind (9 ∷ []) (9 ∷ []) (omega arith) ∙ cards_of_1.1.1.1) in
    omega arith
