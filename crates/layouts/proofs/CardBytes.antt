-- A card is a list of bytes: every word of an accepted area's card has 32 bits.
use mathlib.Core.Bool.{Bool, cond}
use mathlib.Core.Path.{◌≡◌, refl, sym, ap, ◌∙◌}
use Prim.Native.Nat.{ℕ, zero, suc, ◌*◌, ◌<◌}
use native.Mathlib.Omega.{arith}
use lib.Dec.{eqb}
use lib.ListN.{length, get_or}
use Rattle.terms.specs.Terms.{past_32_bits, Limits}
use Rattle.sectors.specs.Sectors.{sealed, packed}
use Rattle.sectors.proofs.Words.{Bytes}
use Rattle.sectors.proofs.Small.{Small, small_append, small_sealed, small_packed, small_bytes}
use Rattle.tables.specs.Tables.{due_by}
use Rattle.tables.proofs.PlaceByPlace.{values_below, due_there, looked_for, looked_below, looked_at, due_length}
use Rattle.layouts.specs.Layouts.{head, table_blocks, card_of, right_table, card}
use Rattle.layouts.specs.Steps.{entries}
use Rattle.layouts.proofs.Accepting.{either_below}

module _ (w h : ℕ) (t : Limits w h) where
  -- each place of a right table holds a number or a place of the area
  pub due_below : (by : Bool) (p : ℕ) → p < w * h → get_or (due_by by w h) p 0 < w * h
  due_below by p l =
      let j = looked_for w h t.w_least t.h_least by p in
      let below = looked_below w h t.w_least t.h_least by p l in
      let there : cond by (get_or (entries w h) j 0) j ≡ p = looked_at w h t.w_least t.h_least by p l j refl in
      let is : get_or (due_by by w h) p 0 ≡ cond by j (get_or (entries w h) j 0) =
      ap (λ (q : ℕ). get_or (due_by by w h) q 0) (sym there) ∙ due_there w h t.w_least t.h_least j below j refl by in
      let both = values_below w h t.w_least t.h_least j below j refl in
      let under : cond by j (get_or (entries w h) j 0) < w * h = either_below by both.0 both.1 in
      omega arith

  module _ (kind : ℕ) (few : kind < past_32_bits) where
    small_head : Small (head w h kind)
    small_head zero l = omega arith
    small_head (suc zero) l = let most = t.w_most in omega arith
    small_head (suc (suc zero)) l = let most = t.h_most in omega arith
    small_head (suc (suc (suc zero))) l = few
    small_head (suc (suc (suc (suc i)))) l = absurd (omega arith)

    small_table : Small (right_table w h kind)
    small_table p l =
        let size = due_length w h t.w_least t.h_least (eqb kind 2) in
        let below = due_below (eqb kind 2) p (omega arith) in
        let most = t.squares_most in
        omega arith

    pub card_of_bytes : Bytes (card w h kind)
    unfolding card_of
    card_of_bytes =
        small_bytes _
        (small_append (sealed (head w h kind)) (packed (table_blocks (length (right_table w h kind))) (right_table w h kind))
        (small_sealed (head w h kind) (omega arith) small_head)
        (small_packed (table_blocks (length (right_table w h kind))) (right_table w h kind) small_table))
