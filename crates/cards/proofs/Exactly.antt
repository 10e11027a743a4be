-- Each answer of the three calls, of an area with its origin, exactly: which answer is given when, a refusal by the number that `Refused` has in numbers, and
-- what is left of the file and the table then.
use mathlib.Core.List.{List, [], ◌∷◌}
use mathlib.Core.Logic.{◌↔◌}
use mathlib.Core.Path.{◌≡◌, refl, sym, ap, subst⁻¹, ◌∙◌}
use Prim.Native.Nat.{ℕ, ◌+◌, ◌*◌, ◌/◌}
use lib.ListN.{length}
use Rattle.terms.specs.declared.Area.{Area}
use Rattle.terms.specs.declared.Refusal.{Refusal}
use Rattle.terms.specs.declared.Refusal.TheVariants.{BadCheck}
use Rattle.terms.specs.Terms.{refusal_number, Figures, answered, refused}
use Rattle.terms.specs.Guards.{area_guards}
use Rattle.terms.proofs.Refusals.{refusal_some, figure}
use Rattle.terms.proofs.Guards.{answered_exactly, answered_so, refused_whole}
use Rattle.terms.proofs.Meanings.{LengthsWithin, SquaresWithin}
use Rattle.tables.proofs.Admitted.{answered_left, refused_left}
use Rattle.layouts.specs.Layouts.{right_table, card, card_bytes}
use Rattle.std.specs.Prelude.{Ok, Err}
use Rattle.cards.specs.declared.Unread.{Unread}
use Rattle.cards.specs.declared.Unread.TheVariants as Unreads
use Rattle.cards.specs.Cards.{write_guards, read_guards, write, read, measure, length_figures, write_figures, read_figures}
use Rattle.cards.specs.Cards.{write_at, file_after_at, read_at, table_after_at, measure_at}
use Rattle.cards.proofs.Refused.{Kind, Fits, FirstBad, write_answered, read_answered, read_refused_14, block_told, no_block_told, unread_tells_0}
use Rattle.cards.proofs.Refused.{measure_answered, measured}

-- figures with 0 are those of an answered call
module _ (w h kind : ℕ) (table file : List ℕ) where
  written_whole : (write w h kind table file).refusal ≡ 0 → write w h kind table file ≡ answered []
  unfolding write
  written_whole e =
      answered_so (write_guards w h kind table (length file)) 0 [] ((answered_exactly (write_guards w h kind table (length file)) 0 []).0 e)

  refused_write : (r : Refusal) → (write w h kind table file).refusal ≡ refusal_number r → write w h kind table file ≡ refused r 0
  unfolding write
  refused_write r e = refused_whole (write_guards w h kind table (length file)) 0 [] refl r e

read_whole : (w h kind : ℕ) (file table : List ℕ) → (read w h kind file table).refusal ≡ 0 → read w h kind file table ≡ answered (0 ∷ [])
unfolding read
read_whole w h kind file table e =
    answered_so (read_guards w h kind file (length table)) 1 (0 ∷ []) ((answered_exactly (read_guards w h kind file (length table)) 1 (0 ∷ [])).0 e)

module _ (area : Area) (kind : ℕ) where
  abbrev w : ℕ
  w = area.w

  abbrev h : ℕ
  h = area.h

  -- the writer
  module _ (table file : List ℕ) where
    pub written_exactly : (write_figures (Ok tt) ≡ write_at area kind table file)
        ↔ (Fits area.w area.h (length table)
        × ((length file ≡ card_bytes area.w area.h) × (Kind kind × (table ≡ right_table area.w area.h kind))))
    written_exactly = (
      λ e. (write_answered w h kind table file).0 (sym (ap (λ (f : Figures). f.refusal) e)),
      λ p. sym (written_whole w h kind table file ((write_answered w h kind table file).1 p)),
    )

    pub unwritten_exactly : (r : Refusal)
        → (write_figures (Err r) ≡ write_at area kind table file) ↔ ((write area.w area.h kind table file).refusal ≡ refusal_number r)
    unwritten_exactly r = (λ e. sym (ap (λ (f : Figures). f.refusal) e), λ e. sym (refused_write w h kind table file r e))

    pub written_leaves : write_figures (Ok tt) ≡ write_at area kind table file → file_after_at area kind table file ≡ card area.w area.h kind
    written_leaves e = answered_left (write w h kind table file) (card w h kind) file (sym (ap (λ (f : Figures). f.refusal) e))

    pub unwritten_leaves : (r : Refusal) → write_figures (Err r) ≡ write_at area kind table file → file_after_at area kind table file ≡ file
    unwritten_leaves r e =
        refused_left (write w h kind table file) (card w h kind) file (λ z. refusal_some r (ap (λ (f : Figures). f.refusal) e ∙ z))

  -- the reader
  module _ (file table : List ℕ) where
    pub read_exactly : (read_figures (Ok tt) ≡ read_at area kind file table)
        ↔ (Fits area.w area.h (length table) × (Kind kind × (file ≡ card area.w area.h kind)))
    read_exactly = (
      λ e. (read_answered w h kind file table).0 (sym (ap (λ (f : Figures). f.refusal) e)),
      λ p. sym (read_whole w h kind file table ((read_answered w h kind file table).1 p)),
    )

    pub bad_exactly : (block : ℕ) → (read_figures (Err (Unreads.BadCheck block)) ≡ read_at area kind file table)
        ↔ (Fits area.w area.h (length table) × FirstBad file block)
    bad_exactly block = (
      λ e. let asked = (read_refused_14 w h kind file table).0 (sym (ap (λ (f : Figures). f.refusal) e)) in
          let told = block_told w h kind file table (sym (ap (λ (f : Figures). f.refusal) e)) asked.1.0 asked.1.1 in
          (asked.0, subst⁻¹ (FirstBad file) (ap (figure 0) (e ∙ told)) asked.1.1),
      λ p. sym (block_told w h kind file table ((read_refused_14 w h kind file table).1 (p.0, (block, p.1))) block p.1),
    )

    pub unread_exactly : (r : Refusal) → (r ≡ BadCheck → ⊥) → (read_figures (Err (Unreads.Refused r)) ≡ read_at area kind file table)
        ↔ ((read area.w area.h kind file table).refusal ≡ refusal_number r)
    unread_exactly r other = (λ e. sym (ap (λ (f : Figures). f.refusal) e), λ e. unread_tells_0 r other ∙ sym (no_block_told w h kind file table r other e))

    pub read_leaves : read_figures (Ok tt) ≡ read_at area kind file table → table_after_at area kind file table ≡ right_table area.w area.h kind
    read_leaves e = answered_left (read w h kind file table) (right_table w h kind) table (sym (ap (λ (f : Figures). f.refusal) e))

    pub unread_leaves : (u : Unread) → read_figures (Err u) ≡ read_at area kind file table → table_after_at area kind file table ≡ table
    unread_leaves (Unreads.BadCheck block) e =
        refused_left (read w h kind file table) (right_table w h kind) table (λ z. refusal_some BadCheck (ap (λ (f : Figures). f.refusal) e ∙ z))
    unread_leaves (Unreads.Refused r) e =
        refused_left (read w h kind file table) (right_table w h kind) table (λ z. refusal_some r (ap (λ (f : Figures). f.refusal) e ∙ z))

-- how long a card is
module _ (area : Area) where
  pub length_exactly : (bytes : ℕ) → (length_figures (Ok bytes) ≡ measure_at area)
      ↔ ((LengthsWithin area.w area.h × SquaresWithin area.w area.h) × (bytes ≡ 512 * (1 + (area.w * area.h + 125) / 126)))
  length_exactly bytes =
      let w = area.w in
      let h = area.h in (
        λ e. let asked = (measure_answered w h).0 (sym (ap (λ (f : Figures). f.refusal) e)) in (asked, ap (figure 0) (e ∙ measured w h asked.0 asked.1)),
        λ p. ap (λ (n : ℕ). answered (n ∷ [])) p.1 ∙ sym (measured w h p.0.0 p.0.1),
      )

  pub no_length_exactly : (r : Refusal)
      → (length_figures (Err r) ≡ measure_at area) ↔ ((measure area.w area.h).refusal ≡ refusal_number r)
  unfolding measure
  no_length_exactly r =
      let bytes = card_bytes area.w area.h ∷ [] in
      (λ e. sym (ap (λ (f : Figures). f.refusal) e), λ e. sym (refused_whole (area_guards area.w area.h) 1 bytes refl r e))
