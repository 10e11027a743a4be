-- `layouts::is_card` meets its contract: a card has its length, head, frames and table, and with good checks these make it the card.
use mathlib.Core.Bool.{Bool, not}
use mathlib.Core.Path.{◌≡◌, subst⁻¹, ap, sym, ◌∙◌}
use borrow.Author.Tests.{eq-eqb, ne_eqb}
use Rattle.terms.specs.Telling.{Tells}
use Rattle.layouts.specs.Layouts.{card}
use Rattle.layouts.proofs.Judging.{never}
use Rattle.layouts.proofs.Accepting.{wrong_length, wrong_head, wrong_frames, by_table}
use Rattle.layouts.proofs.is_card.Goals as goal
use Rattle.layouts.proofs.is_card.Goals.{then-file-bytes_for, else-file-bytes_for, then-head_held, else-head_held}

pub returns-then-kind-eq2 : goal.returns-then-kind-eq2
returns-then-kind-eq2 c =
    let given = c.args in
    elim c.if-head_held.branch [
      | then-head_held w ↦
          elim c.if-file-bytes_for.branch [
            | then-file-bytes_for v ↦
                by_table given.area.w given.area.h c.requires.0 given.kind given.file.now c.requires.1 (v.if-file-bytes_for.true ∙ c.bytes_for.ensures)
                (λ j l. (c.type_inv.file j).fits) (v.head_held.ensures.0 (sym v.value-is ∙ w.if-head_held.true))
                (w.frames_held.ensures.0 (sym w.value-is ∙ c.if-frames_held.true)) (eq-eqb _ _ c.if-kind-eq2.true) c.table_held.ensures
            | else-file-bytes_for v ↦ never w.if-head_held.true (v.value-is ∙ ne_eqb _ _ v.if-file-bytes_for.false)
          ]
      | else-head_held w ↦ never c.if-frames_held.true (w.value-is ∙ w.if-head_held.false)
    ]

pub returns-else-kind-eq2 : goal.returns-else-kind-eq2
returns-else-kind-eq2 c =
    let given = c.args in
    elim c.if-head_held.branch [
      | then-head_held w ↦
          elim c.if-file-bytes_for.branch [
            | then-file-bytes_for v ↦
                by_table given.area.w given.area.h c.requires.0 given.kind given.file.now c.requires.1 (v.if-file-bytes_for.true ∙ c.bytes_for.ensures)
                (λ j l. (c.type_inv.file j).fits) (v.head_held.ensures.0 (sym v.value-is ∙ w.if-head_held.true))
                (w.frames_held.ensures.0 (sym w.value-is ∙ c.if-frames_held.true)) (ne_eqb _ _ c.if-kind-eq2.false) c.table_held-else-kind-eq2.ensures
            | else-file-bytes_for v ↦ never w.if-head_held.true (v.value-is ∙ ne_eqb _ _ v.if-file-bytes_for.false)
          ]
      | else-head_held w ↦ never c.if-frames_held.true (w.value-is ∙ w.if-head_held.false)
    ]

pub returns-else-frames_held : goal.returns-else-frames_held
returns-else-frames_held c =
    let given = c.args in
    subst⁻¹ (λ (r : Bool). Tells r (given.file.now ≡ card given.area.w given.area.h given.kind)) c.if-frames_held.false (
    elim c.if-head_held.branch [
      | then-head_held w ↦
          wrong_frames given.area.w given.area.h c.requires.0 given.kind given.file.now w.frames_held.ensures
          (ap not (sym w.value-is ∙ c.if-frames_held.false))
      | else-head_held w ↦
          elim c.if-file-bytes_for.branch [
            | then-file-bytes_for v ↦
                wrong_head given.area.w given.area.h c.requires.0 given.kind given.file.now v.head_held.ensures (ap not (sym v.value-is ∙ w.if-head_held.false))
            | else-file-bytes_for v ↦
                wrong_length given.area.w given.area.h c.requires.0 given.kind given.file.now
                (λ e. v.if-file-bytes_for.false (e ∙ sym c.bytes_for.ensures))
          ]
    ])
