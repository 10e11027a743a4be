-- `cards::card_length` meets its contract: an area that is let in has a length, and any other its refusal.
use mathlib.Core.List.{[], ◌∷◌}
use mathlib.Core.Path.{refl, sym, ap, ◌∙◌}
use Prim.Native.Nat.{ℕ}
use Rattle.terms.specs.Terms.{answered}
use Rattle.terms.specs.Guards.{area_guards}
use Rattle.terms.proofs.Guards.{handed_on, passed, refused_first, answered_so}
use Rattle.layouts.specs.Layouts.{card_bytes}
use Rattle.cards.specs.Cards.{measure, length_figures}
use Rattle.cards.proofs.card_length.Goals as goal

pub returns-in_err-admit_area : goal.returns-in_err-admit_area
unfolding measure
returns-in_err-admit_area c =
    let area = c.args.area in
    ap length_figures (handed_on c.from_residual.ensures)
    ∙ refused_first 2 (area_guards area.w area.h) 1 (card_bytes area.w area.h ∷ []) refl c.in_err-admit_area.field-0.0
    (sym c.admit_area.ensures ∙ c.in_err-admit_area.was)

pub returns : goal.returns
unfolding measure
returns c =
    let area = c.args.area in
    ap (λ (n : ℕ). answered (n ∷ [])) c.bytes_for.ensures
    ∙ sym (answered_so (area_guards area.w area.h) 1 (card_bytes area.w area.h ∷ [])
    (passed (area_guards area.w area.h) (sym c.admit_area.ensures ∙ c.in_ok-admit_area.was)))
