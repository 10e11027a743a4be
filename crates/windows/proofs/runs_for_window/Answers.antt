-- `windows::runs_for_window` meets its contract: a refused window leaves the slice as it is, and one that is granted has its old window in the area.
use mathlib.Core.Path.{subst⁻¹}
use Rattle.std.proofs.Common.{ap, ◌≡◌, ◌∙◌, Result, Ok, Err, IsErr, IsErrAnd}
use Rattle.windows.specs.declared.Corners.{Corners}
use Rattle.windows.specs.Windows.{runs_figures}
use Rattle.windows.specs.Within.{Lies, within_figures, within_slice}
use Rattle.windows.proofs.Answers.{granted_lies, refused_told_at, granted_told_at}
use Rattle.windows.proofs.runs_for_window.Goals as goal

-- what `?` hands on of a refusal
handed_on : {T E : Type 0} {r : Result T E} {s : E} → IsErr r × IsErrAnd r (λ t. t ≡ s) → r ≡ Err s
handed_on {r = Ok v} p = absurd p.1
handed_on {r = Err t} p = ap Err p.1

pub returns-in_err-corners : goal.returns-in_err-corners
returns-in_err-corners c =
    let r = c.in_err-corners.field-0.0 in
    let told = refused_told_at c.args.area c.args.window c.args.runs.now r c.in_err-corners.ensures.refused in
    record { answer = ap runs_figures (handed_on c.from_residual.ensures) ∙ told.0; runs = told.1 }

pub runs_within-requires : goal.runs_within-requires
runs_within-requires c =
    let inside = c.in_ok-corners.ensures.inside in
    subst⁻¹ (Lies c.args.area.w c.args.area.h) inside.1 (granted_lies c.args.area c.args.window c.args.runs.now inside.0)

pub returns : goal.returns
returns c =
    let area = c.args.area in
    let slice = c.args.runs.now in
    let inside = c.in_ok-corners.ensures.inside in
    let told = granted_told_at area c.args.window slice inside.0 (
      c.runs_within.ensures.answer ∙ ap (λ (k : Corners). within_figures area.w area.h k slice) inside.1,
      c.runs_within.ensures.runs ∙ ap (λ (k : Corners). within_slice area.w area.h k slice) inside.1,
    ) in
    record { answer = told.0; runs = told.1 }
