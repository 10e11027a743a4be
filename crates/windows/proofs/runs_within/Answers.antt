-- `windows::runs_within` meets its contract: the window is a pane of the whole block, of which the walks count and write the definition's runs.
use Rattle.std.proofs.Common.{◌∙◌, arith}
use Rattle.windows.proofs.Answers.{seen_many, written_is, short_told, found_told}
use Rattle.windows.proofs.runs_within.Goals as goal

pub returns-then-runs-count : goal.returns-then-runs-count
returns-then-runs-count c =
    let told = short_told c.args.area.w c.args.area.h c.args.window c.args.runs.now
    (c.count_runs-count.ensures ∙ seen_many c.args.area.w c.args.area.h c.args.window) c.if-runs-count.true in
    record { answer = told.0; runs = told.1 }

pub returns : goal.returns
returns c =
    let w = c.args.area.w in
    let h = c.args.area.h in
    let many = seen_many w h c.args.window in
    let counted = c.count_runs-count.ensures ∙ many in
    let room = c.if-runs-count.false in
    let told = found_told w h c.args.window c.args.runs.now (c.write_runs.ensures.count ∙ many) (omega arith)
    (c.write_runs.ensures.runs ∙ written_is w h c.args.window c.args.runs.now (omega arith)) in
    record { answer = told.0; runs = told.1 }
