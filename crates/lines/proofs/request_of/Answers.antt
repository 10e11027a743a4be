-- `lines::request_of` meets its contract: the fields that are taken of a line of at most 64 bytes make of it what its shape says (`Shapes`).
use Rattle.std.proofs.Common.{ap, ◌∙◌}
use Rattle.lines.specs.Lines.{shaped}
use Rattle.lines.proofs.Asking.{told_so}
use Rattle.lines.proofs.Shapes.{short_line, long_line}
use Rattle.lines.proofs.request_of.Goals as goal

pub returns-then-line-gt-MOST_BYTES : goal.returns-then-line-gt-MOST_BYTES
returns-then-line-gt-MOST_BYTES c =
    let told = told_so c.args.line.now (long_line _ c.if-line-gt-MOST_BYTES.true) in
    record { figures = told.0; spelling = told.1 }

pub returns : goal.returns
returns c =
    let line = c.args.line.now in
    let told = told_so line (c.made_of.ensures ∙ ap shaped c.read_three.ensures.bytes ∙ short_line line c.if-line-gt-MOST_BYTES.false) in
    record { figures = told.0; spelling = told.1 }
