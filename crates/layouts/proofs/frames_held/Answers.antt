-- A block that was looked at has its frame exactly if the test of it said so.
use Rattle.std.proofs.Common.{◌≡◌, ap, sym, subst, ℕ, ◌+◌, ◌∙◌, arith}
use mathlib.Core.Bool.{not}
use Rattle.terms.proofs.Telling.{refuses, said_no, said_yes}
use Rattle.sectors.specs.Sectors.{words_of}
use Rattle.sectors.specs.Steps.{Framed}
use Rattle.sectors.proofs.Blocks.{lesser, frame_tells}
use Rattle.layouts.specs.Steps.{in_use}
use Rattle.layouts.proofs.Judging.{frames_more}
use Rattle.layouts.proofs.frames_held.Goals as goal

pub returns-then-not-is_framed : goal.returns-then-not-is_framed
returns-then-not-is_framed c =
    let used : c.min-used.result ≡ in_use c.args.places c.loop-b.b = c.min-used.ensures ∙ lesser _ _ in
    refuses (λ all. said_no (frame_tells (words_of c.args.file.now) (1 + c.loop-b.b) c.block_of.ensures.words _ c.is_framed.ensures)
    (ap not c.if-not-is_framed.true) (subst (λ (n : ℕ). Framed (words_of c.args.file.now) (1 + c.loop-b.b) n) (sym used) (all c.loop-b.b (omega arith))))

pub loop-b-preserved : goal.loop-b-preserved
loop-b-preserved c =
    let used : c.min-used.result ≡ in_use c.args.places c.loop-b.b = c.min-used.ensures ∙ lesser _ _ in
    frames_more (words_of c.args.file.now) c.args.places c.loop-b.b c.loop-b.invariant
    (subst (λ (n : ℕ). Framed (words_of c.args.file.now) (1 + c.loop-b.b) n) used
    (said_yes (frame_tells (words_of c.args.file.now) (1 + c.loop-b.b) c.block_of.ensures.words _ c.is_framed.ensures) (ap not c.if-not-is_framed.false)))
