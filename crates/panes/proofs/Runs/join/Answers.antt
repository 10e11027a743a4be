-- `panes::Runs::join` meets its contract: the last run ends before `to`, and where the numbers do not follow it, a new one was begun.
use Rattle.std.proofs.Common.{ap, sym, ◌∙◌, ◌+◌, Some, true, false}
use Rattle.panes.specs.Panes.{Tally, tally, ended}
use Rattle.panes.specs.Told.{told}
use Rattle.panes.proofs.Stretches.{joined_told}
use Rattle.panes.proofs.Runs.join.Goals.{then-ne, else-ne}
use Rattle.panes.proofs.Runs.join.Goals as goal

pub returns-clause-told : goal.returns-clause-told
returns-clause-told c =
    ap (λ (t : Tally). tally t.count (Some c.args.to) t.pairs) c.put-2.ensures.told
    ∙ elim c.if-ne.branch [
      | then-ne w ↦
          ap (λ t. ended (told t) c.args.to) w.self-is
          ∙ ap (λ (t : Tally). ended (tally (t.count + 1) t.behind t.pairs) c.args.to) w.put.ensures.told
          ∙ joined_told (told c.args.self.now) c.args.from c.args.to true (sym w.if-ne.true ∙ c.ne.ensures)
      | else-ne w ↦
          ap (λ t. ended (told t) c.args.to) w.self-is
          ∙ joined_told (told c.args.self.now) c.args.from c.args.to false (sym w.if-ne.false ∙ c.ne.ensures)
    ]
