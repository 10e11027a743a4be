-- `panes::Runs::join_leaf` meets its contract: the line up and the line down, one after the other, are what is seen of the pane.
use Rattle.std.proofs.Common.{◌∙◌}
use Rattle.panes.specs.Told.{told}
use Rattle.panes.proofs.Leaves.{up_few, leaf_seen}
use Rattle.panes.proofs.Runs.join_leaf.Goals as goal

pub join_if-requires-2 : goal.join_if-requires-2
join_if-requires-2 c = up_few (told c.args.self.now) c.requires.0 c.requires.1 c.join_if.ensures.told _

pub returns-clause-told : goal.returns-clause-told
returns-clause-told c =
    c.join_if-2.ensures.told ∙ leaf_seen c.args.p c.args.n c.requires.1 (told c.args.self.now) (told c.join_if.new.self) c.join_if.ensures.told
