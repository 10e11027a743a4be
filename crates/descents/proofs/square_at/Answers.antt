-- `descents::square_at` meets its contract: an area is a block to descend from, above which there is none.
use Prim.Native.Nat.{◌+◌}
use native.Mathlib.Omega.{arith}
use mathlib.Core.Path.{◌≡◌, ap₂, ◌∙◌}
use Rattle.division.specs.Division.{whole, square_of, blocks_holding}
use Rattle.descents.specs.Descents.{held}
use Rattle.descents.proofs.PartWithNumber.{descends_whole}
use Rattle.descents.proofs.square_at.Goals as goal

pub descend-blocks-requires : goal.descend-blocks-requires
descend-blocks-requires c = descends_whole c.args.w c.args.h c.args.number c.requires

pub returns : goal.returns
unfolding whole
returns c =
    let all = whole c.args.w c.args.h in
    let s = square_of all c.args.number in
    let none : 0 + blocks_holding all s ≡ blocks_holding all s = omega arith in
    let found = c.descend-blocks.ensures in
    c.held_at.ensures ∙ ap₂ held found.square (found.count ∙ none)
