-- `leaves::rung_at` meets its contract: each of the two squares, a step along the run from each other, lies in the block and so in the area.
use mathlib.Core.Path.{◌∙◌}
use native.Mathlib.Nat.{mul-le-mul}
use native.Mathlib.Omega.{arith}
use Rattle.leaves.proofs.Leaves.{near_below, far_below, near_is, far_is}
use Rattle.leaves.proofs.rung_at.Goals as goal

pub place_of-requires : goal.place_of-requires
place_of-requires c =
    let v = c.args.v in
    let below =
    near_below c.requires.0 c.requires.3 v c.requires.4
    (near_is c.args.k c.args.area.w v c.stepped-beyond.ensures c.stepped-up.ensures) in
    let fits = mul-le-mul c.requires.1 c.requires.2 in
    omega arith

pub place_of-requires-2 : goal.place_of-requires-2
place_of-requires-2 c =
    let v = c.args.v in
    let below =
    far_below c.requires.0 c.requires.3 v c.requires.4
    (far_is c.args.k c.args.area.w v c.stepped-beyond.ensures c.stepped-up.ensures) in
    let fits = mul-le-mul c.requires.1 c.requires.2 in
    omega arith

pub returns-clause-near : goal.returns-clause-near
returns-clause-near c =
    let k = c.args.k in
    let area = c.args.area in
    let v = c.args.v in
    c.place_of.ensures ∙ near_is k area.w v c.stepped-beyond.ensures c.stepped-up.ensures

pub returns-clause-far : goal.returns-clause-far
returns-clause-far c =
    let k = c.args.k in
    let area = c.args.area in
    let v = c.args.v in
    c.place_of-2.ensures ∙ far_is k area.w v c.stepped-beyond.ensures c.stepped-up.ensures
