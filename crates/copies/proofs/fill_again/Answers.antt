-- `copies::fill_again` meets its contract: the images of the one block's places are the other's, by the law of blocks that lie alike.
use Rattle.std.proofs.Common.{◌+◌, ◌-◌, ◌*◌, arith}
use Rattle.copies.proofs.Alike.{images_filled}
use Rattle.copies.proofs.fill_again.Goals as goal

pub returns : goal.returns
returns c =
    let by = c.between-image in
    let from = c.args.j.first in
    images_filled c.requires by.result.c by.ensures.starts by.ensures.way c.split_at_mut-before.ensures.front c.split_at_mut-before.ensures.back
    (from + c.args.k.placed.a * c.args.k.placed.b - from) (omega arith) c.copy.ensures
