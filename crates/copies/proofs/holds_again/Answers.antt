-- `copies::holds_again` meets its contract: where the one block stands, the other does if and only if its places are the images of the one's.
use Rattle.std.proofs.Common.{◌+◌, ◌-◌, ◌*◌, arith}
use Rattle.copies.proofs.Alike.{images_held}
use Rattle.copies.proofs.holds_again.Goals as goal

pub returns : goal.returns
returns c =
    let by = c.between-image in
    let squares = c.args.k.placed.a * c.args.k.placed.b in
    let from = c.args.j.first in
    let to = c.args.k.first in
    let stands = images_held c.requires by.result.c by.ensures.starts by.ensures.way (to + squares - to) (from + squares - from) (omega arith) (omega arith) in
    (λ e. stands.0 (c.agree.ensures.0 e), λ held. c.agree.ensures.1 (stands.1 held))
