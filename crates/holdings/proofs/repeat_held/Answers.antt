-- `holdings::repeat_held` meets its contract: a block that repeats another stands exactly if its words are the images of the other's.
use Rattle.std.proofs.Common.{Bool, ◌*◌, subst}
use Rattle.terms.specs.Telling.{Tells}
use Rattle.sectors.specs.Sectors.{words_of}
use Rattle.holdings.specs.Holdings.{Repeated}
use Rattle.holdings.proofs.Standing.{repeated_right}
use Rattle.holdings.proofs.repeat_held.Goals as goal

pub returns : goal.returns
returns c =
    let given = c.args in
    let by = c.between-by in
    let words = words_of given.file.now in
    repeated_right words c.requires.1 by.result.c by.ensures.starts
    (subst (λ (o : Bool). Tells c.images_held.result (Repeated o by.result.c words given.j.first given.k.first (given.k.placed.a * given.k.placed.b)))
    by.ensures.way
    c.images_held.ensures)
