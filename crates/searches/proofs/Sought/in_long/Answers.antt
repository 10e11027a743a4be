-- `searches::Sought::in_long` meets its contract: the numbers before the part are what was taken off u, 0 or the even half, times the side.
use Rattle.searches.proofs.PartWithSquare.{long_two, long_leads}
use Rattle.searches.proofs.Sought.in_long.Goals as goal

pub in_long-part-requires : goal.in_long-part-requires
in_long-part-requires c = ((long_two c.requires).0, c.requires.0.along, c.requires.0.a_limit)

pub returns : goal.returns
returns c = long_leads c.requires c.in_long-part.ensures
