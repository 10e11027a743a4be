-- `leaves::Numbered::part_b` meets its contract: its number is 32 bits, as the block's last one is.
use Rattle.leaves.proofs.Counted.{u_sums}
use Rattle.leaves.proofs.Numbered.part_b.Goals as goal

pub overflow_mul-result : goal.overflow_mul-result
overflow_mul-result c = record { fits = (u_sums c.args.self c.requires c.even_half-e.ensures).in_a }

pub overflow_add-result : goal.overflow_add-result
overflow_add-result c = record { fits = (u_sums c.args.self c.requires c.even_half-e.ensures).to_b }
