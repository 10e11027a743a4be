-- `leaves::Numbered::part_c` meets its contract: its number is 32 bits, as the block's last one is.
use Rattle.leaves.proofs.Counted.{u_sums}
use Rattle.leaves.proofs.Numbered.part_c.Goals as goal

pub overflow_mul-to_b : goal.overflow_mul-to_b
overflow_mul-to_b c = record { fits = (u_sums c.args.self c.requires c.even_half-e.ensures).in_a }

pub overflow_add-to_b : goal.overflow_add-to_b
overflow_add-to_b c = record { fits = (u_sums c.args.self c.requires c.even_half-e.ensures).to_b }

pub overflow_sub-result : goal.overflow_sub-result
overflow_sub-result c = (u_sums c.args.self c.requires c.even_half-e.ensures).half

pub overflow_add-result : goal.overflow_add-result
overflow_add-result c = record { fits = (u_sums c.args.self c.requires c.even_half-e.ensures).to_c }
