-- `leaves::Numbered::long_part` meets its contract: the second part's number is 32 bits, as the block's last one is.
use Rattle.leaves.proofs.Counted.{long_sums, either_sum}
use Rattle.leaves.proofs.Numbered.long_part.Goals as goal

pub overflow_mul-skip : goal.overflow_mul-skip
overflow_mul-skip c = record { fits = (long_sums c.args.self c.requires c.even_half.ensures).0 }

pub overflow_add-result : goal.overflow_add-result
overflow_add-result c =
    record { fits = either_sum _ _ c.args.second c.either.ensures (long_sums c.args.self c.requires c.even_half.ensures).1 }
