-- `sectors::first_bad` meets its contract: the place among a file's blocks at which the test passes first is that of its first bad block.
use Rattle.std.proofs.Common.{◌/◌, length, rules, ap₂, ◌∙◌, cond, nat_lt, ℕ, Some, None, arith}
use borrow.Author.Tests.{tests}
use Rattle.std.proofs.lemmas.Iterator.Search.{position_from_yields_List}
use Rattle.sectors.proofs.Blocks.{blocks_in_turn, bad, first_bad_found, parts_length}
use Rattle.sectors.proofs.first_bad.Goals as goal

pub returns : goal.returns
returns c =
    let file = c.args.file.now in
    position_from_yields_List bad _ _ c.position.result c.position.ensures.ran (blocks_in_turn file c.chunks_exact.ensures.rest c.chunks_exact.ensures.size)
    (λ x b q k. search (rules, tests))
    ∙ ap₂ (λ (k n : ℕ). cond (nat_lt k n) (Some k) None) (first_bad_found (length file / 512) file (omega arith)) (parts_length 512 (length file / 512) file)
