-- `layouts::write_head` meets its contract: the first 512 bytes become those of block 0.
use Rattle.std.proofs.Common.{◌∙◌, ap, arith}
use lib.Seq.{sets, length-take-le}
use Rattle.sectors.specs.Sectors.{words_of}
use Rattle.sectors.proofs.Words.{words_put}
use Rattle.layouts.proofs.write_head.Goals as goal

pub returns : goal.returns
returns c =
    let size = c.write_block.auto.block ∙ length-take-le 512 c.args.file.now c.requires in
    words_put c.args.file.now c.write_block.new.block 0 128 (omega arith) size ∙ ap (sets (words_of c.args.file.now) 0) c.write_block.ensures
