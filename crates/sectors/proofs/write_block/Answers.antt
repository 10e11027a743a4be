-- `sectors::write_block` meets its contract: content, zeros, and count with check come to the block of these words.
use Rattle.std.proofs.Common.{◌∙◌, take}
use Rattle.sectors.specs.Sectors.{words_of}
use Rattle.sectors.proofs.Sealing.{block_written}
use Rattle.sectors.proofs.write_block.Goals as goal

pub returns : goal.returns
returns c = c.seal.ensures ∙ block_written c.args.words.now (take 126 (words_of c.put_content.new.block)) c.put_content.ensures
