-- `layouts::block_of` meets its contract: the words of the bytes of a block are those of the file in its place.
use Rattle.std.proofs.Common.{◌≡◌, ℕ, ◌+◌, ◌-◌, ◌*◌, take, drop, ap₂, arith, ◌∙◌}
use Rattle.sectors.specs.Sectors.{words_of}
use Rattle.sectors.proofs.Words.{words_slice}
use Rattle.layouts.proofs.block_of.Goals as goal

pub returns-clause-words : goal.returns-clause-words
returns-clause-words c =
    let file = c.args.file.now in
    let b = c.args.b in
    ap₂ (λ (at n : ℕ). words_of (take n (drop at file))) (let z : 512 * b ≡ 4 * (128 * b) = omega arith in z)
    (let z : 512 * b + 512 - 512 * b ≡ 4 * 128 = omega arith in z)
    ∙ words_slice file (128 * b) 128 (omega arith)
