-- `sectors::put_word` meets its contract: the four bytes entered are the digits of v to the base 256, so that word i is v and no other word moves.
use Rattle.std.proofs.Common.{ℕ, List, get_or, set, ap, ◌∙◌, ◌%◌, ◌/◌, ◌*◌, ◌+◌}
use Rattle.sectors.specs.Sectors.{words_of}
use Rattle.sectors.proofs.Words.{words_set, le_bytes, digits}
use Rattle.sectors.proofs.put_word.Goals as goal

pub returns : goal.returns
returns c =
    let bytes = c.args.bytes.now in
    let i = c.args.i in
    let v = c.args.v in
    let four = c.to_le_bytes.ensures ∙ le_bytes v c.ranges.v.fits in
    ap (λ (bs : List ℕ). words_of (set (set (set (set bytes (4 * i) (get_or bs 0 0)) (4 * i + 1) (get_or bs 1 0)) (4 * i + 2) (get_or bs 2 0))
    (4 * i + 3) (get_or bs 3 0))) four
    ∙ words_set bytes i (v % 256) (v / 256 % 256) (v / 256 / 256 % 256) (v / 256 / 256 / 256) c.requires ∙ ap (set (words_of bytes) i) (digits v)
