-- The places of one block more are copied by each turn.
use Rattle.std.proofs.Common.{◌≡◌, ℕ, ◌+◌, ◌-◌, ◌*◌, min, length, List, take, drop, get_or, ap, ◌∙◌, arith, length-take, length-drop}
use Rattle.sectors.specs.Sectors.{words_of}
use Rattle.sectors.proofs.Words.{words_length}
use Rattle.sectors.proofs.Entering.{put_is_sets}
use Rattle.layouts.proofs.Writing.{copied_more, copied_all}
use Rattle.layouts.proofs.read_table.Goals as goal

pub loop-b-preserved : goal.loop-b-preserved
loop-b-preserved c =
    let words = words_of c.args.file.now in
    let table = c.loop-b.table in
    let b = c.loop-b.b in
    let same = c.loop-b.auto.table in
    let end : c.min-end.result ≡ min (length table) (126 * b + 126) =
    c.min-end.ensures ∙ ap (λ (n : ℕ). min n (126 * b + 126)) (let z : length c.args.table.now ≡ length table = omega arith in z) in
    let size = words_length c.block_of.result.now in
    let left = length-drop (126 * b) table in
    let part : length (take (c.min-end.result - 126 * b) (drop (126 * b) table)) ≡ c.min-end.result - 126 * b =
    length-take (c.min-end.result - 126 * b) (drop (126 * b) table) ∙ omega arith in
    λ p l m. ap (λ (ws : List ℕ). get_or ws p 0) (put_is_sets table c.copy_words.new.words (126 * b) (c.min-end.result - 126 * b) (omega arith)
    (c.copy_words.auto.words ∙ part))
    ∙ copied_more words table b c.min-end.result end (omega arith) c.block_of.ensures.words (omega arith) (λ q n o. c.loop-b.invariant q n (omega arith))
    (c.copy_words.ensures ∙ ap (λ (n : ℕ). take n (words_of c.block_of.result.now)) part) p l (omega arith)

pub returns : goal.returns
returns c = copied_all (words_of c.args.file.now) c.loop-b.table (length c.args.table.now) c.loop-b.auto.table (λ p l. c.loop-b.invariant p (omega arith) l)
