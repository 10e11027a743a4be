-- The part of each turn is that of the same number, and the block beside it the one that is to have it.
use Rattle.std.proofs.Common.{◌+◌, ◌-◌, ◌*◌, ◌/◌, ◌∷◌, [], ap, rules, arith, length, take, drop, length-append, length-take, length-drop}
use mathlib.Core.Bool.{not}
use Rattle.std.proofs.lemmas.Iterator.{YieldsList-from_zip}
use Rattle.std.proofs.lemmas.Iterator.Consumers.{YieldsList-at, YieldsList-turn}
use Rattle.terms.proofs.Telling.{refuses, said_no, said_yes}
use Rattle.sectors.specs.Sectors.{words_of}
use Rattle.sectors.proofs.Blocks.{pieces_in_turn, blocks_in_turn, pair_at}
use Rattle.layouts.proofs.Judging.{block_words, told_block, blocks_more}
use Rattle.layouts.proofs.entries_held.Goals as goal

pub returns-then-not-has_words : goal.returns-then-not-has_words
returns-then-not-has_words c =
    let file = c.args.file.now in
    let entries = c.args.entries.now in
    let o = 1 + c.args.first / 126 in
    let rest = take (length file - 512 * o) (drop (512 * o) file) in
    let k = length c.loop-words.yielded in
    let here = YieldsList-turn (YieldsList-at c.into_iter-words-iterator.ensures.into_iter_gives (YieldsList-from_zip
    (YieldsList-at c.zip-words-items.ensures.first (pieces_in_turn entries c.chunks.ensures.rest c.chunks.ensures.size))
    (YieldsList-at c.zip-words-items.ensures.second (blocks_in_turn rest c.chunks_exact.ensures.rest c.chunks_exact.ensures.size))))
    c.loop-words.yielded c.loop-words.words-iterator c.loop-words.yielded_by c.next.result c.next.new.self (c.in-Some.words, c.in-Some.block) c.in-Some.is
    c.next.ensures.steps in
    let at = pair_at entries rest k here.0 here.1 in
    let size = length-take (length file - 512 * o) (drop (512 * o) file) in
    let left = length-drop (512 * o) file in
    refuses (λ told. said_no c.has_words.ensures (ap not c.if-not-has_words.true)
    (told_block (words_of file) c.args.first entries k c.requires.0 (block_words file o k (omega (arith, at.1)) at.3) at.2 told))

pub loop-words-preserved : goal.loop-words-preserved
loop-words-preserved c =
    let file = c.args.file.now in
    let entries = c.args.entries.now in
    let o = 1 + c.args.first / 126 in
    let rest = take (length file - 512 * o) (drop (512 * o) file) in
    let k = length c.loop-words.yielded in
    let here = YieldsList-turn (YieldsList-at c.into_iter-words-iterator.ensures.into_iter_gives (YieldsList-from_zip
    (YieldsList-at c.zip-words-items.ensures.first (pieces_in_turn entries c.chunks.ensures.rest c.chunks.ensures.size))
    (YieldsList-at c.zip-words-items.ensures.second (blocks_in_turn rest c.chunks_exact.ensures.rest c.chunks_exact.ensures.size))))
    c.loop-words.yielded c.loop-words.words-iterator c.loop-words.yielded_by c.next.result c.next.new.self (c.in-Some.words, c.in-Some.block) c.in-Some.is
    c.next.ensures.steps in
    let at = pair_at entries rest k here.0 here.1 in
    let size = length-take (length file - 512 * o) (drop (512 * o) file) in
    let left = length-drop (512 * o) file in
    let more = length-append c.loop-words.yielded ((c.in-Some.words, c.in-Some.block) ∷ []) in (
      search rules,
      search rules,
      λ i l m. blocks_more (words_of file) c.args.first entries k c.requires.0 (block_words file o k (omega (arith, at.1)) at.3) at.2
          c.loop-words.invariant.2 (said_yes c.has_words.ensures (ap not c.if-not-has_words.false)) i (omega arith) m,
    )
