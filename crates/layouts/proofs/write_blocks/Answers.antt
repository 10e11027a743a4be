-- One block more is written by each turn, from the table's part of the same number.
use Rattle.std.proofs.Common.{◌≡◌, ℕ, ◌+◌, ◌-◌, ◌*◌, ◌∷◌, [], refl, ap, ap₂, ◌∙◌, rules, arith, length, drop, ◌++◌, length-append, length-take, length-drop}
use Rattle.std.proofs.lemmas.Iterator.Consumers.{YieldsList-at, YieldsList-from_enumerate, YieldsList-turn}
use borrow.Rule.Slice.PartMut.{put_mid}
use lib.Seq.{sets}
use Rattle.sectors.specs.Sectors.{words_of, sealed, packed}
use Rattle.sectors.proofs.Words.{words_put}
use Rattle.sectors.proofs.Blocks.{pieces_in_turn, number_at}
use Rattle.layouts.proofs.Writing.{block_more}
use Rattle.layouts.proofs.write_blocks.Goals as goal

pub loop-b-init : goal.loop-b-init
unfolding packed
loop-b-init c = (search rules, search rules, refl)

pub loop-b-preserved : goal.loop-b-preserved
loop-b-preserved c =
    let table = c.args.table.now in
    let words = words_of c.args.file.now in
    let file = c.loop-b.file in
    let k = length c.loop-b.yielded in
    let here = YieldsList-turn (YieldsList-at c.into_iter-b-iterator.ensures.into_iter_gives (YieldsList-from_enumerate
    (YieldsList-at c.enumerate-b-items.ensures.source (pieces_in_turn table c.chunks.ensures.rest c.chunks.ensures.size)) c.enumerate-b-items.ensures.count))
    c.loop-b.yielded c.loop-b.b-iterator c.loop-b.yielded_by c.next.result c.next.new.self (c.in-Some.b, c.in-Some.words) c.in-Some.is c.next.ensures.steps in
    let at = number_at table k here.0 here.1 in
    let more = length-append c.loop-b.yielded ((c.in-Some.b, c.in-Some.words) ∷ []) in
    let left = length-drop (512 * (1 + c.in-Some.b)) file in
    let part = length-take (512 * (1 + c.in-Some.b) + 512 - 512 * (1 + c.in-Some.b)) (drop (512 * (1 + c.in-Some.b)) file) in
    let same = c.loop-b.auto.file in (
      search rules,
      search rules,
      ap₂ (λ (a n : ℕ). words_of (put_mid a n file c.write_block.new.block))
          (let z : 512 * (1 + c.in-Some.b) ≡ 4 * (128 * (1 + k)) = omega (arith, at.1) in z)
          (let z : 512 * (1 + c.in-Some.b) + 512 - 512 * (1 + c.in-Some.b) ≡ 4 * 128 = omega arith in z)
          ∙ block_more words table k c.loop-b.invariant.2 (words_put file c.write_block.new.block (128 * (1 + k)) 128 (omega (arith, at.0))
          (omega (arith, c.write_block.auto.block, part, left))
          ∙ ap (sets (words_of file) (128 * (1 + k))) (c.write_block.ensures ∙ ap sealed at.2))
          ∙ ap (λ (n : ℕ). sets words 128 (packed n table))
          (let z : k + 1 ≡ length (c.loop-b.yielded ++ ((c.in-Some.b, c.in-Some.words) ∷ [])) = omega arith in z),
    )
