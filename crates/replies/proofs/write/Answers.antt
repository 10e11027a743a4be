-- `replies::write` meets its contract: a text is at most as long as the longest, so where that has room all of it is copied.
use Rattle.std.proofs.Common.{length, length-drop, take, drop, sym, refl, ap, ◌∙◌, arith, ◌≡◌, ◌-◌, rules}
use borrow.Author.Tests.{leb-true}
use Rattle.std.proofs.lemmas.List.{take_rest}
use Rattle.replies.specs.Text.{longest}
use Rattle.replies.specs.Steps.{bytes_put}
use Rattle.replies.proofs.Writing.{writes_front}
use Rattle.replies.proofs.write.Goals as goal

pub returns-clause-written : goal.returns-clause-written
returns-clause-written c =
    let made = c.args.text.now in
    let room = sym c.has_room.ensures ∙ c.if-not-has_room.false in
    let enough = leb-true longest (length c.args.out.now) room in
    let size : length made.bytes ≡ 73 = search rules in
    let all : take (73 - made.start) (drop made.start made.bytes) ≡ bytes_put made =
    ap (λ n. take (n - made.start) (drop made.start made.bytes)) (sym size) ∙ take_rest made.bytes made.start in
    let same = c.copy_from_slice.ensures.after ∙ all in
    rw (room, same, all) (writes_front c.args.out.now (bytes_put made) (length (bytes_put made)) refl (omega (arith, length-drop made.start made.bytes)))
