-- `replies::write_reply` meets its contract: the text is the line's number, the reply, a newline.
use Rattle.std.proofs.Common.{ap, ◌≡◌}
use Rattle.clerk.specs.Clerk.{said}
use Rattle.replies.specs.Text.{text, if_room}
use Rattle.replies.specs.Steps.{bytes_put}
use Rattle.replies.proofs.Writing.{writes_as}
use Rattle.replies.proofs.write_reply.Goals as goal

pub returns-clause-written : goal.returns-clause-written
unfolding text
returns-clause-written c =
    let put : bytes_put c.put_number.new.text ≡ text c.args.line (said c.args.reply) =
    rw (c.put_number.ensures.written, c.put_body.ensures.written, c.put.ensures.written, c.new-text.ensures.none) in
    writes_as (ap (if_room c.args.out.now 0) put) c.write.ensures.written
