-- `replies::write_stop` meets its contract: the text is the line's number, and after it the word.
use Rattle.std.proofs.Common.{ap, ◌≡◌}
use Rattle.replies.specs.Text.{stop, if_room}
use Rattle.replies.specs.Steps.{bytes_put}
use Rattle.replies.proofs.Writing.{writes_as}
use Rattle.replies.proofs.write_stop.Goals as goal

pub returns-clause-written : goal.returns-clause-written
unfolding stop
returns-clause-written c =
    let put : bytes_put c.put_number.new.text ≡ stop c.args.line =
    rw (c.put_number.ensures.written, c.put.ensures.written, c.new-text.ensures.none) in
    writes_as (ap (if_room c.args.out.now 0) put) c.write.ensures.written
