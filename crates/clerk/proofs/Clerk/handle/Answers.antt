-- `clerk::Clerk::handle` meets its contract: reply and clerk are composed from the clerk as it counts and the request.
use mathlib.Core.Path.{refl, ap₂, ◌∙◌}
use Rattle.lines.specs.Lines.{begins_setting, request}
use Rattle.lines.proofs.Promises.{request_one}
use Rattle.clerk.specs.Clerk.{reply_to, clerk_after, after, reply}
use Rattle.clerk.proofs.Clerk.handle.Goals as goal

pub returns-clause-clerk : goal.returns-clause-clerk
unfolding after
returns-clause-clerk c =
    let asked = request_one c.request_of-asked.result (request c.args.line.now) c.request_of-asked.ensures.figures refl in
    c.after.ensures ∙ ap₂ (λ held q. clerk_after held (begins_setting c.args.line.now) q) c.counted-before.ensures asked

pub returns-clause-reply : goal.returns-clause-reply
unfolding reply
returns-clause-reply c =
    let asked = request_one c.request_of-asked.result (request c.args.line.now) c.request_of-asked.ensures.figures refl in
    c.reply_to.ensures ∙ ap₂ reply_to c.counted-before.ensures asked
