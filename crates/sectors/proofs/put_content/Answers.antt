-- `sectors::put_content` meets its contract: zeros stand behind the words.
use Rattle.std.proofs.Common.{ℕ, ◌-◌, ◌*◌, ap, take, drop, replicate, length, length-drop, ◌∙◌, arith, refl}
use Rattle.sectors.proofs.Sealing.{content_there}
use lib.Seq.{take_at, length-take-le}
use Rattle.sectors.proofs.put_content.Goals as goal

pub returns : goal.returns
returns c =
    content_there c.put_words.new.bytes c.fill.new.self c.args.words.now (length c.args.words.now) (omega arith) (omega arith)
    (ap (take (length c.args.words.now)) c.put_words.ensures ∙ take_at _ _ _ refl)
    (c.fill.ensures.after (λ y k. k)
    ∙ ap (λ (k : ℕ). replicate {A = ℕ} k 0) (length-take-le (504 - 4 * length c.args.words.now) (drop (4 * length c.args.words.now) c.put_words.new.bytes)
    (let long = length-drop (4 * length c.args.words.now) c.put_words.new.bytes in omega arith)))
