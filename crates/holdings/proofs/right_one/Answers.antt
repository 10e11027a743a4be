-- `holdings::right_one` meets its contract: the word that is read is what the file's table has for number n.
use mathlib.Core.Bool.{Bool, false, cond}
use mathlib.Core.Path.{sym, ap, ◌∙◌}
use Prim.Native.Nat.{ℕ, ◌*◌}
use borrow.Author.Tests.{eq-eqb, ne_eqb}
use lib.ListN.{get_or}
use Rattle.sectors.specs.Sectors.{words_of}
use Rattle.holdings.proofs.Standing.{table_at}
use Rattle.holdings.proofs.right_one.Goals as goal

pub returns-then-word_at-p : goal.returns-then-word_at-p
returns-then-word_at-p c =
    let given = c.args in
    let words = words_of given.file.now in
    let entry = table_at words (given.area.w * given.area.h) given.n c.requires.1
    ∙ sym (c.word_at.ensures ∙ ap (λ (k : ℕ). get_or words k 0) c.word_for.ensures) in
    sym (ap (λ (b : Bool). cond b given.so_far false) (eq-eqb _ given.p (entry ∙ c.if-word_at-p.true)))

pub returns : goal.returns
returns c =
    let given = c.args in
    let words = words_of given.file.now in
    let entry = table_at words (given.area.w * given.area.h) given.n c.requires.1
    ∙ sym (c.word_at.ensures ∙ ap (λ (k : ℕ). get_or words k 0) c.word_for.ensures) in
    sym (ap (λ (b : Bool). cond b given.so_far false) (ne_eqb _ given.p (λ e. c.if-word_at-p.false (sym entry ∙ e))))
