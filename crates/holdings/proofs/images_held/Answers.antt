-- A piece of the places was compared: they have the images of the others exactly if the test of it said so.
use mathlib.Core.Bool.{not}
use mathlib.Core.Path.{ap, subst₂}
use Prim.Native.Nat.{ℕ}
use native.Mathlib.Omega.{arith}
use Rattle.terms.specs.Telling.{Tells}
use Rattle.terms.proofs.Telling.{refuses, said_no, said_yes}
use Rattle.copies.specs.Copies.{Agree}
use Rattle.sectors.specs.Sectors.{words_of}
use Rattle.holdings.proofs.Pieces.{repeated_more, repeated_piece}
use Rattle.holdings.proofs.images_held.Goals as goal

pub returns-then-not-words_agree : goal.returns-then-not-words_agree
returns-then-not-words_agree c =
    let given = c.args in
    let words = words_of given.file.now in
    let done = c.loop-done.done in
    let m = c.min-m.result in
    let few_from = c.min.ensures in
    let few_to = c.min-m.ensures in
    let tells = subst₂ (λ (f t : ℕ). Tells c.words_agree.result (Agree given.by.opposite given.by.c words f t m))
    c.word_for.ensures c.word_for-in-loop-done.ensures c.words_agree.ensures in
    refuses (λ all. said_no tells (ap not c.if-not-words_agree.true)
    (repeated_piece given.by.opposite given.by.c words given.from given.to done m (omega arith) (omega arith) (omega arith) all))

pub loop-done-preserved : goal.loop-done-preserved
loop-done-preserved c =
    let given = c.args in
    let words = words_of given.file.now in
    let done = c.loop-done.done in
    let m = c.min-m.result in
    let few_from = c.min.ensures in
    let few_to = c.min-m.ensures in
    let tells = subst₂ (λ (f t : ℕ). Tells c.words_agree.result (Agree given.by.opposite given.by.c words f t m))
    c.word_for.ensures c.word_for-in-loop-done.ensures c.words_agree.ensures in (
      omega arith,
      repeated_more given.by.opposite given.by.c words given.from given.to done m (omega arith) (omega arith) c.loop-done.invariant.1
          (said_yes tells (ap not c.if-not-words_agree.false)),
    )
