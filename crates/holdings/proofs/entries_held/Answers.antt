-- A piece of the entries was looked at: they stand there exactly if the test of it said so.
use Rattle.std.proofs.Common.{◌≡◌, ℕ, ◌+◌, ◌-◌, ◌*◌, ap, length, take, drop, arith}
use mathlib.Core.Bool.{not}
use mathlib.Core.Path.{subst₂}
use Rattle.terms.specs.Telling.{Tells}
use Rattle.terms.proofs.Telling.{refuses, said_no, said_yes}
use Rattle.sectors.specs.Sectors.{words_of}
use Rattle.sectors.specs.Steps.{slice, Has}
use Rattle.holdings.specs.Holdings.{word_for}
use Rattle.holdings.proofs.Pieces.{piece_fits, begins, entered_more, entered_piece}
use Rattle.holdings.proofs.entries_held.Goals as goal

pub returns-then-not-has_words : goal.returns-then-not-has_words
returns-then-not-has_words c =
    let file = c.args.file.now in
    let entries = c.args.entries.now in
    let done = c.loop-done.done in
    let m = c.min-m.result in
    let p = c.args.at + done in
    let few = c.min-m.ensures in
    let room = piece_fits file c.requires.0 p m (omega arith) (omega arith) (omega arith) in
    let is_m : done + m - done ≡ m = omega arith in
    let tells = begins file (word_for p) (slice entries done m) (omega arith)
    (subst₂ (λ (a n : ℕ). Tells c.has_words.result (Has (words_of (take (length file - 4 * a) (drop (4 * a) file))) 0 (take n (drop done entries))))
    c.word_for.ensures is_m c.has_words.ensures) in
    refuses (λ all. said_no tells (ap not c.if-not-has_words.true) (entered_piece (words_of file) c.args.at done m (omega arith) entries (omega arith) all))

pub loop-done-preserved : goal.loop-done-preserved
loop-done-preserved c =
    let file = c.args.file.now in
    let entries = c.args.entries.now in
    let done = c.loop-done.done in
    let m = c.min-m.result in
    let p = c.args.at + done in
    let few = c.min-m.ensures in
    let room = piece_fits file c.requires.0 p m (omega arith) (omega arith) (omega arith) in
    let is_m : done + m - done ≡ m = omega arith in
    let tells = begins file (word_for p) (slice entries done m) (omega arith)
    (subst₂ (λ (a n : ℕ). Tells c.has_words.result (Has (words_of (take (length file - 4 * a) (drop (4 * a) file))) 0 (take n (drop done entries))))
    c.word_for.ensures is_m c.has_words.ensures) in (
      omega arith,
      entered_more (words_of file) c.args.at done m (omega arith) entries (omega arith) c.loop-done.invariant.1
          (said_yes tells (ap not c.if-not-has_words.false)),
    )
