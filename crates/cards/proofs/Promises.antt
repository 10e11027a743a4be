-- What follows from the promises of writing and reading: the round trip in either sense, what is left at a refusal, one changed byte, origins that make no
-- difference, one answer, the fields of answers, and wrong programs that are turned away.
use mathlib.Core.Bool.{Bool, true, false, cond}
use mathlib.Core.List.{List, [], ◌∷◌}
use mathlib.Core.Logic.{inl, inr}
use mathlib.Core.Path.{◌≡◌, refl, sym, ap, ap₂, ◌∙◌}
use Prim.Native.Nat.{ℕ, ◌+◌, ◌*◌, ◌/◌, ◌%◌, ◌<◌}
use native.Mathlib.Omega.{arith}
use borrow.Author.Tests.{eqb-true}
use lib.Dec.{eqb}
use lib.ListN.{length, get_or, set, replicate, length-set, length-replicate}
use Rattle.terms.specs.declared.Area.{Area}
use Rattle.terms.specs.declared.Refusal.{Refusal}
use Rattle.terms.specs.declared.Refusal.TheVariants.{BadCheck}
use Rattle.terms.specs.Terms.{accepted, past_32_bits, refusal_number, Figures, answered, refused_with}
use Rattle.terms.proofs.Limits.{limits, both_accepted}
use Rattle.terms.proofs.Refusals.{named, named_back, refusal_not_0, refusal_one, figure}
use Rattle.terms.proofs.OneAnswer.{one_equation, by_figures}
use Rattle.terms.proofs.Meanings.{lengths_exactly, squares_exactly}
use Rattle.sectors.specs.Sectors.{first_bad_in}
use Rattle.sectors.proofs.Words.{word_is}
use Rattle.sectors.proofs.Changed.{one_byte}
use Rattle.tables.specs.Tables.{by_number, by_square}
use Rattle.tables.proofs.Admitted.{answered_left, refused_left}
use Rattle.tables.proofs.PlaceByPlace.{due_length}
use Rattle.layouts.specs.Layouts.{table_blocks, right_table, card, card_bytes}
use Rattle.layouts.proofs.Accepting.{card_good, card_length}
use Rattle.layouts.proofs.CardBytes.{due_below, card_of_bytes}
use Rattle.std.specs.Prelude.{Result, Ok, Err, ⊤}
use Rattle.cards.specs.declared.Unread.{Unread}
use Rattle.cards.specs.declared.Unread.TheVariants as Unreads
use Rattle.cards.specs.Cards.{write, read, measure, file_after, table_after, length_figures, write_figures, read_figures}
use Rattle.cards.specs.Cards.{write_at, file_after_at, read_at, table_after_at, measure_at}
use Rattle.cards.proofs.Refused.{Kind, Fits, FirstBad, first_bad_is, write_answered, read_answered, read_refused_14, block_told}
use Rattle.cards.proofs.Refused.{measure_answered, measured}
use Rattle.cards.proofs.Departures.{word, card_says}

-- "A refusal writes nothing."
pub refused_writes_nothing : (w h kind : ℕ) (table file : List ℕ) → ((write w h kind table file).refusal ≡ 0 → ⊥) → file_after w h kind table file ≡ file
refused_writes_nothing w h kind table file other = refused_left (write w h kind table file) (card w h kind) file other

pub refused_reads_nothing : (w h kind : ℕ) (file table : List ℕ) → ((read w h kind file table).refusal ≡ 0 → ⊥) → table_after w h kind file table ≡ table
refused_reads_nothing w h kind file table other = refused_left (read w h kind file table) (right_table w h kind) table other

fits_accepted : {w h places : ℕ} → Fits w h places → accepted w h ≡ true
fits_accepted {w} {h} fits = both_accepted w h ((lengths_exactly w h).1 fits.0) ((squares_exactly w h).1 fits.1.0)

-- the length of an accepted area's card, and of its right table
module _ (w h : ℕ) (ok : accepted w h ≡ true) (kind : ℕ) where
  pub right_places : length (right_table w h kind) ≡ w * h
  right_places = let limit = limits w h ok in due_length w h limit.w_least limit.h_least (eqb kind 2)

  pub card_has : length (card w h kind) ≡ card_bytes w h
  card_has = card_length w h kind (right_table w h kind) ∙ ap (λ (k : ℕ). 512 * (1 + table_blocks k)) right_places

-- "with the round trip in either sense": a table that is written is read back, and a file that is read is written back.
pub written_then_read : (w h kind : ℕ) (table file other : List ℕ) → (write w h kind table file).refusal ≡ 0 → length other ≡ w * h
    → ((read w h kind (file_after w h kind table file) other).refusal ≡ 0) × (table_after w h kind (file_after w h kind table file) other ≡ table)
written_then_read w h kind table file other e size =
    let asked = (write_answered w h kind table file).0 e in
    let fits = asked.0 in
    let is : file_after w h kind table file ≡ card w h kind = answered_left (write w h kind table file) (card w h kind) file e in
    let done : (read w h kind (file_after w h kind table file) other).refusal ≡ 0 =
    (read_answered w h kind (file_after w h kind table file) other).1 ((fits.0, (fits.1.0, size)), (asked.1.1.0, is)) in
    (done, answered_left (read w h kind (file_after w h kind table file) other) (right_table w h kind) other done ∙ sym asked.1.1.1)

pub read_then_written : (w h kind : ℕ) (file table other : List ℕ) → (read w h kind file table).refusal ≡ 0 → length other ≡ length file
    → ((write w h kind (table_after w h kind file table) other).refusal ≡ 0) × (file_after w h kind (table_after w h kind file table) other ≡ file)
read_then_written w h kind file table other e size =
    let asked = (read_answered w h kind file table).0 e in
    let fits = asked.0 in
    let ok = fits_accepted fits in
    let is : table_after w h kind file table ≡ right_table w h kind = answered_left (read w h kind file table) (right_table w h kind) table e in
    let done : (write w h kind (table_after w h kind file table) other).refusal ≡ 0 =
    (write_answered w h kind (table_after w h kind file table) other).1
    ((fits.0, (fits.1.0, ap length is ∙ right_places w h ok kind)), (size ∙ ap length asked.1.1 ∙ card_has w h ok kind, (asked.1.0, is))) in
    (done, answered_left (write w h kind (table_after w h kind file table) other) (card w h kind) other done ∙ sym asked.1.1)

-- The table that is read is the one that the file has, word by word.
pub read_is_the_files : (w h kind : ℕ) (file table : List ℕ) → (read w h kind file table).refusal ≡ 0
    → (p : ℕ) → p < w * h → get_or (table_after w h kind file table) p 0 ≡ word file (128 * (1 + p / 126) + p % 126)
read_is_the_files w h kind file table e p l =
    let asked = (read_answered w h kind file table).0 e in
    let ok = fits_accepted asked.0 in
    ap (λ (t : List ℕ). get_or t p 0) (answered_left (read w h kind file table) (right_table w h kind) table e)
    ∙ sym ((card_says w h ok kind).table p l)
    ∙ ap (λ (f : List ℕ). word f (128 * (1 + p / 126) + p % 126)) (sym asked.1.1)

kind_few : {kind : ℕ} → Kind kind → kind < past_32_bits
kind_few (inl e) = omega arith
kind_few (inr e) = omega arith

-- Any single changed byte of a card is refused, with 14 and its own block.
pub one_changed_byte : (w h kind : ℕ) (table : List ℕ) → Fits w h (length table) → Kind kind
    → (p v : ℕ) → p < length (card w h kind) → v < 256 → (get_or (card w h kind) p 0 ≡ v → ⊥)
    → read w h kind (set (card w h kind) p v) table ≡ refused_with BadCheck (p / 512 ∷ [])
one_changed_byte w h kind table fits known p v l byte other =
    let ok = fits_accepted fits in
    let size = card_has w h ok kind in
    let file = set (card w h kind) p v in
    let same = length-set (card w h kind) p v in
    let bytes = card_of_bytes w h (limits w h ok) kind (kind_few known) in
    let bad : first_bad_in file ≡ p / 512 =
    one_byte (card w h kind) bytes (omega arith) (card_good w h kind (right_table w h kind)) p v l byte other in
    let first : FirstBad file (p / 512) = (first_bad_is file (p / 512)).0 (bad, omega arith) in
    block_told w h kind file table ((read_refused_14 w h kind file table).1 (fits, (p / 512, first))) (p / 512) first

-- "kind (1 by number, 2 by square)"
pub kind_1 : (w h : ℕ) → right_table w h 1 ≡ by_number w h
kind_1 w h = refl

pub kind_2 : (w h : ℕ) → right_table w h 2 ≡ by_square w h
kind_2 w h = refl

-- "Origins are not stored": areas of the same lengths, whatever their origins are, have the same answers and the same cards.
module _ (a b : Area) (wide : a.w ≡ b.w) (high : a.h ≡ b.h) (kind : ℕ) where
  pub origin_unwritten : (table file : List ℕ)
      → (write_at a kind table file ≡ write_at b kind table file) × (file_after_at a kind table file ≡ file_after_at b kind table file)
  origin_unwritten table file =
      (ap₂ (λ (w h : ℕ). write w h kind table file) wide high, ap₂ (λ (w h : ℕ). file_after w h kind table file) wide high)

  pub origin_unread : (file table : List ℕ)
      → (read_at a kind file table ≡ read_at b kind file table) × (table_after_at a kind file table ≡ table_after_at b kind file table)
  origin_unread file table =
      (ap₂ (λ (w h : ℕ). read w h kind file table) wide high, ap₂ (λ (w h : ℕ). table_after w h kind file table) wide high)

  pub origin_unmeasured : measure_at a ≡ measure_at b
  origin_unmeasured = ap₂ measure wide high

-- Two answers that meet a promise are one, and so are the files and tables that they leave.
length_from : Figures → Result ℕ Refusal
length_from f = cond (eqb f.refusal 0) (Ok (figure 0 f)) (Err (named f.refusal))

length_told : (r : Result ℕ Refusal) → length_from (length_figures r) ≡ r
unfolding length_from
length_told (Ok n) = refl
length_told (Err r) = rw (refusal_not_0 r) (ap Err (named_back r))

pub length_one : (r s : Result ℕ Refusal) {f : Figures} → length_figures r ≡ f → length_figures s ≡ f → r ≡ s
length_one = by_figures length_figures length_from length_told

write_from : Figures → Result ⊤ Refusal
write_from f = cond (eqb f.refusal 0) (Ok tt) (Err (named f.refusal))

write_told : (r : Result ⊤ Refusal) → write_from (write_figures r) ≡ r
unfolding write_from
write_told (Ok u) = refl
write_told (Err r) = rw (refusal_not_0 r) (ap Err (named_back r))

pub write_one : (r s : Result ⊤ Refusal) {f : Figures} {x y left : List ℕ} → (write_figures r ≡ f) × (x ≡ left) → (write_figures s ≡ f) × (y ≡ left)
    → (r ≡ s) × (x ≡ y)
write_one r s p q = (by_figures write_figures write_from write_told r s p.0 q.0, one_equation p.1 q.1)

-- a bad check has its block for a value, and one that tells none has no value
abbrev bad_from : List ℕ → Unread
bad_from [] = Unreads.Refused BadCheck
bad_from (block ∷ others) = Unreads.BadCheck block

unread_from : Figures → Unread
unread_from f = cond (eqb f.refusal 14) (bad_from f.values) (Unreads.Refused (named f.refusal))

read_from : Figures → Result ⊤ Unread
read_from f = cond (eqb f.refusal 0) (Ok tt) (Err (unread_from f))

read_told : (r : Result ⊤ Unread) → read_from (read_figures r) ≡ r
unfolding read_from unread_from
read_told (Ok u) = refl
read_told (Err (Unreads.BadCheck block)) = refl
read_told (Err (Unreads.Refused r)) = rw (refusal_not_0 r) (ap Err (by (eqb (refusal_number r) 14) refl))
  where
    by : (t : Bool) → eqb (refusal_number r) 14 ≡ t
        → cond t (bad_from (cond t [] (0 ∷ []))) (Unreads.Refused (named (refusal_number r))) ≡ Unreads.Refused r
    by true e = ap Unreads.Refused (refusal_one BadCheck r (sym (eqb-true (refusal_number r) 14 e)))
    by false e = ap Unreads.Refused (named_back r)

pub read_one : (r s : Result ⊤ Unread) {f : Figures} {x y left : List ℕ} → (read_figures r ≡ f) × (x ≡ left) → (read_figures s ≡ f) × (y ≡ left)
    → (r ≡ s) × (x ≡ y)
read_one r s p q = (by_figures read_figures read_from read_told r s p.0 q.0, one_equation p.1 q.1)

-- The bytes that are told are those of the area's card, of either kind.
pub bytes_fields : (area : Area) (n : ℕ) → length_figures (Ok n) ≡ measure_at area → (kind : ℕ)
    → n ≡ length (card area.w area.h kind)
bytes_fields area n e kind =
    let asked = (measure_answered area.w area.h).0 (ap (λ (f : Figures). f.refusal) (sym e)) in
    let ok = both_accepted area.w area.h ((lengths_exactly area.w area.h).1 asked.0) ((squares_exactly area.w area.h).1 asked.1) in
    ap (figure 0) (e ∙ measured area.w area.h asked.0 asked.1) ∙ sym (card_has area.w area.h ok kind)

-- The wrong programs that the promises turn away. Areas of 1 by 1 and 127 by 1 are accepted, and their cards have two blocks and three.
one_square : accepted 1 1 ≡ true
unfolding accepted
one_square = refl

many_squares : accepted 127 1 ≡ true
unfolding accepted
many_squares = refl

one_fits : Fits 1 1 1
one_fits = ((lengths_exactly 1 1).0 refl, ((squares_exactly 1 1).0 refl, refl))

-- one that tells every card's length as the same, and one that leaves out block 0
pub constant_length : (n : ℕ) → ((w h : ℕ) → accepted w h ≡ true → measure w h ≡ answered (n ∷ [])) → ⊥
constant_length n promise =
    let one = ap (figure 0) (sym (promise 1 1 one_square) ∙ measured 1 1 one_fits.0 one_fits.1.0) in
    let two = ap (figure 0) (sym (promise 127 1 many_squares) ∙ measured 127 1 ((lengths_exactly 127 1).0 refl) ((squares_exactly 127 1).0 refl)) in
    omega arith

pub without_block_0 : ((w h : ℕ) → accepted w h ≡ true → measure w h ≡ answered (512 * table_blocks (w * h) ∷ [])) → ⊥
without_block_0 promise = let one = ap (figure 0) (sym (promise 1 1 one_square) ∙ measured 1 1 one_fits.0 one_fits.1.0) in omega arith

-- one that writes nothing: a file of zeros has no version; and one that writes whatever table it is lent
written_there : (file : List ℕ) → length file ≡ 1024 → (write 1 1 1 (right_table 1 1 1) file).refusal ≡ 0
written_there file size =
    (write_answered 1 1 1 (right_table 1 1 1) file).1
    ((one_fits.0, (one_fits.1.0, right_places 1 1 one_square 1)), (size, (inl refl, refl)))

pub writes_nothing : ((w h kind : ℕ) (table file : List ℕ) → file_after w h kind table file ≡ file) → ⊥
writes_nothing promise =
    let file = replicate {A = ℕ} 1024 0 in
    let size = length-replicate {A = ℕ} 1024 0 in
    let left : file_after 1 1 1 (right_table 1 1 1) file ≡ card 1 1 1 =
    answered_left (write 1 1 1 (right_table 1 1 1) file) (card 1 1 1) file (written_there file size) in
    let is : file ≡ card 1 1 1 = sym (promise 1 1 1 (right_table 1 1 1) file) ∙ left in
    let version : word (card 1 1 1) 0 ≡ 1 = (card_says 1 1 one_square 1).version in
    let none : word file 0 ≡ 0 = word_is file 0 (omega arith) in
    omega (arith, ap (λ (f : List ℕ). word f 0) is, version, none)

pub writes_any_table : ((w h kind : ℕ) (table file : List ℕ) → Fits w h (length table) → length file ≡ card_bytes w h → Kind kind
    → (write w h kind table file).refusal ≡ 0) → ⊥
writes_any_table promise =
    let table : List ℕ = 7 ∷ [] in
    let file = replicate {A = ℕ} 1024 0 in
    let asked = (write_answered 1 1 1 table file).0 (promise 1 1 1 table file one_fits (length-replicate {A = ℕ} 1024 0) (inl refl)) in
    let right : get_or (right_table 1 1 1) 0 0 < 1 * 1 = due_below 1 1 (limits 1 1 one_square) false 0 (omega arith) in
    omega (arith, ap (λ (t : List ℕ). get_or t 0 0) asked.1.1.1, right)

-- one that reads nothing; and one that takes any file
pub reads_nothing : ((w h kind : ℕ) (file table : List ℕ) → table_after w h kind file table ≡ table) → ⊥
reads_nothing promise =
    let table : List ℕ = 7 ∷ [] in
    let done = (read_answered 1 1 1 (card 1 1 1) table).1 (one_fits, (inl refl, refl)) in
    let left = answered_left (read 1 1 1 (card 1 1 1) table) (right_table 1 1 1) table done in
    let right : get_or (right_table 1 1 1) 0 0 < 1 * 1 = due_below 1 1 (limits 1 1 one_square) false 0 (omega arith) in
    omega (arith, ap (λ (t : List ℕ). get_or t 0 0) (sym (promise 1 1 1 (card 1 1 1) table) ∙ left), right)

pub reads_any_file : ((w h kind : ℕ) (file table : List ℕ) → Fits w h (length table) → Kind kind → (read w h kind file table).refusal ≡ 0) → ⊥
reads_any_file promise =
    let asked = (read_answered 1 1 1 [] (7 ∷ [])).0 (promise 1 1 1 [] (7 ∷ []) one_fits (inl refl)) in
    omega (arith, ap length asked.1.1, card_has 1 1 one_square 1)
