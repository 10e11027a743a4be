-- When writing or reading a card is refused with which number, and when it is answered: exactly, in numbers, for every area, kind, table and file.
use mathlib.Core.Bool.{Bool, true, false, not, ◌||◌, true≢false}
use mathlib.Core.List.{List, [], ◌∷◌}
use mathlib.Core.Logic.{◌↔◌, ◌⊎◌, inl, inr, ⊎_elim}
use mathlib.Core.Path.{◌≡◌, refl, sym, ap, subst⁻¹, ◌∙◌}
use Prim.Native.Nat.{ℕ, ◌+◌, ◌*◌, ◌/◌, ◌%◌, ◌<◌}
use native.Mathlib.Omega.{arith}
use borrow.Author.Tests.{eqb-true, eqb-false, eq-eqb, ne_eqb}
use lib.Dec.{eqb}
use lib.ListN.{length, get_or, take, drop}
use lib.Seq.{get_or-drop}
use Rattle.terms.specs.declared.Refusal.{Refusal}
use Rattle.terms.specs.declared.Refusal.TheVariants.{AreaLimit, TableLength, TooDeep, TooManySquares, BadCheck, Departure}
use Rattle.terms.specs.Terms.{lengths_accepted, squares_accepted, refusal_number, answered, refused, refused_with}
use Rattle.terms.specs.Guards.{Guard, ◌else◌, ◌telling◌, guarded, area_guards}
use Rattle.terms.specs.Comparing.{same_numbers}
use Rattle.terms.proofs.Limits.{both_accepted}
use Rattle.terms.proofs.Refusals.{refusal_one}
use Rattle.terms.proofs.Guards.{◌and◌, answered_so, stands, never, told_at, silent_at, refused_silent}
use Rattle.terms.proofs.Telling.{tells_same}
use Rattle.terms.proofs.Meanings.{LengthsWithin, LengthsBeyond, SquaresWithin, SquaresBeyond, Meaning, Meanings, FailsSo, refused_in_numbers}
use Rattle.terms.proofs.Meanings.{answered_in_numbers}
use Rattle.terms.proofs.Meanings.{equal, itself, lengths_mean, squares_mean, lengths_exactly, squares_exactly}
use Rattle.sectors.specs.Sectors.{words_of, sum, check_of, good, whole_blocks, first_bad_in}
use Rattle.sectors.proofs.Checks.{good_at, found, only_found, not_beyond}
use Rattle.tables.specs.Tables.{some_deep}
use Rattle.tables.proofs.Admitted.{not_deep}
use Rattle.layouts.specs.Layouts.{right_table, card, card_bytes}
use Rattle.layouts.proofs.Accepting.{card_good}
use Rattle.std.specs.Prelude.{Err}
use Rattle.cards.specs.declared.Unread.TheVariants as Unreads
use Rattle.cards.specs.Cards.{kind_known, write_guards, read_guards, write, read, measure, read_figures}

-- "kind (1 by number, 2 by square)"
abbrev pub Kind : (kind : ℕ) → Type 0
Kind kind = (kind ≡ 1) ⊎ (kind ≡ 2)

abbrev pub NoKind : (kind : ℕ) → Type 0
NoKind kind = (kind ≡ 1 → ⊥) × (kind ≡ 2 → ⊥)

known_to : (s t : Bool) → s || t ≡ true → (s ≡ true) ⊎ (t ≡ true)
known_to true t e = inl refl
known_to false t e = inr e

unknown_to : (s t : Bool) → s || t ≡ false → (s ≡ false) × (t ≡ false)
unknown_to true t e = absurd (true≢false e)
unknown_to false t e = (refl, e)

pub kind_means : (kind : ℕ) → ((kind_known kind ≡ true) ↔ Kind kind) × ((kind_known kind ≡ false) ↔ NoKind kind)
kind_means kind = (
  (λ e. ⊎_elim (λ a. inl (eqb-true kind 1 a)) (λ b. inr (eqb-true kind 2 b)) (known_to (eqb kind 1) (eqb kind 2) e), from),
  (
    λ e. let p = unknown_to (eqb kind 1) (eqb kind 2) e in (eqb-false kind 1 p.0, eqb-false kind 2 p.1),
    λ p. rw (ne_eqb kind 1 p.0) (ne_eqb kind 2 p.1),
  ),
)
  where
    from : Kind kind → kind_known kind ≡ true
    from (inl a) = rw (eq-eqb kind 1 a)
    from (inr b) = by (eqb kind 1)
      where
        by : (s : Bool) → s || eqb kind 2 ≡ true
        by true = refl
        by false = eq-eqb kind 2 b

abbrev pub kind_mean : (kind : ℕ) → Meaning (kind_known kind)
kind_mean kind = record { Holds = Kind kind; Not = NoKind kind; if_true = (kind_means kind).0; if_false = (kind_means kind).1 }

-- two lists, byte by byte or place by place
pub same_means : (xs ys : List ℕ) → (same_numbers xs ys ≡ false) ↔ (xs ≡ ys → ⊥)
same_means xs ys =
    (λ e is. true≢false (sym ((tells_same xs ys).1 is) ∙ e), λ other. by (same_numbers xs ys) refl other)
  where
    by : (t : Bool) → same_numbers xs ys ≡ t → (xs ≡ ys → ⊥) → same_numbers xs ys ≡ false
    by true e other = absurd (other ((tells_same xs ys).0 e))
    by false e other = e

abbrev pub same_mean : (xs ys : List ℕ) → Meaning (same_numbers xs ys)
same_mean xs ys = record { Holds = xs ≡ ys; Not = xs ≡ ys → ⊥; if_true = tells_same xs ys; if_false = same_means xs ys }

-- "a check, which is 1 plus the sum of the other 127 words, modulo 2 to the 32nd": block b of a file has it.
abbrev pub CheckRight : (file : List ℕ) (b : ℕ) → Type 0
CheckRight file b = get_or (words_of file) (128 * b + 127) 0 ≡ (1 + sum (take 127 (drop (128 * b) (words_of file)))) % 4294967296

abbrev pub ChecksRight : (file : List ℕ) → Type 0
ChecksRight file = (b : ℕ) → b < length file / 512 → CheckRight file b

-- "the first whole block whose check is bad"
abbrev pub FirstBad : (file : List ℕ) (k : ℕ) → Type 0
FirstBad file k = (k < length file / 512) × (((b : ℕ) → b < k → CheckRight file b) × (CheckRight file k → ⊥))

check_so : (file : List ℕ) (b : ℕ) → (good_at (words_of file) b ≡ true) ↔ CheckRight file b
unfolding good
check_so file b =
    let words = words_of file in
    let due = check_of (take 127 (drop (128 * b) words)) in (
      λ e. sym (get_or-drop (128 * b) words 127 0) ∙ eqb-true (get_or (drop (128 * b) words) 127 0) due e,
      λ is. eq-eqb (get_or (drop (128 * b) words) 127 0) due (get_or-drop (128 * b) words 127 0 ∙ is),
    )

check_not : (file : List ℕ) (b : ℕ) → (CheckRight file b → ⊥) → good_at (words_of file) b ≡ false
check_not file b wrong = by (good_at (words_of file) b) refl
  where
    by : (t : Bool) → good_at (words_of file) b ≡ t → good_at (words_of file) b ≡ false
    by true e = absurd (wrong ((check_so file b).0 e))
    by false e = e

module _ (file : List ℕ) where
  abbrev n : ℕ
  n = whole_blocks file

  pub none_bad : (first_bad_in file ≡ n) ↔ ChecksRight file
  none_bad = (
    λ e b l. (check_so file b).0 ((found n (words_of file)).0 b (subst⁻¹ (λ (k : ℕ). b < k) e l)),
    λ all. only_found n (words_of file) n (omega arith) ((λ b l. (check_so file b).1 (all b l)), λ l. absurd (omega arith)),
  )

  pub first_bad_is : (k : ℕ) → ((first_bad_in file ≡ k) × (k < n)) ↔ FirstBad file k
  first_bad_is k = (
    λ p. (
      p.1,
      (
        (λ b l. (check_so file b).0 ((found n (words_of file)).0 b (subst⁻¹ (λ (i : ℕ). b < i) p.0 l))),
        λ is. true≢false (sym ((check_so file k).1 is) ∙ ap (good_at (words_of file)) (sym p.0)
            ∙ (found n (words_of file)).1 (subst⁻¹ (λ (i : ℕ). i < n) p.0 p.1)),
      ),
    ),
    λ q. (only_found n (words_of file) k (let l = q.0 in omega arith) ((λ b l. (check_so file b).1 (q.1.0 b l)), λ l. check_not file k q.1.1), q.0),
  )

  pub checks_mean : (eqb (first_bad_in file) n ≡ false) ↔ ((k : ℕ) × FirstBad file k)
  checks_mean = (
    λ e. let other = eqb-false (first_bad_in file) n e in
        let most = not_beyond n (words_of file) in
        (first_bad_in file, (first_bad_is (first_bad_in file)).0 (refl, omega arith)),
    λ p. let is = (first_bad_is p.0).1 p.1 in
        ne_eqb (first_bad_in file) n (λ e. let l = is.1 in let z = is.0 in omega arith),
  )

  abbrev pub check_mean : Meaning (eqb (first_bad_in file) (whole_blocks file))
  check_mean = record {
    Holds = ChecksRight file;
    Not = (k : ℕ) × FirstBad file k;
    if_true = (λ e. none_bad.0 (eqb-true (first_bad_in file) n e), λ all. eq-eqb (first_bad_in file) n (none_bad.1 all));
    if_false = checks_mean;
  }

-- An area that is accepted, and a table of its places: what every call on a table asks for before 9.
abbrev pub Fits : (w h places : ℕ) → Type 0
Fits w h places = LengthsWithin w h × (SquaresWithin w h × (places ≡ w * h))

shallow : (w h : ℕ) → LengthsWithin w h → SquaresWithin w h → not (some_deep w h) ≡ true
shallow w h long few = ap not (not_deep w h (both_accepted w h ((lengths_exactly w h).1 long) ((squares_exactly w h).1 few)))

deep_never : (w h : ℕ) → LengthsWithin w h → SquaresWithin w h → not (some_deep w h) ≡ false → ⊥
deep_never w h long few deep = true≢false (sym (shallow w h long few) ∙ deep)

-- the writer
module _ (w h kind : ℕ) (table file : List ℕ) where
  abbrev write_means : Meanings (write_guards w h kind table (length file))
  write_means =
      lengths_mean w h
      and squares_mean w h
      and equal (length table) (w * h)
      and equal (length file) (card_bytes w h)
      and itself (not (some_deep w h))
      and kind_mean kind
      and same_mean table (right_table w h kind)
      and tt

  by_write : (r : Refusal) → ((write w h kind table file).refusal ≡ refusal_number r) ↔ FailsSo (write_guards w h kind table (length file)) write_means r
  unfolding write
  by_write r = refused_in_numbers (write_guards w h kind table (length file)) write_means 0 [] r

  -- a refusal that is not in the list never comes: the writer gives no 14
  pub write_no_other : (r : Refusal) → stands r (write_guards w h kind table (length file)) ≡ false → (write w h kind table file).refusal ≡ refusal_number
      r → ⊥
  unfolding write
  write_no_other r other e = never (write_guards w h kind table (length file)) r 0 [] other e

  pub write_never_14 : (write w h kind table file).refusal ≡ 14 → ⊥
  write_never_14 = write_no_other BadCheck refl

  pub write_refused_1 : ((write w h kind table file).refusal ≡ 1) ↔ LengthsBeyond w h
  write_refused_1 = by_write AreaLimit

  pub write_refused_13 : ((write w h kind table file).refusal ≡ 13) ↔ (LengthsWithin w h × SquaresBeyond w h)
  write_refused_13 = by_write TooManySquares

  -- "4 (also for a writer's file whose length isn't the layout's)"
  pub write_refused_4 : ((write w h kind table file).refusal ≡ 4)
      ↔ (LengthsWithin w h × (SquaresWithin w h × ((length table ≡ w * h → ⊥) ⊎ ((length table ≡ w * h) × (length file ≡ card_bytes w h → ⊥)))))
  write_refused_4 = by_write TableLength

  pub write_never_9 : (write w h kind table file).refusal ≡ 9 → ⊥
  write_never_9 e = let p = (by_write TooDeep).0 e in deep_never w h p.0 p.1.0 p.1.1.1.1

  pub write_refused_15 : ((write w h kind table file).refusal ≡ 15)
      ↔ (Fits w h (length table) × ((length file ≡ card_bytes w h) × (NoKind kind ⊎ (Kind kind × (table ≡ right_table w h kind → ⊥)))))
  write_refused_15 = (
    λ e. let p = (by_write Departure).0 e in ((p.0, (p.1.0, p.1.1.0)), (p.1.1.1.0, p.1.1.1.1.1)),
    λ p. (by_write Departure).1 (p.0.0 and p.0.1.0 and p.0.1.1 and p.1.0 and shallow w h p.0.0 p.0.1.0 and p.1.1),
  )

  pub write_answered : ((write w h kind table file).refusal ≡ 0)
      ↔ (Fits w h (length table) × ((length file ≡ card_bytes w h) × (Kind kind × (table ≡ right_table w h kind))))
  unfolding write
  write_answered =
      let law = answered_in_numbers (write_guards w h kind table (length file)) write_means 0 [] in (
        λ e. let p = law.0 e in ((p.0, (p.1.0, p.1.1.0)), (p.1.1.1.0, (p.1.1.1.1.1.0, p.1.1.1.1.1.1))),
        λ p. law.1 (p.0.0 and p.0.1.0 and p.0.1.1 and p.1.0 and shallow w h p.0.0 p.0.1.0 and p.1.1.0 and p.1.1.1),
      )

-- the reader
module _ (w h kind : ℕ) (file table : List ℕ) where
  abbrev read_means : Meanings (read_guards w h kind file (length table))
  read_means =
      lengths_mean w h
      and squares_mean w h
      and equal (length table) (w * h)
      and itself (not (some_deep w h))
      and check_mean file
      and kind_mean kind
      and same_mean file (card w h kind)
      and tt

  by_read : (r : Refusal) → ((read w h kind file table).refusal ≡ refusal_number r) ↔ FailsSo (read_guards w h kind file (length table)) read_means r
  unfolding read
  by_read r = refused_in_numbers (read_guards w h kind file (length table)) read_means 1 (0 ∷ []) r

  pub read_no_other : (r : Refusal) → stands r (read_guards w h kind file (length table)) ≡ false → (read w h kind file table).refusal ≡ refusal_number r → ⊥
  unfolding read
  read_no_other r other e = never (read_guards w h kind file (length table)) r 1 (0 ∷ []) other e

  pub read_refused_1 : ((read w h kind file table).refusal ≡ 1) ↔ LengthsBeyond w h
  read_refused_1 = by_read AreaLimit

  pub read_refused_13 : ((read w h kind file table).refusal ≡ 13) ↔ (LengthsWithin w h × SquaresBeyond w h)
  read_refused_13 = by_read TooManySquares

  pub read_refused_4 : ((read w h kind file table).refusal ≡ 4) ↔ (LengthsWithin w h × (SquaresWithin w h × (length table ≡ w * h → ⊥)))
  read_refused_4 = by_read TableLength

  pub read_never_9 : (read w h kind file table).refusal ≡ 9 → ⊥
  read_never_9 e = let p = (by_read TooDeep).0 e in deep_never w h p.0 p.1.0 p.1.1.1

  -- "then 14, with the index .. of the first whole block whose check is bad"
  pub read_refused_14 : ((read w h kind file table).refusal ≡ 14) ↔ (Fits w h (length table) × ((k : ℕ) × FirstBad file k))
  read_refused_14 = (
    λ e. let p = (by_read BadCheck).0 e in ((p.0, (p.1.0, p.1.1.0)), p.1.1.1.1),
    λ p. (by_read BadCheck).1 (p.0.0 and p.0.1.0 and p.0.1.1 and shallow w h p.0.0 p.0.1.0 and p.1),
  )

  -- "then 15 for any other departure": no check is bad, and the file is not the card of that area and kind
  pub read_refused_15 : ((read w h kind file table).refusal ≡ 15)
      ↔ (Fits w h (length table) × (ChecksRight file × (NoKind kind ⊎ (Kind kind × (file ≡ card w h kind → ⊥)))))
  read_refused_15 = (
    λ e. let p = (by_read Departure).0 e in ((p.0, (p.1.0, p.1.1.0)), (p.1.1.1.1.0, p.1.1.1.1.1)),
    λ p. (by_read Departure).1 (p.0.0 and p.0.1.0 and p.0.1.1 and shallow w h p.0.0 p.0.1.0 and p.1.0 and p.1.1),
  )

  -- A file is accepted exactly if it is the card of the right table.
  pub read_answered : ((read w h kind file table).refusal ≡ 0) ↔ (Fits w h (length table) × (Kind kind × (file ≡ card w h kind)))
  unfolding read
  read_answered =
      let law = answered_in_numbers (read_guards w h kind file (length table)) read_means 1 (0 ∷ []) in (
        λ e. let p = law.0 e in ((p.0, (p.1.0, p.1.1.0)), (p.1.1.1.1.1.0, p.1.1.1.1.1.1)),
        λ p. law.1 (p.0.0 and p.0.1.0 and p.0.1.1 and shallow w h p.0.0 p.0.1.0
            and (none_bad file).0 (subst⁻¹ (λ (f : List ℕ). first_bad_in f ≡ whole_blocks f) p.1.1 (card_good w h kind (right_table w h kind)))
            and p.1.0 and p.1.1),
      )

  -- what a refusal tells: 14 its block, every other one 0
  pub block_told : (read w h kind file table).refusal ≡ 14 → (k : ℕ) → FirstBad file k → read w h kind file table ≡ refused_with BadCheck (k ∷ [])
  unfolding read
  block_told e k first =
      told_at (read_guards w h kind file (length table)) 4 1 (0 ∷ []) BadCheck refl e
      ∙ ap (λ (b : ℕ). refused_with BadCheck (b ∷ [])) ((first_bad_is file k).1 first).0

  pub no_block_told : (r : Refusal) → (r ≡ BadCheck → ⊥) → (read w h kind file table).refusal ≡ refusal_number r → read w h kind file table ≡ refused r 1
  unfolding read
  no_block_told r other e = refused_silent (read_guards w h kind file (length table)) 1 (0 ∷ []) r (silent r other) e
    where
      silent : (r : Refusal) → (r ≡ BadCheck → ⊥) → silent_at r (read_guards w h kind file (length table)) ≡ true
      silent r other = rw (ne_eqb 14 (refusal_number r) (λ z. other (sym (refusal_one BadCheck r z))))

pub unread_tells_0 : (r : Refusal) → (r ≡ BadCheck → ⊥) → read_figures (Err (Unreads.Refused r)) ≡ refused r 1
unread_tells_0 r other = rw (ne_eqb (refusal_number r) 14 (λ e. other (refusal_one r BadCheck e)))

-- how long a file must be
module _ (w h : ℕ) where
  abbrev measure_means : Meanings (area_guards w h)
  measure_means = lengths_mean w h and squares_mean w h and tt

  by_measure : (r : Refusal) → ((measure w h).refusal ≡ refusal_number r) ↔ FailsSo (area_guards w h) measure_means r
  unfolding measure
  by_measure r = refused_in_numbers (area_guards w h) measure_means 1 (card_bytes w h ∷ []) r

  pub measure_refused_1 : ((measure w h).refusal ≡ 1) ↔ LengthsBeyond w h
  measure_refused_1 = by_measure AreaLimit

  pub measure_refused_13 : ((measure w h).refusal ≡ 13) ↔ (LengthsWithin w h × SquaresBeyond w h)
  measure_refused_13 = by_measure TooManySquares

  pub measure_no_other : (r : Refusal) → stands r (area_guards w h) ≡ false → (measure w h).refusal ≡ refusal_number r → ⊥
  unfolding measure
  measure_no_other r other e = never (area_guards w h) r 1 (card_bytes w h ∷ []) other e

  pub measure_answered : ((measure w h).refusal ≡ 0) ↔ (LengthsWithin w h × SquaresWithin w h)
  unfolding measure
  measure_answered = answered_in_numbers (area_guards w h) measure_means 1 (card_bytes w h ∷ [])

  pub measured : LengthsWithin w h → SquaresWithin w h → measure w h ≡ answered (card_bytes w h ∷ [])
  unfolding measure
  measured long few = answered_so (area_guards w h) 1 (card_bytes w h ∷ []) ((lengths_exactly w h).1 long and (squares_exactly w h).1 few)

-- the numbers that each call gives, and no other
abbrev pub GivesLength : ℕ → Type 0
GivesLength r = (r ≡ 0) ⊎ ((r ≡ 1) ⊎ (r ≡ 13))

abbrev pub GivesWritten : ℕ → Type 0
GivesWritten r = (r ≡ 0) ⊎ ((r ≡ 1) ⊎ ((r ≡ 13) ⊎ ((r ≡ 4) ⊎ (r ≡ 15))))

abbrev pub GivesRead : ℕ → Type 0
GivesRead r = (r ≡ 0) ⊎ ((r ≡ 1) ⊎ ((r ≡ 13) ⊎ ((r ≡ 4) ⊎ ((r ≡ 14) ⊎ (r ≡ 15)))))

pub measure_gives : (w h : ℕ) → GivesLength (measure w h).refusal
unfolding measure
measure_gives w h = by (lengths_accepted w h) (squares_accepted (w * h))
  where
    by : (a b : Bool) → GivesLength (guarded (a else AreaLimit ∷ b else TooManySquares ∷ []) 1 (card_bytes w h ∷ [])).refusal
    by true true = inl refl
    by true false = inr (inr refl)
    by false b = inr (inl refl)

pub write_gives : (w h kind : ℕ) (table file : List ℕ) → GivesWritten (write w h kind table file).refusal
unfolding write
write_gives w h kind table file =
    by (lengths_accepted w h) (squares_accepted (w * h)) (eqb (length table) (w * h)) (eqb (length file) (card_bytes w h)) (not (some_deep w h))
    (kind_known kind) (same_numbers table (right_table w h kind)) (write_never_9 w h kind table file)
  where
    by : (a b c d e f g : Bool) →
        let r =
        (guarded (a else AreaLimit ∷ b else TooManySquares ∷ c else TableLength ∷ d else TableLength ∷ e else TooDeep ∷ f else Departure ∷ g else Departure
        ∷ [])
        0 []).refusal in
        (r ≡ 9 → ⊥) → GivesWritten r
    by true true true true true true true deep = inl refl
    by true true true true true true false deep = inr (inr (inr (inr refl)))
    by true true true true true false g deep = inr (inr (inr (inr refl)))
    by true true true true false f g deep = absurd (deep refl)
    by true true true false e f g deep = inr (inr (inr (inl refl)))
    by true true false d e f g deep = inr (inr (inr (inl refl)))
    by true false c d e f g deep = inr (inr (inl refl))
    by false b c d e f g deep = inr (inl refl)

pub read_gives : (w h kind : ℕ) (file table : List ℕ) → GivesRead (read w h kind file table).refusal
unfolding read
read_gives w h kind file table =
    by (lengths_accepted w h) (squares_accepted (w * h)) (eqb (length table) (w * h)) (not (some_deep w h)) (eqb (first_bad_in file) (whole_blocks file))
    (kind_known kind) (same_numbers file (card w h kind)) (read_never_9 w h kind file table)
  where
    by : (a b c d e f g : Bool) →
        let bad : Guard = e else BadCheck telling (first_bad_in file ∷ []) in
        let r = (guarded (a else AreaLimit ∷ b else TooManySquares ∷ c else TableLength ∷ d else TooDeep ∷ bad ∷ f else Departure ∷ g else Departure ∷ [])
        1 (0 ∷ [])).refusal in
        (r ≡ 9 → ⊥) → GivesRead r
    by true true true true true true true deep = inl refl
    by true true true true true true false deep = inr (inr (inr (inr (inr refl))))
    by true true true true true false g deep = inr (inr (inr (inr (inr refl))))
    by true true true true false f g deep = inr (inr (inr (inr (inl refl))))
    by true true true false e f g deep = absurd (deep refl)
    by true true false d e f g deep = inr (inr (inr (inl refl)))
    by true false c d e f g deep = inr (inr (inl refl))
    by false b c d e f g deep = inr (inl refl)
