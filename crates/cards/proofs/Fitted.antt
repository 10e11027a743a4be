-- A card written or read once the area is accepted and the table has its places: what is answered and left after each test of the code; and how that joins
-- with the guards before.
use mathlib.Core.Bool.{Bool, true, false, not, cond, ◌||◌, true≢false}
use mathlib.Core.List.{List, [], ◌∷◌}
use mathlib.Core.Path.{◌≡◌, refl, sym, ap, subst, ◌∙◌}
use Prim.Native.Nat.{ℕ, ◌+◌, ◌*◌}
use native.Mathlib.Omega.{arith}
use borrow.Author.Tests.{eq-eqb, ne_eqb}
use borrow.Author.Tests.{eqb-true, eqb-false}
use lib.Dec.{eqb, lit<}
use lib.ListN.{length}
use lib.Seq.{ext_get_or}
use Rattle.terms.specs.declared.Area.{Area}
use Rattle.terms.specs.declared.Refusal.{Refusal}
use Rattle.terms.specs.declared.Refusal.TheVariants.{TableLength, BadCheck, Departure}
use Rattle.std.specs.Prelude.{Result, Ok, Err, IsErr, IsErrAnd, Option, Some, None}
use Rattle.terms.specs.Terms.{accepted, Figures, answered, refused, refused_with}
use Rattle.terms.specs.Guards.{◌else◌, granted, admitted, first}
use Rattle.terms.specs.Comparing.{same_numbers}
use Rattle.terms.specs.Telling.{Tells}
use Rattle.terms.proofs.Limits.{limits, both_accepted}
use Rattle.terms.proofs.Guards.{passed, fails, refused_first, granted_first, untried}
use Rattle.terms.proofs.Telling.{tells_same, tells_one}
use Rattle.sectors.specs.Sectors.{words_of, whole_blocks, first_bad_in}
use Rattle.sectors.specs.Steps.{bad_block}
use Rattle.sectors.proofs.Checks.{some_bad, no_bad}
use Rattle.leaves.specs.declared.Wrong.{Wrong}
use Rattle.tables.specs.Tables.{some_deep, table_guards, unless_refused, due_by, check_at, check_figures}
use Rattle.tables.proofs.Admitted.{not_deep, table_granted, kept, given}
use Rattle.tables.proofs.PlaceByPlace.{places_length, place_holds, due_length}
use Rattle.tables.proofs.Promises.{right_fields, filled_then_right, check_one}
use Rattle.layouts.specs.Layouts.{table_blocks, right_table, card_words, card_of, card, card_bytes}
use Rattle.layouts.specs.Steps.{Room, table_word, table_in}
use Rattle.layouts.proofs.Accepting.{card_length, card_in_words, card_holds}
use Rattle.cards.specs.Cards.{kind_known, write_guards, read_guards, write, read, file_after, table_after, read_figures}
use Rattle.cards.specs.declared.Kind.{Kind}
use Rattle.cards.specs.declared.Kind.TheVariants as Kinds
use Rattle.cards.specs.declared.Unread.{Unread}
use Rattle.cards.specs.declared.Unread.TheVariants as Unreads
use Rattle.cards.specs.Fitting.{by_square, known, says_right, write_on, read_on}
use Rattle.cards.proofs.Refused.{unread_tells_0}

module _ (w h kind : ℕ) (ok : accepted w h ≡ true) where
  shallow : not (some_deep w h) ≡ true
  shallow = ap not (not_deep w h ok)

  -- the writer's tests in turn
  module _ (table file : List ℕ) where
    abbrev WrittenSo : Figures → List ℕ → Type 0
    WrittenSo answer after = (answer ≡ write_on w h kind table file) × (after ≡ unless_refused (write_on w h kind table file) (card w h kind) file)

    pub other_length : (length file ≡ card_bytes w h → ⊥) → WrittenSo (refused TableLength 0) file
    other_length other =
        let is : refused TableLength 0 ≡ write_on w h kind table file = sym (rw (ne_eqb (length file) (card_bytes w h) other)) in
        (is, kept TableLength [] (card w h kind) file is)

    module _ (size : length file ≡ card_bytes w h) where
      pub no_kind : kind_known kind ≡ false → WrittenSo (refused Departure 0) file
      no_kind none =
          let is : refused Departure 0 ≡ write_on w h kind table file = sym (rw (eq-eqb (length file) (card_bytes w h) size, shallow, none)) in
          (is, kept Departure [] (card w h kind) file is)

      module _ (known : kind_known kind ≡ true) {r : Bool} (tells : Tells r (table ≡ right_table w h kind)) where
        test : same_numbers table (right_table w h kind) ≡ r
        test = tells_one (tells_same table (right_table w h kind)) tells

        pub wrong_table : r ≡ false → WrittenSo (refused Departure 0) file
        wrong_table off =
            let is : refused Departure 0 ≡ write_on w h kind table file =
            sym (rw (eq-eqb (length file) (card_bytes w h) size, shallow, known, test ∙ off)) in
            (is, kept Departure [] (card w h kind) file is)

        pub written_so : r ≡ true → {after : List ℕ} → after ≡ card w h kind → WrittenSo (answered []) after
        written_so on is_card =
            let is : write_on w h kind table file ≡ answered [] = rw (eq-eqb (length file) (card_bytes w h) size, shallow, known, test ∙ on) in
            (sym is, is_card ∙ given [] (card w h kind) file is)

  -- the reader's
  module _ (file table : List ℕ) where
    abbrev ReadSo : Figures → List ℕ → Type 0
    ReadSo answer after = (answer ≡ read_on w h kind file) × (after ≡ unless_refused (read_on w h kind file) (right_table w h kind) table)

    pub bad_told : {bad : ℕ} → bad_block file ≡ Some bad → ReadSo (refused_with BadCheck (bad ∷ [])) table
    bad_told {bad} there =
        let told = some_bad file bad there in
        let is : refused_with BadCheck (bad ∷ []) ≡ read_on w h kind file =
        ap (λ (b : ℕ). refused_with BadCheck (b ∷ [])) told.0 ∙ sym (rw (ne_eqb (first_bad_in file) (whole_blocks file) (λ e. omega (arith, told)))) in
        (is, kept BadCheck (bad ∷ []) (right_table w h kind) table is)

    module _ (none_bad : first_bad_in file ≡ whole_blocks file) where
      pub no_such_kind : kind_known kind ≡ false → ReadSo (refused_with Departure (0 ∷ [])) table
      no_such_kind none =
          let is : refused_with Departure (0 ∷ []) ≡ read_on w h kind file = sym (rw (eq-eqb (first_bad_in file) (whole_blocks file) none_bad, none)) in
          (is, kept Departure (0 ∷ []) (right_table w h kind) table is)

      module _ (known : kind_known kind ≡ true) {r : Bool} (tells : Tells r (file ≡ card w h kind)) where
        judged : same_numbers file (card w h kind) ≡ r
        judged = tells_one (tells_same file (card w h kind)) tells

        pub no_card : r ≡ false → ReadSo (refused_with Departure (0 ∷ [])) table
        no_card off =
            let is : refused_with Departure (0 ∷ []) ≡ read_on w h kind file =
            sym (rw (eq-eqb (first_bad_in file) (whole_blocks file) none_bad, known, judged ∙ off)) in
            (is, kept Departure (0 ∷ []) (right_table w h kind) table is)

        pub read_so : r ≡ true → {after : List ℕ} → after ≡ table_in (words_of file) (w * h) → ReadSo (answered (0 ∷ [])) after
        read_so on {after} copied =
            let is : read_on w h kind file ≡ answered (0 ∷ []) = rw (eq-eqb (first_bad_in file) (whole_blocks file) none_bad, known, judged ∙ on) in
            let limit = limits w h ok in
            let long = due_length w h limit.w_least limit.h_least (eqb kind 2) in
            let in_words : words_of file ≡ card_words w h kind (right_table w h kind) =
            ap words_of (tells.0 on) ∙ card_in_words w h kind (right_table w h kind) in
            let size = places_length (table_word (words_of file)) (w * h) in
            let right : table_in (words_of file) (w * h) ≡ right_table w h kind =
            ext_get_or 0 (table_in (words_of file) (w * h)) (right_table w h kind) (size ∙ sym long)
            (λ p l. place_holds (table_word (words_of file)) (w * h) p (omega arith)
            ∙ ap (λ (ws : List ℕ). table_word ws p) in_words ∙ card_holds w h kind (right_table w h kind) p (omega arith)) in
            (sym is, copied ∙ right ∙ given (0 ∷ []) (right_table w h kind) table is)

-- the guards before: those of every call on a table
module _ (w h kind : ℕ) where
  -- 9 holds wherever those before it pass, so that it makes no difference where it stands
  three_first : (table : List ℕ) (bytes : ℕ) → admitted (table_guards w h (length table)) ≡ admitted (first 3 (write_guards w h kind table bytes))
  three_first table bytes =
      sym (untried (table_guards w h (length table)) 3 (lit< tt) refl (λ p. ap not (not_deep w h (both_accepted w h p.0 p.1.0))))

  module _ (table file : List ℕ) where
    pub write_refused : (r : Refusal) → admitted (table_guards w h (length table)) ≡ Err r
        → (refused r 0 ≡ write w h kind table file) × (file ≡ file_after w h kind table file)
    unfolding write
    write_refused r e =
        let is = refused_first 3 (write_guards w h kind table (length file)) 0 [] refl r (sym (three_first table (length file)) ∙ e) in
        (is, kept r [] (card w h kind) file is)

    pub write_granted : admitted (table_guards w h (length table)) ≡ granted → {answer : Figures} {after : List ℕ}
        → (answer ≡ write_on w h kind table file) × (after ≡ unless_refused (write_on w h kind table file) (card w h kind) file)
        → (answer ≡ write w h kind table file) × (after ≡ file_after w h kind table file)
    unfolding write
    write_granted e so =
        let is = granted_first 3 (write_guards w h kind table (length file)) 0 [] refl (sym (three_first table (length file)) ∙ e) in
        (so.0 ∙ is, so.1 ∙ ap (λ (f : Figures). unless_refused f (card w h kind) file) is)

  module _ (file table : List ℕ) where
    pub read_refused : (r : Refusal) → admitted (table_guards w h (length table)) ≡ Err r
        → (read_figures (Err (Unreads.Refused r)) ≡ read w h kind file table) × (table ≡ table_after w h kind file table)
    unfolding read
    read_refused r e =
        let none = fails (table_guards w h (length table)) BadCheck in
        let is = refused_first 4 (read_guards w h kind file (length table)) 1 (0 ∷ []) refl r e in
        (unread_tells_0 r (λ bad. (none (e ∙ ap Err bad)).1.1.1.1) ∙ is, kept r (0 ∷ []) (right_table w h kind) table is)

    pub read_granted : admitted (table_guards w h (length table)) ≡ granted → {answer : Figures} {after : List ℕ}
        → (answer ≡ read_on w h kind file) × (after ≡ unless_refused (read_on w h kind file) (right_table w h kind) table)
        → (answer ≡ read w h kind file table) × (after ≡ table_after w h kind file table)
    unfolding read
    read_granted e so =
        let is = granted_first 4 (read_guards w h kind file (length table)) 1 (0 ∷ []) refl e in
        (so.0 ∙ is, so.1 ∙ ap (λ (f : Figures). unless_refused f (right_table w h kind) table) is)

-- a card has room for its table
pub card_room : (w h : ℕ) → accepted w h ≡ true → (kind : ℕ) (file : List ℕ) → file ≡ card w h kind → Room file (w * h)
card_room w h ok kind file is =
    let limit = limits w h ok in
    let size : length file ≡ 512 * (1 + table_blocks (w * h)) =
    ap length is ∙ card_length w h kind (right_table w h kind)
    ∙ ap (λ (k : ℕ). 512 * (1 + table_blocks k)) (due_length w h limit.w_least limit.h_least (eqb kind 2)) in
    omega arith

-- a check of a table tells whether it is the right one
pub check_tells : (area : Area) (by : Bool) (table : List ℕ) → accepted area.w area.h ≡ true → length table ≡ area.w * area.h
    → (answer : Result (Option Wrong) Refusal) {r : Bool} → check_figures answer ≡ check_at area (due_by by) table → r ≡ says_right answer
    → Tells r (table ≡ due_by by area.w area.h)
check_tells area by table ok size answer {r} is says = (λ e. to answer is (sym says ∙ e), from)
  where
    to : (answer : Result (Option Wrong) Refusal) → check_figures answer ≡ check_at area (due_by by) table → says_right answer ≡ true
        → table ≡ due_by by area.w area.h
    to (Ok None) is e = right_fields area table by is
    to (Ok (Some wrong)) is e = absurd (true≢false (sym e))
    to (Err s) is e = absurd (true≢false (sym e))

    from : table ≡ due_by by area.w area.h → r ≡ true
    from right =
        says
        ∙ ap says_right (check_one answer (Ok None) is
        (sym (filled_then_right area.w area.h ok by table size right)))

-- a guard that let a call go on, or refused it; and what `?` hands on of a refusal to who reads
guard_passed : (t : Bool) (g : Refusal) → admitted (t else g ∷ []) ≡ granted → t ≡ true
guard_passed t g e = passed (t else g ∷ []) e

guard_failed : (t : Bool) (g : Refusal) {r : Refusal} → admitted (t else g ∷ []) ≡ Err r → (t ≡ false) × (r ≡ g)
guard_failed true g {r} e = absurd (let z : ◌≡◌ {A = ℕ} 0 1 = cc in omega arith)
guard_failed false g {r} e = let one : r ≡ g = cc in (refl, one)

pub handed_on : {T : Type 0} {r : Result T Unread} {s : Refusal} → IsErr r × IsErrAnd r (λ u. u ≡ Unreads.Refused s) → r ≡ Err (Unreads.Refused s)
handed_on {r = Ok v} p = absurd p.1
handed_on {r = Err u} p = ap Err p.1

-- a number that is a kind's, and one that is none
known_so : (kind : ℕ) {k : Kind} → known kind ≡ Ok k → (kind_known kind ≡ true) × (by_square k ≡ eqb kind 2)
known_so kind {k} e = by (eqb kind 1) (eqb kind 2) refl refl e
  where
    by : (t u : Bool) → eqb kind 1 ≡ t → eqb kind 2 ≡ u → cond t (Ok Kinds.ByNumber) (cond u (Ok Kinds.BySquare) (Err Departure)) ≡ Ok k
        → (t || u ≡ true) × (by_square k ≡ u)
    by true u one two is =
        let same : k ≡ Kinds.ByNumber = cc in
        let off : eqb kind 2 ≡ false = ap (λ (n : ℕ). eqb n 2) (eqb-true kind 1 one) in
        (refl, ap by_square same ∙ sym off ∙ two)
    by false true one two is = let same : k ≡ Kinds.BySquare = cc in (refl, ap by_square same)
    by false false one two is = absurd (let z : ◌≡◌ {A = ℕ} 0 1 = cc in omega arith)

unknown_so : (kind : ℕ) {r : Refusal} → known kind ≡ Err r → (kind_known kind ≡ false) × (r ≡ Departure)
unknown_so kind {r} e = by (eqb kind 1) (eqb kind 2) e
  where
    by : (t u : Bool) → cond t (Ok Kinds.ByNumber) (cond u (Ok Kinds.BySquare) (Err Departure)) ≡ Err r → (t || u ≡ false) × (r ≡ Departure)
    by true u is = absurd (let z : ◌≡◌ {A = ℕ} 0 1 = cc in omega arith)
    by false true is = absurd (let z : ◌≡◌ {A = ℕ} 0 1 = cc in omega arith)
    by false false is = let one : r ≡ Departure = cc in (refl, one)

-- the writer as its code goes, once its table is taken
module _ (w h kind : ℕ) (table file : List ℕ) (taken : admitted (table_guards w h (length table)) ≡ granted) where
  abbrev pub Written : Figures → List ℕ → Type 0
  Written answer after = (answer ≡ write w h kind table file) × (after ≡ file_after w h kind table file)

  fine : accepted w h ≡ true
  fine = (table_granted w h (length table) taken).0

  pub not_long : {bytes : ℕ} {r : Refusal} → bytes ≡ card_bytes w h → admitted (eqb (length file) bytes else TableLength ∷ []) ≡ Err r
      → Written (refused r 0) file
  not_long {bytes} is e =
      let off = guard_failed (eqb (length file) bytes) TableLength e in
      let so = write_granted w h kind table file taken (other_length w h kind fine table file (λ same. eqb-false (length file) bytes off.0 (same ∙ sym is))) in
      (ap (λ (s : Refusal). refused s 0) off.1 ∙ so.0, so.1)

  pub long_enough : {bytes : ℕ} → bytes ≡ card_bytes w h → admitted (eqb (length file) bytes else TableLength ∷ []) ≡ granted → length file ≡ card_bytes w h
  long_enough {bytes} is e = eqb-true (length file) bytes (guard_passed (eqb (length file) bytes) TableLength e) ∙ is

  module _ (size : length file ≡ card_bytes w h) where
    pub not_known : {r : Refusal} → known kind ≡ Err r → Written (refused r 0) file
    not_known e =
        let off = unknown_so kind e in
        let so = write_granted w h kind table file taken (no_kind w h kind fine table file size off.0) in
        (ap (λ (s : Refusal). refused s 0) off.1 ∙ so.0, so.1)

    module _ {k : Kind} (is : known kind ≡ Ok k) {t : Bool} (tells : Tells t (table ≡ due_by (by_square k) w h)) where
      of_kind : Tells t (table ≡ right_table w h kind)
      of_kind = subst (λ (by : Bool). Tells t (table ≡ due_by by w h)) (known_so kind is).1 tells

      pub not_right : {r : Refusal} → admitted (t else Departure ∷ []) ≡ Err r → Written (refused r 0) file
      not_right e =
          let off = guard_failed t Departure e in
          let so = write_granted w h kind table file taken (wrong_table w h kind fine table file size (known_so kind is).0 of_kind off.0) in
          (ap (λ (s : Refusal). refused s 0) off.1 ∙ so.0, so.1)

      pub all_written : admitted (t else Departure ∷ []) ≡ granted → {after : List ℕ} → after ≡ card_of w h kind table → Written (answered []) after
      all_written e is_card =
          let on = guard_passed t Departure e in
          write_granted w h kind table file taken (written_so w h kind fine table file size (known_so kind is).0 of_kind on
          (is_card ∙ ap (card_of w h kind) (of_kind.0 on)))

-- the reader
module _ (w h kind : ℕ) (file table : List ℕ) (taken : admitted (table_guards w h (length table)) ≡ granted) where
  abbrev pub Read : Figures → List ℕ → Type 0
  Read answer after = (answer ≡ read w h kind file table) × (after ≡ table_after w h kind file table)

  ready : accepted w h ≡ true
  ready = (table_granted w h (length table) taken).0

  pub bad_read : {bad : ℕ} → bad_block file ≡ Some bad → Read (refused_with BadCheck (bad ∷ [])) table
  bad_read there = read_granted w h kind file table taken (bad_told w h kind ready file table there)

  module _ (none : bad_block file ≡ None) where
    pub unknown_read : {r : Refusal} → known kind ≡ Err r → Read (read_figures (Err (Unreads.Refused r))) table
    unknown_read e =
        let off = unknown_so kind e in
        let so = read_granted w h kind file table taken (no_such_kind w h kind ready file table (no_bad file none) off.0) in
        (ap (λ (s : Refusal). read_figures (Err (Unreads.Refused s))) off.1 ∙ so.0, so.1)

    module _ {k : Kind} (is : known kind ≡ Ok k) {t : Bool} (tells : Tells t (file ≡ card w h kind)) where
      pub no_card_read : {r : Refusal} → admitted (t else Departure ∷ []) ≡ Err r → Read (read_figures (Err (Unreads.Refused r))) table
      no_card_read e =
          let off = guard_failed t Departure e in
          let so = read_granted w h kind file table taken (no_card w h kind ready file table (no_bad file none) (known_so kind is).0 tells off.0) in
          (ap (λ (s : Refusal). read_figures (Err (Unreads.Refused s))) off.1 ∙ so.0, so.1)

      pub is_there : admitted (t else Departure ∷ []) ≡ granted → Room file (w * h)
      is_there e = card_room w h ready kind file (tells.0 (guard_passed t Departure e))

      pub all_read : admitted (t else Departure ∷ []) ≡ granted → {after : List ℕ} → after ≡ table_in (words_of file) (length table)
          → Read (answered (0 ∷ [])) after
      all_read e copied =
          read_granted w h kind file table taken (read_so w h kind ready file table (no_bad file none) (known_so kind is).0 tells (guard_passed t Departure e)
          (copied ∙ ap (table_in (words_of file)) (table_granted w h (length table) taken).1))
