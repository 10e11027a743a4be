-- What a desk prints, byte by byte and piece by piece, is what the definition over the whole input says. At every byte, what is due of the rest of the
-- input is what the byte prints and what is due after it.
use mathlib.Core.Bool.{Bool, true, false, cond}
use mathlib.Core.List.{List, [], ◌∷◌, ◌++◌, append_assoc, append-nil}
use mathlib.Core.Path.{◌≡◌, refl, sym, ap, ap₂, subst, ◌∙◌}
use Prim.Native.Nat.{ℕ, ◌+◌, ◌≤◌, ◌<◌}
use native.Mathlib.Nat.{le_refl}
use native.Mathlib.Omega.{arith}
use borrow.Author.Tests.{ltb-true, ltb-false, leb-true, le-leb, lt-leb, eqb-true, eqb-false, eq-eqb, ne_eqb}
use lib.Dec.{leb, ltb, eqb}
use lib.ListN.{length, take, drop}
use lib.Seq.{take-append-le}
use Rattle.fields.specs.Fields.{onto}
use Rattle.clerk.specs.Clerk.{InForce, after, reply}
use Rattle.clerk.proofs.Promises.{reply_kept, after_kept}
use Rattle.replies.specs.Text.{text, stop, longest}
use Rattle.desk.specs.declared.Desk.{Desk}
use Rattle.desk.specs.Desk.{last_answered, lines_of, answers, output}
use Rattle.desk.specs.Steps.{kept_bytes, begun_line, at_first, next_desk, prints, prints_last, Result, still, onward, fed}
use Rattle.desk.specs.Pieces.{Printed, ended, closed, piece_fed}
use Rattle.desk.proofs.Feeding.{still_few, fed_few, fed_after}
use Rattle.desk.proofs.Bytes.{one_kept, when_closed, at_the_stop, at_a_newline, at_a_byte}

-- lines of which the first was begun before
joined : List ℕ → List (List ℕ) → List (List ℕ)
joined [] ls = ls
joined (x ∷ g) [] = (x ∷ g) ∷ []
joined (x ∷ g) (l ∷ ls) = ((x ∷ g) ++ l) ∷ ls

-- what is due of the rest of an input
abbrev pending : Desk → (rest : List ℕ) → List ℕ
pending d rest = cond d.closed [] (answers d.clerk.area d.line (joined (begun_line d) (lines_of rest)))

joined_byte : (g : List ℕ) (b : ℕ) (ls : List (List ℕ)) → joined g (onto b ls) ≡ joined (g ++ (b ∷ [])) ls
unfolding joined
joined_byte [] b [] = refl
joined_byte [] b (l ∷ ls) = refl
joined_byte (x ∷ g) b [] = refl
joined_byte (x ∷ g) b (l ∷ ls) = ap (λ zs. zs ∷ ls) (sym (append_assoc (x ∷ g) (b ∷ []) l))

joined_newline : (g : List ℕ) (ls : List (List ℕ)) → joined g ([] ∷ ls) ≡ g ∷ ls
unfolding joined
joined_newline [] ls = refl
joined_newline (x ∷ g) ls = ap (λ zs. zs ∷ ls) (append-nil (x ∷ g))

-- the first 65 bytes of a line decide
same_answers : (held : InForce) (n : ℕ) (l m : List ℕ) (ls : List (List ℕ)) → take kept_bytes l ≡ take kept_bytes m
    → answers held n (l ∷ ls) ≡ answers held n (m ∷ ls)
unfolding answers
same_answers held n l m ls e =
    ap₂ (λ s h. cond (leb n last_answered) (text n s ++ answers h (n + 1) ls) (stop n))
    (sym (reply_kept l held) ∙ ap (reply held) e ∙ reply_kept m held)
    (sym (after_kept l held) ∙ ap (after held) e ∙ after_kept m held)

-- a byte after the first 65 of a line changes nothing
long_enough : (held : InForce) (n : ℕ) (g : List ℕ) (b : ℕ) (ls : List (List ℕ)) → length g ≡ kept_bytes
    → answers held n (joined (g ++ (b ∷ [])) ls) ≡ answers held n (joined g ls)
unfolding joined
long_enough held n [] b ls e = absurd (omega arith)
long_enough held n (x ∷ g) b [] e =
    same_answers held n ((x ∷ g) ++ (b ∷ [])) (x ∷ g) []
    (take-append-le kept_bytes (x ∷ g) (b ∷ []) (omega arith))
long_enough held n (x ∷ g) b (l ∷ ls) e =
    same_answers held n ((x ∷ g) ++ (b ∷ []) ++ l) ((x ∷ g) ++ l) ls
    (ap (take kept_bytes) (append_assoc (x ∷ g) (b ∷ []) l)
    ∙ take-append-le kept_bytes (x ∷ g) ((b ∷ []) ++ l) (omega arith)
    ∙ sym (take-append-le kept_bytes (x ∷ g) l (omega arith)))

-- at line 65,536
past_last : (held : InForce) (n : ℕ) (l : List ℕ) (ls : List (List ℕ)) → last_answered < n → answers held n (l ∷ ls) ≡ stop n
unfolding answers
past_last held n l ls m = rw (lt-leb n last_answered m) refl

past_joined : (held : InForce) (n : ℕ) (g l : List ℕ) (ls : List (List ℕ)) → last_answered < n → answers held n (joined g (l ∷ ls)) ≡ stop n
unfolding joined
past_joined held n [] l ls m = past_last held n l ls m
past_joined held n (x ∷ g) l ls m = past_last held n ((x ∷ g) ++ l) ls m

past_onto : (held : InForce) (n : ℕ) (g : List ℕ) (b : ℕ) (ls : List (List ℕ)) → last_answered < n → answers held n (joined g (onto b ls)) ≡ stop n
past_onto held n g b [] m = past_joined held n g (b ∷ []) [] m
past_onto held n g b (l ∷ ls) m = past_joined held n g (b ∷ l) ls m

-- one byte
module _ (d : Desk) (b : ℕ) (rest : List ℕ) (few : length (begun_line d) ≤ kept_bytes) where
  abbrev Due : Type 0
  Due = pending d (b ∷ rest) ≡ prints d b ++ pending (next_desk d b) rest

  -- what is due after a byte, in the words of its case
  due_as : {d' : Desk} {printed : List ℕ} → (d' ≡ next_desk d b) × (printed ≡ prints d b) → pending d (b ∷ rest) ≡ printed ++ pending d' rest → Due
  due_as is e = e ∙ (λ j. is.1 j ++ pending (is.0 j) rest)

  byte_closed : d.closed ≡ true → Due
  byte_closed o = due_as (when_closed d b o) (rw o refl)

  byte_stop : d.closed ≡ false → last_answered < d.line → (t : Bool) → eqb b 10 ≡ t → Due
  unfolding lines_of
  byte_stop o l true e =
      due_as (at_the_stop d b o l)
      (rw (o, e) (past_joined d.clerk.area d.line (begun_line d) [] (lines_of rest) l ∙ sym (append-nil (stop d.line))))
  byte_stop o l false e =
      due_as (at_the_stop d b o l)
      (rw (o, e) (past_onto d.clerk.area d.line (begun_line d) b (lines_of rest) l ∙ sym (append-nil (stop d.line))))

  byte_newline : d.closed ≡ false → d.line ≤ last_answered → b ≡ 10 → Due
  unfolding lines_of answers joined
  byte_newline o l e =
      due_as (at_a_newline d b o l e)
      (rw (o, eq-eqb b 10 e)
      (ap (answers d.clerk.area d.line) (joined_newline (begun_line d) (lines_of rest)) ∙ rw (le-leb d.line last_answered l) refl))

  byte_kept : d.closed ≡ false → d.line ≤ last_answered → (b ≡ 10 → ⊥) → (t : Bool) → leb kept_bytes (length (begun_line d)) ≡ t → Due
  unfolding lines_of
  byte_kept o l e true m =
      let full = leb-true kept_bytes (length (begun_line d)) m in
      due_as (at_a_byte d b o l e)
      (rw (o, m, ne_eqb b 10 e)
      (ap (answers d.clerk.area d.line) (joined_byte (begun_line d) b (lines_of rest))
      ∙ long_enough d.clerk.area d.line (begun_line d) b (lines_of rest) (omega arith)))
  byte_kept o l e false m =
      due_as (at_a_byte d b o l e)
      (rw (o, m, ne_eqb b 10 e)
      (ap (answers d.clerk.area d.line)
      (joined_byte (begun_line d) b (lines_of rest) ∙ ap (λ g. joined g (lines_of rest)) (sym (one_kept d.begun b)))))

  -- at every byte, what is due is what it prints and what is due after it
  byte_due : Due
  byte_due = by d.closed refl
    where
      in_line : d.closed ≡ false → (t : Bool) → ltb last_answered d.line ≡ t → (u : Bool) → eqb b 10 ≡ u → Due
      in_line o true l u e = byte_stop o (ltb-true last_answered d.line l) (eqb b 10) refl
      in_line o false l true e = byte_newline o (ltb-false last_answered d.line l) (eqb-true b 10 e)
      in_line o false l false e = byte_kept o (ltb-false last_answered d.line l) (eqb-false b 10 e) (leb kept_bytes (length (begun_line d))) refl

      by : (t : Bool) → d.closed ≡ t → Due
      by true o = byte_closed o
      by false o = in_line o (ltb last_answered d.line) refl (eqb b 10) refl

-- a piece: what is due is what it printed and what is due of what it left
abbrev Left : Result → (d : Desk) (piece rest : List ℕ) → Type 0
Left r d piece rest = pending d (piece ++ rest) ≡ r.printed ++ pending r.desk (drop r.taken piece ++ rest)

piece_due : (d : Desk) (at size : ℕ) (piece rest : List ℕ) → length (begun_line d) ≤ kept_bytes → Left (fed d at size piece) d piece rest
unfolding fed
piece_due d at size [] rest few = refl
piece_due d at size (b ∷ bs) rest few =
    by (leb (at + longest) size) (piece_due (next_desk d b) (at + length (prints d b)) size bs rest (still_few d b few))
  where
    by : (t : Bool) → Left (fed_after d at size b bs) (next_desk d b) bs rest
        → Left (cond t (onward (prints d b) (fed_after d at size b bs)) (still d)) d (b ∷ bs) rest
    by false next = refl
    by true next =
        let r = fed_after d at size b bs in
        byte_due d b (bs ++ rest) few
        ∙ ap (λ zs. prints d b ++ zs) next
        ∙ sym (append_assoc (prints d b) r.printed (pending r.desk (drop r.taken bs ++ rest)))

-- the end of the input: a line that is begun, by its number
one_line : (held : InForce) (n : ℕ) (g : List ℕ) → 1 ≤ length g
    → answers held n (joined g []) ≡ cond (ltb last_answered n) (stop n) (text n (reply held g))
unfolding answers joined
one_line held n [] l = absurd (omega arith)
one_line held n (x ∷ g) l = by (ltb last_answered n) refl
  where
    by : (t : Bool) → ltb last_answered n ≡ t → answers held n ((x ∷ g) ∷ []) ≡ cond t (stop n) (text n (reply held (x ∷ g)))
    by true e = past_last held n (x ∷ g) [] (ltb-true last_answered n e)
    by false e = rw (le-leb n last_answered (ltb-false last_answered n e)) (append-nil (text n (reply held (x ∷ g))))

last_due : (d : Desk) → pending d [] ≡ prints_last d
unfolding lines_of joined answers
last_due d = ap (cond d.closed []) (by (begun_line d))
  where
    by : (g : List ℕ) → answers d.clerk.area d.line (joined g [])
        ≡ cond (eqb (length g) 0) [] (cond (ltb last_answered d.line) (stop d.line) (text d.line (reply d.clerk.area g)))
    by [] = refl
    by (x ∷ g) = rw (ne_eqb (length (x ∷ g)) 0 (λ e. omega arith)) (one_line d.clerk.area d.line (x ∷ g) (omega arith))

-- However an input comes, what is printed is what is due of it.
printed_due : {d : Desk} {input printed : List ℕ} → Printed d input printed → length (begun_line d) ≤ kept_bytes → printed ≡ pending d input
printed_due (ended d) few = sym (last_due d)
printed_due (closed d input o) few = sym (rw o)
printed_due (piece_fed d at size piece rest printed feeding) few =
    ap (λ zs. (fed d at size piece).printed ++ zs) (printed_due feeding (fed_few d at size piece few))
    ∙ sym (piece_due d at size piece rest few)

-- From the first byte on it is what the definition over the whole input says, so it does not depend on how the input was cut.
pub whole_printed : {input printed : List ℕ} → Printed at_first input printed → printed ≡ output input
unfolding output joined
whole_printed feeding = printed_due feeding (omega arith)

pub however_cut : {input one other : List ℕ} → Printed at_first input one → Printed at_first input other → one ≡ other
however_cut feeding feeding' = whole_printed feeding ∙ sym (whole_printed feeding')

-- Every input has a feeding, so that the theorems above are about something: byte by byte, into an output of any size that has room for the longest text.
module _ (size : ℕ) (room : longest ≤ size) where
  one_taken : (d : Desk) (b : ℕ) → (fed d 0 size (b ∷ [])).taken ≡ 1
  unfolding fed
  one_taken d b = rw (le-leb (0 + longest) size room) refl

  byte_by_byte : (d : Desk) (input : List ℕ) → (printed : List ℕ) × Printed d input printed
  byte_by_byte d [] = (prints_last d, ended d)
  byte_by_byte d (b ∷ rest) =
      let r = fed d 0 size (b ∷ []) in
      let on = byte_by_byte r.desk rest in
      let left : rest ≡ drop r.taken (b ∷ []) ++ rest = ap (λ n. drop n (b ∷ []) ++ rest) (sym (one_taken d b)) in
      (r.printed ++ on.0, piece_fed d 0 size (b ∷ []) rest on.0 (subst (λ (zs : List ℕ). Printed r.desk zs on.0) left on.1))

pub every_input : (input : List ℕ) → Printed at_first input (output input)
every_input input =
    let feeding = byte_by_byte longest (le_refl longest) at_first input in
    subst (λ (zs : List ℕ). Printed at_first input zs) (whole_printed feeding.1) feeding.1
