-- A piece, byte by byte: what is due of the whole piece is what was printed so far, and what is due of the rest from the desk as it stands.
use mathlib.Core.Bool.{Bool, true, false, cond}
use mathlib.Core.List.{List, [], ◌∷◌, ◌++◌, append_assoc, append-nil}
use mathlib.Core.Path.{◌≡◌, refl, sym, ap, subst, ◌∙◌}
use Prim.Native.Nat.{ℕ, suc, ◌+◌, ◌-◌, ◌≤◌, ◌<◌}
use native.Mathlib.Nat.{add-zero, zero-add}
use native.Mathlib.Omega.{arith}
use borrow.Author.Tests.{leb-true, leb-false, le-leb, lt-leb}
use borrow.Rule.Slice.PartMut.{put_mid}
use lib.Dec.{leb, ltb, eqb}
use lib.ListN.{length, length-append, length-drop, get_or, take, drop, drop_of_length-le}
use lib.Seq.{drop-cons}
use Rattle.std.proofs.lemmas.List.{take_rest}
use Rattle.replies.specs.Text.{longest, Writes}
use Rattle.replies.proofs.Writing.{writes_both, writes_length, writes_as, writes_rest}
use Rattle.desk.specs.declared.Desk.{Desk}
use Rattle.desk.specs.Desk.{last_answered}
use Rattle.desk.specs.Steps.{kept_bytes, one_more, begun_line, stopped, behind_newline, next_desk, prints}
use Rattle.desk.specs.Steps.{Result, still, onward, fed, Lent, Returned, Feeds}
use Rattle.desk.proofs.Bytes.{one_kept}

-- n bytes taken and some text printed before a result
abbrev before : ℕ → List ℕ → Result → Result
before n first r = record { desk = r.desk; taken = n + r.taken; printed = first ++ r.printed }

before_none : (r : Result) → before 0 [] r ≡ r
before_none r = λ j. record { desk = r.desk; taken = zero-add r.taken j; printed = r.printed }

before_onward : (n : ℕ) (xs ys : List ℕ) (r : Result) → before n xs (onward ys r) ≡ before (n + 1) (xs ++ ys) r
before_onward n xs ys r =
    let count : n + suc r.taken ≡ n + 1 + r.taken = omega arith in
    λ j. record { desk = r.desk; taken = count j; printed = sym (append_assoc xs ys r.printed) j }

-- one byte of a piece, and those after it
abbrev pub fed_after : Desk → (at size b : ℕ) → List ℕ → Result
fed_after d at size b bytes = fed (next_desk d b) (at + length (prints d b)) size bytes

pub fed_byte : (d : Desk) (at size : ℕ) (chunk : List ℕ) (i : ℕ) → i < length chunk → leb (at + longest) size ≡ true
    → (let b = get_or chunk i 0 in fed d at size (drop i chunk) ≡ onward (prints d b) (fed_after d at size b (drop (i + 1) chunk)))
unfolding fed
fed_byte d at size chunk i l room =
    let on : i + 1 ≡ suc i = omega arith in
    rw on (rw (drop-cons chunk i 0 l) (rw room refl))

fed_full : (d : Desk) (at size : ℕ) (chunk : List ℕ) (i : ℕ) → i < length chunk → leb (at + longest) size ≡ false
    → fed d at size (drop i chunk) ≡ still d
unfolding fed
fed_full d at size chunk i l room = rw (drop-cons chunk i 0 l) (rw room refl)

fed_end : (d : Desk) (at size : ℕ) (chunk : List ℕ) (i : ℕ) → length chunk ≤ i → fed d at size (drop i chunk) ≡ still d
unfolding fed
fed_end d at size chunk i l = rw (drop_of_length-le chunk l) refl

-- no more of a line is kept than what decides
pub still_few : (d : Desk) (b : ℕ) → length (begun_line d) ≤ kept_bytes → length (begun_line (next_desk d b)) ≤ kept_bytes
still_few d b few = by d.closed (ltb last_answered d.line) (eqb b 10) (leb kept_bytes (length (begun_line d))) refl
  where
    by : (o s e f : Bool) → leb kept_bytes (length (begun_line d)) ≡ f
        → (let more : Desk = record { clerk = d.clerk; line = d.line; begun = cond f d.begun (one_more d.begun b); closed = d.closed } in
        length (begun_line (cond o d (cond s (stopped d) (cond e (behind_newline d) more)))) ≤ kept_bytes)
    by true s e f p = few
    by false true e f p = few
    by false false true f p = omega arith
    by false false false true p = few
    by false false false false p =
        let one = ap length (one_kept d.begun b) ∙ length-append (begun_line d) (b ∷ []) in
        let less = leb-false kept_bytes (length (begun_line d)) p in
        omega arith

pub fed_few : (d : Desk) (at size : ℕ) (bytes : List ℕ) → length (begun_line d) ≤ kept_bytes → length (begun_line (fed d at size bytes).desk) ≤ kept_bytes
unfolding fed
fed_few d at size [] few = few
fed_few d at size (b ∷ bs) few = by (leb (at + longest) size) (fed_few (next_desk d b) (at + length (prints d b)) size bs (still_few d b few))
  where
    by : (t : Bool) → length (begun_line (fed_after d at size b bs).desk) ≤ kept_bytes
        → length (begun_line (cond t (onward (prints d b) (fed_after d at size b bs)) (still d)).desk) ≤ kept_bytes
    by true next = next
    by false next = few

-- room in what is left of an output, in numbers
pub room_left : (t : List ℕ) (p : ℕ) → p ≤ length t → leb longest (length (take (length t - p) (drop p t))) ≡ leb (p + longest) (length t)
room_left t p l = rw (take_rest t p) (by (leb (p + longest) (length t)) refl)
  where
    by : (b : Bool) → leb (p + longest) (length t) ≡ b → leb longest (length (drop p t)) ≡ b
    by true e = let room = leb-true (p + longest) (length t) e in le-leb longest (length (drop p t)) (omega (arith, length-drop p t))
    by false e = let none = leb-false (p + longest) (length t) e in lt-leb longest (length (drop p t)) (omega (arith, length-drop p t))

-- where a piece stands: begun with desk d₀ and an output, and now with d, its first i bytes taken, and the output written up to p
pub record Midway (d₀ : Desk) (chunk out₀ out : List ℕ) (d : Desk) (i p : ℕ) : Type 0 where
  pub printed : List ℕ
  pub written : Writes out₀ 0 printed out p
  pub size : length out ≡ length out₀
  pub fits : p ≤ length out₀
  pub due : fed d₀ 0 (length out₀) chunk ≡ before i printed (fed d p (length out₀) (drop i chunk))

module _ {d₀ : Desk} {chunk out₀ out : List ℕ} {d : Desk} {i p : ℕ} (m : Midway d₀ chunk out₀ out d i p) where
  abbrev rest : List ℕ
  rest = take (length out - p) (drop p out)

  room_in : (b : Bool) → leb longest (length rest) ≡ b → leb (p + longest) (length out₀) ≡ b
  room_in b e =
      let fits = m.fits in
      let size = m.size in
      subst (λ (n : ℕ). leb (p + longest) n ≡ b) m.size (sym (room_left out p (omega arith)) ∙ e)

  -- one byte on
  pub one_on : i < length chunk → leb longest (length rest) ≡ true → {d' : Desk} {rest' : List ℕ} {n : ℕ} → d' ≡ next_desk d (get_or chunk i 0)
      → Writes rest 0 (prints d (get_or chunk i 0)) rest' n → n ≤ longest
      → Midway d₀ chunk out₀ (put_mid p (length out - p) out rest') d' (i + 1) (p + n)
  one_on l room {rest' = rest'} {n} desk_is w few =
      let b = get_or chunk i 0 in
      let space = leb-true (p + longest) (length out₀) (room_in true room) in
      let size = m.size in
      let all : Writes out p (prints d b) (put_mid p (length out - p) out rest') (p + n) = writes_rest (omega arith) w in
      record {
        printed = m.printed ++ prints d b;
        written = writes_both m.written all;
        size = writes_length all ∙ m.size;
        fits = omega arith;
        due =
            m.due
            ∙ ap (before i m.printed) (fed_byte d p (length out₀) chunk i l (room_in true room))
            ∙ before_onward i m.printed (prints d b) (fed_after d p (length out₀) b (drop (i + 1) chunk))
            ∙ ap (before (i + 1) (m.printed ++ prints d b)) (λ j. fed (sym desk_is j) (sym all.behind j) (length out₀) (drop (i + 1) chunk));
      }

  -- where it stops
  abbrev started : Lent
  started = record { chunk = chunk; out = out₀ }

  abbrev stands : Returned
  stands = record { desk = d; taken = i; out = out; written = p }

  left : fed d p (length out₀) (drop i chunk) ≡ still d → Feeds d₀ started stands
  left e =
      let all = m.due ∙ ap (before i m.printed) e in
      record {
        desk_is = sym (ap (λ (r : Result). r.desk) all);
        taken_is = sym (ap (λ (r : Result). r.taken) all ∙ add-zero i);
        written_is = writes_as (sym (ap (λ (r : Result). r.printed) all ∙ append-nil m.printed)) m.written;
      }

  pub no_room_left : i < length chunk → leb longest (length rest) ≡ false → Feeds d₀ started stands
  no_room_left l room = left (fed_full d p (length out₀) chunk i l (room_in false room))

  pub no_byte_left : length chunk ≡ i → Feeds d₀ started (record { desk = d; taken = length chunk; out = out; written = p })
  no_byte_left e = rw e (left (fed_end d p (length out₀) chunk i (omega arith)))
