-- What the clerk's promise comes to: two replies that meet it are one, and the first 65 bytes of a line decide; and a clerk with one answer for all lines,
-- one that keeps a former area, one that keeps a former origin, one without an area and one that takes any area are turned away.
use mathlib.Core.Bool.{Bool, true, false, ◌||◌}
use mathlib.Core.List.{List, []}
use mathlib.Core.Path.{◌≡◌, refl, ap, ap₂, ◌∙◌}
use Prim.Native.Nat.{ℕ}
use native.Mathlib.Omega.{arith}
use borrow.Author.Tests.{lt-leb, leb-true, leb-false}
use lib.Dec.{leb, lit≤}
use lib.IntN.{ℤ, pos, nat_abs}
use lib.ListN.{length, take, length-take}
use lib.Seq.{take-take, take_all}
use Rattle.terms.specs.declared.Area.{Area}
use Rattle.terms.specs.declared.Refusal.{Refusal}
use Rattle.terms.specs.Terms.{accepted, origin_accepted, at_post}
use Rattle.terms.proofs.Refusals.{named, named_back}
use Rattle.terms.proofs.OneAnswer.{one_equation, by_figures}
use Rattle.words.specs.Words.{begins, all_digits, value_on, is_number, numeral, same_bytes}
use Rattle.words.specs.Letters.{bytes}
use Rattle.words.specs.Signed.{signed_numeral}
use Rattle.fields.specs.Fields.{fields}
use Rattle.lines.specs.Lines.{AREA, ORIGIN, shaped, request}
use Rattle.clerk.specs.declared.Handled.{Handled}
use Rattle.clerk.specs.declared.Reply.{Reply}
use Rattle.clerk.specs.declared.Reply.TheVariants.{AreaSet, OriginSet, Cell, Number}
use Rattle.std.specs.Prelude.{Some, None, Result, Ok, Err}
use Rattle.clerk.specs.Clerk as spec
use Rattle.clerk.proofs.Handling.{nth_number}

-- the reply of what is said
of_word : spec.Word → (v : ℕ → ℤ) (n : ℕ → ℕ) → Result Reply Refusal
of_word spec.AreaSaid v n = Ok (AreaSet (n 0) (n 1) (n 2) (v 3) (v 4))
of_word spec.OriginSaid v n = Ok (OriginSet (v 0) (v 1))
of_word spec.Cell v n = Ok (Cell (v 0) (v 1) (n 2))
of_word spec.Number v n = Ok (Number (n 0) (n 1))
of_word spec.Refused v n = Err (named (n 0))

of_said : spec.Said → Result Reply Refusal
of_said s = of_word s.word (λ i. nth_number i s) (λ i. nat_abs (nth_number i s))

said_back : (r : Result Reply Refusal) → of_said (spec.said r) ≡ r
unfolding of_said of_word
said_back (Ok (AreaSet w h squares x y)) = refl
said_back (Ok (OriginSet ox oy)) = refl
said_back (Ok (Cell x y blocks)) = refl
said_back (Ok (Number number blocks)) = refl
said_back (Err r) = ap Err (named_back r)

reply_one : (r s : Result Reply Refusal) {d : spec.Said} → spec.said r ≡ d → spec.said s ≡ d → r ≡ s
reply_one = by_figures spec.said of_said said_back

-- Two results that meet the promise of `handle` are one, clerk and reply.
pub handled_one : (r s : Handled) {area : spec.InForce} {said : spec.Said} → (r.clerk.area ≡ area) × (spec.said r.reply ≡ said)
    → (s.clerk.area ≡ area) × (spec.said s.reply ≡ said) → r ≡ s
handled_one r s p q = λ i. record { clerk = record { area = one_equation p.0 q.0 i }; reply = reply_one r.reply s.reply p.1 q.1 i }

-- A line's first 65 bytes decide: what lies beyond them need not be kept.
module _ (line : List ℕ) where
  request_by : (t : Bool) → leb (length line) 65 ≡ t → request (take 65 line) ≡ request line
  unfolding request
  request_by true e = ap request (take_all 65 line (leb-true (length line) 65 e))
  request_by false e =
      let long = leb-false (length line) 65 e in
      let size = length-take 65 line in
      rw (lt-leb (length (take 65 line)) 64 (omega arith), lt-leb (length line) 64 (omega arith)) refl

  request_kept : request (take 65 line) ≡ request line
  request_kept = request_by (leb (length line) 65) refl

  pub reply_kept : (clerk : spec.InForce) → spec.reply clerk (take 65 line) ≡ spec.reply clerk line
  unfolding spec.reply
  reply_kept clerk = ap (spec.reply_to (spec.counted clerk)) request_kept

  pub after_kept : (clerk : spec.InForce) → spec.after clerk (take 65 line) ≡ spec.after clerk line
  unfolding spec.after
  after_kept clerk =
      let held = spec.counted clerk in
      ap₂ (λ first q. spec.clerk_after held (same_bytes first AREA || begins (take 65 line) ORIGIN) q) (take-take 4 65 line (lit≤ tt)) request_kept
      ∙ ap (λ first. spec.clerk_after held (begins line AREA || same_bytes first ORIGIN) (request line)) (take-take 6 65 line (lit≤ tt))

-- Turned away: a clerk with one answer for all lines. An empty line is refusal 6, and N 1 with no area 7.
pub repeats_one_answer : (always : spec.Said) → ((clerk : spec.InForce) (line : List ℕ) → always ≡ spec.reply clerk line) → ⊥
unfolding spec.reply request shaped fields same_bytes numeral is_number all_digits value_on
repeats_one_answer always promise =
    let six : nat_abs (nth_number 0 always) ≡ 6 = ap (λ s. nat_abs (nth_number 0 s)) (promise None []) in
    let seven : nat_abs (nth_number 0 always) ≡ 7 = ap (λ s. nat_abs (nth_number 0 s)) (promise None (bytes "N 1")) in
    omega arith

-- Turned away: a clerk that keeps the former area after a refused AREA line, here AREA 0 4.
pub keeps_the_former : ((clerk : spec.InForce) (line : List ℕ) → begins line AREA ≡ true → clerk ≡ spec.after clerk line) → ⊥
unfolding spec.after request shaped fields same_bytes numeral is_number all_digits value_on accepted
keeps_the_former promise = cc (promise (Some (at_post 3 4)) (bytes "AREA 0 4") refl)

-- So one that keeps it after a refused ORIGIN line, here ORIGIN 1000001 0, and one whose AREA line keeps the former origin.
pub keeps_it_at_origin : ((clerk : spec.InForce) (line : List ℕ) → begins line ORIGIN ≡ true → clerk ≡ spec.after clerk line) → ⊥
unfolding spec.after request shaped fields same_bytes signed_numeral numeral is_number all_digits value_on accepted origin_accepted
keeps_it_at_origin promise = cc (promise (Some (at_post 3 4)) (bytes "ORIGIN 1000001 0") refl)

abbrev east : spec.InForce → ℕ
east None = 0
east (Some area) = nat_abs area.ox

pub keeps_the_origin : ((area : Area) (line : List ℕ) → begins line AREA ≡ true → east (Some area) ≡ east (spec.after (Some area) line)) → ⊥
unfolding spec.after request shaped fields same_bytes numeral is_number all_digits value_on accepted origin_accepted
keeps_the_origin promise =
    let other : ◌≡◌ {A = ℕ} 5 0 = promise (record { w = 3; h = 4; ox = pos 5; oy = pos 0 }) (bytes "AREA 3 4") refl in
    omega arith

-- Turned away: a clerk that never has an area in force, and one that takes any area, 0 by 0 too.
pub never_in_force : ((area : Area) → None ≡ spec.clerk_under area) → ⊥
unfolding accepted origin_accepted
never_in_force promise = cc (promise (at_post 1 1))

-- and one that takes any origin
pub any_origin_in_force : ((area : Area) → accepted area.w area.h ≡ true → Some area ≡ spec.clerk_under area) → ⊥
unfolding accepted origin_accepted
any_origin_in_force promise = cc (promise (record { w = 3; h = 4; ox = pos 1000001; oy = pos 0 }) refl)

pub any_area_in_force : ((area : Area) → Some area ≡ spec.clerk_under area) → ⊥
unfolding accepted
any_area_in_force promise = cc (promise (at_post 0 0))
