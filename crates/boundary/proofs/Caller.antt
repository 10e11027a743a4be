-- What the line call returns and hands back: the refusal's number or 0, and four numbers that give the clerk that the line left. So a caller from C that
-- hands them on reads the clerk's own replies to lines in order.
use mathlib.Core.List.{List, [], ◌∷◌, ◌++◌, map}
use mathlib.Core.Path.{◌≡◌, refl, sym, ap, ap₂, ◌∙◌}
use Prim.Native.Nat.{ℕ, ◌≤◌}
use native.Mathlib.Omega.{arith}
use borrow.Author.Tests.{le-leb}
use lib.IntN.{ℤ, pos}
use lib.ListN.{length, drop, replicate}
use Rattle.terms.specs.declared.Area.{Area}
use Rattle.terms.specs.declared.Refusal.{Refusal}
use Rattle.terms.specs.Terms.{accepted, refusal_number}
use Rattle.terms.proofs.Refusals.{refusal_not_0}
use Rattle.clerk.specs.declared.Handled.{Handled}
use Rattle.clerk.specs.declared.Reply.{Reply}
use Rattle.clerk.specs.declared.Reply.TheVariants.{AreaSet, OriginSet, Cell, Number}
use Rattle.std.specs.Prelude.{Result, Some, None, Ok, Err}
use Rattle.clerk.specs.Clerk.{InForce, Word, said, refuses, clerk_under, counted, after, reply}
use Rattle.clerk.specs.Clerk as words
use Rattle.clerk.proofs.InForce.{left_counts}
use Rattle.clerk.proofs.Areas.{set_in_force}
use Rattle.boundary.specs.Handling.{area_of, refusal_said, handled_figures, handled_by}
use Rattle.boundary.specs.Calls.{Outcome}
use Rattle.boundary.specs.Caller.{area_kept, line_from, got, read_off, replies, Handles, no_lines, one_more}

-- "What a call returns: 0, or the number of a refusal": the reply's.
pub refusal_returned : (held : InForce) (line : List ℕ) (r : Refusal) → reply held line ≡ refuses r → (handled_by held line).refusal ≡ refusal_number r
refusal_returned held line r e = ap (λ s. refusal_said s.word s.numbers) e

pub answered_returns_0 : (held : InForce) (line : List ℕ) → ((reply held line).word ≡ words.Refused → ⊥) → (handled_by held line).refusal ≡ 0
answered_returns_0 held line n = by (reply held line).word refl
  where
    by : (word : Word) → (reply held line).word ≡ word → refusal_said (reply held line).word (reply held line).numbers ≡ 0
    by words.AreaSaid e = ap (λ word. refusal_said word (reply held line).numbers) e
    by words.OriginSaid e = ap (λ word. refusal_said word (reply held line).numbers) e
    by words.Cell e = ap (λ word. refusal_said word (reply held line).numbers) e
    by words.Number e = ap (λ word. refusal_said word (reply held line).numbers) e
    by words.Refused e = absurd (n e)

-- Four numbers give the clerk back that they were told of: "0 each for none", and any other counts as it does.
pub told_back : (held : InForce) → clerk_under (area_of held) ≡ counted held
unfolding accepted
told_back None = refl
told_back (Some area) = refl

-- So those that a line hands back give the clerk that the line left.
pub left_told_back : (held : InForce) (line : List ℕ) → clerk_under (area_of (after held line)) ≡ after held line
left_told_back held line = told_back (after held line) ∙ left_counts held line

-- What a call with room leaves, of a reply and the area then in force, before the rest of the slice.
abbrev told : Area → Result Reply Refusal → (rest : List ℤ) → Outcome ℤ
told area r rest = let f = handled_figures area (said r) in record { returned = f.refusal; values = f.values ++ rest }

-- an AREA reply's width and height are those of the area then in force
abbrev Sets : Area → Result Reply Refusal → Type 0
Sets area (Ok (AreaSet w h squares x y)) = (area.w ≡ w) × (area.h ≡ h)
Sets area (Ok (OriginSet ox oy)) = Unit
Sets area (Ok (Cell x y blocks)) = Unit
Sets area (Ok (Number number blocks)) = Unit
Sets area (Err r) = Unit

reply_sets : (held : InForce) (line : List ℕ) (r : Result Reply Refusal) → said r ≡ reply held line → Sets (area_of (after held line)) r
reply_sets held line (Ok (AreaSet w h squares x y)) e =
    let set = set_in_force held line w h (pos squares ∷ x ∷ y ∷ []) (sym e) in
    (ap (λ k. (area_of k).w) set, ap (λ k. (area_of k).h) set)
reply_sets held line (Ok (OriginSet ox oy)) e = tt
reply_sets held line (Ok (Cell x y blocks)) e = tt
reply_sets held line (Ok (Number number blocks)) e = tt
reply_sets held line (Err r) e = tt

module _ (area : Area) (rest : List ℤ) where
  read_back : (r : Result Reply Refusal) → Sets area r → read_off (told area r rest) ≡ said r
  read_back (Ok (AreaSet w h squares x y)) set = ap₂ (λ w h. words.says words.AreaSaid (pos w ∷ pos h ∷ pos squares ∷ x ∷ y ∷ [])) set.0 set.1
  read_back (Ok (OriginSet ox oy)) set = refl
  read_back (Ok (Cell x y blocks)) set = refl
  read_back (Ok (Number number blocks)) set = refl
  read_back (Err r) set = rw (refusal_not_0 r) refl

  room_left : (r : Result Reply Refusal) → 8 ≤ length (told area r rest).values
  room_left (Ok (AreaSet w h squares x y)) = omega arith
  room_left (Ok (OriginSet ox oy)) = omega arith
  room_left (Ok (Cell x y blocks)) = omega arith
  room_left (Ok (Number number blocks)) = omega arith
  room_left (Err r) = omega arith

-- A line's call is that, of the reply and the clerk that `handle` hands back.
line_told : (slice : List ℤ) → 8 ≤ length slice → (line : List ℕ) (done : Handled) {held : InForce} → clerk_under (area_kept slice) ≡ held
    → (done.clerk.area ≡ after held line) × (said done.reply ≡ reply held line)
    → line_from slice line ≡ told (area_of (after held line)) done.reply (drop 8 slice)
line_told slice room line done {held} is both =
    rw (le-leb 8 (length slice) room)
    (ap (λ f. record { returned = f.refusal; values = f.values ++ drop 8 slice })
    (ap (λ k. handled_by k line) is ∙ ap (handled_figures (area_of (after held line))) (sym both.1)))

reads_by : (slice : List ℤ) → 8 ≤ length slice → {held : InForce} {lines : List (List ℕ)} {all : List Handled} → clerk_under (area_kept slice) ≡ held
    → Handles held lines all → map read_off (got slice lines) ≡ replies held lines
unfolding got replies
reads_by slice room is no_lines = refl
reads_by slice room {held} is (one_more {lines = lines} line done both handles) =
    let call = line_told slice room line done is both in
    let area = area_of (after held line) in
    let behind = drop 8 slice in
    let read = ap read_off call ∙ read_back area behind done.reply (reply_sets held line done.reply both.1) ∙ both.1 in
    let left : 8 ≤ length (line_from slice line).values = omega (arith, ap (λ o. length o.values) call, room_left area behind done.reply) in
    let next = ap (λ o. clerk_under (area_kept o.values)) call ∙ left_told_back held line ∙ sym both.0 in
    ap₂ ◌∷◌ read (reads_by (line_from slice line).values left next handles ∙ ap (λ k. replies k lines) both.0)

-- A caller with eight places or more, whatever they hold, reads what the clerk under its four numbers replies to lines in order.
pub reads_the_replies : (slice : List ℤ) → 8 ≤ length slice → (lines : List (List ℕ)) (all : List Handled) → Handles (clerk_under (area_kept slice)) lines all
    → map read_off (got slice lines) ≡ replies (clerk_under (area_kept slice)) lines
reads_the_replies slice room lines all handles = reads_by slice room refl handles

-- "begins with 0 each for none": from eight places of 0 on, what a clerk replies with no area in force at the start.
pub reads_from_none : (lines : List (List ℕ)) (all : List Handled) → Handles None lines all
    → map read_off (got (replicate 8 (pos 0)) lines) ≡ replies None lines
unfolding accepted
reads_from_none lines all handles = reads_by (replicate 8 (pos 0)) (omega arith) refl handles
