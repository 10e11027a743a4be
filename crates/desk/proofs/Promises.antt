-- What the desk's promises come to: two results that meet one are one, and a reader that repeats its first answer is turned away, as are wrong programs
-- for the small functions.
use mathlib.Core.Bool.{true, false, true≢false, false≢true}
use mathlib.Core.List.{List, [], ◌∷◌, ◌++◌}
use mathlib.Core.Path.{◌≡◌, ap}
use Prim.Native.Nat.{ℕ, ◌+◌, ◌≤◌}
use native.Mathlib.Omega.{arith}
use lib.ListN.{get_or, replicate}
use Rattle.terms.proofs.OneAnswer.{one_equation}
use Rattle.words.specs.Words.{all_digits, value_on, is_number, numeral, same_bytes}
use Rattle.fields.specs.Fields.{fields}
use Rattle.lines.specs.Lines.{shaped, request}
use Rattle.std.specs.Prelude.{None}
use Rattle.clerk.specs.Clerk.{Said, after, reply}
use Rattle.words.specs.Decimal.{decimal_by, decimal}
use Rattle.replies.specs.Text.{text, longest, Writes, if_room}
use Rattle.replies.proofs.Promises.{writes_one}
use Rattle.desk.specs.declared.Desk.{Desk}
use Rattle.desk.specs.Desk.{lines_of, answers, output}
use Rattle.desk.specs.Steps.{kept_bytes, none_kept, at_first, stopped, prints_last, Lent, Returned, Feeds}

-- Two results of `feed` that meet its promise are one: desk, bytes taken, output and bytes written. Of `finish`, `writes_one` says it.
pub feed_one : {d : Desk} {lent : Lent} {one other : Returned} → Feeds d lent one → Feeds d lent other → one ≡ other
feed_one f g =
    let text = writes_one f.written_is g.written_is in
    λ j. record {
      desk = one_equation f.desk_is g.desk_is j;
      taken = one_equation f.taken_is g.taken_is j;
      out = text.0 j;
      written = text.1 j;
    }

-- Turned away: a reader that answers its first line and gives every other line the same answer. For an empty line and then N 1 with no area the answers
-- are 6 and 7.
unfoldable pub repeated : Said → (n : ℕ) → List (List ℕ) → List ℕ
repeated said n [] = []
repeated said n (l ∷ ls) = text n said ++ repeated said (n + 1) ls

unfoldable pub first_repeated : List (List ℕ) → List ℕ
first_repeated [] = []
first_repeated (l ∷ ls) = repeated (reply None l) 1 (l ∷ ls)

pub repeats_its_first : ((input : List ℕ) → first_repeated (lines_of input) ≡ output input) → ⊥
unfolding first_repeated repeated output answers lines_of text decimal decimal_by reply after
    request shaped fields same_bytes numeral is_number all_digits value_on
repeats_its_first promise =
    let second : ◌≡◌ {A = ℕ} 54 55 = ap (λ (t : List ℕ). get_or t 22 0) (promise (10 ∷ 78 ∷ 32 ∷ 49 ∷ [])) in
    omega arith

-- Turned away, of `opened`: one that counts the lines from 0, and one that reads none.
pub counts_from_nothing : record { clerk = record { area = None }; line = 0; begun = none_kept; closed = false } ≡ at_first → ⊥
counts_from_nothing promise = let other : ◌≡◌ {A = ℕ} 0 1 = ap (λ (d : Desk). d.line) promise in omega arith

pub reads_none : record { clerk = record { area = None }; line = 1; begun = none_kept; closed = true } ≡ at_first → ⊥
reads_none promise = true≢false (ap (λ (d : Desk). d.closed) promise)

-- Turned away, of `closed`: one that leaves the desk reading, and one that closes it but forgets where it stood.
pub reads_on : ((d : Desk) → d ≡ stopped d) → ⊥
reads_on promise = false≢true (ap (λ (d : Desk). d.closed) (promise at_first))

pub begins_anew : ((d : Desk) → record { clerk = record { area = None }; line = 1; begun = none_kept; closed = true } ≡ stopped d) → ⊥
begins_anew promise =
    let second : Desk = record { clerk = record { area = None }; line = 2; begun = none_kept; closed = false } in
    let other : ◌≡◌ {A = ℕ} 1 2 = ap (λ (d : Desk). d.line) (promise second) in
    omega arith

-- Turned away, of `finish`: one that writes nothing, and one that takes an empty line for begun.
abbrev last_of : Desk → List ℕ
last_of d = if_room (replicate longest 0) 0 (prints_last d)

abbrev with_begun : ℕ → Desk
with_begun n = record { clerk = record { area = None }; line = 1; begun = record { bytes = replicate kept_bytes 0; count = n }; closed = false }

pub last_line_lost : ((d : Desk) → Writes (replicate longest 0) 0 (last_of d) (replicate longest 0) 0) → ⊥
unfolding text decimal decimal_by reply request shaped fields same_bytes
last_line_lost promise = let other : ◌≡◌ {A = ℕ} 0 12 = (promise (with_begun 1)).behind in omega arith

pub empty_line_answered : (after : List ℕ) (end : ℕ) → Writes (replicate longest 0) 0 (last_of at_first) after end → 1 ≤ end → ⊥
empty_line_answered after end promise some = let none : end ≡ 0 = promise.behind in omega arith
