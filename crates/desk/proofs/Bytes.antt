-- What a byte does, case by case: to a desk that reads no more, at a line 65,536, at a newline, at another byte, each with what is then printed. Before it,
-- what is written where there is room, and the bytes that are kept of a line.
use mathlib.Core.Bool.{true, false}
use mathlib.Core.List.{List, [], ◌∷◌, ◌++◌}
use mathlib.Core.Path.{◌≡◌, refl, sym, ap, subst, ◌∙◌}
use Prim.Native.Nat.{ℕ, zero, suc, ◌+◌, ◌≤◌, ◌<◌}
use native.Mathlib.Omega.{arith}
use borrow.Author.Tests.{le-leb, lt-leb, lt-ltb, le-ltb, eq-eqb, ne_eqb}
use lib.ListN.{length, take, drop, set}
use Rattle.std.proofs.lemmas.List.{length-take-le, set_split}
use Rattle.replies.specs.Text.{stop, longest, Writes, if_room}
use Rattle.desk.specs.declared.Begun.{Begun}
use Rattle.desk.specs.declared.Desk.{Desk}
use Rattle.desk.specs.Desk.{last_answered}
use Rattle.desk.specs.Steps.{kept_bytes, kept_of, one_more, with_byte, reply_text, stopped, behind_newline, longer, next_desk, prints}

-- where there is room, all is written
pub all_written : {t t' : List ℕ} {at end : ℕ} (bytes : List ℕ) → at + longest ≤ length t → Writes t at (if_room t at bytes) t' end → Writes t at bytes t' end
all_written {t} {t'} {at} {end} bytes room w = subst (λ (bs : List ℕ). Writes t at bs t' end) (rw (le-leb (at + longest) (length t) room)) w

-- the bytes of a line with one more, whatever stands behind them
one_behind : (n : ℕ) (xs : List ℕ) (b : ℕ) → take (suc n) (take n xs ++ (b ∷ drop (suc n) xs)) ≡ take n xs ++ (b ∷ [])
one_behind zero xs b = refl
one_behind (suc n) [] b = refl
one_behind (suc n) (x ∷ xs) b = ap (λ zs. x ∷ zs) (one_behind n xs b)

pub one_kept : (g : Begun) (b : ℕ) → kept_of (one_more g b) ≡ kept_of g ++ (b ∷ [])
one_kept g b =
    let on : g.count + 1 ≡ suc g.count = omega arith in
    ap (λ n. take n (one_more g b).bytes) on ∙ one_behind g.count g.bytes b

-- a byte set behind those that are kept, where there is room
pub byte_put : (g : Begun) (b : ℕ) → length g.bytes ≡ kept_bytes → g.count < kept_bytes
    → record { bytes = set g.bytes g.count b; count = g.count + 1 } ≡ with_byte g b
byte_put g b size l =
    let few = length-take-le g.count g.bytes (omega arith) in
    let room = lt-leb kept_bytes (length (kept_of g)) (omega arith) in
    rw room (λ j. record { bytes = set_split g.bytes g.count b (omega arith) j; count = g.count + 1 })

-- a byte, case by case
module _ (d : Desk) (b : ℕ) where
  abbrev Next : Desk → List ℕ → Type 0
  Next d' printed = (d' ≡ next_desk d b) × (printed ≡ prints d b)

  pub when_closed : d.closed ≡ true → Next d []
  when_closed o = (sym (rw o), sym (rw o))

  module _ (o : d.closed ≡ false) where
    pub at_the_stop : last_answered < d.line → Next (stopped d) (stop d.line)
    at_the_stop l = let past = lt-ltb last_answered d.line l in (sym (rw (o, past)), sym (rw (o, past)))

    module _ (l : d.line ≤ last_answered) where
      pub at_a_newline : b ≡ 10 → Next (behind_newline d) (reply_text d)
      at_a_newline e =
          let more = le-ltb last_answered d.line l in
          let newline = eq-eqb b 10 e in
          (sym (rw (o, more, newline)), sym (rw (o, more, newline)))

      pub at_a_byte : (b ≡ 10 → ⊥) → Next (longer d b) []
      at_a_byte e =
          let more = le-ltb last_answered d.line l in
          let other = ne_eqb b 10 e in
          (sym (rw (o, more, other)), sym (rw (o, more, other)))
