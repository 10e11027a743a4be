-- A call on the table of a whole area: what its guards come to, and that refusal 9 never arises.
use mathlib.Core.Bool.{Bool, true, false, not}
use mathlib.Core.List.{List, [], ◌∷◌}
use mathlib.Core.Path.{◌≡◌, refl, sym, ap, ◌∙◌}
use Prim.Native.Nat.{ℕ, ◌+◌, ◌*◌}
use native.Mathlib.Omega.{arith}
use borrow.Author.Tests.{eq-eqb, ne_eqb, eqb-true, le-ltb}
use lib.Dec.{ltb, lit<}
use lib.ListN.{length}
use Rattle.terms.specs.declared.Refusal.{Refusal}
use Rattle.std.specs.Prelude.{Err}
use Rattle.terms.specs.Terms.{accepted, Figures, answered, refused, refused_with}
use Rattle.terms.specs.Guards.{Admission, granted, admitted, guarded, first}
use Rattle.terms.proofs.Limits.{limits, area_passed, both_accepted}
use Rattle.terms.proofs.Guards.{◌and◌, passed, answered_so, refused_first, untried}
use Rattle.terms.proofs.Refusals.{refusal_some}
use Rattle.division.specs.Division.{Block, whole, curve, blocks_holding, count}
use Rattle.division.proofs.Blocks.{at_most_54}
use Rattle.leaves.specs.Walk as Walks
use Rattle.leaves.proofs.Entries.{whole_fits}
use Rattle.tables.specs.Tables.{some_deep, table_guards, unless_refused}

none_counted : {X : Type 0} (f : X → Bool) (zs : List X) → ((z : X) → f z ≡ false) → count f zs ≡ 0
unfolding count
none_counted f [] h = refl
none_counted f (z ∷ zs) h = rw (h z) (ap (λ n. 0 + n) (none_counted f zs h))

-- no accepted area has a square that over 64 blocks hold
pub not_deep : (w h : ℕ) → accepted w h ≡ true → some_deep w h ≡ false
unfolding some_deep
not_deep w h ok =
    let all = limits w h ok in
    let none : count (λ s. ltb 64 (blocks_holding (whole w h) s)) (curve (whole w h)) ≡ 0 =
    none_counted (λ s. ltb 64 (blocks_holding (whole w h) s)) (curve (whole w h))
    (λ s. le-ltb 64 (blocks_holding (whole w h) s)
    (let few = at_most_54 w h all.w_least all.w_most all.h_least all.h_most s in omega arith)) in
    rw none

-- what a call on a table is answered, refused by its guards or granted
module _ (w h : ℕ) (t : List ℕ) (n : ℕ) (values : List ℕ) where
  pub table_refused : (r : Refusal) → admitted (table_guards w h (length t)) ≡ Err r → refused r n ≡ guarded (table_guards w h (length t)) n values
  table_refused r e = refused_first 4 (table_guards w h (length t)) n values refl r e

  pub taken : accepted w h ≡ true → length t ≡ w * h → guarded (table_guards w h (length t)) n values ≡ answered values
  taken ok size =
      let tests = area_passed w h ok in
      answered_so (table_guards w h (length t)) n values (tests.0 and tests.1 and eq-eqb (length t) (w * h) size and ap not (not_deep w h ok))

-- a table that is granted: its area is accepted, and it has w·h places
pub table_granted : (w h places : ℕ) → admitted (table_guards w h places) ≡ granted → (accepted w h ≡ true) × (places ≡ w * h)
table_granted w h places e =
    let tests = passed (table_guards w h places) e in
    (both_accepted w h tests.0 tests.1.0, eqb-true places (w * h) tests.1.1.0)

-- the guards as the code tries them: 9 holds where the others pass
pub refused_so : (w h places : ℕ) {k : Admission} → k ≡ admitted (first 3 (table_guards w h places)) → k ≡ admitted (table_guards w h places)
refused_so w h places is =
    untried (table_guards w h places) 3 (lit< tt) is (λ p. ap not (not_deep w h (both_accepted w h p.0 p.1.0)))

-- what is left of something lent: what is due where the call is answered, else what was there
module _ (f : Figures) (due before : List ℕ) where
  pub answered_left : f.refusal ≡ 0 → unless_refused f due before ≡ due
  unfolding unless_refused
  answered_left e = rw (eq-eqb f.refusal 0 e)

  pub refused_left : (f.refusal ≡ 0 → ⊥) → unless_refused f due before ≡ before
  unfolding unless_refused
  refused_left other = rw (ne_eqb f.refusal 0 other)

pub kept : (r : Refusal) (told : List ℕ) {f : Figures} (due before : List ℕ) → refused_with r told ≡ f → before ≡ unless_refused f due before
kept r told {f} due before e = sym (refused_left f due before (λ z. refusal_some r (ap (λ (g : Figures). g.refusal) e ∙ z)))

pub given : (values : List ℕ) {f : Figures} (due before : List ℕ) → f ≡ answered values → due ≡ unless_refused f due before
given values {f} due before e = sym (answered_left f due before (ap (λ (g : Figures). g.refusal) e))

-- the whole area is then a block that a walk can take
pub block_fits : (kind : Bool) (w h size : ℕ) → accepted w h ≡ true → size ≡ w * h → (k : Block) → k ≡ whole w h → {at : ℕ} → at ≡ 0
    → Walks.Fits kind w h size k at
block_fits kind w h size ok same k is begins =
    let all = limits w h ok in whole_fits kind w h size all.w_least all.w_most all.h_least all.h_most (omega arith) k is begins
