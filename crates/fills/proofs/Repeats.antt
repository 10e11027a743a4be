-- A part that a fill by number copies from the part that it repeats: what the copy asks, and that it leaves what a walk over the part would.
use mathlib.Core.Bool.{Bool, true, false}
use mathlib.Core.List.{List, map}
use mathlib.Core.Path.{◌≡◌, refl, sym, ap, ap₂, subst⁻¹, ◌∙◌}
use Prim.Native.Nat.{ℕ, ◌+◌, ◌*◌, ◌/◌, ◌%◌}
use native.Mathlib.Omega.{arith}
use lib.ListN.{length}
use Rattle.division.specs.declared.Choice.TheVariants.{LongCut, UCut}
use Rattle.division.specs.Division.{Block, even_half, First, Second, A, C, part, curve}
use Rattle.division.specs.Forms.{block}
use Rattle.leaves.specs.declared.Numbered.{Numbered}
use Rattle.leaves.specs.Walk.{place, filled_with, Fits}
use Rattle.leaves.proofs.PartByPart.{Cut, to_b, to_c, first_call, a_call}
use Rattle.copies.specs.Copies.{Held, Again}
use Rattle.copies.proofs.Entered.{over_held, held_on}
use Rattle.copies.proofs.Siblings.{second_again, c_again}

module _ (by_square : Bool) (by_number : by_square ≡ false) where
  -- a fill by number is a fill of the kind that is asked
  of_kind : (w : ℕ) (t : List ℕ) (k : Block) (at : ℕ) → filled_with false w t k at ≡ filled_with by_square w t k at
  of_kind w t k at = ap (λ b. filled_with b w t k at) (sym by_number)

  pub copied_so : (w : ℕ) (t : List ℕ) (k : Block) (at : ℕ) {s : List ℕ} → s ≡ filled_with false w t k at → s ≡ filled_with by_square w t k at
  copied_so w t k at is = is ∙ of_kind w t k at

  held_so : {kind : Bool} {w h : ℕ} (t : List ℕ) {s : List ℕ} {k : Block} {at : ℕ} → Fits kind w h (length t) k at
      → s ≡ filled_with by_square w t k at → Held w s k at
  held_so {w = w} t {k = k} {at} fits is = subst⁻¹ (λ (zs : List ℕ). Held w zs k at) (is ∙ sym (of_kind w t k at)) (over_held t fits)

  -- the long cut's second part
  module _ {kind : Bool} {w h : ℕ} (t : List ℕ) {k : Block} {at m : ℕ} (cut : Cut kind LongCut w h (length t) k at m) (p q : Numbered)
      (is_p : block p.placed ≡ part First k) (on_p : p.first ≡ at + 0) (is_q : block q.placed ≡ part Second k) (on_q : q.first ≡ at + even_half k.a * k.b) where
    pub second_asks : {s : List ℕ} → s ≡ filled_with by_square w t (block p.placed) p.first → length s ≡ length t → p.placed.a ≡ q.placed.a
        → Again w h s (block p.placed) p.first (block q.placed) q.first false
    second_asks first same equal = second_again cut p q is_p on_p is_q on_q same (held_so t (first_call cut refl p is_p on_p).1 first) equal

  -- the U cut's C, behind A and B
  module _ {kind : Bool} {w h : ℕ} (t : List ℕ) {k : Block} {at m : ℕ} (cut : Cut kind UCut w h (length t) k at m) (p q r : Numbered)
      (is_p : block p.placed ≡ part A k) (on_p : p.first ≡ at) (on_q : q.first ≡ to_b cut) (is_r : block r.placed ≡ part C k) (on_r : r.first ≡ to_c cut) where
    pub c_asks : {s s' : List ℕ} → s ≡ filled_with by_square w t (block p.placed) p.first → s' ≡ filled_with by_square w s (block q.placed) q.first
        → length s ≡ length t → length s' ≡ length s → k.a % 2 ≡ 0 → Again w h s' (block p.placed) p.first (block r.placed) r.first true
    unfolding part
    c_asks {s} {s'} first second same same' even =
        let here = (a_call cut refl p is_p on_p).1 in
        let room = here.room in
        let squares : p.placed.a * p.placed.b ≡ even_half k.b * (k.a / 2) = ap₂ ◌*◌ (ap (λ b. b.a) is_p) (ap (λ b. b.b) is_p) in
        c_again cut p r is_p on_p is_r on_r (same' ∙ same)
        (subst⁻¹ (λ (zs : List ℕ). Held w zs (block p.placed) p.first) (second ∙ sym (of_kind w s (block q.placed) q.first))
        (held_on w s (block p.placed) p.first q.first (map (place w) (curve (block q.placed))) (omega arith) (omega arith)
        (held_so t here first)))
        even
