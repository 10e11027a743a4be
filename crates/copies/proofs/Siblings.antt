-- The parts that repeat one: the long cut's second, where it is as long as the first, the same way; the U cut's C, where the run is even, A turned round.
use Rattle.std.proofs.Common.{◌≡◌, ℕ, ◌+◌, ◌-◌, ◌*◌, ◌/◌, ◌%◌, Bool, true, false, List, length, sym, ap, ◌∙◌, ap₂, arith, refl}
use Rattle.division.specs.declared.Choice.TheVariants.{LongCut, UCut}
use Rattle.division.specs.Division.{Block, against, even_half, First, Second, A, C, part}
use Rattle.division.specs.Forms.{block}
use Rattle.leaves.specs.declared.Numbered.{Numbered}
use Rattle.leaves.proofs.PartByPart.{Cut, by_number_fits, to_c, first_call, second_call, a_call, c_call}
use Rattle.copies.specs.Copies.{Held, Again}

module _ {kind : Bool} {w h size : ℕ} {k : Block} {at m : ℕ} (cut : Cut kind LongCut w h size k at m) (p q : Numbered)
    (is_p : block p.placed ≡ part First k) (on_p : p.first ≡ at + 0) (is_q : block q.placed ≡ part Second k) (on_q : q.first ≡ at + even_half k.a * k.b) where
  pub second_again : {t' : List ℕ} → length t' ≡ size → Held w t' (block p.placed) p.first → p.placed.a ≡ q.placed.a
      → Again w h t' (block p.placed) p.first (block q.placed) q.first false
  unfolding part
  second_again same held equal =
      let p_b : p.placed.b ≡ k.b = ap (λ b. b.b) is_p in
      let q_b : q.placed.b ≡ k.b = ap (λ b. b.b) is_q in
      let area : p.placed.a * p.placed.b ≡ even_half k.a * k.b = ap₂ ◌*◌ (ap (λ b. b.a) is_p) p_b in
      record {
        fits = by_number_fits (second_call cut same q is_q on_q).1;
        inside = (first_call cut refl p is_p on_p).1.inside;
        held = held;
        before = omega arith;
        same_a = sym equal;
        same_b = q_b ∙ sym p_b;
        run = ap (λ b. b.run) is_q ∙ sym (ap (λ b. b.run) is_p);
        side = ap (λ b. b.side) is_q ∙ sym (ap (λ b. b.side) is_p);
      }

module _ {kind : Bool} {w h size : ℕ} {k : Block} {at m : ℕ} (cut : Cut kind UCut w h size k at m) (p r : Numbered)
    (is_p : block p.placed ≡ part A k) (on_p : p.first ≡ at) (is_r : block r.placed ≡ part C k) (on_r : r.first ≡ to_c cut) where
  pub c_again : {t' : List ℕ} → length t' ≡ size → Held w t' (block p.placed) p.first → k.a % 2 ≡ 0
      → Again w h t' (block p.placed) p.first (block r.placed) r.first true
  unfolding part
  c_again same held even =
      let p_a : p.placed.a ≡ even_half k.b = ap (λ b. b.a) is_p in
      let p_b : p.placed.b ≡ k.a / 2 = ap (λ b. b.b) is_p in
      let r_a : r.placed.a ≡ even_half k.b = ap (λ b. b.a) is_r in
      let r_b : r.placed.b ≡ k.a - k.a / 2 = ap (λ b. b.b) is_r in
      let area : p.placed.a * p.placed.b ≡ even_half k.b * (k.a / 2) = ap₂ ◌*◌ p_a p_b in
      record {
        fits = by_number_fits (c_call cut same r is_r on_r).1;
        inside = (a_call cut refl p is_p on_p).1.inside;
        held = held;
        before = omega arith;
        same_a = r_a ∙ sym p_a;
        same_b = omega arith;
        run = ap (λ b. b.run) is_r ∙ sym (ap (λ b. against b.run) is_p);
        side = ap (λ b. b.side) is_r ∙ sym (ap (λ b. against b.side) is_p);
      }
