-- A walk part by part: each part's pane has what a walk asks, its area is less, and what the parts see, one after the other, is what the block sees. The
-- laws are over the runs so far, of which a part's walk makes no more than it has numbers.
use mathlib.Core.List.{◌++◌}
use mathlib.Core.Path.{◌≡◌, refl, sym, ap, ap₂, subst, subst⁻¹, ◌∙◌}
use Prim.Native.Nat.{ℕ, ◌+◌, ◌-◌, ◌*◌, ◌/◌, ◌≤◌, ◌<◌}
use native.Mathlib.Nat.{mul-le-mul}
use native.Mathlib.Omega.{arith}
use Rattle.terms.specs.Terms.{past_32_bits}
use Rattle.division.specs.declared.Choice.{Choice}
use Rattle.division.specs.declared.Choice.TheVariants.{LongCut, UCut}
use Rattle.division.specs.Division.{whole, choice, even_half, Part, First, Second, A, B, C, part, parts_of, curve}
use Rattle.division.specs.Division.Inside.{Inside}
use Rattle.division.proofs.Rules.{All, Halves, halves, parts_are}
use Rattle.division.proofs.Cases.{rule, in_two, in_three, long_lengths, u_lengths}
use Rattle.division.proofs.Cuts.{inside_parts, long_areas, u_areas}
use Rattle.division.proofs.EachSquareOnce.{length_curve}
use Rattle.division.proofs.Blocks.{whole_inside}
use Rattle.division.proofs.WithinLimits.{SumsFit, sums_fit}
use Rattle.panes.specs.declared.Pane.{Pane}
use Rattle.panes.specs.Panes.{in_pane, pane_in, Tally, over, seen, Walks}
use Rattle.panes.proofs.Stretches.{over_append, over_few}
use Rattle.panes.proofs.PartsSeen.{sized, curve_long, part_seen}

-- no more runs than there were, and the pane's numbers
seen_few : {q p : Pane} {n count : ℕ} → Walks q n count → q ≡ p → (t : Tally) → (seen q t n).count ≤ t.count + p.a * p.b
seen_few {q} {p} {n} w is t =
    let long = curve_long q.a q.b w.a_least w.b_least in
    let few = over_few (in_pane q) t n (curve (whole q.a q.b)) in
    let size : q.a * q.b ≡ p.a * p.b = ap (λ r. r.a * r.b) is in
    omega arith

-- a part's pane: its lengths within the limits, and its corners within its lengths
part_walks : (q : Part) (p : Pane) {n count : ℕ} → Walks p n count → 2 ≤ p.a → 2 ≤ p.b → (n' count' : ℕ)
    → n' + (pane_in q p).a * (pane_in q p).b ≤ n + p.a * p.b → count' ≤ n' → Walks (pane_in q p) n' count'
part_walks First p w a b n' count' fits few = let half = halves p.a a in omega arith
part_walks Second p w a b n' count' fits few = let half = halves p.a a in omega arith
part_walks A p w a b n' count' fits few = let half = halves p.b b in omega arith
part_walks B p w a b n' count' fits few = let half = halves p.b b in omega arith
part_walks C p w a b n' count' fits few = let half = halves p.b b in omega arith

-- What is asked of a block of a case: its measure is m, and it may be walked.
abbrev pub Cut : Choice → Pane → (n count m : ℕ) → Type 0
Cut case p n count m = (3 * (p.a * p.b) ≡ m) × (Walks p n count × (choice p.a p.b ≡ case))

-- What each call on a part of it is asked.
abbrev pub Call : Pane → (n count m : ℕ) → Type 0
Call q n count m = (3 * (q.a * q.b) + 2 < m) × Walks q n count

-- a part that has fewer squares than its block, behind those before it
part_call : (q : Part) {pane p : Pane} {n count m : ℕ} → pane ≡ pane_in q p → 3 * (p.a * p.b) ≡ m → Walks p n count → 2 ≤ p.a → 2 ≤ p.b
    → (n' count' : ℕ) → (pane_in q p).a * (pane_in q p).b < p.a * p.b → n' + (pane_in q p).a * (pane_in q p).b ≤ n + p.a * p.b → count' ≤ n'
    → Call pane n' count' m
part_call q {p = p} {m = m} is measure w a b n' count' less fits few =
    subst⁻¹ (λ (r : Pane). Call r n' count' m) is (omega arith, part_walks q p w a b n' count' fits few)

-- the long cut
module _ (t : Tally) {p : Pane} {n m : ℕ} (cut : Cut LongCut p n t.count m) where
  pub long_two : (2 ≤ p.a) × (2 ≤ p.b)
  unfolding whole
  long_two = long_lengths (whole p.a p.b) (sized p.a p.b cut.1.0.a_least cut.1.0.b_least) cut.1.1

  long_inside : Inside p.a p.b (part First (whole p.a p.b)) × Inside p.a p.b (part Second (whole p.a p.b))
  unfolding whole parts_of
  long_inside =
      let k = whole p.a p.b in
      let are = parts_are k LongCut cut.1.1 in
      let all = subst (All (Inside p.a p.b)) are
      (inside_parts p.a p.b k (whole_inside p.a p.b cut.1.0.a_least cut.1.0.b_least) (in_two long_two.0 long_two.1 are)) in
      (all.0, all.1.0)

  -- how the two parts' squares add up
  pub record LongSum (e : ℕ) : Type 0 where
    pub sum : e * p.b + (p.a - e) * p.b ≡ p.a * p.b
    pub first_some : 1 ≤ e * p.b
    pub second_some : 1 ≤ (p.a - e) * p.b

  long_sum : (e : ℕ) → e ≡ even_half p.a → LongSum e
  long_sum e is =
      let half = subst⁻¹ (Halves p.a) is (halves p.a long_two.0) in
      let two = long_two.1 in
      let all = long_areas e p.a p.b (let l = half.less in omega arith) in
      let f : 1 * 1 ≤ e * p.b = mul-le-mul half.pos cut.1.0.b_least in
      let rest : 1 ≤ p.a - e = let l = half.less in
      omega arith in
      let s : 1 * 1 ≤ (p.a - e) * p.b = mul-le-mul rest cut.1.0.b_least in
      record { sum = omega arith; first_some = omega arith; second_some = omega arith }

  -- the first part's squares, and the number behind them, are 32-bit numbers
  pub long_fits : {e : ℕ} → e ≡ even_half p.a → (e * p.b < past_32_bits) × (n + e * p.b < past_32_bits)
  long_fits {e} is =
      let all = (long_sum e is).sum in
      let room = cut.1.0.room in
      (omega arith, omega arith)

  pub first_call : {q : Pane} → q ≡ pane_in First p → Call q n t.count m
  first_call is =
      let s = long_sum (even_half p.a) refl in
      let all = s.sum in
      let other = s.second_some in
      part_call First is cut.0 cut.1.0 long_two.0 long_two.1 n t.count (omega arith) (omega arith) cut.1.0.few

  -- the second part, behind the first
  module _ {e : ℕ} (half : e ≡ even_half p.a) {first second : Pane} (is_first : first ≡ pane_in First p) (is_second : second ≡ pane_in Second p) where
    long_seen : seen p t n ≡ seen second (seen first t n) (n + e * p.b)
    unfolding whole part
    long_seen =
        let k = whole p.a p.b in
        let inside = long_inside in
        let c = (rule k LongCut (sized p.a p.b cut.1.0.a_least cut.1.0.b_least) cut.1.1).0 in
        let pa = cut.1.0.a_least in
        let two = long_two.1 in
        ap (over (in_pane p) t n) c
        ∙ over_append (in_pane p) t n (curve (part First k)) (curve (part Second k))
        ∙ ap₂ (λ s l. over (in_pane p) s (n + l) (curve (part Second k))) (part_seen p pa two First inside.0 t n)
        (length_curve (part First k) inside.0.sized ∙ ap (λ x. x * p.b) (sym half))
        ∙ part_seen p pa two Second inside.1 (seen (pane_in First p) t n) (n + e * p.b)
        ∙ ap₂ (λ x y. seen y (seen x t n) (n + e * p.b)) (sym is_first) (sym is_second)

    module _ {u : Tally} (after : u ≡ seen first t n) where
      pub second_call : Call second (n + e * p.b) u.count m
      second_call =
          let s = long_sum (even_half p.a) refl in
          let all = s.sum in
          let other = s.first_some in
          let same : e * p.b ≡ even_half p.a * p.b = ap (λ x. x * p.b) half in
          let grown = seen_few (first_call is_first).1 is_first t in
          let is = ap (λ v. v.count) after in
          let few = cut.1.0.few in
          part_call Second is_second cut.0 cut.1.0 long_two.0 long_two.1 (n + e * p.b) u.count (omega arith) (omega arith) (omega arith)

      pub second_told : {v : Tally} → v ≡ seen second u (n + e * p.b) → v ≡ seen p t n
      second_told is = is ∙ ap (λ s. seen second s (n + e * p.b)) after ∙ sym long_seen

-- the U cut
module _ (t : Tally) {p : Pane} {n m : ℕ} (cut : Cut UCut p n t.count m) where
  pub u_two : (2 ≤ p.a) × (2 ≤ p.b)
  unfolding whole
  u_two = u_lengths (whole p.a p.b) (sized p.a p.b cut.1.0.a_least cut.1.0.b_least) cut.1.1

  pub record UInside : Type 0 where
    pub in_a : Inside p.a p.b (part A (whole p.a p.b))
    pub in_b : Inside p.a p.b (part B (whole p.a p.b))
    pub in_c : Inside p.a p.b (part C (whole p.a p.b))

  u_inside : UInside
  unfolding whole parts_of
  u_inside =
      let k = whole p.a p.b in
      let are = parts_are k UCut cut.1.1 in
      let all = subst (All (Inside p.a p.b)) are
      (inside_parts p.a p.b k (whole_inside p.a p.b cut.1.0.a_least cut.1.0.b_least) (in_three u_two.0 u_two.1 are)) in
      record { in_a = all.0; in_b = all.1.0; in_c = all.1.1.0 }

  -- how the three parts' squares add up
  pub record U_sum (e : ℕ) : Type 0 where
    pub sum : e * (p.a / 2) + (p.a * (p.b - e) + e * (p.a - p.a / 2)) ≡ p.a * p.b
    pub a_some : 1 ≤ e * (p.a / 2)
    pub b_some : 1 ≤ p.a * (p.b - e)

  u_sum : (e : ℕ) → e ≡ even_half p.b → U_sum e
  u_sum e is =
      let half = subst⁻¹ (Halves p.b) is (halves p.b u_two.1) in
      let two = u_two.0 in
      let less = half.less in
      let all = u_areas e (p.a / 2) p.a p.b (omega arith) (omega arith) in
      let middle : 1 ≤ p.a / 2 = omega arith in
      let above : 1 ≤ p.b - e = omega arith in
      let f : 1 * 1 ≤ e * (p.a / 2) = mul-le-mul half.pos middle in
      let s : 1 * 1 ≤ p.a * (p.b - e) = mul-le-mul cut.1.0.a_least above in
      record { sum = omega arith; a_some = omega arith; b_some = omega arith }

  pub u_fits : {e : ℕ} → e ≡ even_half p.b → SumsFit n p.a p.b e
  u_fits {e} is =
      let room = cut.1.0.room in
      sums_fit n p.a p.b e u_two.1 is (omega arith)

  -- one call on a part, behind those before it
  u_call : (q : Part) {pane : Pane} → pane ≡ pane_in q p → (n' count' : ℕ) → (pane_in q p).a * (pane_in q p).b < p.a * p.b
      → n' + (pane_in q p).a * (pane_in q p).b ≤ n + p.a * p.b → count' ≤ n' → Call pane n' count' m
  u_call q is n' count' = part_call q is cut.0 cut.1.0 u_two.0 u_two.1 n' count'

  pub a_call : {q : Pane} → q ≡ pane_in A p → Call q n t.count m
  a_call is =
      let s = u_sum (even_half p.b) refl in
      let all = s.sum in
      let other = s.b_some in
      u_call A is n t.count (omega arith) (omega arith) cut.1.0.few

  module _ {e : ℕ} (half : e ≡ even_half p.b) where
    abbrev pub to_b : ℕ
    to_b = n + e * (p.a / 2)

    abbrev pub to_c : ℕ
    to_c = n + e * (p.a / 2) + p.a * (p.b - e)

    -- the parts' squares, by the half that the code has
    size_a : e * (p.a / 2) ≡ even_half p.b * (p.a / 2)
    size_a = ap (λ x. x * (p.a / 2)) half

    size_b : p.a * (p.b - e) ≡ p.a * (p.b - even_half p.b)
    size_b = ap (λ x. p.a * (p.b - x)) half

    module _ {in_a in_b in_c : Pane} (is_a : in_a ≡ pane_in A p) (is_b : in_b ≡ pane_in B p) (is_c : in_c ≡ pane_in C p) where
      u_seen : seen p t n ≡ seen in_c (seen in_b (seen in_a t n) to_b) to_c
      unfolding whole part
      u_seen =
          let k = whole p.a p.b in
          let inside = u_inside in
          let c = (rule k UCut (sized p.a p.b cut.1.0.a_least cut.1.0.b_least) cut.1.1).0 in
          let pa = cut.1.0.a_least in
          let two = u_two.1 in
          let seen_a = seen (pane_in A p) t n in
          let seen_b = seen (pane_in B p) seen_a to_b in
          ap (over (in_pane p) t n) c
          ∙ over_append (in_pane p) t n (curve (part A k)) (curve (part B k) ++ curve (part C k))
          ∙ ap₂ (λ s l. over (in_pane p) s (n + l) (curve (part B k) ++ curve (part C k))) (part_seen p pa two A inside.in_a t n)
          (length_curve (part A k) inside.in_a.sized ∙ sym size_a)
          ∙ over_append (in_pane p) seen_a to_b (curve (part B k)) (curve (part C k))
          ∙ ap₂ (λ s l. over (in_pane p) s (to_b + l) (curve (part C k))) (part_seen p pa two B inside.in_b seen_a to_b)
          (length_curve (part B k) inside.in_b.sized ∙ sym size_b)
          ∙ part_seen p pa two C inside.in_c seen_b to_c
          ∙ (λ i. seen (sym is_c i) (seen (sym is_b i) (seen (sym is_a i) t n) to_b) to_c)

      module _ {u : Tally} (after_a : u ≡ seen in_a t n) where
        few_a : u.count ≤ to_b
        few_a =
            let grown = seen_few (a_call is_a).1 is_a t in
            let is = ap (λ v. v.count) after_a in
            let few = cut.1.0.few in
            let same = size_a in
            omega arith

        pub b_call : Call in_b to_b u.count m
        b_call =
            let s = u_sum (even_half p.b) refl in
            let all = s.sum in
            let other = s.a_some in
            let same = size_a in
            u_call B is_b to_b u.count (omega arith) (omega arith) few_a

        module _ {v : Tally} (after_b : v ≡ seen in_b u to_b) where
          pub c_call : Call in_c to_c v.count m
          c_call =
              let s = u_sum (even_half p.b) refl in
              let all = s.sum in
              let other = s.a_some in
              let same_a = size_a in
              let same_b = size_b in
              let grown = seen_few b_call.1 is_b u in
              let is = ap (λ x. x.count) after_b in
              let few = few_a in
              u_call C is_c to_c v.count (omega arith) (omega arith) (omega arith)

          pub c_told : {x : Tally} → x ≡ seen in_c v to_c → x ≡ seen p t n
          c_told is = is ∙ ap (λ s. seen in_c s to_c) (after_b ∙ ap (λ s. seen in_b s to_b) after_a) ∙ sym u_seen
