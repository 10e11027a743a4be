-- One step of a descent: the part that has a number, with the rest of it. One law over the part, and for each cut which part it is.
use mathlib.Core.Bool.{Bool, true, false, cond}
use mathlib.Core.List.{List, [], ◌∷◌, ◌++◌}
use mathlib.Core.Path.{◌≡◌, refl, sym, ap, subst, subst⁻¹, ◌∙◌}
use Prim.Native.Nat.{ℕ, suc, ◌+◌, ◌-◌, ◌*◌, ◌/◌, ◌≤◌, ◌<◌}
use native.Mathlib.Nat.{mul-one, one-mul}
use native.Mathlib.Omega.{arith}
use borrow.Author.Tests.{leb-true, leb-false}
use lib.Dec.{leb}
use Rattle.terms.specs.Terms.{longest_side, past_32_bits}
use Rattle.division.specs.declared.Choice.TheVariants.{StraightRun, StraightSide, LongCut, UCut}
use Rattle.division.specs.declared.Placed.{Placed}
use Rattle.division.specs.Division.{Square, square, moved, Block, whole, choice, even_half, First, Second, A, B, C, part, parts, parts_of, square_of}
use Rattle.division.specs.Division.{blocks_holding}
use Rattle.division.specs.Division.Inside.{Inside}
use Rattle.division.proofs.Rules.{All, Smaller, smaller, parts_are, Halves, halves}
use Rattle.division.specs.Forms.{block, block_at, stepped_to, Steps}
use Rattle.division.proofs.Cases.{long_lengths, u_lengths, run_length, side_length, rule}
use Rattle.division.proofs.Sums.{total, all_right}
use Rattle.division.proofs.Cuts.{area, long_areas}
use Rattle.division.proofs.Blocks.{at_most_54}
use Rattle.division.proofs.EachSquareOnce.{square_held}
use Rattle.division.proofs.Descent.{part_inside, square_in, holding_in, straight_holding, some_holding, run_square, side_square}
use Rattle.division.proofs.PlacedParts.{steps_along, steps_across, run_moved, side_moved}
use Rattle.division.proofs.WithinLimits.{a_limit, b_limit, product_limit, u_sum, SumsFit, sums_fit}
use Rattle.descents.specs.Descents.{HasNumber, Enters, Descends}

enters : (k : Block) → Inside longest_side longest_side k → (before : List Block) (q : Block) (after : List Block) → parts k ≡ before ++ (q ∷ after)
    → (i j : ℕ) → total area before + j ≡ i → j < area q → Enters k i q j
enters k inside before q after e i j sum below =
    let within = part_inside longest_side longest_side k inside before q after e in
    let less : Smaller k q = (all_right (Smaller k) before (q ∷ after) (subst (All (Smaller k)) e (smaller k inside.sized))).0 in
    let same : square_of k i ≡ square_of q j = ap (square_of k) (sym sum) ∙ square_in longest_side longest_side k inside before q after e j below in
    let held = square_held longest_side longest_side q within j below in
    record {
      numbers = record { inside = within; below = below };
      falls = let thirds = less.two_thirds in omega arith;
      square = sym same;
      holding = subst⁻¹ (λ (p : Square). ◌≡◌ {A = ℕ} (blocks_holding k p) (suc (blocks_holding q p))) same
          (holding_in longest_side longest_side k inside before q after e (square_of q j) held);
    }

-- the first part of a long cut has the numbers below the even half of a times b, the second the rest
module _ {k : Block} {i : ℕ} (r : HasNumber k i × (choice k.a k.b ≡ LongCut)) where
  pub long_half : Halves k.a (even_half k.a)
  long_half = halves k.a (long_lengths k r.0.inside.sized r.1).0

  long_enters_by : (second : Bool) → leb (even_half k.a * k.b) i ≡ second
      → Enters k i (part (cond second Second First) k) (i - cond second (even_half k.a) 0 * k.b)
  unfolding parts_of part
  long_enters_by true t =
      let half = long_half in
      let from = leb-true (even_half k.a * k.b) i t in
      let below = r.0.below in
      let sum = long_areas (even_half k.a) k.a k.b (omega arith) in
      enters k r.0.inside (part First k ∷ []) (part Second k) [] (parts_are k LongCut r.1) i (i - even_half k.a * k.b) (omega arith) (omega arith)
  long_enters_by false t =
      let to = leb-false (even_half k.a * k.b) i t in
      enters k r.0.inside [] (part First k) (part Second k ∷ []) (parts_are k LongCut r.1) i (i - 0 * k.b) (omega arith) (omega arith)

  pub long_enters : {e : ℕ} → e ≡ even_half k.a → {q : Block} → q ≡ part (cond (leb (e * k.b) i) Second First) k
      → {skip : ℕ} → skip ≡ cond (leb (e * k.b) i) e 0 → Enters k i q (i - skip * k.b)
  long_enters half is {skip} by =
      subst⁻¹ (λ (q : Block). Enters k i q (i - skip * k.b)) is
      (subst⁻¹ (λ (n : ℕ). Enters k i (part (cond (leb (n * k.b) i) Second First) k) (i - skip * k.b)) half
      (subst⁻¹ (λ (n : ℕ). Enters k i (part (cond (leb (even_half k.a * k.b) i) Second First) k) (i - n * k.b))
      (by ∙ ap (λ n. cond (leb (n * k.b) i) n 0) half) (long_enters_by (leb (even_half k.a * k.b) i) refl)))

-- the parts of a U cut: A has the numbers below e·m, B the a·(b - e) after them, C the rest; and their sums fit
module _ {k : Block} {i : ℕ} (r : HasNumber k i × (choice k.a k.b ≡ UCut)) {e : ℕ} (half : e ≡ even_half k.b) where
  u_two : 2 ≤ k.b
  u_two = (u_lengths k r.0.inside.sized r.1).1

  pub u_sums : SumsFit 0 k.a k.b e
  u_sums =
      let all = product_limit k.a k.b (a_limit k r.0.inside) (b_limit k r.0.inside) in
      sums_fit 0 k.a k.b e u_two half (omega arith)

  pub a_enters : {q : Block} → q ≡ part A k → i < e * (k.a / 2) → Enters k i q i
  unfolding parts_of part
  a_enters is m =
      subst⁻¹ (λ (q : Block). Enters k i q i) is
      (enters k r.0.inside [] (part A k) (part B k ∷ part C k ∷ []) (parts_are k UCut r.1) i i (omega arith) (rw half at m))

  pub b_enters : {q : Block} → q ≡ part B k → e * (k.a / 2) ≤ i → i < e * (k.a / 2) + k.a * (k.b - e) → Enters k i q (i - e * (k.a / 2))
  unfolding parts_of part
  b_enters is m n =
      let from = rw half at m in
      let to = rw half at n in
      subst⁻¹ (λ (q : Block). Enters k i q (i - e * (k.a / 2))) is
      (enters k r.0.inside (part A k ∷ []) (part B k) (part C k ∷ []) (parts_are k UCut r.1) i (i - e * (k.a / 2))
      (rw half (omega arith)) (rw half (omega arith)))

  pub c_enters : {q : Block} → q ≡ part C k → e * (k.a / 2) + k.a * (k.b - e) ≤ i → Enters k i q (i - (e * (k.a / 2) + k.a * (k.b - e)))
  unfolding parts_of part
  c_enters is m =
      let sum = u_sum k.a k.b (even_half k.b) u_two refl in
      let below = r.0.below in
      let from = rw half at m in
      subst⁻¹ (λ (q : Block). Enters k i q (i - (e * (k.a / 2) + k.a * (k.b - e)))) is
      (enters k r.0.inside (part A k ∷ part B k ∷ []) (part C k) [] (parts_are k UCut r.1) i (i - (e * (k.a / 2) + k.a * (k.b - e)))
      (rw half (omega arith)) (rw half (omega arith)))

-- what a descent asks and answers of a block: a cut one is what its part answers
module _ {k : Block} {i above : ℕ} (r : Descends k i above) where
  module _ {q : Block} {j : ℕ} (l : Enters k i q j) where
    counts : (above + 1) + blocks_holding q (square_of q j) ≡ above + blocks_holding k (square_of k i)
    counts =
        let same : blocks_holding q (square_of q j) ≡ blocks_holding q (square_of k i) = ap (blocks_holding q) l.square in
        let more = l.holding in
        omega arith

    pub part_descends : Descends q j (above + 1)
    part_descends = record { numbers = l.numbers; count = let all = r.count in let sum = counts in omega arith }

    pub part_square : {s : Square} → s ≡ square_of q j → s ≡ square_of k i
    part_square e = e ∙ l.square

    pub part_count : {n : ℕ} → n ≡ (above + 1) + blocks_holding q (square_of q j) → n ≡ above + blocks_holding k (square_of k i)
    part_count e = e ∙ counts

  pub counted : above + 1 < past_32_bits
  counted =
      let some = some_holding k (square_of k i) r.numbers.inside.sized (square_held longest_side longest_side k r.numbers.inside i r.numbers.below) in
      let few = r.count in
      omega arith

  -- and a straight one alone holds its squares
  alone : parts k ≡ [] → above + 1 ≡ above + blocks_holding k (square_of k i)
  alone e =
      let one = straight_holding k (square_of k i) r.numbers.inside.sized e (square_held longest_side longest_side k r.numbers.inside i r.numbers.below) in
      omega arith

pub ruleset part_answered = (part_descends, part_square, part_count)

-- in its row it has the square, which the two bits of its directions give
module _ (k : Placed) {i above : ℕ} (r : Descends (block k) i above) where
  answered : (s t : Square) → s ≡ t → square_of (block k) i ≡ t → parts (block k) ≡ []
      → (s ≡ square_of (block k) i) × (above + 1 ≡ above + blocks_holding (block k) (square_of (block k) i))
  answered s t p q e = (p ∙ sym q, alone r e)

  module _ (c : choice k.a k.b ≡ StraightRun) where
    run_below : i < k.a
    run_below = subst (λ (n : ℕ). i < n) (ap (λ n. k.a * n) (run_length (block k) r.numbers.inside.sized c) ∙ mul-one k.a) r.numbers.below

    pub run_steps : Steps k.along i k.back
    run_steps = steps_along k r.numbers.inside i run_below

    pub run_answered : (there : ℕ) → there ≡ stepped_to k.along i k.back
        → (cond k.turned (square k.across there) (square there k.across) ≡ square_of (block k) i)
        × (above + 1 ≡ above + blocks_holding (block k) (square_of (block k) i))
    unfolding parts_of
    run_answered there e =
        answered _ (moved (block k).run i (block k).start)
        (ap (λ n. cond k.turned (square k.across n) (square n k.across)) e ∙ run_moved k.along k.across k.turned k.back i)
        (run_square (block k) (rule (block k) StraightRun r.numbers.inside.sized c).0 i run_below)
        (parts_are (block k) StraightRun c)

  module _ (c : choice k.a k.b ≡ StraightSide) where
    side_below : i < k.b
    side_below = subst (λ (n : ℕ). i < n) (ap (λ n. n * k.b) (side_length (block k) r.numbers.inside.sized c) ∙ one-mul k.b) r.numbers.below

    pub side_steps : Steps k.across i k.back
    side_steps = steps_across k r.numbers.inside i side_below

    pub side_answered : (there : ℕ) → there ≡ stepped_to k.across i k.back
        → (cond k.turned (square there k.along) (square k.along there) ≡ square_of (block k) i)
        × (above + 1 ≡ above + blocks_holding (block k) (square_of (block k) i))
    unfolding parts_of
    side_answered there e =
        answered _ (moved (block k).side i (block k).start)
        (ap (λ n. cond k.turned (square n k.along) (square k.along n)) e ∙ side_moved k.along k.across k.turned k.back i)
        (side_square (block k) (rule (block k) StraightSide r.numbers.inside.sized c).0 i side_below)
        (parts_are (block k) StraightSide c)

-- an area is a block to descend from: few blocks hold any square
pub descends_whole : (w h number : ℕ) → HasNumber (whole w h) number → Descends (block_at 0 0 false false w h) number 0
unfolding whole
descends_whole w h number r =
    let sized = r.inside.sized in
    let most = at_most_54 w h sized.run (a_limit (whole w h) r.inside) sized.side (b_limit (whole w h) r.inside) (square_of (whole w h) number) in
    record { numbers = r; count = omega arith }
