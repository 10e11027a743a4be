-- What a block's case says: its lengths, its curve and its blocks by the four rules, and its shape; and the one induction over blocks that every
-- further law uses.
use mathlib.Core.List.{[], ◌∷◌, ◌++◌, map, flatten, append-nil}
use mathlib.Core.Path.{◌≡◌, subst, subst⁻¹}
use Prim.Native.Nat.{ℕ, zero, suc, ◌+◌, ◌≤◌}
use native.Mathlib.Nat.{le_refl}
use native.Mathlib.Omega.{arith}
use Rattle.division.specs.declared.Choice.{Choice}
use Rattle.division.specs.declared.Choice.TheVariants.{StraightRun, StraightSide, LongCut, UCut}
use Rattle.division.specs.Division.{Block, choice, First, Second, A, B, C, part, parts, parts_of, row, curve_by, curve, blocks}
use Rattle.division.specs.Division.Inside.{Sized}
use Rattle.division.proofs.Rules.{All, AllMap, Chosen, is_run, is_side, is_long, is_u, chosen, parts_are, smaller, curve_rule, blocks_rule}

-- what a case says of the lengths: a straight block has one length 1, and one that is cut has both from 2 on
abbrev Lengths : Choice → (a b : ℕ) → Type 0
Lengths StraightRun a b = b ≡ 1
Lengths StraightSide a b = a ≡ 1
Lengths LongCut a b = (2 ≤ a) × (2 ≤ b)
Lengths UCut a b = (2 ≤ a) × (2 ≤ b)

lengths_by : (a b : ℕ) → Chosen a b → Lengths (choice a b) a b
lengths_by a b (is_run e one) = subst⁻¹ (λ (c : Choice). Lengths c a b) e one
lengths_by a b (is_side e one l) = subst⁻¹ (λ (c : Choice). Lengths c a b) e one
lengths_by a b (is_long e la lb l) = subst⁻¹ (λ (c : Choice). Lengths c a b) e (la, lb)
lengths_by a b (is_u e la lb l) = subst⁻¹ (λ (c : Choice). Lengths c a b) e (la, lb)

lengths : (k : Block) (c : Choice) → Sized k → choice k.a k.b ≡ c → Lengths c k.a k.b
lengths k c h e = subst (λ (c : Choice). Lengths c k.a k.b) e (lengths_by k.a k.b (chosen k h))

pub run_length : (k : Block) → Sized k → choice k.a k.b ≡ StraightRun → k.b ≡ 1
run_length k h e = lengths k StraightRun h e

pub side_length : (k : Block) → Sized k → choice k.a k.b ≡ StraightSide → k.a ≡ 1
side_length k h e = lengths k StraightSide h e

pub long_lengths : (k : Block) → Sized k → choice k.a k.b ≡ LongCut → (2 ≤ k.a) × (2 ≤ k.b)
long_lengths k h e = lengths k LongCut h e

pub u_lengths : (k : Block) → Sized k → choice k.a k.b ≡ UCut → (2 ≤ k.a) × (2 ≤ k.b)
u_lengths k h e = lengths k UCut h e

-- what holds of a block whenever it holds of its parts holds of every sized block
induction_to : (P : Block → Type 0) → ((k : Block) → Sized k → All P (parts k) → P k) → (n : ℕ) (k : Block) → Sized k → k.a + k.b ≤ n → P k
induction_to P step zero k h l = absurd (omega arith)
induction_to P step (suc n) k h l =
    step k h (AllMap (λ q s. induction_to P step n q s.sized (let f = s.falls in omega arith)) (parts k) (smaller k h))

pub induction : (P : Block → Type 0) → ((k : Block) → Sized k → All P (parts k) → P k) → (k : Block) → Sized k → P k
induction P step k h = induction_to P step (k.a + k.b) k h (le_refl (k.a + k.b))

-- The four rules: what the curve and the blocks of a block are, by its case.
abbrev pub Rule : Choice → Block → Type 0
Rule StraightRun k = (curve k ≡ row k.run k.a k.start) × (blocks k ≡ k ∷ [])
Rule StraightSide k = (curve k ≡ row k.side k.b k.start) × (blocks k ≡ k ∷ [])
Rule LongCut k =
    (curve k ≡ curve (part First k) ++ curve (part Second k))
    × (blocks k ≡ k ∷ (blocks (part First k) ++ blocks (part Second k)))
Rule UCut k =
    (curve k ≡ curve (part A k) ++ (curve (part B k) ++ curve (part C k)))
    × (blocks k ≡ k ∷ (blocks (part A k) ++ (blocks (part B k) ++ blocks (part C k))))

-- the curve and the blocks where the case and its parts are written out
abbrev Written : Choice → Block → Type 0
Written c k =
    (curve k ≡ curve_by c k (map curve (map (λ p. part p k) (parts_of c))))
    × (blocks k ≡ k ∷ flatten (map blocks (map (λ p. part p k) (parts_of c))))

written : (k : Block) → Sized k → Written (choice k.a k.b) k
unfolding parts
written k h = (curve_rule k h, blocks_rule k h)

rule_of : (c : Choice) (k : Block) → Written c k → Rule c k
unfolding parts_of curve_by flatten
rule_of StraightRun k w = w
rule_of StraightSide k w = w
rule_of LongCut k w = simp append-nil at w
rule_of UCut k w = simp append-nil at w

pub four_rules : (k : Block) → Sized k → Rule (choice k.a k.b) k
four_rules k h = rule_of (choice k.a k.b) k (written k h)

pub rule : (k : Block) (c : Choice) → Sized k → choice k.a k.b ≡ c → Rule c k
rule k c h e = subst (λ (c : Choice). Rule c k) e (four_rules k h)

-- A block is straight one way or the other, or it is cut in two or in three.
pub data Cut (k : Block) : Type 0 where
  in_two : 2 ≤ k.a → 2 ≤ k.b → parts k ≡ part First k ∷ part Second k ∷ [] → Cut k
  in_three : 2 ≤ k.a → 2 ≤ k.b → parts k ≡ part A k ∷ part B k ∷ part C k ∷ [] → Cut k

pub data Shape (k : Block) : Type 0 where
  in_run : k.b ≡ 1 → parts k ≡ [] → curve k ≡ row k.run k.a k.start → Shape k
  in_side : k.a ≡ 1 → parts k ≡ [] → curve k ≡ row k.side k.b k.start → Shape k
  cut : Cut k → curve k ≡ flatten (map curve (parts k)) → Shape k

shape_by : (k : Block) → Sized k → Chosen k.a k.b → Shape k
unfolding parts_of curve_by
shape_by k h (is_run e b) = in_run b (parts_are k StraightRun e) (rw e at (curve_rule k h))
shape_by k h (is_side e a b) = in_side a (parts_are k StraightSide e) (rw e at (curve_rule k h))
shape_by k h (is_long e a b l) = cut (in_two a b (parts_are k LongCut e)) (rw e at (curve_rule k h))
shape_by k h (is_u e a b l) = cut (in_three a b (parts_are k UCut e)) (rw e at (curve_rule k h))

pub shape : (k : Block) → Sized k → Shape k
shape k h = shape_by k h (chosen k h)
