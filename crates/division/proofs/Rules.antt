-- The rules of the division as laws, with no bound on how deep the cuts go: what the curve and the blocks of a block are, from those of its parts.
-- A sized block has both lengths at least 1. By induction over the depth: with each cut the sum of the lengths falls, so that deeper changes nothing.
use mathlib.Core.Bool.{Bool, true, false, ◌&&◌, cond, and-false}
use mathlib.Core.List.{List, [], ◌∷◌, map, flatten}
use mathlib.Core.Logic.{◌⊎◌, inl, inr}
use mathlib.Core.Path.{◌≡◌, refl, ap, ap₂, subst⁻¹}
use Prim.Native.Nat.{ℕ, zero, suc, ◌+◌, ◌-◌, ◌*◌, ◌/◌, ◌%◌, ◌≤◌, ◌<◌}
use native.Mathlib.Nat.{le_refl, mul_assoc, mul_comm, mul-le-mul}
use native.Mathlib.Omega.{arith}
use borrow.Author.Tests.{lt-ltb, le-ltb, ltb-true, ltb-false, eqb-true, eqb-false}
use lib.Dec.{ltb, eqb}
use Rattle.division.specs.declared.Choice.{Choice}
use Rattle.division.specs.declared.Choice.TheVariants.{StraightRun, StraightSide, LongCut, UCut}
use Rattle.division.specs.Division.{Block, moved, against, choice, even_half, part, parts, parts_of, curve_by, down, curve, blocks}
use Rattle.division.specs.Division.Inside.{Sized}

-- P of each of a list
abbrev pub All : {X : Type 0} → (X → Type 0) → List X → Type 0
All P [] = Unit {0}
All P (z ∷ zs) = P z × All P zs

pub AllMap : {X : Type 0} {P Q : X → Type 0} → ((z : X) → P z → Q z) → (zs : List X) → All P zs → All Q zs
AllMap f [] h = tt
AllMap f (z ∷ zs) h = (f z h.0, AllMap f zs h.1)

map_all : {X Y : Type 0} (f g : X → Y) (zs : List X) → All (λ z. f z ≡ g z) zs → map f zs ≡ map g zs
map_all f g [] h = refl
map_all f g (z ∷ zs) h = ap₂ (λ y ys. y ∷ ys) h.0 (map_all f g zs h.1)

-- the even half of a length from 2 on is a proper part of it, and it and the rest are each at most two thirds of it
pub record Halves (L e : ℕ) : Type 0 where
  pub pos : 1 ≤ e
  pub less : e < L
  pub low : L ≤ 3 * e
  pub high : 3 * e ≤ 2 * L

halves_by : (L : ℕ) (s t : Bool) → 2 ≤ L → ltb 2 L ≡ s → eqb (L / 2 % 2) 1 ≡ t → Halves L (cond (s && t) (L / 2 + 1) (L / 2))
halves_by L true true h p q = omega (arith, ltb-true 2 L p, eqb-true (L / 2 % 2) 1 q)
halves_by L true false h p q = omega (arith, ltb-true 2 L p, eqb-false (L / 2 % 2) 1 q)
halves_by L false t h p q = omega (arith, ltb-false 2 L p)

pub halves : (L : ℕ) → 2 ≤ L → Halves L (even_half L)
unfolding even_half
halves L h = halves_by L (ltb 2 L) (eqb (L / 2 % 2) 1) h refl refl

-- the choice's case, with what the tests on the way to it say
pub data Chosen (a b : ℕ) : Type 0 where
  is_run : choice a b ≡ StraightRun → b ≡ 1 → Chosen a b
  is_side : choice a b ≡ StraightSide → a ≡ 1 → 2 ≤ b → Chosen a b
  is_long : choice a b ≡ LongCut → 2 ≤ a → 2 ≤ b → 3 * b < 2 * a → Chosen a b
  is_u : choice a b ≡ UCut → 2 ≤ a → 2 ≤ b → 2 * a ≤ 3 * b → Chosen a b

chosen_by : (a b : ℕ) (r s l : Bool) → 1 ≤ a → 1 ≤ b → eqb b 1 ≡ r → eqb a 1 ≡ s → ltb (3 * b) (2 * a) ≡ l → Chosen a b
unfolding choice
chosen_by a b true s l ha hb p q o = is_run (rw p) (eqb-true b 1 p)
chosen_by a b false true l ha hb p q o = is_side (rw (p, q)) (eqb-true a 1 q) (omega (arith, eqb-false b 1 p))
chosen_by a b false false true ha hb p q o =
    is_long (rw (p, q, o)) (omega (arith, eqb-false a 1 q)) (omega (arith, eqb-false b 1 p)) (ltb-true (3 * b) (2 * a) o)
chosen_by a b false false false ha hb p q o =
    is_u (rw (p, q, o)) (omega (arith, eqb-false a 1 q)) (omega (arith, eqb-false b 1 p)) (ltb-false (3 * b) (2 * a) o)

pub chosen : (k : Block) → Sized k → Chosen k.a k.b
chosen k h = chosen_by k.a k.b (eqb k.b 1) (eqb k.a 1) (ltb (3 * k.b) (2 * k.a)) h.run h.side refl refl refl

-- the parts of a block by its case
pub parts_are : (k : Block) (c : Choice) → choice k.a k.b ≡ c → parts k ≡ map (λ p. part p k) (parts_of c)
unfolding parts
parts_are k c e = ap (λ c. map (λ p. part p k) (parts_of c)) e

-- what a part is to the block that is cut: sized, shorter, and with at most two thirds of its squares
pub record Smaller (k q : Block) : Type 0 where
  pub sized : Sized q
  pub falls : q.a + q.b < k.a + k.b
  pub two_thirds : 3 * (q.a * q.b) ≤ 2 * (k.a * k.b)

cut_less : (x y X Y : ℕ) → 3 * x ≤ 2 * X → y ≤ Y → 3 * (x * y) ≤ 2 * (X * Y)
cut_less x y X Y h l =
    let p : 3 * x * y ≤ 2 * X * Y = mul-le-mul h l in
    omega (arith, mul_assoc 3 x y, mul_assoc 2 X Y)

side_less : (x y X Y : ℕ) → x ≤ X → 3 * y ≤ 2 * Y → 3 * (x * y) ≤ 2 * (X * Y)
side_less x y X Y l h = rw (mul_comm x y, mul_comm X Y) (cut_less y x Y X h l)

turned_less : (x y X Y : ℕ) → 3 * x ≤ 2 * Y → y ≤ X → 3 * (x * y) ≤ 2 * (X * Y)
turned_less x y X Y h l = rw (mul_comm X Y) (cut_less x y Y X h l)

-- each part of a long cut, and each of a U cut, is smaller
long_smaller : (k : Block) → 2 ≤ k.a → 1 ≤ k.b → All (Smaller k) (map (λ p. part p k) (parts_of LongCut))
unfolding part parts_of
long_smaller k a b =
    let half = halves k.a a in
    let e = even_half k.a in
    let side = le_refl k.b in (
      record { sized = omega arith; falls = omega arith; two_thirds = cut_less e k.b k.a k.b half.high side },
      (record { sized = omega arith; falls = omega arith; two_thirds = cut_less (k.a - e) k.b k.a k.b (omega arith) side }, tt),
    )

u_smaller : (k : Block) → 2 ≤ k.a → 2 ≤ k.b → All (Smaller k) (map (λ p. part p k) (parts_of UCut))
unfolding part parts_of
u_smaller k a b =
    let half = halves k.b b in
    let e = even_half k.b in
    let m = k.a / 2 in (
      record { sized = omega arith; falls = omega arith; two_thirds = turned_less e m k.a k.b half.high (omega arith) },
      (
        record { sized = omega arith; falls = omega arith; two_thirds = side_less k.a (k.b - e) k.a k.b (le_refl k.a) (omega arith) },
        (record { sized = omega arith; falls = omega arith; two_thirds = turned_less e (k.a - m) k.a k.b half.high (omega arith) }, tt),
      ),
    )

smaller_by : (k : Block) → Sized k → Chosen k.a k.b → All (Smaller k) (parts k)
unfolding parts_of
smaller_by k h (is_run e b) = subst⁻¹ (All (Smaller k)) (parts_are k StraightRun e) tt
smaller_by k h (is_side e a b) = subst⁻¹ (All (Smaller k)) (parts_are k StraightSide e) tt
smaller_by k h (is_long e a b l) = subst⁻¹ (All (Smaller k)) (parts_are k LongCut e) (long_smaller k a h.side)
smaller_by k h (is_u e a b l) = subst⁻¹ (All (Smaller k)) (parts_are k UCut e) (u_smaller k a b)

pub smaller : (k : Block) → Sized k → All (Smaller k) (parts k)
smaller k h = smaller_by k h (chosen k h)

-- a + b cuts are deep enough, so that deeper changes nothing
module _ {R : Type 0} (of : Block → List R → R) where
  enough : (n m : ℕ) (k : Block) → Sized k → k.a + k.b ≤ n → k.a + k.b ≤ m → down of n k ≡ down of m k
  unfolding down
  enough zero m k h l r = absurd (omega arith)
  enough (suc n) zero k h l r = absurd (omega arith)
  enough (suc n) (suc m) k h l r =
      ap (of k)
      (map_all (down of n) (down of m) (parts k)
      (AllMap (λ q s. enough n m q s.sized (let f = s.falls in omega arith) (let f = s.falls in omega arith)) (parts k) (smaller k h)))

  rule_by : (n : ℕ) (k : Block) → Sized k → k.a + k.b ≡ n → down of n k ≡ of k (map (λ q. down of (q.a + q.b) q) (parts k))
  unfolding down
  rule_by zero k h e = absurd (omega arith)
  rule_by (suc n) k h e =
      ap (of k)
      (map_all (down of n) (λ q. down of (q.a + q.b) q) (parts k)
      (AllMap (λ q s. enough n (q.a + q.b) q s.sized (let f = s.falls in omega arith) (le_refl (q.a + q.b))) (parts k) (smaller k h)))

-- "The curve of a block is the curves of its parts in order", and its blocks are itself and those of its parts.
pub curve_rule : (k : Block) → Sized k → curve k ≡ curve_by (choice k.a k.b) k (map curve (parts k))
unfolding curve
curve_rule k h = rule_by (λ j curves. curve_by (choice j.a j.b) j curves) (k.a + k.b) k h refl

pub blocks_rule : (k : Block) → Sized k → blocks k ≡ k ∷ flatten (map blocks (parts k))
unfolding blocks
blocks_rule k h = rule_by (λ j below. j ∷ flatten below) (k.a + k.b) k h refl

-- "Long cut, two parts in this order" and "U cut, three parts in this order", of every block, with the even half in numbers: L div 2, and one more exactly if
-- L > 2 and L div 2 is odd; m is a div 2, of any length.
pub half_in_numbers : (L : ℕ) → (2 < L → L / 2 % 2 ≡ 1 → even_half L ≡ L / 2 + 1) × ((L ≤ 2) ⊎ (L / 2 % 2 ≡ 0) → even_half L ≡ L / 2)
unfolding even_half
half_in_numbers L = (λ more odd. rw (lt-ltb 2 L more, odd) refl, elim [ inl few ↦ rw (le-ltb 2 L few) refl | inr even ↦ rw (even, and-false (ltb 2 L)) refl ])

pub long_parts : (k : Block) → choice k.a k.b ≡ LongCut →
    let e = even_half k.a in
    parts k
    ≡ record { start = k.start; run = k.run; a = e; side = k.side; b = k.b }
    ∷ record { start = moved k.run e k.start; run = k.run; a = k.a - e; side = k.side; b = k.b }
    ∷ []
unfolding parts parts_of part
long_parts k is = ap (λ c. map (λ p. part p k) (parts_of c)) is

pub u_parts : (k : Block) → choice k.a k.b ≡ UCut →
    let e = even_half k.b in
    let m = k.a / 2 in
    parts k
    ≡ record { start = k.start; run = k.side; a = e; side = k.run; b = m }
    ∷ record { start = moved k.side e k.start; run = k.run; a = k.a; side = k.side; b = k.b - e }
    ∷ record {
      start = moved k.side (e - 1) (moved k.run (k.a - 1) k.start);
      run = against k.side;
      a = e;
      side = against k.run;
      b = k.a - m;
    }
    ∷ []
unfolding parts parts_of part
u_parts k is = ap (λ c. map (λ p. part p k) (parts_of c)) is
