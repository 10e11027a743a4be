-- A placed block by its fields: the parts of a placed block, by the two bits of its directions; steps that
-- stay coordinates in a block that lies inside; two placed blocks that stand for one block are one.
use mathlib.Core.Bool.{Bool, true, false, not, cond}
use mathlib.Core.Path.{◌≡◌, refl, sym, ap, ap₂, ◌∙◌}
use Prim.Native.Nat.{ℕ, ◌-◌, ◌/◌, ◌<◌}
use native.Mathlib.Nat.{add-zero, sub-zero}
use native.Mathlib.Omega.{arith}
use Rattle.terms.specs.Terms.{longest_side}
use Rattle.division.specs.declared.Choice.TheVariants.{LongCut, UCut}
use Rattle.division.specs.declared.Placed.{Placed}
use Rattle.division.specs.Division.{square, Direction, +x, +y, -x, -y, Block, even_half, First, Second, A, B, C, part, moved, against}
use Rattle.division.specs.Division.Inside.{Room, Inside}
use Rattle.division.proofs.Rules.{Halves, halves}
use Rattle.division.proofs.Cases.{long_lengths, u_lengths}
use Rattle.division.specs.Forms.{direction, block, block_at, CutBy, stepped_to, Steps}

-- steps of less than the run's length, and of less than the side's, stay within the area
steps_by : (along across : ℕ) (turned back : Bool) (a n : ℕ)
    → Room longest_side longest_side (direction turned back) a (cond turned (square across along) (square along across)) → n < a → Steps along n back
steps_by along across false false a n r l = omega arith
steps_by along across false true a n r l = omega arith
steps_by along across true false a n r l = omega arith
steps_by along across true true a n r l = omega arith

pub steps_along : (k : Placed) → Inside longest_side longest_side (block k) → (n : ℕ) → n < k.a → Steps k.along n k.back
steps_along k i n l = steps_by k.along k.across k.turned k.back k.a n i.run l

steps_across_by : (along across : ℕ) (turned back : Bool) (b n : ℕ)
    → Room longest_side longest_side (direction (not turned) back) b (cond turned (square across along) (square along across)) → n < b → Steps across n back
steps_across_by along across false back b n r l = steps_by across along true back b n r l
steps_across_by along across true back b n r l = steps_by across along false back b n r l

pub steps_across : (k : Placed) → Inside longest_side longest_side (block k) → (n : ℕ) → n < k.b → Steps k.across n k.back
steps_across k i n l = steps_across_by k.along k.across k.turned k.back k.b n i.side l

-- the even half of the length that a cut goes by is a proper part of it
pub half_run : (k : Placed) → CutBy LongCut k → Halves k.a (even_half k.a)
half_run k cut = halves k.a (long_lengths (block k) cut.0.sized cut.1).0

pub half_side : (k : Placed) → CutBy UCut k → Halves k.b (even_half k.b)
half_side k cut = halves k.b (u_lengths (block k) cut.0.sized cut.1).1

-- the parts of a placed block, each by the two bits of its directions
long_by : (along across a b : ℕ) (turned back second : Bool)
    → block_at (stepped_to along (cond second (even_half a) 0) back) across turned back (cond second (a - even_half a) (even_half a)) b
    ≡ part (cond second Second First) (block_at along across turned back a b)
unfolding part moved
long_by along across a b false false true = refl
long_by along across a b false true true = refl
long_by along across a b true false true = refl
long_by along across a b true true true = refl
long_by along across a b false false false = rw add-zero
long_by along across a b false true false = rw sub-zero
long_by along across a b true false false = rw add-zero
long_by along across a b true true false = rw sub-zero

pub long_block : (k : Placed) (second : Bool) (e skip there run : ℕ) → e ≡ even_half k.a → skip ≡ cond second e 0
    → there ≡ stepped_to k.along skip k.back → run ≡ cond second (k.a - e) e
    → block_at there k.across k.turned k.back run k.b ≡ part (cond second Second First) (block k)
long_block k second e skip there run p q r s =
    let is_there : there ≡ stepped_to k.along (cond second (even_half k.a) 0) k.back =
    r ∙ ap (λ n. stepped_to k.along n k.back) (q ∙ ap (λ n. cond second n 0) p) in
    let is_run : run ≡ cond second (k.a - even_half k.a) (even_half k.a) = s ∙ ap (λ n. cond second (k.a - n) n) p in
    ap₂ (λ t n. block_at t k.across k.turned k.back n k.b) is_there is_run
    ∙ long_by k.along k.across k.a k.b k.turned k.back second

a_by : (along across a b e : ℕ) (turned back : Bool) → e ≡ even_half b
    → block_at across along (not turned) back e (a / 2) ≡ part A (block_at along across turned back a b)
unfolding part
a_by along across a b e false back p = rw p
a_by along across a b e true back p = rw p

pub a_block : (k : Placed) (e : ℕ) → e ≡ even_half k.b
    → block_at k.across k.along (not k.turned) k.back e (k.a / 2) ≡ part A (block k)
a_block k e p = a_by k.along k.across k.a k.b e k.turned k.back p

b_by : (along across a b : ℕ) (turned back : Bool)
    → block_at along (stepped_to across (even_half b) back) turned back a (b - even_half b) ≡ part B (block_at along across turned back a b)
unfolding part moved
b_by along across a b false false = refl
b_by along across a b false true = refl
b_by along across a b true false = refl
b_by along across a b true true = refl

pub b_block : (k : Placed) (e there : ℕ) → e ≡ even_half k.b → there ≡ stepped_to k.across e k.back
    → block_at k.along there k.turned k.back k.a (k.b - e) ≡ part B (block k)
b_block k e there p q =
    ap₂ (λ t n. block_at k.along t k.turned k.back k.a (k.b - n)) (q ∙ ap (λ n. stepped_to k.across n k.back) p) p
    ∙ b_by k.along k.across k.a k.b k.turned k.back

c_by : (along across a b : ℕ) (turned back : Bool)
    → block_at (stepped_to across (even_half b - 1) back) (stepped_to along (a - 1) back) (not turned) (not back) (even_half b) (a - a / 2)
    ≡ part C (block_at along across turned back a b)
unfolding part moved against
c_by along across a b false false = refl
c_by along across a b false true = refl
c_by along across a b true false = refl
c_by along across a b true true = refl

pub c_block : (k : Placed) (e up last : ℕ) → e ≡ even_half k.b
    → up ≡ stepped_to k.across (e - 1) k.back → last ≡ stepped_to k.along (k.a - 1) k.back
    → block_at up last (not k.turned) (not k.back) e (k.a - k.a / 2) ≡ part C (block k)
c_block k e up last p q r =
    let is_up : up ≡ stepped_to k.across (even_half k.b - 1) k.back = q ∙ ap (λ n. stepped_to k.across (n - 1) k.back) p in
    (λ i. block_at (is_up i) (r i) (not k.turned) (not k.back) (p i) (k.a - k.a / 2))
    ∙ c_by k.along k.across k.a k.b k.turned k.back

-- a square n steps along the run, or along the side, of a placed block
pub run_moved : (along across : ℕ) (turned back : Bool) (n : ℕ)
    → cond turned (square across (stepped_to along n back)) (square (stepped_to along n back) across)
    ≡ moved (direction turned back) n (cond turned (square across along) (square along across))
unfolding moved
run_moved along across false false n = refl
run_moved along across false true n = refl
run_moved along across true false n = refl
run_moved along across true true n = refl

pub side_moved : (along across : ℕ) (turned back : Bool) (n : ℕ)
    → cond turned (square (stepped_to across n back) along) (square along (stepped_to across n back))
    ≡ moved (direction (not turned) back) n (cond turned (square across along) (square along across))
unfolding moved
side_moved along across false false n = refl
side_moved along across false true n = refl
side_moved along across true false n = refl
side_moved along across true true n = refl

-- Two placed blocks that stand for one block are one: which axis is the run's, and which way it goes, can be told from its direction. So the contracts of
-- the parts leave no choice.
along_y : Direction → Bool
along_y +x = false
along_y +y = true
along_y -x = false
along_y -y = true

backwards : Direction → Bool
backwards +x = false
backwards +y = false
backwards -x = true
backwards -y = true

placed_from : Block → Placed
placed_from k =
    record {
      along = cond (along_y k.run) k.start.y k.start.x;
      across = cond (along_y k.run) k.start.x k.start.y;
      turned = along_y k.run;
      back = backwards k.run;
      a = k.a;
      b = k.b;
    }

placed_by : (along across : ℕ) (turned back : Bool) (a b : ℕ)
    → placed_from (block_at along across turned back a b) ≡ record { along = along; across = across; turned = turned; back = back; a = a; b = b }
unfolding placed_from along_y backwards
placed_by along across false false a b = refl
placed_by along across false true a b = refl
placed_by along across true false a b = refl
placed_by along across true true a b = refl

pub placed_one : (j k : Placed) {q : Block} → block j ≡ q → block k ≡ q → j ≡ k
placed_one j k p q =
    sym (placed_by j.along j.across j.turned j.back j.a j.b)
    ∙ ap placed_from (p ∙ sym q)
    ∙ placed_by k.along k.across k.turned k.back k.a k.b
