-- How many blocks a division has, and how many of them hold one square: demand 3. By induction over blocks: at most one part holds the square,
-- a part has at most two thirds of its block's squares, and a cut block has at least 4.
use mathlib.Core.Bool.{Bool, true, false}
use mathlib.Core.List.{List, [], ◌∷◌, map, flatten}
use mathlib.Core.Logic.{⊎_elim}
use mathlib.Core.Path.{◌≡◌, refl, sym, ap, subst⁻¹, ◌∙◌}
use Prim.Native.Nat.{ℕ, suc, ◌+◌, ◌*◌, ◌^◌, ◌≤◌, ◌<◌}
use native.Mathlib.Nat.{mul_assoc, mul_comm, mul-le-mul, mul-le-mul_left, mul-le-mul_right, mul_right_comm, pow-suc, eq-or-lt_of_le, lt_of_not-le}
use native.Mathlib.Decide.{dec_le, le_ind}
use native.Mathlib.Numerals.{one-add}
use native.Mathlib.Omega.{arith}
use lib.Dec.{lit<, lit≤}
use lib.ListN.{length}
use Rattle.terms.specs.Terms.{longest_side, most_squares}
use Rattle.division.specs.Division.{Square, Block, whole, parts, blocks, holds, one, count, blocks_holding}
use Rattle.division.specs.Division.Inside.{Sized, x_y, Inside}
use Rattle.division.proofs.Rules.{All, AllMap, Smaller, smaller, blocks_rule}
use Rattle.division.proofs.Cases.{induction, Cut, in_two, in_three, Shape, in_run, in_side, cut, shape}
use Rattle.division.proofs.Plane.{one_le}
use Rattle.division.proofs.Sums.{total, count_joined, length_joined, all_joined, none_of, one_of, total_le, AllUse}
use Rattle.division.proofs.Cuts.{area, areas, inside_parts, holds_parts}

-- a cut block has at least 4 squares and two parts
four : (k : Block) → Cut k → 4 ≤ area k
four k (in_two a b e) = mul-le-mul a b
four k (in_three a b e) = mul-le-mul a b

two_parts : (k : Block) → Cut k → 2 ≤ length (parts k)
two_parts k (in_two a b e) = rw e (omega arith)
two_parts k (in_three a b e) = rw e (omega arith)

pub blocks_length : (k : Block) → Sized k → length (blocks k) ≡ 1 + total (λ q. length (blocks q)) (parts k)
blocks_length k h = ap length (blocks_rule k h) ∙ ap suc (length_joined blocks (parts k)) ∙ sym (one-add (total (λ q. length (blocks q)) (parts k)))

-- each part has room for its blocks
rooms : (qs : List Block) → All (λ q. length (blocks q) + 1 ≤ 2 * area q) qs → total (λ q. length (blocks q)) qs + length qs ≤ 2 * total area qs
rooms [] h = omega arith
rooms (q ∷ qs) h = let here = h.0 in let rest = rooms qs h.1 in omega arith

straight_few : (k : Block) → Sized k → parts k ≡ [] → length (blocks k) + 1 ≤ 2 * area k
straight_few k h e =
    let n : length (blocks k) ≡ 1 = blocks_length k h ∙ rw e in
    let p : 1 * 1 ≤ area k = mul-le-mul h.run h.side in
    omega arith

few_step : (k : Block) → Sized k → All (λ q. length (blocks q) + 1 ≤ 2 * area q) (parts k) → Shape k → length (blocks k) + 1 ≤ 2 * area k
few_step k h all (in_run b e c) = straight_few k h e
few_step k h all (in_side a e c) = straight_few k h e
few_step k h all (cut t c) =
    let sum = blocks_length k h in
    let most = rooms (parts k) all in
    let two = two_parts k t in
    let whole = areas k t in
    omega arith

-- the division of a block has at most 2·a·b - 1 blocks
pub few_blocks : (k : Block) → Sized k → length (blocks k) + 1 ≤ 2 * area k
few_blocks = induction (λ k. length (blocks k) + 1 ≤ 2 * area k) (λ k h all. few_step k h all (shape k h))

-- every block of the division lies within the area, with one of the four pairs of directions
inside_step : (w h : ℕ) (k : Block) → Sized k → All (λ q. Inside w h q → All (Inside w h) (blocks q)) (parts k) → Inside w h k → Shape k
    → All (Inside w h) (flatten (map blocks (parts k)))
unfolding flatten
inside_step w h k s all i (in_run b e c) = rw e tt
inside_step w h k s all i (in_side a e c) = rw e tt
inside_step w h k s all i (cut t c) =
    all_joined (Inside w h) blocks (parts k) (AllUse (Inside w h) (λ q. All (Inside w h) (blocks q)) (parts k) all (inside_parts w h k i t))

pub blocks_inside : (w h : ℕ) (k : Block) → Inside w h k → All (Inside w h) (blocks k)
blocks_inside w h k i =
    induction (λ q. Inside w h q → All (Inside w h) (blocks q))
    (λ q s all j. subst⁻¹ (All (Inside w h)) (blocks_rule q s) (j, inside_step w h q s all j (shape q s))) k i.sized i

-- the blocks that hold a square are the block, if it holds it, and those of its parts
pub holding_rule : (k : Block) (p : Square) → Sized k → blocks_holding k p ≡ one (holds k p) + total (λ q. blocks_holding q p) (parts k)
unfolding blocks_holding count
holding_rule k p h =
    ap (count (λ j. holds j p)) (blocks_rule k h) ∙ ap (λ n. one (holds k p) + n) (count_joined (λ j. holds j p) blocks (parts k))

-- what demand 3 says of a block and a square
pub record Bounded (p : Square) (k : Block) : Type 0 where
  pub none : one (holds k p) ≡ 0 → blocks_holding k p ≡ 0
  pub some : one (holds k p) ≡ 1 → 1 ≤ blocks_holding k p
  pub bound : 1 < blocks_holding k p → 3 ^ blocks_holding k p ≤ 2 ^ blocks_holding k p * area k

-- from a part of S squares to its block of K
up_one : (n S K : ℕ) → 1 ≤ n → 4 ≤ K → 3 * S ≤ 2 * K → (1 < n → 3 ^ n ≤ 2 ^ n * S) → 3 ^ suc n ≤ 2 ^ suc n * K
up_one n S K l four less h = ⊎_elim one_block more (eq-or-lt_of_le l)
  where
    one_block : 1 ≡ n → 3 ^ suc n ≤ 2 ^ suc n * K
    one_block e = rw (← e) (omega arith)

    more : 1 < n → 3 ^ suc n ≤ 2 ^ suc n * K
    more m =
        let a : 3 ^ suc n ≡ 3 ^ n * 3 = pow-suc 3 n in
        let b : 2 ^ suc n * K ≡ 2 ^ n * (2 * K) = ap (λ z. z * K) (pow-suc 2 n) ∙ mul_assoc (2 ^ n) 2 K in
        let c : 3 ^ n * 3 ≤ 2 ^ n * S * 3 = mul-le-mul_right 3 (h m) in
        let d : 2 ^ n * S * 3 ≡ 2 ^ n * (3 * S) = mul_assoc (2 ^ n) S 3 ∙ ap (λ z. 2 ^ n * z) (mul_comm S 3) in
        let e : 2 ^ n * (3 * S) ≤ 2 ^ n * (2 * K) = mul-le-mul_left (2 ^ n) less in
        omega arith

straight_bounded : (p : Square) (k : Block) → Sized k → parts k ≡ [] → Bounded p k
straight_bounded p k s e =
    let n : blocks_holding k p ≡ one (holds k p) + 0 = holding_rule k p s ∙ rw e in
    let l = one_le (holds k p) in
    record { none = λ z. omega arith; some = λ z. omega arith; bound = λ z. absurd (omega arith) }

cut_bounded : (w h : ℕ) (p : Square) (k : Block) → Inside w h k → Cut k → All (Bounded p) (parts k) → Bounded p k
cut_bounded w h p k i t all = ⊎_elim outside held (one_of Known marked deep (parts k) known all_none one_at_most)
  where
    Known : Block → Type 0
    Known q = Bounded p q × Smaller k q

    marked : Block → ℕ
    marked q = one (holds q p)

    deep : Block → ℕ
    deep q = blocks_holding q p

    known : All Known (parts k)
    known = AllUse (Smaller k) Known (parts k) (AllMap (λ q b s. (b, s)) (parts k) all) (smaller k i.sized)

    all_none : All (λ q. marked q ≡ 0 → deep q ≡ 0) (parts k)
    all_none = AllMap (λ q b. b.none) (parts k) all

    sum : total marked (parts k) ≡ one (holds k p)
    sum = holds_parts w h k i t p

    one_at_most : total marked (parts k) ≤ 1
    one_at_most = let l = one_le (holds k p) in omega (arith, sum)

    n : blocks_holding k p ≡ one (holds k p) + total deep (parts k)
    n = holding_rule k p i.sized

    outside : total marked (parts k) ≡ 0 → Bounded p k
    outside z =
        let zero_sum : total deep (parts k) ≡ 0 = none_of marked deep (parts k) all_none z in
        record {
          none = λ e. omega (arith, n);
          some = λ e. absurd (omega (arith, sum));
          bound = λ l. absurd (omega (arith, n, sum));
        }

    held : ((q : Block) × Known q × (marked q ≡ 1) × (total marked (parts k) ≡ 1) × (total deep (parts k) ≡ deep q)) → Bounded p k
    held f =
        let more : blocks_holding k p ≡ suc (deep f.0) = let d = f.4 in let a = f.3 in omega (arith, n, sum) in
        record {
          none = λ e. absurd (let a = f.3 in omega (arith, sum));
          some = λ e. omega arith;
          bound = λ l. subst⁻¹ (λ (z : ℕ). 3 ^ z ≤ 2 ^ z * area k) more
              (up_one (deep f.0) (area f.0) (area k) (f.1.0.some f.2) (four k t) f.1.1.two_thirds f.1.0.bound);
        }

bounded_by : (w h : ℕ) (p : Square) (k : Block) → All (λ q. Inside w h q → Bounded p q) (parts k) → Inside w h k → Shape k → Bounded p k
bounded_by w h p k all i (in_run b e c) = straight_bounded p k i.sized e
bounded_by w h p k all i (in_side a e c) = straight_bounded p k i.sized e
bounded_by w h p k all i (cut t c) = cut_bounded w h p k i t (AllUse (Inside w h) (Bounded p) (parts k) all (inside_parts w h k i t))

pub bounded : (w h : ℕ) (k : Block) → Inside w h k → (p : Square) → Bounded p k
bounded w h k i p = induction (λ q. Inside w h q → Bounded p q) (λ q s all j. bounded_by w h p q all j (shape q s)) k i.sized i

-- at least two blocks hold each square of a block that is cut
some_least : (b : Bool) (n : ℕ) → (one b ≡ 1 → 1 ≤ n) → one b ≤ n
some_least true n h = h refl
some_least false n h = omega arith

pub cut_holding : (w h : ℕ) (k : Block) → Inside w h k → Cut k → (p : Square) → holds k p ≡ true → 2 ≤ blocks_holding k p
cut_holding w h k i t p held =
    let least : total (λ q. one (holds q p)) (parts k) ≤ total (λ q. blocks_holding q p) (parts k) =
    total_le (λ q. one (holds q p)) (λ q. blocks_holding q p) (parts k)
    (AllMap (λ q j. some_least (holds q p) (blocks_holding q p) (bounded w h q j p).some) (parts k) (inside_parts w h k i t)) in
    let sum = holds_parts w h k i t p in
    let here : one (holds k p) ≡ 1 = ap one held in
    let rule = holding_rule k p i.sized in
    omega arith

-- once 3 ^ m exceeds 2 ^ m times a number, it goes on exceeding it
outgrows : (S m : ℕ) → 2 ^ m * S < 3 ^ m → (n : ℕ) → m ≤ n → 2 ^ n * S < 3 ^ n
outgrows S m base = le_ind (λ n. 2 ^ n * S < 3 ^ n) base step
  where
    step : (n : ℕ) → m ≤ n → 2 ^ n * S < 3 ^ n → 2 ^ suc n * S < 3 ^ suc n
    step n l h =
        let a : 3 ^ suc n ≡ 3 ^ n * 3 = pow-suc 3 n in
        let b : 2 ^ suc n * S ≡ 2 ^ n * S * 2 = ap (λ z. z * S) (pow-suc 2 n) ∙ mul_right_comm (2 ^ n) 2 S in
        omega arith

-- so a bound on the squares bounds the blocks that hold one of them
held_by_at_most : (S m : ℕ) → 2 ^ suc m * S < 3 ^ suc m → (k : Block) (p : Square) → Bounded p k → 1 ≤ m → area k ≤ S → blocks_holding k p ≤ m
held_by_at_most S m base k p b l s = by (dec_le (blocks_holding k p) m)
  where
    n : ℕ
    n = blocks_holding k p

    by : Dec (n ≤ m) → n ≤ m
    by (yes y) = y
    by (no x) =
        let more : suc m ≤ n = lt_of_not-le x in
        let grown = outgrows S (suc m) base n more in
        let held : 3 ^ n ≤ 2 ^ n * area k = b.bound (omega arith) in
        let less : 2 ^ n * area k ≤ 2 ^ n * S = mul-le-mul_left (2 ^ n) s in
        absurd (omega arith)

pub whole_inside : (w h : ℕ) → 1 ≤ w → 1 ≤ h → Inside w h (whole w h)
unfolding whole
whole_inside w h a b = record { sized = record { run = a; side = b }; paired = x_y; run = omega arith; side = omega arith }

-- Demand 3, for every square of every w by h area.
pub demand_3 : (w h : ℕ) → 1 ≤ w → 1 ≤ h → (p : Square) → 1 < blocks_holding (whole w h) p
    → 3 ^ blocks_holding (whole w h) p ≤ 2 ^ blocks_holding (whole w h) p * (w * h)
unfolding whole
demand_3 w h a b p = (bounded w h (whole w h) (whole_inside w h a b) p).bound

pub at_most_54 : (w h : ℕ) → 1 ≤ w → w ≤ longest_side → 1 ≤ h → h ≤ longest_side → (p : Square) → blocks_holding (whole w h) p ≤ 54
unfolding whole
at_most_54 w h a w_limit b h_limit p =
    held_by_at_most (longest_side * longest_side) 54 (lit< tt) (whole w h) p (bounded w h (whole w h) (whole_inside w h a b) p) (lit≤ tt)
    (mul-le-mul w_limit h_limit)

-- Order 7: "a lookup reports at most 41 blocks", from demand 3: 42 blocks would take over 16,777,216 squares.
pub at_most_41 : (w h : ℕ) → 1 ≤ w → 1 ≤ h → w * h ≤ most_squares → (p : Square) → blocks_holding (whole w h) p ≤ 41
unfolding whole
at_most_41 w h a b few p = held_by_at_most most_squares 41 (lit< tt) (whole w h) p (bounded w h (whole w h) (whole_inside w h a b) p) (lit≤ tt) few
