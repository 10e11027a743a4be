-- The curve of a block has a·b squares, each square of the block is in it exactly once, and no other. So number and square undo each other.
-- By induction over blocks: counts add up over the parts, and each square of a cut block is in exactly one part.
use mathlib.Core.Bool.{Bool, true, false}
use mathlib.Core.Path.{◌≡◌, refl, sym, ap, ap₂, subst, subst⁻¹, ◌∙◌}
use Prim.Native.Nat.{ℕ, zero, suc, ◌+◌, ◌*◌, ◌≤◌, ◌<◌, min}
use native.Mathlib.Nat.{mul-one, one-mul, min_comm}
use native.Mathlib.Numerals.{one-add}
use native.Mathlib.Omega.{arith}
use lib.ListN.{length, get_or}
use Rattle.division.specs.Division.{Square, square, Direction, Block, parts, moved, row, curve, within, holds, one, count, same, square_of, number_of}
use Rattle.division.specs.Division.Inside.{Sized, Paired, Room, Inside}
use Rattle.division.proofs.Rules.{All}
use Rattle.division.proofs.Cases.{induction, Shape, in_run, in_side, cut, shape}
use Rattle.division.proofs.Plane.{turned, room_on, one_and, one_le, min_split, within_none, within_split, within_across, same_within}
use Rattle.division.proofs.Sums.{total_all, count_joined, length_joined, AllUse}
use Rattle.division.proofs.Cuts.{area, areas, inside_parts, holds_parts}
use Rattle.division.proofs.PlaceInList.{counted, found, unique}

pub row_length : (d : Direction) (n : ℕ) (s : Square) → length (row d n s) ≡ n
unfolding row
row_length d zero s = refl
row_length d (suc n) s = ap suc (row_length d n (moved d 1 s))

length_step : (k : Block) → Sized k → All (λ q. length (curve q) ≡ area q) (parts k) → Shape k → length (curve k) ≡ area k
length_step k h all (in_run b e c) = ap length c ∙ row_length k.run k.a k.start ∙ sym (ap (λ n. k.a * n) b ∙ mul-one k.a)
length_step k h all (in_side a e c) = ap length c ∙ row_length k.side k.b k.start ∙ sym (ap (λ n. n * k.b) a ∙ one-mul k.b)
length_step k h all (cut t c) =
    ap length c ∙ length_joined curve (parts k) ∙ total_all (λ q. length (curve q)) area (parts k) all ∙ areas k t

-- the curve of a block has a·b squares
pub length_curve : (k : Block) → Sized k → length (curve k) ≡ area k
length_curve = induction (λ k. length (curve k) ≡ area k) (λ k h all. length_step k h all (shape k h))

-- a row holds each square of its stretch once
row_once : (w h : ℕ) {d t : Direction} → Paired d t → (n : ℕ) (s p : Square) → Room w h d n s
    → count (same p) (row d n s) ≡ min (one (within d n s p)) (one (within t 1 s p))
unfolding row count
row_once w h {d} {t} q zero s p r = let none = within_none w h d s p r in omega arith
row_once w h {d} {t} q (suc n) s p r =
    let split : one (within d (suc n) s p) ≡ one (within d 1 s p) + one (within d n (moved d 1 s) p) =
    subst (λ (z : ℕ). one (within d z s p) ≡ one (within d 1 s p) + one (within d n (moved d 1 s) p)) (one-add n)
    (within_split w h d 1 n s p (subst⁻¹ (λ (z : ℕ). Room w h d z s) (one-add n) r)) in
    ap₂ ◌+◌ (same_within q s p)
    (row_once w h q n (moved d 1 s) p (room_on w h d 1 n (suc n) s r (omega arith))
    ∙ ap (λ (b : Bool). min (one (within d n (moved d 1 s) p)) (one b)) (within_across (turned q) 1 1 s p))
    ∙ min_split (one (within d (suc n) s p)) (one (within d 1 s p)) (one (within d n (moved d 1 s) p)) (one (within t 1 s p)) split
    (one_le (within d (suc n) s p)) (one_le (within t 1 s p))

once_step : (w h : ℕ) (p : Square) (k : Block) → All (λ q. Inside w h q → count (same p) (curve q) ≡ one (holds q p)) (parts k) → Inside w h k → Shape k
    → count (same p) (curve k) ≡ one (holds k p)
unfolding holds
once_step w h p k all i (in_run b e c) =
    ap (count (same p)) c
    ∙ row_once w h i.paired k.a k.start p i.run
    ∙ ap (λ n. min (one (within k.run k.a k.start p)) (one (within k.side n k.start p))) (sym b)
    ∙ sym (one_and (within k.run k.a k.start p) (within k.side k.b k.start p))
once_step w h p k all i (in_side a e c) =
    ap (count (same p)) c
    ∙ row_once w h (turned i.paired) k.b k.start p i.side
    ∙ min_comm (one (within k.side k.b k.start p)) (one (within k.run 1 k.start p))
    ∙ ap (λ n. min (one (within k.run n k.start p)) (one (within k.side k.b k.start p))) (sym a)
    ∙ sym (one_and (within k.run k.a k.start p) (within k.side k.b k.start p))
once_step w h p k all i (cut t c) =
    ap (count (same p)) c
    ∙ count_joined (same p) curve (parts k)
    ∙ total_all (λ q. count (same p) (curve q)) (λ q. one (holds q p)) (parts k)
    (AllUse (Inside w h) (λ q. count (same p) (curve q) ≡ one (holds q p)) (parts k) all (inside_parts w h k i t))
    ∙ holds_parts w h k i t p

-- each square of the block is in its curve exactly once, and no other is in it
pub once : (w h : ℕ) (k : Block) → Inside w h k → (p : Square) → count (same p) (curve k) ≡ one (holds k p)
once w h k i p =
    induction (λ q. Inside w h q → count (same p) (curve q) ≡ one (holds q p)) (λ q s all j. once_step w h p q all j (shape q s)) k i.sized i

one_true : (b : Bool) → 1 ≤ one b → b ≡ true
one_true true l = refl
one_true false l = absurd (omega arith)

module _ (w h : ℕ) (k : Block) (i : Inside w h k) where
  -- the block holds the square of each of its numbers
  pub square_held : (n : ℕ) → n < area k → holds k (square_of k n) ≡ true
  unfolding square_of
  square_held n l =
      let p = get_or (curve k) n (square 0 0) in
      let c = counted p (curve k) n (square 0 0) (subst⁻¹ (λ (z : ℕ). n < z) (length_curve k i.sized) l) refl in
      one_true (holds k p) (subst (λ (z : ℕ). 1 ≤ z) (once w h k i p) c)

  -- a held square's number is one of the block's, and has that square
  placed : (p : Square) → holds k p ≡ true → (number_of k p < length (curve k)) × (square_of k (number_of k p) ≡ p)
  unfolding square_of number_of
  placed p e = found p (curve k) (square 0 0) (subst⁻¹ (λ (z : ℕ). 1 ≤ z) (once w h k i p ∙ ap one e) (omega arith))

  pub number_below : (p : Square) → holds k p ≡ true → number_of k p < area k
  number_below p e = subst (λ (z : ℕ). number_of k p < z) (length_curve k i.sized) (placed p e).0

  -- number to square and square to number undo each other
  pub square_of_number : (p : Square) → holds k p ≡ true → square_of k (number_of k p) ≡ p
  square_of_number p e = (placed p e).1

  pub number_of_square : (n : ℕ) → n < area k → number_of k (square_of k n) ≡ n
  unfolding square_of number_of
  number_of_square n l =
      let p = get_or (curve k) n (square 0 0) in
      unique p (curve k) n (square 0 0) (subst⁻¹ (λ (z : ℕ). z ≤ 1) (once w h k i p) (one_le (holds k p)))
      (subst⁻¹ (λ (z : ℕ). n < z) (length_curve k i.sized) l) refl
