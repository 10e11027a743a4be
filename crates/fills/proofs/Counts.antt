-- What a fill counts of a block: the block itself and the blocks of its parts. A part that is copied has as many as the one that it repeats.
use mathlib.Core.Bool.{Bool}
use mathlib.Core.List.{◌++◌}
use mathlib.Core.Path.{◌≡◌, refl, sym, ap, ◌∙◌}
use Prim.Native.Nat.{ℕ, suc, ◌+◌, ◌-◌, ◌/◌, ◌%◌, ◌<◌}
use native.Mathlib.Nat.{mul-le-mul}
use native.Mathlib.Omega.{arith}
use lib.ListN.{length, length-append}
use Rattle.division.specs.declared.Choice.TheVariants.{StraightSide, LongCut, UCut}
use Rattle.division.specs.Division.{Block, choice, First, Second, A, B, C, part, blocks}
use Rattle.division.specs.Forms.{block}
use Rattle.division.proofs.Cases.{rule}
use Rattle.division.proofs.Blocks.{few_blocks}
use Rattle.division.proofs.SameLengths.{count_alike}
use Rattle.leaves.specs.declared.Numbered.{Numbered}
use Rattle.leaves.specs.Walk.{exchanged, Fits}
use Rattle.leaves.proofs.Straight.{run_count}
use Rattle.leaves.proofs.PartByPart.{Cut, first_call, a_call, side_call}

abbrev count : Block → ℕ
count k = length (blocks k)

-- a count of blocks is a 64-bit number
few : {kind : Bool} {w h size : ℕ} {k : Block} {at : ℕ} → Fits kind w h size k at → {n : ℕ} → n ≡ count k → n < 8589934592
few {k = k} fits is =
    let most = few_blocks k fits.inside.sized in
    let numbers = fits.numbers in
    let all = mul-le-mul fits.w_limit fits.h_limit in
    omega arith

-- the long cut, whose parts the code counts, or the first one twice
module _ {kind : Bool} {w h size : ℕ} {k : Block} {at m : ℕ} (cut : Cut kind LongCut w h size k at m) (p q : Numbered) (is_p : block p.placed ≡ part First k)
    (on_p : p.first ≡ at + 0) (is_q : block q.placed ≡ part Second k) {i : ℕ} (count_p : i ≡ count (block p.placed)) where
  pub long_count : {j : ℕ} → j ≡ count (block q.placed) → i + j + 1 ≡ count k
  long_count count_q =
      let sum =
      ap length (rule k LongCut cut.1.0.inside.sized cut.1.1).1
      ∙ ap suc (length-append (blocks (part First k)) (blocks (part Second k))) in
      let first = count_p ∙ ap count is_p in
      let second = count_q ∙ ap count is_q in
      omega arith

  pub long_few : {j : ℕ} → j ≡ count (block q.placed) → i + j + 1 < 8589934592
  long_few count_q = few cut.1.0 (long_count count_q)

  -- where the second repeats the first
  long_again : p.placed.a ≡ q.placed.a → i ≡ count (block q.placed)
  unfolding part
  long_again same =
      let sized = (first_call cut refl p is_p on_p).1.inside.sized in
      count_p ∙ sym (count_alike (block q.placed) (block p.placed) sized (sym same) (ap (λ b. b.b) is_q ∙ sym (ap (λ b. b.b) is_p)))

  pub long_twice : p.placed.a ≡ q.placed.a → i + i + 1 ≡ count k
  long_twice same = long_count (long_again same)

  pub long_twice_few : p.placed.a ≡ q.placed.a → i + i + 1 < 8589934592
  long_twice_few same = long_few (long_again same)

-- the U cut, or its part A twice
module _ {kind : Bool} {w h size : ℕ} {k : Block} {at m : ℕ} (cut : Cut kind UCut w h size k at m) (p q r : Numbered) (is_p : block p.placed ≡ part A k)
    (on_p : p.first ≡ at) (is_q : block q.placed ≡ part B k) (is_r : block r.placed ≡ part C k) {i j : ℕ} (count_p : i ≡ count (block p.placed))
    (count_q : j ≡ count (block q.placed)) where
  pub u_count : {l : ℕ} → l ≡ count (block r.placed) → i + j + l + 1 ≡ count k
  u_count count_r =
      let sum =
      ap length (rule k UCut cut.1.0.inside.sized cut.1.1).1
      ∙ ap suc (length-append (blocks (part A k)) (blocks (part B k) ++ blocks (part C k))
      ∙ ap (λ x. count (part A k) + x) (length-append (blocks (part B k)) (blocks (part C k)))) in
      let first = count_p ∙ ap count is_p in
      let second = count_q ∙ ap count is_q in
      let third = count_r ∙ ap count is_r in
      omega arith

  pub u_few : {l : ℕ} → l ≡ count (block r.placed) → i + j + l + 1 < 8589934592
  u_few count_r = few cut.1.0 (u_count count_r)

  -- where C repeats A
  u_again : k.a % 2 ≡ 0 → i ≡ count (block r.placed)
  unfolding part
  u_again even =
      let sized = (a_call cut refl p is_p on_p).1.inside.sized in
      let half : k.a / 2 ≡ k.a - k.a / 2 = omega arith in
      count_p
      ∙ sym
      (count_alike (block r.placed) (block p.placed) sized (ap (λ b. b.a) is_r ∙ sym (ap (λ b. b.a) is_p))
      (ap (λ b. b.b) is_r ∙ sym half ∙ sym (ap (λ b. b.b) is_p)))

  pub u_twice : k.a % 2 ≡ 0 → i + j + i + 1 ≡ count k
  u_twice even = u_count (u_again even)

  pub u_twice_few : k.a % 2 ≡ 0 → i + j + i + 1 < 8589934592
  u_twice_few even = u_few (u_again even)

-- a straight block with run and side exchanged: one block as well
pub side_count : {kind : Bool} {w h size : ℕ} {k : Block} {at : ℕ} → Fits kind w h size k at → choice k.a k.b ≡ StraightSide → (r : Numbered)
    → block r.placed ≡ exchanged k → r.first ≡ at → count (block r.placed) ≡ count k
side_count {k = k} fits case r there is =
    sym (run_count r.placed (side_call fits case r there is)) ∙ sym (ap length (rule k StraightSide fits.inside.sized case).1)
