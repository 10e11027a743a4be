-- The numbers of a cut block's parts are 32-bit ones, as the block's are.
use mathlib.Core.Bool.{Bool, true, false, cond}
use mathlib.Core.Path.{◌≡◌}
use Prim.Native.Nat.{ℕ, ◌+◌, ◌*◌, ◌<◌, ◌≤◌}
use native.Mathlib.Nat.{mul-le-mul_right}
use native.Mathlib.Omega.{arith}
use Rattle.terms.specs.Terms.{past_32_bits}
use Rattle.division.specs.declared.Choice.TheVariants.{LongCut, UCut}
use Rattle.division.specs.Division.{even_half}
use Rattle.division.specs.Forms.{block}
use Rattle.division.proofs.Cases.{u_lengths}
use Rattle.division.proofs.PlacedParts.{half_run}
use Rattle.division.proofs.WithinLimits.{SumsFit, sums_fit}
use Rattle.leaves.specs.declared.Numbered.{Numbered}
use Rattle.leaves.specs.Walk.{Countable}

pub long_sums : (k : Numbered) → Countable LongCut k → {e : ℕ} → e ≡ even_half k.placed.a
    → (e * k.placed.b < past_32_bits) × (k.first + e * k.placed.b < past_32_bits)
long_sums k cut {e} half =
    let less = half_run k.placed cut.0 in
    let part : e * k.placed.b ≤ k.placed.a * k.placed.b = mul-le-mul_right k.placed.b (omega arith) in
    let room = cut.1 in
    (omega arith, omega arith)

pub u_sums : (k : Numbered) → Countable UCut k → {e : ℕ} → e ≡ even_half k.placed.b → SumsFit k.first k.placed.a k.placed.b e
u_sums k cut {e} half = sums_fit k.first k.placed.a k.placed.b e (u_lengths (block k.placed) cut.0.0.sized cut.0.1).1 half cut.1

-- the number of one part or the other
pub either_sum : (first skip : ℕ) (second : Bool) {n : ℕ} → n ≡ cond second skip 0 → first + skip < past_32_bits → first + n < past_32_bits
either_sum first skip true is l = omega arith
either_sum first skip false is l = omega arith
