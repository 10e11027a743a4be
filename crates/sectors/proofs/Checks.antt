-- The first block whose check is bad, from both sides: those before it are good and it is not.
use mathlib.Core.Bool.{Bool, true, false, cond}
use mathlib.Core.List.{List}
use mathlib.Core.Path.{◌≡◌, refl, sym, ap, ap₂, ◌∙◌}
use Prim.Native.Nat.{ℕ, zero, suc, ◌+◌, ◌*◌, ◌≤◌, ◌<◌}
use native.Mathlib.Omega.{arith}
use borrow.Author.Tests.{ltb-true, ltb-false}
use lib.Dec.{eqb, ltb}
use lib.ListN.{take, drop}
use lib.Seq.{get_or-take, take-take, drop-drop}
use Rattle.std.specs.Prelude.{Some, None}
use Rattle.sectors.specs.Sectors.{words_of, check_of, good, first_bad, first_bad_in, whole_blocks}
use Rattle.sectors.specs.Steps.{bad_block}

-- Block b of some words has a good check.
abbrev pub good_at : List ℕ → ℕ → Bool
good_at words b = good (drop (128 * b) words)

-- a check looks at 128 words and no further
pub within_128 : (words : List ℕ) → good (take 128 words) ≡ good words
unfolding good
within_128 words = ap₂ (λ (n : ℕ) (ws : List ℕ). eqb n (check_of ws)) (get_or-take 128 words 127 0 (omega arith)) (take-take 127 128 words (omega arith))

-- a block behind the first
behind : (words : List ℕ) (b : ℕ) → good_at (drop 128 words) b ≡ good_at words (suc b)
behind words b =
    ap good (drop-drop (128 * b) 128 words ∙ ap (λ (k : ℕ). drop k words) (let z : 128 + 128 * b ≡ 128 * suc b = omega arith in z))

pub not_beyond : (n : ℕ) (words : List ℕ) → first_bad n words ≤ n
unfolding first_bad
not_beyond zero words = omega arith
not_beyond (suc n) words = by (good words) (not_beyond n (drop 128 words))
  where
    by : (t : Bool) → first_bad n (drop 128 words) ≤ n → cond t (suc (first_bad n (drop 128 words))) 0 ≤ suc n
    by true rest = omega arith
    by false rest = omega arith

-- Blocks before k are good, and k is not where there is one.
abbrev pub Found : (n : ℕ) → List ℕ → (k : ℕ) → Type 0
Found n words k = ((b : ℕ) → b < k → good_at words b ≡ true) × (k < n → good_at words k ≡ false)

pub found : (n : ℕ) (words : List ℕ) → Found n words (first_bad n words)
unfolding first_bad
found zero words = ((λ b l. absurd (omega arith)), λ l. absurd (omega arith))
found (suc n) words = by (good words) refl (found n (drop 128 words))
  where
    by : (t : Bool) → good words ≡ t → Found n (drop 128 words) (first_bad n (drop 128 words))
        → Found (suc n) words (cond t (suc (first_bad n (drop 128 words))) 0)
    by true here rest = (goods, λ l. sym (behind words (first_bad n (drop 128 words))) ∙ rest.1 (omega arith))
      where
        goods : (b : ℕ) → b < suc (first_bad n (drop 128 words)) → good_at words b ≡ true
        goods zero l = here
        goods (suc b) l = sym (behind words b) ∙ rest.0 b (omega arith)
    by false here rest = ((λ b l. absurd (omega arith)), λ l. here)

-- it is the only such one
pub only_found : (n : ℕ) (words : List ℕ) (k : ℕ) → k ≤ n → Found n words k → first_bad n words ≡ k
unfolding first_bad
only_found zero words k l is = omega arith
only_found (suc n) words zero l is = rw (is.1 (omega arith)) refl
only_found (suc n) words (suc k) l is =
    rw (is.0 0 (omega arith)) (ap suc (only_found n (drop 128 words) k (omega arith)
    ((λ b m. behind words b ∙ is.0 (suc b) (omega arith)), λ m. behind words k ∙ is.1 (omega arith))))

-- what is told of a file's first bad block: which it is, or that there is none
module _ (file : List ℕ) where
  pub some_bad : (b : ℕ) → bad_block file ≡ Some b → (b ≡ first_bad_in file) × (b < whole_blocks file)
  some_bad b is = by (ltb (first_bad_in file) (whole_blocks file)) refl is
    where
      by : (t : Bool) → ltb (first_bad_in file) (whole_blocks file) ≡ t → cond t (Some (first_bad_in file)) None ≡ Some b
          → (b ≡ first_bad_in file) × (b < whole_blocks file)
      by true e one =
          let same : b ≡ first_bad_in file = cc in
          (same, (let z = ltb-true (first_bad_in file) (whole_blocks file) e in omega arith))
      by false e one = absurd (let z : ◌≡◌ {A = ℕ} 0 1 = cc in omega arith)

  pub no_bad : bad_block file ≡ None → first_bad_in file ≡ whole_blocks file
  no_bad is = by (ltb (first_bad_in file) (whole_blocks file)) refl is
    where
      by : (t : Bool) → ltb (first_bad_in file) (whole_blocks file) ≡ t → cond t (Some (first_bad_in file)) None ≡ None → first_bad_in file ≡ whole_blocks file
      by true e none = absurd (let z : ◌≡◌ {A = ℕ} 0 1 = cc in omega arith)
      by false e none =
          let most = not_beyond (whole_blocks file) (words_of file) in
          let least = ltb-false (first_bad_in file) (whole_blocks file) e in
          omega arith
