-- The bytes before the first space, as the library's `position` finds it: those up to its place, or all where there is none.
use mathlib.Core.Bool.{Bool, true, false, cond}
use mathlib.Core.List.{List, [], ◌∷◌}
use mathlib.Core.Path.{◌≡◌, refl, sym, ap, ◌∙◌}
use Prim.Native.Nat.{ℕ, suc, ◌+◌}
use native.Mathlib.Omega.{arith}
use borrow.Author.Tests.{ltb-false}
use lib.Dec.{ltb, eqb}
use lib.ListN.{length, take}
use lib.Seq.{take_all}
use Rattle.std.specs.Prelude.{Some, None}
use Rattle.std.specs.List.{position, position_or_len}
use Rattle.fields.specs.Reading.{up_to_space}

abbrev pub is_space : ℕ → Bool
is_space b = eqb b 32

up_to_first : (s : List ℕ) → take (position_or_len is_space s) s ≡ up_to_space s
unfolding up_to_space
up_to_first [] = refl
up_to_first (b ∷ s) = by (is_space b) refl (up_to_first s)
  where
    by : (t : Bool) → is_space b ≡ t → take (position_or_len is_space s) s ≡ up_to_space s
        → take (position_or_len is_space (b ∷ s)) (b ∷ s) ≡ up_to_space (b ∷ s)
    by true e rest = rw e refl
    by false e rest = let one : 1 + position_or_len is_space s ≡ suc (position_or_len is_space s) = omega arith in rw e (rw one (ap (λ zs. b ∷ zs) rest))

module _ (s : List ℕ) where
  pub up_to : (n : ℕ) → Some n ≡ position is_space s → take n s ≡ up_to_space s
  up_to n e = by (ltb (position_or_len is_space s) (length s)) e
    where
      by : (t : Bool) → Some n ≡ cond t (Some (position_or_len is_space s)) None → take n s ≡ up_to_space s
      by true e = let same : n ≡ position_or_len is_space s = cc in ap (λ k. take k s) same ∙ up_to_first s
      by false e = cc

  pub to_the_end : None ≡ position is_space s → s ≡ up_to_space s
  to_the_end e = by (ltb (position_or_len is_space s) (length s)) refl e
    where
      by : (t : Bool) → ltb (position_or_len is_space s) (length s) ≡ t → None ≡ cond t (Some (position_or_len is_space s)) None → s ≡ up_to_space s
      by true l e = cc
      by false l e = sym (take_all (position_or_len is_space s) s (ltb-false (position_or_len is_space s) (length s) l)) ∙ up_to_first s
