-- Words entered into a list one after the other, and a slice of a list by its places: where a loop that enters the words of a slice has got to.
use mathlib.Core.List.{List, [], ◌∷◌, ◌++◌, append_assoc}
use mathlib.Core.Path.{◌≡◌, refl, sym, ap, ap₂, ◌∙◌}
use Prim.Native.Nat.{ℕ, zero, suc, ◌+◌, ◌-◌, ◌≤◌, ◌<◌}
use native.Mathlib.Numerals.{add-one}
use native.Mathlib.Omega.{arith}
use lib.ListN.{length, get_or, take, drop, set, replicate, length-append, length-replicate, length-drop}
use borrow.Rule.Slice.PartMut.{put_mid}
use lib.Seq.{sets, sets-eq, drop-drop, take-suc, drop-cons, set_at, length-take-le, get_or-take, get_or-drop}
use native.Mathlib.Nat.{add-suc, suc-add, add-zero}
use Rattle.sectors.specs.Steps.{slice}

-- a slice by its places
pub slice_length : (vs : List ℕ) (from n : ℕ) → from + n ≤ length vs → length (slice vs from n) ≡ n
slice_length vs from n room = length-take-le n (drop from vs) (let long = length-drop from vs in omega arith)

pub slice_at : (vs : List ℕ) (from n i : ℕ) → i < n → get_or (slice vs from n) i 0 ≡ get_or vs (from + i) 0
slice_at vs from n i l = get_or-take n (drop from vs) i 0 l ∙ get_or-drop from vs i 0

-- one word more of vs stands before those of l that are left
pub one_more : (vs l : List ℕ) (i v : ℕ) → i < length vs → i < length l → v ≡ get_or vs i 0 → {m : List ℕ} → m ≡ take i vs ++ drop i l
    → set m i v ≡ take (i + 1) vs ++ drop (i + 1) l
one_more vs l i v below there is so_far =
    let long : length (take i vs) ≡ i = length-take-le i vs (omega arith) in
    ap₂ (λ (k : List ℕ) (x : ℕ). set k i x) (so_far ∙ ap (λ (ws : List ℕ). take i vs ++ ws) (drop-cons l i 0 there)) is
    ∙ set_at (take i vs) (get_or l i 0) (drop (suc i) l) (get_or vs i 0) i long
    ∙ sym (append_assoc (take i vs) (get_or vs i 0 ∷ []) (drop (suc i) l))
    ∙ ap₂ ◌++◌ (sym (take-suc vs i 0 below) ∙ ap (λ (n : ℕ). take n vs) (sym (add-one i))) (ap (λ (n : ℕ). drop n l) (sym (add-one i)))

-- the words of two lists entered one behind the other
pub sets_append : (l : List ℕ) (at : ℕ) (xs ys : List ℕ) → sets l at (xs ++ ys) ≡ sets (sets l at xs) (at + length xs) ys
sets_append l at [] ys = ap (λ (k : ℕ). sets l k ys) (sym (add-zero at))
sets_append l at (x ∷ xs) ys =
    sets_append (set l at x) (suc at) xs ys
    ∙ ap (λ (k : ℕ). sets (sets (set l at x) (suc at) xs) k ys) (suc-add at (length xs) ∙ sym (add-suc at (length xs)))

-- a part of a list that was written to
pub put_is_sets : (l now : List ℕ) (at n : ℕ) → at + n ≤ length l → length now ≡ n → put_mid at n l now ≡ sets l at now
put_is_sets l now at n room size =
    ap (λ (ws : List ℕ). take at l ++ (now ++ ws)) (drop-drop n at l ∙ ap (λ (k : ℕ). drop (at + k) l) (sym size))
    ∙ sym (append_assoc (take at l) now (drop (at + length now) l))
    ∙ sym (sets-eq now l at (omega arith))

-- as many words and zeros behind them as a block has room for
pub zeros_fill : (vs : List ℕ) (n : ℕ) → length vs ≡ n → n ≤ 126 → length (vs ++ replicate {A = ℕ} (126 - n) 0) ≡ 126
zeros_fill vs n long few =
    let zeros = length-replicate {A = ℕ} (126 - n) 0 in
    length-append vs (replicate {A = ℕ} (126 - n) 0) ∙ omega (arith, zeros)

-- of some zeros each is 0
pub zero_at : (n i : ℕ) → get_or (replicate {A = ℕ} n 0) i 0 ≡ 0
zero_at zero i = refl
zero_at (suc n) zero = refl
zero_at (suc n) (suc i) = zero_at n i
