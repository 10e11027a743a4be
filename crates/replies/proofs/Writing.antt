-- Bytes written one after the other, or at the front of a buffer; and numbers in decimal, as the library prints them and as they are defined.
use mathlib.Core.List.{List, [], ◌∷◌, ◌++◌, append-nil, append_assoc}
use mathlib.Core.Path.{◌≡◌, refl, sym, ap, ap₂, subst, ◌∙◌}
use Prim.Native.Nat.{ℕ, suc, ◌+◌, ◌-◌, ◌%◌, ◌^◌, ◌≤◌, ◌<◌}
use native.Mathlib.Nat.{add-zero, zero-add}
use native.Mathlib.Omega.{arith}
use borrow.Rule.Slice.PartMut.{put_mid}
use lib.ListN.{length, length-append, length-drop, take, drop, drop_of_length-le, set}
use lib.Seq.{sets, sets-eq, length-sets, length-take-le, take_at, drop_at, drop-drop, slice}
use Rattle.std.specs.Fmt as Fmt
use Rattle.std.proofs.lemmas.List.{take_rest}
use Rattle.std.proofs.lemmas.Fmt.{decimal_by_steps}
use Rattle.words.specs.Decimal.{decimal}
use Rattle.words.proofs.Decimals.{one_digit, more_digits, ten_digits}
use Rattle.terms.specs.Terms.{past_32_bits}
use Rattle.replies.specs.Text.{Writes}

sets_append : (t : List ℕ) (i : ℕ) (xs ys : List ℕ) → sets t i (xs ++ ys) ≡ sets (sets t i xs) (i + length xs) ys
sets_append t i [] ys = ap (λ n. sets t n ys) (sym (add-zero i))
sets_append t i (x ∷ xs) ys =
    let on : suc i + length xs ≡ i + suc (length xs) = omega arith in
    sets_append (set t i x) (suc i) xs ys ∙ ap (λ n. sets (sets (set t i x) (suc i) xs) n ys) on

-- one piece of text after another
pub writes_both : {t t' t'' xs ys : List ℕ} {i m n : ℕ} → Writes t i xs t' m → Writes t' m ys t'' n → Writes t i (xs ++ ys) t'' n
writes_both {t} {t'} {t''} {xs} {ys} {i} first second =
    let all = length-append xs ys in
    let here = first.behind in
    let there = second.behind in
    record {
      written = second.written ∙ ap₂ (λ s k. sets s k ys) first.written first.behind ∙ sym (sets_append t i xs ys);
      behind = omega arith;
    }

-- a buffer's text with nothing more
pub writes_none : (t : List ℕ) (i : ℕ) → Writes t i [] t i
writes_none t i = record { written = refl; behind = sym (add-zero i) }

-- what was written, put another way
pub writes_as : {t t' xs ys : List ℕ} {at end : ℕ} → xs ≡ ys → Writes t at xs t' end → Writes t at ys t' end
writes_as {t} {t'} {at = at} {end} e w = subst (λ (bs : List ℕ). Writes t at bs t' end) e w

-- what is written leaves the buffer its length
pub writes_length : {t t' xs : List ℕ} {i n : ℕ} → Writes t i xs t' n → length t' ≡ length t
writes_length {t} {t'} {xs} {i} w = ap length w.written ∙ length-sets t i xs

-- what was written stands between the two places
pub stands_written : {t t' bytes : List ℕ} {at end : ℕ} → Writes t at bytes t' end → end ≤ length t → slice at end t' ≡ bytes
stands_written {t} {t'} {bytes} {at} {end} w fits =
    let behind = w.behind in
    let before : length (take at t) ≡ at = length-take-le at t (omega arith) in
    let both = length-append (take at t) bytes in
    ap (slice at end) (w.written ∙ sets-eq bytes t at (omega arith))
    ∙ ap (drop at) (take_at (take at t ++ bytes) (drop (at + length bytes) t) end (omega arith))
    ∙ drop_at (take at t) bytes at before

-- bytes at the front of a buffer
pub writes_front : (t bytes : List ℕ) (n : ℕ) → n ≡ length bytes → n ≤ length t → Writes t 0 bytes (bytes ++ drop n t) n
writes_front t bytes n e room =
    let fits : 0 + length bytes ≤ length t = omega arith in
    record {
      written = sym (sets-eq bytes t 0 fits ∙ ap (λ k. bytes ++ drop k t) (zero-add (length bytes) ∙ sym e));
      behind = e ∙ sym (zero-add (length bytes));
    }

-- and bytes at the front of a buffer's rest
pub writes_rest : {t rest bytes : List ℕ} {at n : ℕ} → at + n ≤ length t → Writes (take (length t - at) (drop at t)) 0 bytes rest n
    → Writes t at bytes (put_mid at (length t - at) t rest) (at + n)
writes_rest {t} {rest} {bytes} {at} {n} fits w =
    let k = length bytes in
    let size : n ≡ k = w.behind ∙ zero-add k in
    let room : 0 + k ≤ length (drop at t) = omega (arith, length-drop at t) in
    let there : rest ≡ bytes ++ drop (at + k) t =
    w.written ∙ ap (λ l. sets l 0 bytes) (take_rest t at) ∙ sets-eq bytes (drop at t) 0 room
    ∙ ap (bytes ++◌) (ap (λ j. drop j (drop at t)) (zero-add k) ∙ drop-drop k at t) in
    let none : drop (length t - at) (drop at t) ≡ [] = drop_of_length-le (drop at t) (omega (arith, length-drop at t)) in
    record {
      written =
          ap (take at t ++◌) (ap₂ ◌++◌ there none ∙ append-nil (bytes ++ drop (at + k) t))
          ∙ sym (append_assoc (take at t) bytes (drop (at + k) t)) ∙ sym (sets-eq bytes t at (omega arith));
      behind = ap (at +◌) size;
    }

-- what the library prints of a number is what is defined
pub same_decimal : (n : ℕ) → n < 2 ^ 64 → Fmt.decimal n ≡ decimal n
same_decimal n l =
    sym (decimal_by_steps (λ m ds. decimal m ≡ ds) one_digit (λ m ds large e. more_digits m large ∙ ap (λ ds. ds ++ ((48 + m % 10) ∷ [])) e) n l)

-- of a 32-bit number that is at most ten digits
pub ten_printed : {n m : ℕ} → m ≡ n → n < past_32_bits → (Fmt.decimal m ≡ decimal n) × (length (Fmt.decimal m) ≤ 10)
ten_printed {n} is fits =
    let same = ap Fmt.decimal is ∙ same_decimal n (omega arith) in
    (same, omega (arith, ten_digits n fits, ap length same))
