-- Signed numbers in proofs: what a test of two of them tells, and that a number which fits its width is read back from its bits as it was.
use mathlib.Core.Bool.{Bool, true, false, cond, and-eq-true_iff}
use mathlib.Core.Path.{◌≡◌, refl, sym, ap, ap₂, subst, ◌∙◌}
use Prim.Native.Nat.{ℕ, suc, ◌+◌, ◌-◌, ◌≤◌, ◌<◌}
use native.Mathlib.Omega.{arith}
use borrow.Author.Tests.{le-leb, lt-leb, leb-true, ltb-true, ltb-false}
use lib.Dec.{leb, ltb}
use lib.IntN.{ℤ, pos, negsuc, sub_ℕ, ◌+ℤ◌, ◌-ℤ◌, +ℤ_comm, +ℤ-neg_ℤ_cancel, -ℤ-+ℤ_cancel}
use lib.Signed.{mag, le_z, lt_z}
use mir.Syntax.{w32}
use mir.Val.{SFits, to_z, of_z}
use mir.Facts.{to_z-of_z, to_z_pos}
use Rattle.terms.specs.Terms.{longest_side, offset_accepted}

pub less_leZ : (a b : ℤ) → lt_z a b ≡ true → le_z b a ≡ false
less_leZ (pos a) (pos b) e = lt-leb b a (ltb-true a b e)
less_leZ (pos a) (negsuc b) e = sym e
less_leZ (negsuc a) (pos b) e = refl
less_leZ (negsuc a) (negsuc b) e = lt-leb a b (ltb-true b a e)

pub not_less_leZ : (a b : ℤ) → lt_z a b ≡ false → le_z b a ≡ true
not_less_leZ (pos a) (pos b) e = le-leb b a (ltb-false a b e)
not_less_leZ (pos a) (negsuc b) e = refl
not_less_leZ (negsuc a) (pos b) e = sym e
not_less_leZ (negsuc a) (negsuc b) e = le-leb a b (ltb-false b a e)

-- the origin added and subtracted again, and the other way round
pub added_off : (o d : ℤ) → o +ℤ d -ℤ o ≡ d
added_off o d = ap (λ (z : ℤ). z -ℤ o) (+ℤ_comm o d) ∙ +ℤ-neg_ℤ_cancel d o

pub off_added : (x o : ℤ) → o +ℤ (x -ℤ o) ≡ x
off_added x o = +ℤ_comm o (x -ℤ o) ∙ -ℤ-+ℤ_cancel x o

-- a 32-bit number as a local holds it
abbrev pub held : ℤ → ℤ
held z = to_z w32 (of_z w32 z)

pub kept : {z : ℤ} → SFits w32 z → held z ≡ z
kept fits = to_z-of_z fits

-- an origin's distance from the datum post
pub offset_mag : (o : ℤ) → offset_accepted o ≡ true → mag o ≤ 1000000
offset_mag (pos n) e = leb-true n 1000000 e
offset_mag (negsuc n) e =
    let l = leb-true n 999999 ((and-eq-true_iff (leb n 999999) true).0 e).0 in
    omega arith

mag_sub : (a b : ℕ) → mag (sub_ℕ a b) ≤ a + b
mag_sub a b = by (ltb a b) refl
  where
    by : (t : Bool) → ltb a b ≡ t → mag (cond t (negsuc (b - suc a)) (pos (a - b))) ≤ a + b
    by true e = omega arith
    by false e = omega arith

pub mag_sum : (a b : ℤ) → mag (a +ℤ b) ≤ mag a + mag b + 2
mag_sum (pos a) (pos b) = omega arith
mag_sum (pos a) (negsuc b) = let l = mag_sub a (suc b) in omega arith
mag_sum (negsuc a) (pos b) = let l = mag_sub b (suc a) in omega arith
mag_sum (negsuc a) (negsuc b) = omega arith

-- a place that lies so far from an accepted origin has 32 bits
pub place_fits : (o : ℤ) (d : ℕ) → offset_accepted o ≡ true → d ≤ longest_side → SFits w32 (o +ℤ pos d)
place_fits o d ok l =
    let near = offset_mag o ok in
    let sum = mag_sum o (pos d) in
    record { sfits = omega arith }

-- an old coordinate as a signed number, and its sum with the origin
module _ (o : ℤ) (d : ℕ) (fits : SFits w32 o) (ok : offset_accepted o ≡ true) (l : d ≤ longest_side) where
  as_signed : held o +ℤ to_z w32 d ≡ o +ℤ pos d
  as_signed = ap₂ ◌+ℤ◌ (kept fits) (to_z_pos w32 (let most : d < 2147483648 = omega arith in most))

  pub adds : SFits w32 (held o +ℤ to_z w32 d)
  adds = subst (SFits w32) (sym as_signed) (place_fits o d ok l)

  pub added : held (held o +ℤ to_z w32 d) ≡ o +ℤ pos d
  added = kept adds ∙ as_signed
