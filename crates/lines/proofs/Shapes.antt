-- What the fields make of a line: those that are taken of it make of it what all its fields do, since fewer than two in all, or more than three, are refusal 6.
-- And an empty field has no byte.
use mathlib.Core.Bool.{false}
use mathlib.Core.List.{List, [], ◌∷◌}
use mathlib.Core.Path.{◌≡◌, refl, sym, ap, ◌∙◌}
use Prim.Native.Nat.{ℕ, ◌≤◌, ◌<◌}
use native.Mathlib.Omega.{arith}
use borrow.Author.Tests.{le-leb, lt-leb}
use lib.ListN.{length}
use Rattle.std.specs.Prelude.{Err}
use Rattle.terms.specs.declared.Refusal.TheVariants.{LongLine}
use Rattle.fields.specs.Fields.{fields}
use Rattle.fields.specs.Reading.{three_read}
use Rattle.fields.proofs.Sequence.{two_or_three, taken_are}
use Rattle.lines.specs.Lines.{is_empty, shaped, request}

pub not_empty : (s : List ℕ) → 1 ≤ length s → is_empty s ≡ false
not_empty [] l = absurd (omega arith)
not_empty (b ∷ s) l = refl

-- a line that is not too long asks what the fields that are taken of it make of it
taken_shaped : (fs : List (List ℕ)) → shaped (two_or_three fs) ≡ shaped fs
unfolding shaped
taken_shaped [] = refl
taken_shaped (f ∷ []) = refl
taken_shaped (f ∷ g ∷ []) = refl
taken_shaped (f ∷ g ∷ h ∷ []) = refl
taken_shaped (f ∷ g ∷ h ∷ k ∷ fs) = refl

pub short_line : (line : List ℕ) → length line ≤ 64 → shaped (three_read line) ≡ request line
unfolding request
short_line line l = ap shaped (taken_are line) ∙ taken_shaped (fields line) ∙ sym (rw (le-leb (length line) 64 l))

pub long_line : (line : List ℕ) → 64 < length line → Err LongLine ≡ request line
unfolding request
long_line line l = sym (rw (lt-leb (length line) 64 l))
