-- What the promises come to: two answers of `numeral_of`, and of `signed_numeral_of`, that meet them are one; and the wrong programs that those of
-- `signed_numeral_of`, `is_word` and `begins_with` turn away.
use mathlib.Core.Bool.{true, cond, true≢false, false≢true}
use mathlib.Core.List.{List, []}
use mathlib.Core.Path.{◌≡◌, refl}
use Prim.Native.Nat.{ℕ}
use lib.Dec.{eqb}
use lib.ListN.{length}
use lib.IntN.{ℤ, pos}
use Rattle.terms.specs.Terms.{Figures, SignedFigures}
use Rattle.terms.proofs.Refusals.{figure, signed_figure}
use Rattle.terms.proofs.OneAnswer.{by_figures}
use Rattle.std.specs.Prelude.{Option, Some, None}
use Rattle.words.specs.Letters.{bytes}
use Rattle.words.specs.Words.{all_digits, value_on, is_number, numeral, numeral_figures, same_bytes, begins}
use Rattle.words.specs.Signed.{upwards, signed_numeral, signed_numeral_figures}

-- A field's number can be told from its figures.
numeral_from : Figures → Option ℕ
numeral_from f = cond (eqb f.refusal 0) (Some (figure 0 f)) None

numeral_told : (n : Option ℕ) → numeral_from (numeral_figures n) ≡ n
unfolding numeral_from
numeral_told (Some n) = refl
numeral_told None = refl

pub numeral_one : (m n : Option ℕ) {f : Figures} → numeral_figures m ≡ f → numeral_figures n ≡ f → m ≡ n
numeral_one = by_figures numeral_figures numeral_from numeral_told

signed_from : SignedFigures → Option ℤ
signed_from f = cond (eqb f.refusal 0) (Some (signed_figure 0 f)) None

signed_told : (n : Option ℤ) → signed_from (signed_numeral_figures n) ≡ n
unfolding signed_from
signed_told (Some z) = refl
signed_told None = refl

pub signed_one : (m n : Option ℤ) {f : SignedFigures} → signed_numeral_figures m ≡ f → signed_numeral_figures n ≡ f → m ≡ n
signed_one = by_figures signed_numeral_figures signed_from signed_told

-- Of `signed_numeral_of`: one that takes no minus, which -7 shows, and one that takes -0 for 0.
pub takes_no_minus : ((f : List ℕ) → upwards (numeral f) ≡ signed_numeral f) → ⊥
unfolding signed_numeral numeral is_number all_digits value_on
takes_no_minus promise = cc (promise (bytes "-7"))

pub takes_minus_zero : (Some (pos 0) ≡ signed_numeral (bytes "-0")) → ⊥
unfolding signed_numeral numeral is_number all_digits value_on
takes_minus_zero promise = cc

-- Of `is_word`: one that tests the length alone, which AREB passes for AREA, and one that tests only the first bytes, which AREAX passes.
pub length_alone : ((s known : List ℕ) → eqb (length s) (length known) ≡ same_bytes s known) → ⊥
unfolding same_bytes
length_alone promise = true≢false (promise (bytes "AREB") (bytes "AREA"))

pub first_bytes_alone : ((s known : List ℕ) → begins s known ≡ same_bytes s known) → ⊥
unfolding same_bytes
first_bytes_alone promise = true≢false (promise (bytes "AREAX") (bytes "AREA"))

-- Of `begins_with`: one that wants the whole line to be the word, and one that finds every word at the beginning.
pub whole_line_wanted : ((line known : List ℕ) → same_bytes line known ≡ begins line known) → ⊥
unfolding same_bytes
whole_line_wanted promise = false≢true (promise (bytes "AREAX") (bytes "AREA"))

pub always_begins : ((line known : List ℕ) → true ≡ begins line known) → ⊥
unfolding same_bytes
always_begins promise = true≢false (promise [] (bytes "AREA"))
