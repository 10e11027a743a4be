-- The fields that are taken one after the other are the line's, in order: what is left of the line's fields at a place is the field there and what is
-- left past it. So what is taken of a line of two or three fields are its fields, and of any other line it is nothing.
use mathlib.Core.Bool.{Bool, true, false, cond}
use mathlib.Core.List.{List, [], ◌∷◌}
use mathlib.Core.Path.{◌≡◌, refl, sym, ap, ap₂, ◌∙◌}
use Prim.Native.Nat.{ℕ, suc, ◌+◌}
use native.Mathlib.Omega.{arith}
use borrow.Author.Tests.{lt-ltb, le-leb, leb-true}
use lib.Dec.{leb, ltb, eqb}
use lib.ListN.{length, drop, length-drop}
use lib.Seq.{drop-drop}
use Rattle.std.proofs.lemmas.Bool.Decides.{nat_tests}
use Rattle.std.specs.Prelude.{Option, Some, None}
use Rattle.fields.specs.Fields.{onto, fields}
use Rattle.fields.specs.Reading.{up_to_space, field_at, past, taken_of, three_read}

-- A line's fields where they are two or three.
abbrev pub two_or_three : List (List ℕ) → List (List ℕ)
two_or_three [] = []
two_or_three (f ∷ []) = []
two_or_three (f ∷ g ∷ []) = f ∷ g ∷ []
two_or_three (f ∷ g ∷ h ∷ []) = f ∷ g ∷ h ∷ []
two_or_three (f ∷ g ∷ h ∷ k ∷ fs) = []

-- a line's first field, and the rest
abbrev pub rest : List ℕ → List (List ℕ)
rest s = cond (ltb (length (up_to_space s)) (length s)) (fields (drop (suc (length (up_to_space s))) s)) []

ltb_suc : (m n : ℕ) → ltb m n ≡ ltb (suc m) (suc n)
ltb_suc m n = grind (arith, nat_tests)

pub fields_are : (s : List ℕ) → fields s ≡ up_to_space s ∷ rest s
unfolding fields up_to_space
fields_are [] = refl
fields_are (b ∷ s) = by (fields_are s) (eqb b 32) refl
  where
    by : fields s ≡ up_to_space s ∷ rest s → (t : Bool) → eqb b 32 ≡ t → fields (b ∷ s) ≡ up_to_space (b ∷ s) ∷ rest (b ∷ s)
    by are true e = rw e (ap (λ t. [] ∷ cond t (fields s) []) (sym (lt-ltb 0 (suc (length s)) (omega arith))))
    by are false e =
        let more = ltb_suc (length (up_to_space s)) (length s) in
        rw e (ap (onto b) are ∙ ap (λ t. (b ∷ up_to_space s) ∷ cond t (fields (drop (suc (length (up_to_space s))) s)) []) more)

-- a field at a place, if there is one, before others
abbrev before : Option (List ℕ) → List (List ℕ) → List (List ℕ)
before (Some field) fs = field ∷ fs
before None fs = []

-- four fields so, and what is taken of them
taken_of_four : (a b c d : Option (List ℕ)) (fs : List (List ℕ)) → taken_of a b c d ≡ two_or_three (before a (before b (before c (before d fs))))
taken_of_four None b c d fs = refl
taken_of_four (Some a) None c d fs = refl
taken_of_four (Some a) (Some b) None d fs = refl
taken_of_four (Some a) (Some b) (Some c) None fs = refl
taken_of_four (Some a) (Some b) (Some c) (Some d) fs = refl

module _ (line : List ℕ) where
  -- the fields from a place on
  abbrev from : ℕ → List (List ℕ)
  from at = cond (leb at (length line)) (fields (drop at line)) []

  rest_is : (at : ℕ) → leb at (length line) ≡ true → rest (drop at line) ≡ from (at + (length (up_to_space (drop at line)) + 1))
  rest_is at e =
      let k = length (up_to_space (drop at line)) in
      let within = leb-true at (length line) e in
      let size = length-drop at line in
      let on : at + suc k ≡ at + (k + 1) = omega arith in
      let tests : ltb k (length (drop at line)) ≡ leb (at + (k + 1)) (length line) = rw size (grind (arith, nat_tests)) in
      ap₂ (λ (t : Bool) (s : List ℕ). cond t (fields s) []) tests (drop-drop (suc k) at line ∙ ap (λ n. drop n line) on)

  from_here : (at : ℕ) → from at ≡ before (field_at line at) (from (past at (field_at line at)))
  from_here at = by (leb at (length line)) refl
    where
      by : (t : Bool) → leb at (length line) ≡ t → from at ≡ before (field_at line at) (from (past at (field_at line at)))
      by true e = rw e (fields_are (drop at line) ∙ ap (λ fs. up_to_space (drop at line) ∷ fs) (rest_is at e))
      by false e = rw e refl

  pub taken_are : three_read line ≡ two_or_three (fields line)
  taken_are =
      let a = field_at line 0 in
      let at_b = past 0 a in
      let b = field_at line at_b in
      let at_c = past at_b b in
      let c = field_at line at_c in
      let at_d = past at_c c in
      let d = field_at line at_d in
      taken_of_four a b c d (from (past at_d d))
      ∙ ap two_or_three (sym (first_is ∙ from_here 0 ∙ ap (before a) (from_here at_b ∙ ap (before b) (from_here at_c ∙ ap (before c) (from_here at_d)))))
    where
      first_is : fields line ≡ from 0
      first_is = sym (rw (le-leb 0 (length line) (omega arith)) refl)
