-- What a line asks, seen from its bytes: a line that a word and numbers spell asks with that word for those numbers, and no other line does. A line of a known
-- shape with a field that is no number is refusal 5, and one of no known shape 6. The fields of a line with spaces between them are the line.
use mathlib.Core.Bool.{Bool, true, false, not, cond, ◌&&◌, ◌||◌, and-eq-true_iff}
use mathlib.Core.List.{List, [], ◌∷◌, ◌++◌}
use mathlib.Core.Logic.{◌⊎◌, inl, inr}
use Rattle.std.specs.Prelude.{Option, Some, None, Result, Ok, Err, IfOk}
use mathlib.Core.Path.{◌≡◌, refl, sym, ap, ap₂, subst, subst⁻¹, ◌∙◌}
use Prim.Native.Nat.{ℕ, ◌≤◌}
use native.Mathlib.Omega.{arith}
use borrow.Author.Tests.{le-leb, eqb-true, not-true}
use lib.Dec.{leb, eqb}
use lib.IntN.{ℤ}
use lib.ListN.{length, length-append}
use Rattle.terms.specs.declared.Refusal.{Refusal}
use Rattle.terms.specs.declared.Refusal.TheVariants.{NotANumber, WrongShape, LongLine}
use Rattle.lines.specs.declared.Request.{Request}
use Rattle.lines.specs.declared.Request.TheVariants.{SetArea, SetOrigin, AskNumber, AskSquare}
use Rattle.words.specs.Words.{numeral, same_bytes}
use Rattle.words.specs.Signed.{signed_numeral}
use Rattle.fields.specs.Fields.{onto, fields}
use Rattle.lines.specs.Lines.{AREA, ORIGIN, N, S, is_empty, by_one, by_two, of_two, two_fields, three_fields}
use Rattle.lines.specs.Lines.{shaped, request, asked, SaysTwo, Says}
use Rattle.fields.specs.Reading.{up_to_space}
use Rattle.words.proofs.Same.{same_true}
use Rattle.lines.proofs.Spelt.{spaceless, Filled, Way, plain, signed}
use Rattle.lines.proofs.Shapes.{not_empty}
use Rattle.fields.proofs.Sequence.{rest, fields_are}

-- Fields with a space between each two.
unfoldable pub between : List (List ℕ) → List ℕ
between [] = []
between (f ∷ []) = f
between (f ∷ g ∷ fs) = f ++ (32 ∷ between (g ∷ fs))

before_first : (b : ℕ) (fs : List (List ℕ)) → between (onto b fs) ≡ b ∷ between fs
unfolding between
before_first b [] = refl
before_first b (f ∷ []) = refl
before_first b (f ∷ g ∷ fs) = refl

-- so put together, the fields of a line are the line
between_fields : (s : List ℕ) → between (fields s) ≡ s
unfolding fields between
between_fields [] = refl
between_fields (b ∷ s) = by (eqb b 32) refl (between_fields s)
  where
    by : (t : Bool) → eqb b 32 ≡ t → between (fields s) ≡ s → between (cond t ([] ∷ fields s) (onto b (fields s))) ≡ b ∷ s
    by true e joined =
        ap (λ fs. between ([] ∷ fs)) (fields_are s) ∙ ap₂ (λ c zs. c ∷ zs) (sym (eqb-true b 32 e)) (ap between (sym (fields_are s)) ∙ joined)
    by false e joined = before_first b (fields s) ∙ ap (λ zs. b ∷ zs) joined

-- what a line asks by its fields, if it is not refused, it says in one of its spellings
abbrev pub SaysIfAsked : Result Request Refusal → List ℕ → Type 0
SaysIfAsked r line = IfOk r (λ q. Says q line)

module _ (line first : List ℕ) where
  two_say : (a : List ℕ) → line ≡ first ++ (32 ∷ a) → SaysIfAsked (two_fields first a) line
  two_say a is = by (same_bytes first N) (is_empty a) (numeral a) refl refl
    where
      by : (known empty : Bool) (n : Option ℕ) → same_bytes first N ≡ known → numeral a ≡ n
          → SaysIfAsked (cond known (cond empty (Err WrongShape) (by_one AskNumber n)) (Err WrongShape)) line
      by false empty n e f = tt
      by true true n e f = tt
      by true false None e f = tt
      by true false (Some i) e f =
          record { field = a; spelt = plain.says a i f; is = is ∙ ap (λ w. w ++ (32 ∷ a)) (same_true first N e) }

  -- AREA, ORIGIN and S alike: what is asked with two numbers is said by the word and them
  module _ (a b : List ℕ) (is : line ≡ first ++ (32 ∷ (a ++ (32 ∷ b)))) where
    both_say : {A : Type 0} {read : List ℕ → Option A} {Spelling : List ℕ → A → Type 0} → Way read Spelling
        → (known : List ℕ) (asked : A → A → Request) → same_bytes first known ≡ true → ((x y : A) → SaysTwo Spelling known x y line → Says (asked x y) line)
        → SaysIfAsked (of_two read asked a b) line
    both_say {A} {read} way known asked e said = by (is_empty a || is_empty b) (read a) (read b) refl refl
      where
        by : (empty : Bool) (m n : Option A) → read a ≡ m → read b ≡ n → SaysIfAsked (cond empty (Err WrongShape) (by_two asked m n)) line
        by true m n f g = tt
        by false None n f g = tt
        by false (Some x) None f g = tt
        by false (Some x) (Some y) f g =
            said x y
            record {
              first = a;
              second = b;
              first_spelt = way.says a x f;
              second_spelt = way.says b y g;
              is = is ∙ ap (λ w. w ++ (32 ∷ (a ++ (32 ∷ b)))) (same_true first known e);
            }

    three_say : SaysIfAsked (three_fields first a b) line
    three_say = by (same_bytes first AREA) (same_bytes first ORIGIN) (same_bytes first S) refl refl refl
      where
        by : (t u v : Bool) → same_bytes first AREA ≡ t → same_bytes first ORIGIN ≡ u → same_bytes first S ≡ v
            → SaysIfAsked
            (cond t (of_two numeral SetArea a b)
            (cond u (of_two signed_numeral SetOrigin a b) (cond v (of_two signed_numeral AskSquare a b) (Err WrongShape)))) line
        by true u v e f g = both_say plain AREA SetArea e (λ x y said. said)
        by false true v e f g = both_say signed ORIGIN SetOrigin f (λ x y said. said)
        by false false true e f g = both_say signed S AskSquare g (λ x y said. said)
        by false false false e f g = tt

  shape_says : (others : List (List ℕ)) → line ≡ between (first ∷ others) → SaysIfAsked (shaped (first ∷ others)) line
  unfolding shaped between
  shape_says [] is = tt
  shape_says (a ∷ []) is = two_say a is
  shape_says (a ∷ b ∷ []) is = three_say a b is
  shape_says (a ∷ b ∷ c ∷ others) is = tt

-- A line says what it asks, in one of its spellings: no other line asks for it.
pub says_so : (line : List ℕ) → SaysIfAsked (request line) line
unfolding request
says_so line = by (leb (length line) 64)
  where
    by : (t : Bool) → SaysIfAsked (cond t (shaped (fields line)) (Err LongLine)) line
    by true =
        subst⁻¹ (λ (fs : List (List ℕ)). SaysIfAsked (shaped fs) line) (fields_are line)
        (shape_says line (up_to_space line) (rest line) (sym (between_fields line) ∙ ap between (fields_are line)))
    by false = tt

no_space : (b : ℕ) (t : Bool) → (not (eqb b 32) && t) ≡ true → (eqb b 32 ≡ false) × (t ≡ true)
no_space b t e = let both = (and-eq-true_iff (not (eqb b 32)) t).0 e in (not-true (eqb b 32) both.0, both.1)

-- they are a field of their own, before a space and at a line's end
field_first : (f s : List ℕ) → spaceless f ≡ true → fields (f ++ (32 ∷ s)) ≡ f ∷ fields s
unfolding fields spaceless
field_first [] s e = refl
field_first (b ∷ f) s e = let both = no_space b (spaceless f) e in rw both.0 (ap (onto b) (field_first f s both.1))

field_last : (f : List ℕ) → spaceless f ≡ true → fields f ≡ f ∷ []
unfolding fields spaceless
field_last [] e = refl
field_last (b ∷ f) e = let both = no_space b (spaceless f) e in rw both.0 (ap (onto b) (field_last f both.1))

-- a word and one field, or two, that are filled, within 64 bytes
module _ (known : List ℕ) (word_whole : spaceless known ≡ true) (f : List ℕ) (filled : Filled f) where
  one_read : length (known ++ (32 ∷ f)) ≤ 64 → request (known ++ (32 ∷ f)) ≡ two_fields known f
  unfolding request shaped
  one_read l =
      rw (le-leb (length (known ++ (32 ∷ f))) 64 l)
      (ap shaped (field_first known f word_whole ∙ ap (λ fs. known ∷ fs) (field_last f filled.whole)))

  two_read : (g : List ℕ) → Filled g → length (known ++ (32 ∷ (f ++ (32 ∷ g)))) ≤ 64 → request (known ++ (32 ∷ (f ++ (32 ∷ g)))) ≡ three_fields known f g
  unfolding request shaped
  two_read g filled' l =
      rw (le-leb (length (known ++ (32 ∷ (f ++ (32 ∷ g))))) 64 l)
      (ap shaped
      (field_first known (f ++ (32 ∷ g)) word_whole
      ∙ ap (λ fs. known ∷ fs) (field_first f g filled.whole ∙ ap (λ fs. f ∷ fs) (field_last g filled'.whole))))

-- What a line of a known shape asks: for its numbers, and refusal 5 where one of its fields is no number.
abbrev pub AskedOne : (ℕ → Request) → (f : List ℕ) → Result Request Refusal → Type 0
AskedOne asked f q = ((i : ℕ) → numeral f ≡ Some i → q ≡ Ok (asked i)) × (numeral f ≡ None → q ≡ Err NotANumber)

abbrev pub AskedTwo : {A : Type 0} → (List ℕ → Option A) → (A → A → Request) → (f g : List ℕ) → Result Request Refusal → Type 0
AskedTwo {A} read asked f g q =
    ((x y : A) → read f ≡ Some x → read g ≡ Some y → q ≡ Ok (asked x y))
    × (read f ≡ None → q ≡ Err NotANumber)
    × (read g ≡ None → q ≡ Err NotANumber)

no_second : {A : Type 0} (asked : A → A → Request) (m : Option A) → by_two asked m None ≡ Err NotANumber
no_second asked (Some x) = refl
no_second asked None = refl

two_by : {A : Type 0} (read : List ℕ → Option A) (asked : A → A → Request) (f g : List ℕ) → Filled f → Filled g
    → {q : Result Request Refusal} → q ≡ of_two read asked f g → AskedTwo read asked f g q
two_by read asked f g filled filled' {q = asks} e =
    let there : of_two read asked f g ≡ by_two asked (read f) (read g) = rw (not_empty f filled.any, not_empty g filled'.any) refl in
    let is : asks ≡ by_two asked (read f) (read g) = e ∙ there in (
      λ x y p q. is ∙ ap₂ (by_two asked) p q,
      λ p. is ∙ ap (λ m. by_two asked m (read g)) p,
      λ q. is ∙ ap (by_two asked (read f)) q ∙ no_second asked (read f),
    )

pub number_line : (f : List ℕ) → Filled f → length (N ++ (32 ∷ f)) ≤ 64 → AskedOne AskNumber f (request (N ++ (32 ∷ f)))
unfolding same_bytes spaceless
number_line f filled l =
    let there : two_fields N f ≡ by_one AskNumber (numeral f) = rw (not_empty f filled.any) refl in
    let is : request (N ++ (32 ∷ f)) ≡ by_one AskNumber (numeral f) = one_read N refl f filled l ∙ there in
    (λ i e. is ∙ ap (by_one AskNumber) e, λ e. is ∙ ap (by_one AskNumber) e)

-- a word with two fields after it
abbrev pub with_two : (known f g : List ℕ) → List ℕ
with_two known f g = known ++ (32 ∷ (f ++ (32 ∷ g)))

module _ (f g : List ℕ) (filled : Filled f) (filled' : Filled g) where
  pub area_line : length (with_two AREA f g) ≤ 64 → AskedTwo numeral SetArea f g (request (with_two AREA f g))
  unfolding same_bytes spaceless
  area_line l = two_by numeral SetArea f g filled filled' (two_read AREA refl f filled g filled' l)

  pub origin_line : length (with_two ORIGIN f g) ≤ 64 → AskedTwo signed_numeral SetOrigin f g (request (with_two ORIGIN f g))
  unfolding same_bytes spaceless
  origin_line l = two_by signed_numeral SetOrigin f g filled filled' (two_read ORIGIN refl f filled g filled' l)

  pub square_line : length (with_two S f g) ≤ 64 → AskedTwo signed_numeral AskSquare f g (request (with_two S f g))
  unfolding same_bytes spaceless
  square_line l = two_by signed_numeral AskSquare f g filled filled' (two_read S refl f filled g filled' l)

-- A line of one of the four shapes: "AREA w h, N i, S x y", and "ORIGIN ox oy", with one space before each field.
pub data Shaped (line : List ℕ) : Type 0 where
  n_shaped : (f : List ℕ) → Filled f → line ≡ N ++ (32 ∷ f) → Shaped line
  area_shaped : (f g : List ℕ) → Filled f → Filled g → line ≡ with_two AREA f g → Shaped line
  origin_shaped : (f g : List ℕ) → Filled f → Filled g → line ≡ with_two ORIGIN f g → Shaped line
  s_shaped : (f g : List ℕ) → Filled f → Filled g → line ≡ with_two S f g → Shaped line

-- the fields of a line hold no space
abbrev Spaceless : List (List ℕ) → Type 0
Spaceless [] = Unit {0}
Spaceless (f ∷ fs) = (spaceless f ≡ true) × Spaceless fs

onto_spaceless : (b : ℕ) (fs : List (List ℕ)) → eqb b 32 ≡ false → Spaceless fs → Spaceless (onto b fs)
unfolding spaceless
onto_spaceless b [] e all = (rw e refl, tt)
onto_spaceless b (f ∷ fs) e all = (rw e all.0, all.1)

fields_spaceless : (s : List ℕ) → Spaceless (fields s)
unfolding fields spaceless
fields_spaceless [] = (refl, tt)
fields_spaceless (b ∷ s) = by (eqb b 32) refl (fields_spaceless s)
  where
    by : (t : Bool) → eqb b 32 ≡ t → Spaceless (fields s) → Spaceless (cond t ([] ∷ fields s) (onto b (fields s)))
    by true e all = (refl, all)
    by false e all = onto_spaceless b (fields s) e all

empty_not : (f : List ℕ) → is_empty f ≡ false → 1 ≤ length f
empty_not [] e = cc
empty_not (b ∷ f) e = omega arith

both_not : (s t : Bool) → (s || t) ≡ false → (s ≡ false) × (t ≡ false)
both_not false t e = (refl, e)
both_not true t e = cc

-- so a line has a known shape or is refusal 6, by how many fields it has
module _ (line first : List ℕ) where
  one_or_none : (a : List ℕ) → spaceless a ≡ true → line ≡ first ++ (32 ∷ a) → Shaped line ⊎ (two_fields first a ≡ Err WrongShape)
  one_or_none a whole is = by (same_bytes first N) (is_empty a) refl refl
    where
      by : (known empty : Bool) → same_bytes first N ≡ known → is_empty a ≡ empty
          → Shaped line ⊎ (cond known (cond empty (Err WrongShape) (by_one AskNumber (numeral a))) (Err WrongShape) ≡ Err WrongShape)
      by false empty e f = inr refl
      by true true e f = inr refl
      by true false e f = inl (n_shaped a (record { any = empty_not a f; whole = whole }) (is ∙ ap (λ w. w ++ (32 ∷ a)) (same_true first N e)))

  module _ (a b : List ℕ) (whole : spaceless a ≡ true) (whole' : spaceless b ≡ true) (is : line ≡ first ++ (32 ∷ (a ++ (32 ∷ b)))) where
    filled_or_none : {A : Type 0} (read : List ℕ → Option A) (asked : A → A → Request) → (Filled a → Filled b → Shaped line)
        → Shaped line ⊎ (of_two read asked a b ≡ Err WrongShape)
    filled_or_none read asked if_both = by (is_empty a || is_empty b) refl
      where
        by : (empty : Bool) → (is_empty a || is_empty b) ≡ empty
            → Shaped line ⊎ (cond empty (Err WrongShape) (by_two asked (read a) (read b)) ≡ Err WrongShape)
        by true e = inr refl
        by false e =
            let each = both_not (is_empty a) (is_empty b) e in
            inl (if_both (record { any = empty_not a each.0; whole = whole }) (record { any = empty_not b each.1; whole = whole' }))

    said : (known : List ℕ) → same_bytes first known ≡ true → line ≡ with_two known a b
    said known e = is ∙ ap (λ w. w ++ (32 ∷ (a ++ (32 ∷ b)))) (same_true first known e)

    two_or_none : Shaped line ⊎ (three_fields first a b ≡ Err WrongShape)
    two_or_none = by (same_bytes first AREA) (same_bytes first ORIGIN) (same_bytes first S) refl refl refl
      where
        by : (t u v : Bool) → same_bytes first AREA ≡ t → same_bytes first ORIGIN ≡ u → same_bytes first S ≡ v
            → Shaped line
            ⊎ (cond t (of_two numeral SetArea a b)
            (cond u (of_two signed_numeral SetOrigin a b) (cond v (of_two signed_numeral AskSquare a b) (Err WrongShape)))
            ≡ Err WrongShape)
        by true u v e f g = filled_or_none numeral SetArea (λ p q. area_shaped a b p q (said AREA e))
        by false true v e f g = filled_or_none signed_numeral SetOrigin (λ p q. origin_shaped a b p q (said ORIGIN f))
        by false false true e f g = filled_or_none signed_numeral AskSquare (λ p q. s_shaped a b p q (said S g))
        by false false false e f g = inr refl

  shape_or_none : (others : List (List ℕ)) → Spaceless others → line ≡ between (first ∷ others)
      → Shaped line ⊎ (shaped (first ∷ others) ≡ Err WrongShape)
  unfolding shaped between
  shape_or_none [] all is = inr refl
  shape_or_none (a ∷ []) all is = one_or_none a all.0 is
  shape_or_none (a ∷ b ∷ []) all is = two_or_none a b all.0 all.1.0 is
  shape_or_none (a ∷ b ∷ c ∷ others) all is = inr refl

-- "An unknown first word, a missing, extra or empty field, or an empty line is refusal 6": any line of up to 64 bytes that has none of the four shapes.
pub shaped_or_refused : (line : List ℕ) → length line ≤ 64 → Shaped line ⊎ (request line ≡ Err WrongShape)
unfolding request
shaped_or_refused line l =
    let all = subst Spaceless (fields_are line) (fields_spaceless line) in
    let is = sym (between_fields line) ∙ ap between (fields_are line) in
    rw (le-leb (length line) 64 l, fields_are line) (shape_or_none line (up_to_space line) (rest line) all.1 is)

-- `N i`, `AREA w h`, `ORIGIN ox oy` and `S x y`, in whichever spellings, ask for these numbers.
pub number_spelt : (line : List ℕ) (n : ℕ) → Says (AskNumber n) line → request line ≡ Ok (AskNumber n)
number_spelt line n s =
    let few = plain.few s.field n s.spelt in
    ap request s.is ∙ (number_line s.field (plain.filled s.field n s.spelt) (omega arith)).0 n (plain.reads s.field n s.spelt)

-- both fields of a line of two numbers, filled, read as these, and short
module _ {A : Type 0} {read : List ℕ → Option A} {Spelling : List ℕ → A → Type 0} (way : Way read Spelling) (n m : A) (line known : List ℕ)
    (s : SaysTwo Spelling known n m line) where
  few : length (s.first ++ (32 ∷ s.second)) ≤ 23
  few =
      let one = way.few s.first n s.first_spelt in
      let other = way.few s.second m s.second_spelt in
      let size = length-append s.first (32 ∷ s.second) in
      omega arith

  both_asked : (asked : A → A → Request)
      → (Filled s.first → Filled s.second → AskedTwo read asked s.first s.second (request (with_two known s.first s.second)))
      → request line ≡ Ok (asked n m)
  both_asked asked by =
      ap request s.is
      ∙ (by (way.filled s.first n s.first_spelt) (way.filled s.second m s.second_spelt)).0 n m (way.reads s.first n s.first_spelt)
      (way.reads s.second m s.second_spelt)

pub area_spelt : (w h : ℕ) (line : List ℕ) → Says (SetArea w h) line → request line ≡ Ok (SetArea w h)
area_spelt w h line s =
    let room = few plain w h line AREA s in
    both_asked plain w h line AREA s SetArea (λ f g. area_line s.first s.second f g (omega arith))

pub origin_spelt : (ox oy : ℤ) (line : List ℕ) → Says (SetOrigin ox oy) line → request line ≡ Ok (SetOrigin ox oy)
origin_spelt ox oy line s =
    let room = few signed ox oy line ORIGIN s in
    both_asked signed ox oy line ORIGIN s SetOrigin (λ f g. origin_line s.first s.second f g (omega arith))

pub square_spelt : (x y : ℤ) (line : List ℕ) → Says (AskSquare x y) line → request line ≡ Ok (AskSquare x y)
square_spelt x y line s =
    let room = few signed x y line S s in
    both_asked signed x y line S s AskSquare (λ f g. square_line s.first s.second f g (omega arith))

-- So the promise's two clauses agree: what a line asks it says.
pub told_so : (line : List ℕ) {q : Result Request Refusal} → q ≡ request line → (asked q ≡ asked (request line)) × SaysIfAsked q line
told_so line e = (ap asked e, subst⁻¹ (λ (q : Result Request Refusal). SaysIfAsked q line) e (says_so line))
