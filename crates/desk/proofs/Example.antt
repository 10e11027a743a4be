-- Document 01's example of order lines, from the definitions alone: its input gives exactly its output. The squares are the division's own, by `Worked`.
use mathlib.Core.Bool.{true, false, cond, false≢true}
use mathlib.Core.List.{List, [], ◌∷◌, ◌++◌}
use mathlib.Core.Logic.{inl, inr}
use mathlib.Core.Path.{◌≡◌, refl, sym, ap, ap₂, ◌∙◌}
use Prim.Native.Nat.{ℕ, ◌+◌}
use Prim.Native.String.{String}
use native.Mathlib.Omega.{arith}
use lib.Dec.{leb, eqb, lit<}
use lib.IntN.{pos, ◌+ℤ◌}
use lib.ListN.{drop}
use Rattle.std.specs.Prelude.{Some, None}
use Rattle.terms.specs.declared.Refusal.TheVariants.{NumberOutside}
use Rattle.terms.specs.Terms.{accepted, grid_accepted, answered, refused, in_signs, signed, origin_accepted, at_post}
use Rattle.division.specs.Division.{Square, whole, blocks_holding}
use Rattle.division.specs.Division.Worked.{eighth, eighth_held}
use Rattle.curve.specs.Lookups.{number_to_square_at, square_to_number_at, finish_square_at}
use Rattle.curve.proofs.Answers.{number_past}
use Rattle.curve.proofs.Finish.{Elsewhere, narrow, low, finish_found_at, finish_is}
use Rattle.curve.proofs.Demands.{found, number_answered_at, number_back_at}
use Rattle.words.specs.Letters.{bytes}
use Rattle.words.specs.Words.{begins, all_digits, value_on, is_number, numeral, same_bytes}
use Rattle.words.specs.Signed.{signed_numeral}
use Rattle.fields.specs.Fields.{fields}
use Rattle.lines.specs.Lines.{AREA, ORIGIN, shaped, request}
use Rattle.words.specs.Decimal.{decimal_by, decimal}
use Rattle.words.proofs.Same.{same_itself}
use Rattle.clerk.specs.Clerk.{InForce, AreaSaid, Cell, Number, Refused, Said, says, from_call, after, reply}
use Rattle.clerk.proofs.InForce.{in_force}
use Rattle.clerk.proofs.Areas.{Begun, others_alter_nothing}
use Rattle.replies.specs.Text.{text}
use Rattle.desk.specs.Desk.{last_answered, lines_of, answers, output}

accepts : grid_accepted (at_post 3 4) ≡ true
unfolding accepted origin_accepted
accepts = refl

cell : number_to_square_at (at_post 3 4) 8 ≡ found (pos 2) (pos 1) 3
cell =
    number_answered_at (at_post 3 4) accepts 8 (lit< tt)
    ∙ ap (λ (s : Square). found (pos 0 +ℤ pos s.x) (pos 0 +ℤ pos s.y) (blocks_holding (whole 3 4) s)) eighth
    ∙ ap (found (pos 2) (pos 1)) eighth_held

number : square_to_number_at (at_post 3 4) (pos 2) (pos 1) ≡ answered (8 ∷ 3 ∷ [])
number = number_back_at (at_post 3 4) 8 (pos 2) (pos 1) 3 cell

past_the_end : number_to_square_at (at_post 3 4) 12 ≡ signed (refused NumberOutside 3)
unfolding accepted origin_accepted
past_the_end = sym (number_past (at_post 3 4) 12 refl NumberOutside refl)

-- no area of those that end elsewhere than at (w - 1, 0)
corner : Elsewhere 3 4 → ⊥
corner (narrow one more) = omega arith
corner (low three odd two) = omega arith

finish : finish_square_at (at_post 3 4) ≡ finish_found_at (pos 2) (pos 0)
finish = (finish_is (at_post 3 4) accepts).nowhere_else corner

abbrev pub input : String
input = "AREA 3 4\nN 8\nS 2 1\nN 3E4\nN 12\n"

abbrev pub printed : String
printed = "1 AREA 3 4 12 2 0\n2 CELL 2 1 3\n3 NUMBER 8 3\n4 REFUSED 5\n5 REFUSED 3\n"

-- one line answered, and the rest with the area then in force
line_answered : (held : InForce) (n : ℕ) (line : List ℕ) (lines : List (List ℕ)) (said : Said) (left : InForce) → leb n last_answered ≡ true
    → reply held line ≡ said → after held line ≡ left → answers held n (line ∷ lines) ≡ text n said ++ answers left (n + 1) lines
unfolding answers
line_answered held n line lines said left l r a = rw l (ap₂ (λ s c. text n s ++ answers c (n + 1) lines) r a)

three_by_four : InForce
three_by_four = Some (at_post 3 4)

-- the five replies, and that only the first line alters the area
set : reply None (bytes "AREA 3 4") ≡ says AreaSaid (in_signs (3 ∷ 4 ∷ 12 ∷ 2 ∷ 0 ∷ []))
unfolding reply request shaped fields same_bytes numeral is_number all_digits value_on in_signs
set = ap (from_call AreaSaid (in_signs (3 ∷ 4 ∷ 12 ∷ []))) finish

asked_number : reply three_by_four (bytes "N 8") ≡ says Cell (in_signs (2 ∷ 1 ∷ 3 ∷ []))
unfolding three_by_four reply request shaped fields same_bytes numeral is_number all_digits value_on in_signs accepted origin_accepted
asked_number = ap (from_call Cell []) cell

asked_square : reply three_by_four (bytes "S 2 1") ≡ says Number (in_signs (8 ∷ 3 ∷ []))
unfolding three_by_four reply request shaped fields same_bytes signed_numeral numeral is_number all_digits value_on accepted origin_accepted
asked_square = ap (λ f. from_call Number [] (signed f)) number

no_number : reply three_by_four (bytes "N 3E4") ≡ says Refused (in_signs (5 ∷ []))
unfolding reply request shaped fields same_bytes numeral is_number all_digits value_on in_signs
no_number = refl

too_high : reply three_by_four (bytes "N 12") ≡ says Refused (in_signs (3 ∷ []))
unfolding three_by_four reply request shaped fields same_bytes numeral is_number all_digits value_on in_signs accepted origin_accepted
too_high = ap (from_call Cell []) past_the_end

sets_it : after None (bytes "AREA 3 4") ≡ three_by_four
unfolding three_by_four after request shaped fields same_bytes numeral is_number all_digits value_on accepted origin_accepted
sets_it = refl

keeps_it : (line : List ℕ) → begins line AREA ≡ false → begins line ORIGIN ≡ false → after three_by_four line ≡ three_by_four
unfolding three_by_four accepted origin_accepted
keeps_it line e f = others_alter_nothing three_by_four line neither ∙ in_force (at_post 3 4) refl
  where
    neither : Begun line → ⊥
    neither (inl area) = false≢true (sym e ∙ ap (λ b. same_bytes b AREA) area ∙ same_itself AREA)
    neither (inr origin) = false≢true (sym f ∙ ap (λ b. same_bytes b ORIGIN) origin ∙ same_itself ORIGIN)

-- the input's five lines
abbrev the_lines : List (List ℕ)
the_lines = bytes "AREA 3 4" ∷ bytes "N 8" ∷ bytes "S 2 1" ∷ bytes "N 3E4" ∷ bytes "N 12" ∷ []

cut : lines_of (bytes input) ≡ the_lines
unfolding lines_of
cut = refl

-- what is said of each, and the texts of that one after the other
abbrev said : ℕ → Said
said n =
    cond (eqb n 1) (says AreaSaid (in_signs (3 ∷ 4 ∷ 12 ∷ 2 ∷ 0 ∷ [])))
    (cond (eqb n 2) (says Cell (in_signs (2 ∷ 1 ∷ 3 ∷ [])))
    (cond (eqb n 3) (says Number (in_signs (8 ∷ 3 ∷ []))) (cond (eqb n 4) (says Refused (in_signs (5 ∷ []))) (says Refused (in_signs (3 ∷ []))))))

joined : text 1 (said 1) ++ (text 2 (said 2) ++ (text 3 (said 3) ++ (text 4 (said 4) ++ (text 5 (said 5) ++ [])))) ≡ bytes printed
unfolding text decimal decimal_by in_signs
joined = refl

-- a line of the four that leave the area, answered before what is left of them
next : (n : ℕ) (line : List ℕ) (lines : List (List ℕ)) (rest : List ℕ) → leb n last_answered ≡ true → begins line AREA ≡ false → begins line ORIGIN ≡ false
    → reply three_by_four line ≡ said n → answers three_by_four (n + 1) lines ≡ rest → answers three_by_four n (line ∷ lines) ≡ text n (said n) ++ rest
next n line lines rest l other another r e =
    line_answered three_by_four n line lines (said n) three_by_four l r (keeps_it line other another) ∙ ap (λ t. text n (said n) ++ t) e

pub example : output (bytes input) ≡ bytes printed
unfolding output answers same_bytes
example =
    let printed_5 : List ℕ = text 5 (said 5) ++ [] in
    let printed_4 : List ℕ = text 4 (said 4) ++ printed_5 in
    let printed_3 : List ℕ = text 3 (said 3) ++ printed_4 in
    let fifth = next 5 (bytes "N 12") [] [] refl refl refl too_high refl in
    let fourth = next 4 (bytes "N 3E4") (drop 4 the_lines) printed_5 refl refl refl no_number fifth in
    let third = next 3 (bytes "S 2 1") (drop 3 the_lines) printed_4 refl refl refl asked_square fourth in
    let second = next 2 (bytes "N 8") (drop 2 the_lines) printed_3 refl refl refl asked_number third in
    ap (answers None 1) cut
    ∙ line_answered None 1 (bytes "AREA 3 4") (drop 1 the_lines) (said 1) three_by_four refl set sets_it
    ∙ ap (λ t. text 1 (said 1) ++ t) second
    ∙ joined
