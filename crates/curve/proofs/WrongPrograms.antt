-- The wrong programs that the lookups' promises turn away, each where it goes wrong first: in an area of two squares, or of four, at an origin.
use mathlib.Core.Bool.{true}
use mathlib.Core.Path.{◌≡◌, refl, sym, ap, ◌∙◌}
use Prim.Native.Nat.{ℕ, zero, suc, ◌*◌, ◌≤◌, ◌<◌}
use native.Mathlib.Omega.{arith}
use lib.Dec.{lit<, lit≤}
use lib.IntN.{ℤ, pos, ◌+ℤ◌}
use lib.Signed.{mag}
use Rattle.terms.specs.declared.Area.{Area}
use Rattle.terms.specs.declared.Refusal.{Refusal}
use Rattle.terms.specs.declared.Refusal.TheVariants.{SquareOutside}
use Rattle.terms.specs.Terms.{accepted, refused, origin_accepted, at_post, grid_accepted}
use Rattle.terms.proofs.Limits.{grid_passed}
use Rattle.terms.proofs.Refusals.{refusal_some, figure, signed_figure}
use Rattle.division.specs.declared.Choice.TheVariants.{UCut}
use Rattle.division.specs.Division.{Square, square, whole, choice, parts_of, square_of, blocks_holding}
use Rattle.division.proofs.Rules.{parts_are}
use Rattle.division.proofs.Cases.{in_three}
use Rattle.division.proofs.Blocks.{whole_inside, cut_holding}
use Rattle.division.proofs.Coordinates.{whole_holds}
use Rattle.std.specs.Prelude.{Result, Err}
use Rattle.curve.specs.declared.FoundSquare.{FoundSquare}
use Rattle.searches.specs.declared.Numbered.{Numbered}
use Rattle.curve.specs.Lookups.{number_to_square_at, square_to_number_at, square_figures, number_figures}
use Rattle.curve.proofs.Answers.{within}
use Rattle.curve.proofs.OneAnswer.{square_answer, number_answer}
use Rattle.curve.proofs.Demands.{number_asked, number_answered_at, number_back_at, square_asked, square_answered_at, square_back_at}

abbrev two_squares : (ox : ℤ) → Area
two_squares ox = record { w = 2; h = 1; ox = ox; oy = pos 0 }

abbrev four_squares : Area
four_squares = at_post 2 2

two_on : (n : ℕ) → n ≤ 1 → grid_accepted (two_squares (pos n)) ≡ true
unfolding accepted origin_accepted
two_on zero l = refl
two_on (suc zero) l = refl
two_on (suc (suc n)) l = absurd (omega arith)

four_on : grid_accepted four_squares ≡ true
unfolding accepted origin_accepted
four_on = refl

-- each square of a 2 by 2 area is held by a part too
not_alone : (s : Square) → s.x < 2 → s.y < 2 → 1 ≡ blocks_holding (whole 2 2) s → ⊥
unfolding whole choice parts_of
not_alone s l m is =
    let lies = whole_inside 2 2 (lit≤ tt) (lit≤ tt) in
    let held = whole_holds 2 2 s (record { run = l; side = m }) in
    let more = cut_holding 2 2 (whole 2 2) lies (in_three (lit≤ tt) (lit≤ tt) (parts_are (whole 2 2) UCut refl)) s held in
    omega arith

module _ (f : Area → ℕ → Result FoundSquare Refusal) (promise : (area : Area) (n : ℕ) → square_figures (f area n) ≡ number_to_square_at area n) where
  -- one that refuses everything
  pub refuses_everything : ((area : Area) (n : ℕ) → (r : Refusal) × (f area n ≡ Err r)) → ⊥
  refuses_everything all =
      let area = two_squares (pos 0) in
      let given = all area 0 in
      refusal_some given.0
      (ap (λ g. g.refusal) (ap square_figures (sym given.1) ∙ promise area 0 ∙ number_answered_at area (two_on 0 (lit≤ tt)) 0 (lit< tt)))

  -- one that gives a constant square, whatever the count
  pub constant_square : (x y : ℤ)
      → ((area : Area) (n : ℕ) → grid_accepted area ≡ true → n < area.w * area.h → (k : ℕ) × (f area n ≡ square_answer x y k)) → ⊥
  constant_square x y all =
      let area = two_squares (pos 0) in
      let ok = two_on 0 (lit≤ tt) in
      let a = all area 0 ok (lit< tt) in
      let b = all area 1 ok (lit< tt) in
      let first = number_back_at area 0 x y a.0 (sym (promise area 0) ∙ ap square_figures a.1) in
      let second = number_back_at area 1 x y b.0 (sym (promise area 1) ∙ ap square_figures b.1) in
      omega (arith, ap (figure 0) (sym first ∙ second))

  -- one that forgets the origin
  pub forgets_the_origin : ((area : Area) (n : ℕ) → f area n ≡ f (at_post area.w area.h) n) → ⊥
  forgets_the_origin all =
      let area = two_squares (pos 1) in
      let here = number_answered_at area (two_on 1 (lit≤ tt)) 0 (lit< tt) in
      let there = number_answered_at (at_post 2 1) (two_on 0 (lit≤ tt)) 0 (lit< tt) in
      let same = sym here ∙ sym (promise area 0) ∙ ap square_figures (all area 0) ∙ promise (at_post 2 1) 0 ∙ there in
      omega (arith, ap (λ g. mag (signed_figure 0 g)) same)

  -- one whose count is made up: 1 for every square is within demand 3's bound, and is not the division's own count
  pub made_up_count : ((area : Area) (n : ℕ) → grid_accepted area ≡ true → n < area.w * area.h
      → (x : ℤ) × (y : ℤ) × (f area n ≡ square_answer x y 1)) → ⊥
  made_up_count all =
      let a = all four_squares 0 four_on (lit< tt) in
      let was = number_asked four_squares 0 a.0 a.1 1 (sym (promise four_squares 0) ∙ ap square_figures a.2) in
      let lies = within 2 2 (grid_passed four_squares four_on).0 0 was.numbered in
      not_alone (square_of (whole 2 2) 0) lies.0 lies.1 was.count

-- the datum post lies west of an area whose origin is 1 0
west_of_two : square_to_number_at (two_squares (pos 1)) (pos 0) (pos 0) ≡ refused SquareOutside 2
unfolding square_to_number_at origin_accepted
west_of_two = refl

module _ (g : Area → ℤ → ℤ → Result Numbered Refusal) (promise : (area : Area) (x y : ℤ) → number_figures (g area x y) ≡ square_to_number_at area x y) where
  -- one that refuses every square, one that gives a constant number, one that forgets the origin, and one whose count is made up
  pub refuses_every_square : ((area : Area) (x y : ℤ) → (r : Refusal) × (g area x y ≡ Err r)) → ⊥
  refuses_every_square all =
      let area = two_squares (pos 0) in
      let given = all area (pos 0) (pos 0) in
      refusal_some given.0
      (ap (λ f. f.refusal)
      (ap number_figures (sym given.1) ∙ promise area (pos 0) (pos 0)
      ∙ square_answered_at area (two_on 0 (lit≤ tt)) 0 0 (lit< tt) (lit< tt)))

  pub constant_number : (n : ℕ)
      → ((area : Area) (x y : ℕ) → grid_accepted area ≡ true → x < area.w → y < area.h
      → (k : ℕ) × (g area (area.ox +ℤ pos x) (area.oy +ℤ pos y) ≡ number_answer n k)) → ⊥
  constant_number n all =
      let area = two_squares (pos 0) in
      let ok = two_on 0 (lit≤ tt) in
      let a = all area 0 0 ok (lit< tt) (lit< tt) in
      let b = all area 1 0 ok (lit< tt) (lit< tt) in
      let first = square_back_at area (pos 0) (pos 0) n a.0 (sym (promise area (pos 0) (pos 0)) ∙ ap number_figures a.1) in
      let second = square_back_at area (pos 1) (pos 0) n b.0 (sym (promise area (pos 1) (pos 0)) ∙ ap number_figures b.1) in
      omega (arith, ap (λ f. mag (signed_figure 0 f)) (sym first ∙ second))

  pub forgets_the_origin_asked : ((area : Area) (x y : ℤ) → g area x y ≡ g (at_post area.w area.h) x y) → ⊥
  forgets_the_origin_asked all =
      let area = two_squares (pos 1) in
      let here = west_of_two in
      let there = square_answered_at (at_post 2 1) (two_on 0 (lit≤ tt)) 0 0 (lit< tt) (lit< tt) in
      let same = sym here ∙ sym (promise area (pos 0) (pos 0)) ∙ ap number_figures (all area (pos 0) (pos 0)) ∙ promise (at_post 2 1) (pos 0) (pos 0) ∙ there in
      omega (arith, ap (λ f. f.refusal) same)

  pub made_up_square_count : ((area : Area) (x y : ℕ) → grid_accepted area ≡ true → x < area.w → y < area.h
      → (n : ℕ) × (g area (area.ox +ℤ pos x) (area.oy +ℤ pos y) ≡ number_answer n 1)) → ⊥
  made_up_square_count all =
      let a = all four_squares 0 0 four_on (lit< tt) (lit< tt) in
      let was = square_asked four_squares (pos 0) (pos 0) a.0 1 (sym (promise four_squares (pos 0) (pos 0)) ∙ ap number_figures a.1) in
      not_alone (square 0 0) was.along was.across was.count
