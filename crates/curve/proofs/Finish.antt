-- Where the curve of an area ends: the square of its last number, in one of three ways; and so document 02's sentences on the finish square. By induction over
-- the blocks: a cut area ends where its last part ends, and that part's lengths decide which way it is.
use mathlib.Core.Bool.{Bool, true, false}
use mathlib.Core.List.{[], ◌∷◌}
use mathlib.Core.Path.{◌≡◌, refl, sym, ap, ap₂, subst, ◌∙◌}
use Prim.Native.Nat.{ℕ, ◌+◌, ◌-◌, ◌*◌, ◌/◌, ◌%◌, ◌≤◌, ◌<◌}
use native.Mathlib.Nat.{add-sub_of_le, mul-le-mul}
use native.Mathlib.Omega.{arith}
use borrow.Author.Tests.{eqb-true, eqb-false}
use lib.Dec.{eqb}
use lib.IntN.{ℤ, pos, ◌+ℤ◌, ◌-ℤ◌}
use lib.Signed.{mag}
use Rattle.terms.specs.declared.Area.{Area}
use Rattle.terms.specs.Terms.{accepted, grid_accepted, SignedFigures, in_signs, Limits}
use Rattle.terms.proofs.Limits.{limits, grid_guards_passed, grid_passed}
use Rattle.terms.proofs.Guards.{◌and◌, answered_so}
use Rattle.terms.proofs.Refusals.{signed_figure}
use Rattle.terms.proofs.Signs.{added_off}
use Rattle.division.specs.declared.Choice.TheVariants.{LongCut, UCut}
use Rattle.division.specs.Division.{Square, square, Block, whole, even_half, First, Second, A, B, C, part, parts, parts_of, square_of}
use Rattle.division.specs.Division.Inside.{Sized}
use Rattle.division.proofs.Rules.{All, Chosen, is_run, is_side, is_long, is_u, chosen, halves, parts_are}
use Rattle.division.proofs.Cases.{induction}
use Rattle.division.proofs.Cuts.{long_areas, u_areas}
use Rattle.division.proofs.Coordinates.{seen_from}
use Rattle.division.proofs.PartHolding.{squares_of}
use Rattle.division.proofs.SquareOfNumber.{area_at_part, area_run_at, area_side_at}
use Rattle.division.proofs.EvenHalf.{half_small, half_large}
use Rattle.curve.specs.Lookups.{all, from_origin, finish_guards, finish_square_at}

-- the three ways: up along a width of 1, one short of the corner, and at the corner
pub data Ends (a b x y : ℕ) : Type 0 where
  up : a ≡ 1 → x ≡ 0 → y + 1 ≡ b → Ends a b x y
  short : b ≡ 2 → 3 ≤ a → a % 2 ≡ 1 → x + 2 ≡ a → y ≡ 0 → Ends a b x y
  corner : 2 ≤ a → (b ≡ 2 → a % 2 ≡ 0) → x + 1 ≡ a → y ≡ 0 → Ends a b x y

-- the even half is even, but for lengths 1 and 2
pub half_even : (L : ℕ) → 2 < L → even_half L % 2 ≡ 0
half_even L l = let e = half_large L l in omega arith

-- so that the rest is even or odd as the length is
pub rest_parity : (L e : ℕ) → e ≤ L → e % 2 ≡ 0 → (L - e) % 2 ≡ L % 2
rest_parity L e l even = omega arith

at_least_3 : (n : ℕ) → n % 2 ≡ 1 → 2 ≤ n → 3 ≤ n
at_least_3 n odd l = omega arith

-- an area's last number is where it ends
abbrev Last : Block → Type 0
Last k = (x y : ℕ) → Ends k.a k.b x y → square_of (whole k.a k.b) (k.a * k.b - 1) ≡ square x y

module _ (a b x y : ℕ) where
  -- the last part of a long cut ends as the block does
  second_ends : 2 ≤ b → 3 * b < 2 * a → Ends a b x y → Ends (a - even_half a) b (x - even_half a) y
  second_ends lb l (up one p q) = absurd (omega arith)
  second_ends lb l (short two la odd p q) =
      let half = halves a (omega arith) in
      let even = half_even a (omega arith) in
      let odd_rest : (a - even_half a) % 2 ≡ 1 = rest_parity a (even_half a) (omega arith) even ∙ odd in
      short two (at_least_3 (a - even_half a) odd_rest (omega arith)) odd_rest (omega arith) q
  second_ends lb l (corner la even p q) =
      let half = halves a la in
      let even_e = half_even a (omega arith) in
      corner (omega arith) (λ two. rest_parity a (even_half a) (omega arith) even_e ∙ even two) (omega arith) q

  -- so does C, the last part of a U cut
  c_ends : 2 ≤ a → 2 ≤ b → 2 * a ≤ 3 * b → Ends a b x y → Ends (even_half b) (a - a / 2) (even_half b - 1 - y) (a - 1 - x)
  c_ends la lb l (up one p q) = absurd (omega arith)
  c_ends la lb l (short two three odd p q) =
      let one : b / 2 ≡ even_half b = half_small b (omega arith) in
      up (omega arith) (omega arith) (omega arith)
  c_ends la lb l (corner la' even p q) = by (eqb b 2) refl
    where
      by : (t : Bool) → eqb b 2 ≡ t → Ends (even_half b) (a - a / 2) (even_half b - 1 - y) (a - 1 - x)
      by true t =
          let two = eqb-true b 2 t in
          let even_a = even two in
          let one : b / 2 ≡ even_half b = half_small b (omega arith) in
          up (omega arith) (omega arith) (omega arith)
      by false t =
          let more = eqb-false b 2 t in
          let half = halves b lb in
          let even_e = half_even b (omega arith) in
          corner (omega arith) (λ two. even_e) (omega arith) (omega arith)

-- and it lies in that last part
second_behind : (a b x y : ℕ) → 2 ≤ b → 3 * b < 2 * a → Ends a b x y → even_half a ≤ x
second_behind a b x y lb l (up one p q) = absurd (omega arith)
second_behind a b x y lb l (short two la odd p q) = let half = halves a (omega arith) in omega arith
second_behind a b x y lb l (corner la even p q) = let half = halves a la in omega arith

c_behind : (a b x y : ℕ) → 2 ≤ a → 2 ≤ b → Ends a b x y → (x < a) × (y < even_half b)
c_behind a b x y la lb (up one p q) = absurd (omega arith)
c_behind a b x y la lb (short two three odd p q) = let half = halves b lb in (omega arith, omega arith)
c_behind a b x y la lb (corner la' even p q) = let half = halves b lb in (omega arith, omega arith)

-- a straight area, by its rule
run_last : (a b x y : ℕ) → b ≡ 1 → Ends a b x y → (x + 1 ≡ a * b) × (y ≡ 0)
run_last a b x y is (up one p q) = (rw is (omega arith), omega arith)
run_last a b x y is (short two la odd p q) = absurd (omega arith)
run_last a b x y is (corner la even p q) = (rw is (omega arith), q)

side_last : (a b x y : ℕ) → a ≡ 1 → Ends a b x y → (x ≡ 0) × (y + 1 ≡ a * b)
side_last a b x y is (up one p q) = (p, rw is (omega arith))
side_last a b x y is (short two la odd p q) = absurd (omega arith)
side_last a b x y is (corner la even p q) = absurd (omega arith)

-- the last number of an area, from that of its last part
last_of : (before part all : ℕ) → before + part ≡ all → 1 ≤ part → all - 1 ≡ before + (part - 1)
last_of before part all sum some = omega arith

module _ (k : Block) (h : Sized k) (x y : ℕ) (ends : Ends k.a k.b x y) (below : All Last (parts k)) where
  last_by : Chosen k.a k.b → square_of (whole k.a k.b) (k.a * k.b - 1) ≡ square x y
  unfolding squares_of part parts_of seen_from whole
  last_by (is_run c one) =
      let last = run_last k.a k.b x y one ends in
      area_run_at k.a k.b h.run h.side (k.a * k.b - 1) c (rw one (omega arith)) ∙ ap₂ square (omega arith) (sym last.1)
  last_by (is_side c one two) =
      let last = side_last k.a k.b x y one ends in
      area_side_at k.a k.b h.run h.side (k.a * k.b - 1) c (rw one (omega arith)) ∙ ap₂ square (sym last.0) (omega arith)
  last_by (is_long c la lb l) =
      let half = halves k.a la in
      let e = even_half k.a in
      let n = (k.a - e) * k.b in
      let rest : 1 ≤ k.a - e = omega arith in
      let some : 1 * 1 ≤ n = mul-le-mul rest h.side in
      let there = (subst (All Last) (parts_are k LongCut c) below).1.0 (x - e) y (second_ends k.a k.b x y lb l ends) in
      let sum = long_areas e k.a k.b (omega arith) in
      ap (square_of (whole k.a k.b)) (last_of (e * k.b + 0) n (k.a * k.b) (omega arith) some)
      ∙ area_at_part k.a k.b h.run h.side (First ∷ []) Second [] (ap parts_of c) (n - 1) (omega arith)
      ∙ ap (seen_from Second k.a k.b) there
      ∙ ap (λ u. square u y) (add-sub_of_le (second_behind k.a k.b x y lb l ends))
  last_by (is_u c la lb l) =
      let half = halves k.b lb in
      let behind = c_behind k.a k.b x y la lb ends in
      let e = even_half k.b in
      let n = e * (k.a - k.a / 2) in
      let rest : 1 ≤ k.a - k.a / 2 = omega arith in
      let some : 1 * 1 ≤ n = mul-le-mul half.pos rest in
      let there = (subst (All Last) (parts_are k UCut c) below).1.1.0 (e - 1 - y) (k.a - 1 - x) (c_ends k.a k.b x y la lb l ends) in
      let sum = u_areas e (k.a / 2) k.a k.b (omega arith) (omega arith) in
      ap (square_of (whole k.a k.b)) (last_of (e * (k.a / 2) + (k.a * (k.b - e) + 0)) n (k.a * k.b) (omega arith) some)
      ∙ area_at_part k.a k.b h.run h.side (A ∷ B ∷ []) C [] (ap parts_of c) (n - 1) (omega arith)
      ∙ ap (seen_from C k.a k.b) there
      ∙ ap₂ square (omega arith) (omega arith)

-- The curve of an area ends at the square that its lengths say.
pub last_square : (w h x y : ℕ) → 1 ≤ w → 1 ≤ h → Ends w h x y → square_of (whole w h) (w * h - 1) ≡ square x y
unfolding whole
last_square w h x y lw lh e =
    induction Last (λ k sized below x y e. last_by k sized x y e below (chosen k sized)) (whole w h) (record { run = lw; side = lh }) x y e

-- height 2, by the width's parity
pub low_ends : (w h : ℕ) → 2 ≤ w → h ≡ 2 → Ends w h (w - 1 - w % 2) 0
low_ends w h more two = by (eqb (w % 2) 1) refl
  where
    by : (odd : Bool) → eqb (w % 2) 1 ≡ odd → Ends w h (w - 1 - w % 2) 0
    by true r =
        let odd = eqb-true (w % 2) 1 r in
        let three = at_least_3 w odd more in
        short two three odd (omega arith) refl
    by false r =
        let even = eqb-false (w % 2) 1 r in
        corner more (λ is. omega arith) (omega arith) refl

-- The same for accepted lengths, as the code tells the last square: by width 1, by height 2, and otherwise.
module _ (w h : ℕ) (ok : accepted w h ≡ true) where
  least : Limits w h
  least = limits w h ok

  wide : (w ≡ 1 → ⊥) → 2 ≤ w
  wide other = let l = least.w_least in omega arith

  pub width_some : 1 ≤ w
  width_some = least.w_least

  pub height_some : 1 ≤ h
  height_some = least.h_least

  pub up_last : w ≡ 1 → square 0 (h - 1) ≡ square_of (whole w h) (w * h - 1)
  up_last one = let l = least.h_least in sym (last_square w h 0 (h - 1) least.w_least least.h_least (up one refl (omega arith)))

  pub low_last : (w ≡ 1 → ⊥) → h ≡ 2 → square (w - 1 - w % 2) 0 ≡ square_of (whole w h) (w * h - 1)
  low_last other two = sym (last_square w h (w - 1 - w % 2) 0 least.w_least least.h_least (low_ends w h (wide other) two))

  pub corner_last : (w ≡ 1 → ⊥) → (h ≡ 2 → ⊥) → square (w - 1) 0 ≡ square_of (whole w h) (w * h - 1)
  corner_last other high =
      let more = wide other in
      sym (last_square w h (w - 1) 0 least.w_least least.h_least (corner more (λ two. absurd (high two)) (omega arith) refl))

pub ruleset where_it_ends = (width_some, height_some, up_last, low_last, corner_last)

-- Every area ends in one of the ways.
pub ends : (w h : ℕ) → 1 ≤ w → 1 ≤ h → (x : ℕ) × (y : ℕ) × Ends w h x y
ends w h lw lh = by (eqb w 1) (eqb h 2) refl refl
  where
    by : (one two : Bool) → eqb w 1 ≡ one → eqb h 2 ≡ two → (x : ℕ) × (y : ℕ) × Ends w h x y
    by true two p q = (0, h - 1, up (eqb-true w 1 p) refl (omega arith))
    by false true p q = let more = eqb-false w 1 p in (w - 1 - w % 2, 0, low_ends w h (omega arith) (eqb-true h 2 q))
    by false false p q =
        let more = eqb-false w 1 p in
        let other = eqb-false h 2 q in
        (w - 1, 0, corner (omega arith) (λ two. absurd (other two)) (omega arith) refl)

-- The areas that end elsewhere than at (w - 1, 0): "width 1 with height above 1" and "odd width of 3 or more with height 2".
pub data Elsewhere (w h : ℕ) : Type 0 where
  narrow : w ≡ 1 → 1 < h → Elsewhere w h
  low : 3 ≤ w → w % 2 ≡ 1 → h ≡ 2 → Elsewhere w h

-- The figures of a finish square that is found.
abbrev pub finish_found_at : (x y : ℤ) → SignedFigures
finish_found_at x y = record { refusal = 0; values = x ∷ y ∷ [] }

-- Document 02's sentences on the finish square of an area, moved by its origin. The header and the bindings say the same.
pub record Finish (area : Area) : Type 0 where
  -- "The finish square becomes the square of number w·h - 1."
  pub last : let s = square_of (all area) (area.w * area.h - 1) in finish_square_at area ≡ finish_found_at (area.ox +ℤ pos s.x) (area.oy +ℤ pos s.y)
  -- "for width 1 with height above 1, where it is (0, h - 1)"
  pub of_narrow : area.w ≡ 1 → 1 < area.h → finish_square_at area ≡ finish_found_at (area.ox +ℤ pos 0) (area.oy +ℤ pos (area.h - 1))
  -- "and for odd width of 3 or more with height 2, where it is (w - 2, 0)"
  pub of_low : 3 ≤ area.w → area.w % 2 ≡ 1 → area.h ≡ 2 → finish_square_at area ≡ finish_found_at (area.ox +ℤ pos (area.w - 2)) (area.oy +ℤ pos 0)
  -- "It differs from (w - 1, 0) for" both,
  pub differs : Elsewhere area.w area.h → finish_square_at area ≡ finish_found_at (area.ox +ℤ pos (area.w - 1)) (area.oy +ℤ pos 0) → ⊥
  -- and "it differs nowhere else".
  pub nowhere_else : (Elsewhere area.w area.h → ⊥) → finish_square_at area ≡ finish_found_at (area.ox +ℤ pos (area.w - 1)) (area.oy +ℤ pos 0)

-- a square at which an area ends is (w - 1, 0) in every area but those
module _ (w h x y : ℕ) where
  not_corner : Ends w h x y → Elsewhere w h → x ≡ w - 1 → y ≡ 0 → ⊥
  not_corner (up one p q) (narrow one' more) r s = omega arith
  not_corner (up one p q) (low three odd two) r s = omega arith
  not_corner (short two three odd p q) e r s = omega arith
  not_corner (corner more even p q) (narrow one more') r s = omega arith
  not_corner (corner more even p q) (low three odd two) r s = let other = even two in omega arith

  at_corner : 1 ≤ h → Ends w h x y → (Elsewhere w h → ⊥) → (x ≡ w - 1) × (y ≡ 0)
  at_corner least (up one p q) not = by (eqb h 1) refl
    where
      by : (t : Bool) → eqb h 1 ≡ t → (x ≡ w - 1) × (y ≡ 0)
      by true t = let flat = eqb-true h 1 t in (omega arith, omega arith)
      by false t = let high = eqb-false h 1 t in absurd (not (narrow one (omega arith)))
  at_corner least (short two three odd p q) not = absurd (not (low three odd two))
  at_corner least (corner more even p q) not = (omega arith, q)

-- The finish square of every area on the grid is as document 02 says.
pub same_added : (o : ℤ) (a b : ℕ) → o +ℤ pos a ≡ o +ℤ pos b → a ≡ b
same_added o a b e = ap mag (sym (added_off o (pos a)) ∙ ap (λ (z : ℤ). z -ℤ o) e ∙ added_off o (pos b))

module _ (area : Area) (ok : grid_accepted area ≡ true) where
  within_limits : Limits area.w area.h
  within_limits = limits area.w area.h (grid_passed area ok).0

  pub finish_answered_at : let s = square_of (all area) (area.w * area.h - 1) in
      finish_square_at area ≡ finish_found_at (area.ox +ℤ pos s.x) (area.oy +ℤ pos s.y)
  unfolding finish_square_at from_origin in_signs
  finish_answered_at =
      let s = square_of (all area) (area.w * area.h - 1) in
      let tests = grid_guards_passed area ok in
      ap (from_origin area.ox area.oy) (answered_so (finish_guards area) 2 (s.x ∷ s.y ∷ []) (tests.0 and tests.1 and tests.2))

  ends_at : (x y : ℕ) → Ends area.w area.h x y → finish_square_at area ≡ finish_found_at (area.ox +ℤ pos x) (area.oy +ℤ pos y)
  ends_at x y e =
      finish_answered_at
      ∙ ap (λ (s : Square). finish_found_at (area.ox +ℤ pos s.x) (area.oy +ℤ pos s.y))
      (last_square area.w area.h x y within_limits.w_least within_limits.h_least e)

  pub finish_is : Finish area
  finish_is =
      let w = area.w in
      let h = area.h in
      let most = within_limits in
      let end = ends w h most.w_least most.h_least in
      let there = ends_at end.0 end.1 end.2 in
      record {
        last = finish_answered_at;
        of_narrow = λ one more. ends_at 0 (h - 1) (up one refl (omega arith));
        of_low = λ three odd two. ends_at (w - 2) 0 (short two three odd (omega arith) refl);
        differs = λ other e.
            not_corner w h end.0 end.1 end.2 other (same_added area.ox end.0 (w - 1) (ap (signed_figure 0) (sym there ∙ e)))
            (same_added area.oy end.1 0 (ap (signed_figure 1) (sym there ∙ e)));
        nowhere_else = λ not.
            let at = at_corner w h end.0 end.1 most.h_least end.2 not in
            there ∙ ap₂ (λ x y. finish_found_at (area.ox +ℤ pos x) (area.oy +ℤ pos y)) at.0 at.1;
      }
