-- Where the next square of an area lies: beside the one before, or across the one corner of an area that bends. By induction over the blocks: each part
-- carries its steps up, and from part to part the curve goes to a square beside, but from B to C where B is 2 high and odd in its run.
use mathlib.Core.List.{List, [], ◌∷◌, ◌++◌, append_assoc}
use mathlib.Core.Logic.{◌⊎◌, inl, inr}
use mathlib.Core.Path.{◌≡◌, refl, sym, ap, subst, subst⁻¹, ◌∙◌}
use Prim.Native.Nat.{ℕ, ◌+◌, ◌-◌, ◌*◌, ◌/◌, ◌%◌, ◌≤◌, ◌<◌}
use native.Mathlib.Nat.{add_assoc, zero-add, mul-one, one-mul, mul-pos}
use native.Mathlib.Decide.{dec_lt}
use native.Mathlib.Omega.{arith}
use Rattle.division.specs.declared.Choice.TheVariants.{LongCut, UCut}
use Rattle.division.specs.Division.{Square, square, Block, whole, choice, even_half, Part, First, Second, A, B, C, part, parts, parts_of, square_of}
use Rattle.division.specs.Division.Inside.{Sized}
use Rattle.division.proofs.Rules.{All, Chosen, is_run, is_side, is_long, is_u, chosen, halves, parts_are}
use Rattle.division.proofs.Cases.{induction}
use Rattle.division.proofs.Cuts.{area, long_areas, u_areas}
use Rattle.division.proofs.EachSquareOnce.{square_held}
use Rattle.division.proofs.Blocks.{whole_inside}
use Rattle.division.proofs.Coordinates.{Within, whole_within, seen_from}
use Rattle.division.proofs.PartHolding.{squares_of}
use Rattle.division.proofs.SquareOfNumber.{area_at_part, area_run_at, area_side_at}
use Rattle.division.proofs.EvenHalf.{half_small}
use Rattle.curve.proofs.Finish.{Ends, up, short, corner, half_even, rest_parity, last_square, ends}

-- how far two coordinates lie apart, and two squares, both ways added
unfoldable pub far : ℕ → ℕ → ℕ
far m n = (m - n) + (n - m)

abbrev pub apart : Square → Square → ℕ
apart p q = far p.x q.x + far p.y q.y

far_none : (m n : ℕ) → m ≡ n → far m n ≡ 0
unfolding far
far_none m n e = omega arith

far_one : (m n : ℕ) → (m + 1 ≡ n) ⊎ (n + 1 ≡ m) → far m n ≡ 1
unfolding far
far_one m n (inl e) = omega arith
far_one m n (inr e) = omega arith

-- as far where both are moved on, or counted from the other end
far_on : (k m n : ℕ) → far (k + m) (k + n) ≡ far m n
unfolding far
far_on k m n = omega arith

far_back : (k m n : ℕ) → m ≤ k → n ≤ k → far (k - m) (k - n) ≡ far m n
unfolding far
far_back k m n l r = omega arith

-- the one corner of an area that bends
pub record Bent (a b : ℕ) (p q : Square) : Type 0 where
  pub odd : a % 2 ≡ 1
  pub wide : 3 ≤ a
  pub even : b % 2 ≡ 0
  pub high : 4 ≤ b
  pub from_x : p.x + 2 ≡ a
  pub from_y : p.y + 2 ≡ b
  pub to_x : q.x + 1 ≡ a
  pub to_y : q.y + 3 ≡ b

abbrev pub Next : (a b : ℕ) → Square → Square → Type 0
Next a b p q = (apart p q ≡ 1) ⊎ Bent a b p q

-- a block's own area, and its steps
abbrev own : Block → Block
own k = whole k.a k.b

abbrev Steps : Block → Type 0
Steps k = (n : ℕ) → n + 1 < area k → Next k.a k.b (square_of (own k) n) (square_of (own k) (n + 1))

-- a step of a part is one of the block that is cut
abbrev Carries : (a b : ℕ) → Part → Type 0
Carries a b r =
    let k = part r (whole a b) in
    (p q : Square) → Within k.a k.b p → Within k.a k.b q → Next k.a k.b p q → Next a b (seen_from r a b p) (seen_from r a b q)

module _ (a b : ℕ) where
  first_carries : 2 < a → Carries a b First
  unfolding part seen_from whole
  first_carries l p q i j (inl e) = inl e
  first_carries l p q i j (inr t) = absurd (omega (arith, half_even a l, t.odd))

  second_carries : 2 < a → Carries a b Second
  unfolding part seen_from whole
  second_carries l p q i j (inl e) = inl (omega (arith, far_on (even_half a) p.x q.x))
  second_carries l p q i j (inr t) =
      let half = halves a (omega arith) in
      let same = rest_parity a (even_half a) (omega arith) (half_even a l) in
      inr (omega arith)

  -- an odd even half is 1, so that A and C do not bend
  half_short : {c : ℕ} {p q : Square} → 2 ≤ b → Bent (even_half b) c p q → ⊥
  half_short l t = by (dec_lt 2 b)
    where
      by : Dec (2 < b) → ⊥
      by (yes y) = omega (arith, half_even b y, t.odd)
      by (no n) = omega (arith, half_small b (omega arith), t.wide)

  a_carries : 2 ≤ b → Carries a b A
  unfolding part seen_from whole
  a_carries l p q i j (inl e) = inl (omega arith)
  a_carries l p q i j (inr t) = absurd (half_short l t)

  b_carries : 2 ≤ b → Carries a b B
  unfolding part seen_from whole
  b_carries l p q i j (inl e) = inl (omega (arith, far_on (even_half b) p.y q.y))
  b_carries l p q i j (inr t) =
      let half = halves b l in
      let more = t.high in
      let same = rest_parity b (even_half b) (omega arith) (half_even b (omega arith)) in
      inr (omega arith)

  c_carries : 2 ≤ b → Carries a b C
  unfolding part seen_from whole
  c_carries l p q i j (inl e) =
      let across = far_back (a - 1) p.y q.y (omega arith) (omega arith) in
      let along = far_back (even_half b - 1) p.x q.x (omega arith) (omega arith) in
      inl (omega arith)
  c_carries l p q i j (inr t) = absurd (half_short l t)

-- the first square of an area is (0, 0)
abbrev Starts : Block → Type 0
Starts k = square_of (own k) 0 ≡ square 0 0

module _ (k : Block) (h : Sized k) (below : All Starts (parts k)) where
  first_by : Chosen k.a k.b → Starts k
  unfolding squares_of part parts_of seen_from whole
  first_by (is_run c one) = area_run_at k.a k.b h.run h.side 0 c h.run
  first_by (is_side c one two) = area_side_at k.a k.b h.run h.side 0 c h.side
  first_by (is_long c la lb l) =
      let half = halves k.a la in
      area_at_part k.a k.b h.run h.side [] First (Second ∷ []) (ap parts_of c) 0 (mul-pos half.pos h.side)
      ∙ (subst (All Starts) (parts_are k LongCut c) below).0
  first_by (is_u c la lb l) =
      let half = halves k.b lb in
      area_at_part k.a k.b h.run h.side [] A (B ∷ C ∷ []) (ap parts_of c) 0 (mul-pos half.pos (omega arith))
      ∙ ap (seen_from A k.a k.b) (subst (All Starts) (parts_are k UCut c) below).0

pub first_square : (a b : ℕ) → 1 ≤ a → 1 ≤ b → square_of (whole a b) 0 ≡ square 0 0
unfolding whole
first_square a b la lb = induction Starts (λ k h below. first_by k h below (chosen k h)) (whole a b) (record { run = la; side = lb })

-- the squares of an area lie within it
square_within : (a b : ℕ) → 1 ≤ a → 1 ≤ b → (n : ℕ) → n < a * b → Within a b (square_of (whole a b) n)
unfolding whole
square_within a b la lb n l = whole_within a b (square_of (whole a b) n) (square_held a b (whole a b) (whole_inside a b la lb) n l)

-- a part's steps in the block, and the step from its last square to the first one of the part behind it
abbrev Climbs : (a b : ℕ) → Part → Type 0
Climbs a b r =
    let k = part r (whole a b) in
    (n : ℕ) → n + 1 < area k → Next a b (seen_from r a b (square_of (own k) n)) (seen_from r a b (square_of (own k) (n + 1)))

abbrev Joins : (a b : ℕ) → Part → Part → Type 0
Joins a b r s = let k = part r (whole a b) in Next a b (seen_from r a b (square_of (own k) (area k - 1))) (seen_from s a b (square 0 0))

climbs : (a b : ℕ) (r : Part) → Sized (part r (whole a b)) → Carries a b r → Steps (part r (whole a b)) → Climbs a b r
climbs a b r h carries steps n l =
    let k = part r (whole a b) in
    let before = square_within k.a k.b h.run h.side n (omega arith) in
    carries (square_of (own k) n) (square_of (own k) (n + 1)) before (square_within k.a k.b h.run h.side (n + 1) l) (steps n l)

-- parts that follow each other so
data Chain (a b : ℕ) : List Part → Type 0 where
  last : {p : Part} → Climbs a b p → Chain a b (p ∷ [])
  on : {p q : Part} {ps : List Part} → Sized (part p (whole a b)) → Sized (part q (whole a b)) → Climbs a b p → Joins a b p q → Chain a b (q ∷ ps)
      → Chain a b (p ∷ q ∷ ps)

squares_after : (a b : ℕ) (before : List Part) (p : Part) → squares_of a b (before ++ (p ∷ [])) ≡ squares_of a b before + area (part p (whole a b))
unfolding squares_of
squares_after a b [] p = omega arith
squares_after a b (q ∷ before) p = omega (arith, squares_after a b before p)

module _ (a b : ℕ) (la : 1 ≤ a) (lb : 1 ≤ b) where
  -- the step from number n, by the squares of n and n + 1
  abbrev At : ℕ → Type 0
  At n = Next a b (square_of (whole a b) n) (square_of (whole a b) (n + 1))

  stepping : (n : ℕ) {s t : Square} → square_of (whole a b) n ≡ s → square_of (whole a b) (n + 1) ≡ t → Next a b s t → At n
  stepping n e f next = rw (e, f) next

  -- within a part, from a part to the one behind it, and so along the parts
  within_part : (before : List Part) (p : Part) (after : List Part) → parts_of (choice a b) ≡ before ++ (p ∷ after) → Climbs a b p
      → (n : ℕ) → n + 1 < area (part p (whole a b)) → At (squares_of a b before + n)
  within_part before p after e climb n l =
      stepping (squares_of a b before + n) (area_at_part a b la lb before p after e n (omega arith))
      (ap (square_of (whole a b)) (add_assoc (squares_of a b before) n 1) ∙ area_at_part a b la lb before p after e (n + 1) l)
      (climb n l)

  joint : (before : List Part) (p q : Part) (after : List Part) → parts_of (choice a b) ≡ before ++ (p ∷ q ∷ after) → Sized (part p (whole a b))
      → Sized (part q (whole a b)) → Joins a b p q → (n : ℕ) → n + 1 ≡ area (part p (whole a b)) → At (squares_of a b before + n)
  joint before p q after e hp hq joins n is =
      let k = part q (whole a b) in
      stepping (squares_of a b before + n)
      (area_at_part a b la lb before p (q ∷ after) e n (omega arith) ∙ ap (λ m. seen_from p a b (square_of (own (part p (whole a b))) m)) (omega arith))
      (ap (square_of (whole a b)) (omega (arith, squares_after a b before p))
      ∙ area_at_part a b la lb (before ++ (p ∷ [])) q after (e ∙ sym (append_assoc before (p ∷ []) (q ∷ after))) 0 (mul-pos hq.run hq.side)
      ∙ ap (seen_from q a b) (first_square k.a k.b hq.run hq.side))
      joins

  along : (before ps : List Part) → parts_of (choice a b) ≡ before ++ ps → Chain a b ps → (n : ℕ) → n + 1 < squares_of a b ps
      → At (squares_of a b before + n)
  unfolding squares_of
  along before [] e chain n l = elim chain [ ]
  along before (p ∷ []) e (last climb) n l = within_part before p [] e climb n (omega arith)
  along before (p ∷ q ∷ ps) e (on hp hq climb joins more) n l = by (dec_lt (n + 1) (area (part p (whole a b)))) (dec_lt n (area (part p (whole a b))))
      (λ m. along (before ++ (p ∷ [])) (q ∷ ps) (e ∙ sym (append_assoc before (p ∷ []) (q ∷ ps))) more m)
    where
      by : Dec (n + 1 < area (part p (whole a b))) → Dec (n < area (part p (whole a b)))
          → ((m : ℕ) → m + 1 < squares_of a b (q ∷ ps) → At (squares_of a b (before ++ (p ∷ [])) + m))
          → At (squares_of a b before + n)
      by (yes y) d behind = within_part before p (q ∷ ps) e climb n y
      by (no m) (yes y) behind = joint before p q ps e hp hq joins n (omega arith)
      by (no m) (no o) behind =
          subst At (omega (arith, squares_after a b before p)) (behind (n - area (part p (whole a b))) (omega arith))

-- from part to part
module _ (a b : ℕ) where
  joins_at : (r s : Part) (x y : ℕ) → square_of (own (part r (whole a b))) (area (part r (whole a b)) - 1) ≡ square x y
      → Next a b (seen_from r a b (square x y)) (seen_from s a b (square 0 0)) → Joins a b r s
  joins_at r s x y e next = rw e next

  first_to_second : 2 < a → 1 ≤ b → Joins a b First Second
  unfolding part seen_from whole far
  first_to_second l lb =
      let half = halves a (omega arith) in
      let even = half_even a l in
      let e = even_half a in
      joins_at First Second (e - 1) 0 (last_square e b (e - 1) 0 half.pos lb (corner (omega arith) (λ two. even) (omega arith) refl)) (inl (omega arith))

  a_to_b : 2 ≤ a → 2 ≤ b → 2 * a ≤ 3 * b → Joins a b A B
  unfolding part seen_from whole far
  a_to_b la lb l = by (dec_lt 2 b)
    where
      by : Dec (2 < b) → Joins a b A B
      by (yes y) =
          let half = halves b lb in
          let even = half_even b y in
          let e = even_half b in
          joins_at A B (e - 1) 0 (last_square e (a / 2) (e - 1) 0 half.pos (omega arith) (corner (omega arith) (λ two. even) (omega arith) refl))
          (inl (omega arith))
      by (no n) =
          let half = halves b lb in
          let one = half_small b (omega arith) in
          let e = even_half b in
          joins_at A B 0 (a / 2 - 1) (last_square e (a / 2) 0 (a / 2 - 1) half.pos (omega arith) (up (omega arith) refl (omega arith))) (inl (omega arith))

  b_to_c : 2 ≤ a → 2 ≤ b → Joins a b B C
  unfolding part seen_from whole far
  b_to_c la lb =
      let half = halves b lb in
      let end = ends a (b - even_half b) (omega arith) (omega arith) in
      joins_at B C end.0 end.1 (last_square a (b - even_half b) end.0 end.1 (omega arith) (omega arith) end.2) (by end.0 end.1 end.2)
    where
      by : (x y : ℕ) → Ends a (b - even_half b) x y → Next a b (square x (even_half b + y)) (square (a - 1 - 0) (even_half b - 1 - 0))
      by x y (up one p q) = absurd (omega arith)
      by x y (short two three odd p q) =
          let half = halves b lb in
          let even_e = half_even b (omega arith) in
          let same = rest_parity b (even_half b) (omega arith) even_e in
          inr (omega arith)
      by x y (corner two even p q) =
          let half = halves b lb in
          let along = far_none x (a - 1 - 0) (omega arith) in
          let across = far_one (even_half b + y) (even_half b - 1 - 0) (inr (omega arith)) in
          inl (omega arith)

-- the parts of each cut follow each other so
long_chain : (a b : ℕ) → 2 ≤ a → 2 ≤ b → 3 * b < 2 * a → Steps (part First (whole a b)) → Steps (part Second (whole a b)) → Chain a b (First ∷ Second ∷ [])
unfolding part whole
long_chain a b la lb l first second =
    let half = halves a la in
    let first_sized : Sized (part First (whole a b)) = omega arith in
    let second_sized : Sized (part Second (whole a b)) = omega arith in
    on first_sized second_sized (climbs a b First first_sized (first_carries a b (omega arith)) first) (first_to_second a b (omega arith) (omega arith))
    (last (climbs a b Second second_sized (second_carries a b (omega arith)) second))

u_chain : (a b : ℕ) → 2 ≤ a → 2 ≤ b → 2 * a ≤ 3 * b → Steps (part A (whole a b)) → Steps (part B (whole a b)) → Steps (part C (whole a b))
    → Chain a b (A ∷ B ∷ C ∷ [])
unfolding part whole
u_chain a b la lb l steps_a steps_b steps_c =
    let half = halves b lb in
    let a_sized : Sized (part A (whole a b)) = omega arith in
    let b_sized : Sized (part B (whole a b)) = omega arith in
    let c_sized : Sized (part C (whole a b)) = omega arith in
    on a_sized b_sized (climbs a b A a_sized (a_carries a b lb) steps_a) (a_to_b a b la lb l)
    (on b_sized c_sized (climbs a b B b_sized (b_carries a b lb) steps_b) (b_to_c a b la lb) (last (climbs a b C c_sized (c_carries a b lb) steps_c)))

-- so each block's steps are right where its parts' are
module _ (k : Block) (h : Sized k) (below : All Steps (parts k)) where
  chained : (ps : List Part) → parts_of (choice k.a k.b) ≡ ps → Chain k.a k.b ps → squares_of k.a k.b ps ≡ area k → Steps k
  unfolding squares_of
  chained ps e chain all n l =
      subst (At k.a k.b h.run h.side) (zero-add n)
      (along k.a k.b h.run h.side [] ps e chain n (subst⁻¹ (λ (s : ℕ). n + 1 < s) all l))

  steps_by : Chosen k.a k.b → Steps k
  unfolding squares_of part parts_of whole
  steps_by (is_run c one) n l =
      let m : n + 1 < k.a = rw (one, mul-one) at l in
      let at = area_run_at k.a k.b h.run h.side in
      stepping k.a k.b h.run h.side n (at n c (omega arith)) (at (n + 1) c m) (inl (omega (arith, far_one n (n + 1) (inl refl), far_none 0 0 refl)))
  steps_by (is_side c one two) n l =
      let m : n + 1 < k.b = rw (one, one-mul) at l in
      let at = area_side_at k.a k.b h.run h.side in
      stepping k.a k.b h.run h.side n (at n c (omega arith)) (at (n + 1) c m) (inl (omega (arith, far_one n (n + 1) (inl refl), far_none 0 0 refl)))
  steps_by (is_long c la lb l) n m =
      let half = halves k.a la in
      let steps = subst (All Steps) (parts_are k LongCut c) below in
      chained (First ∷ Second ∷ []) (ap parts_of c) (long_chain k.a k.b la lb l steps.0 steps.1.0)
      (long_areas (even_half k.a) k.a k.b (omega arith)) n m
  steps_by (is_u c la lb l) n m =
      let half = halves k.b lb in
      let steps = subst (All Steps) (parts_are k UCut c) below in
      chained (A ∷ B ∷ C ∷ []) (ap parts_of c) (u_chain k.a k.b la lb l steps.0 steps.1.0 steps.1.1.0)
      (u_areas (even_half k.b) (k.a / 2) k.a k.b (omega arith) (omega arith)) n m

-- The square of the next number is beside that of the one before, or across the one corner.
pub next_square : (w h : ℕ) → 1 ≤ w → 1 ≤ h → (n : ℕ) → n + 1 < w * h → Next w h (square_of (whole w h) n) (square_of (whole w h) (n + 1))
unfolding whole
next_square w h lw lh = induction Steps (λ k sized below. steps_by k sized below (chosen k sized)) (whole w h) (record { run = lw; side = lh })
