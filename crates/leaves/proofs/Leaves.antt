-- A block 2 wide and 2 or 3 deep: its squares, which go up its side and down again, its four blocks, and a walk over it two squares at a time.
use mathlib.Core.Bool.{Bool, true, false, not, cond}
use mathlib.Core.List.{List, [], ◌∷◌, map}
use mathlib.Core.Path.{◌≡◌, refl, sym, ap, ap₂, subst⁻¹, ◌∙◌}
use Prim.Native.Nat.{ℕ, ◌+◌, ◌*◌, ◌≤◌, ◌<◌}
use native.Mathlib.Numerals.{add-one, add-two}
use native.Mathlib.Omega.{arith}
use lib.ListN.{length}
use Rattle.terms.specs.Terms.{longest_side, past_32_bits}
use Rattle.division.specs.declared.Placed.{Placed}
use Rattle.division.specs.Division.{Square, square, Block, whole, moved, curve, blocks}
use Rattle.division.specs.Division.Inside.{Inside}
use Rattle.division.specs.Forms.{direction, block, stepped_to}
use Rattle.division.proofs.Plane.{moved_none}
use Rattle.division.proofs.Coordinates.{spot, spot_inside}
use Rattle.division.proofs.SameLengths.{curve_alike}
use Rattle.division.proofs.Small.{two_deep, three_deep, blocks_two, blocks_three}
use Rattle.division.proofs.PlacedParts.{side_moved}
use Rattle.leaves.specs.Walk.{place, over, over_block, near, far, Fits}
use Rattle.leaves.proofs.Entries.{either_below, place_below, squares_fit}

-- two steps on the squares numbered n and n + 1
abbrev twice : {S : Type 0} → (S → ℕ → ℕ → S) → S → (n p q : ℕ) → S
twice step state n p q = step (step state n p) (n + 1) q

over_two :
    {S : Type 0} (step : S → ℕ → ℕ → S) (state : S) (n p q : ℕ) (ps : List ℕ) → over step state n (p ∷ q ∷ ps) ≡ over step (twice step state n p q) (n + 2) ps
unfolding over
over_two step state n p q ps = simp (add-one, add-two) refl

module _ {w h : ℕ} {k : Block} (i : Inside w h k) (ea : k.a ≡ 2) where
  near_spot : (v : ℕ) → spot k (square 0 v) ≡ near k v
  unfolding spot
  near_spot v = ap (moved k.side v) (moved_none k.run k.start)

  pub near_below : (v : ℕ) → v < k.b → {p : ℕ} → p ≡ place w (near k v) → p < w * h
  near_below v l is =
      subst⁻¹ (λ (n : ℕ). n < w * h) (is ∙ ap (place w) (sym (near_spot v)))
      (place_below w h (spot k (square 0 v)) (spot_inside w h k i (square 0 v) (record { run = omega arith; side = l })))

  pub far_below : (v : ℕ) → v < k.b → {p : ℕ} → p ≡ place w (far k v) → p < w * h
  unfolding spot
  far_below v l is =
      subst⁻¹ (λ (n : ℕ). n < w * h) is
      (place_below w h (spot k (square 1 v)) (spot_inside w h k i (square 1 v) (record { run = omega arith; side = l })))

  -- a block's squares, from those of the area of its lengths
  up_and_down : (b : ℕ) → k.b ≡ b → (ss : List Square) → curve (whole 2 b) ≡ ss → curve k ≡ map (spot k) ss
  up_and_down b eb ss is = curve_alike w h k i ∙ ap₂ (λ m n. map (spot k) (curve (whole m n))) ea eb ∙ ap (map (spot k)) is

  squares_two : k.b ≡ 2 → curve k ≡ near k 0 ∷ near k 1 ∷ far k 1 ∷ far k 0 ∷ []
  unfolding spot
  squares_two eb = up_and_down 2 eb _ two_deep ∙ (λ j. near_spot 0 j ∷ near_spot 1 j ∷ far k 1 ∷ far k 0 ∷ [])

  squares_three : k.b ≡ 3 → curve k ≡ near k 0 ∷ near k 1 ∷ near k 2 ∷ far k 2 ∷ far k 1 ∷ far k 0 ∷ []
  unfolding spot
  squares_three eb = up_and_down 3 eb _ three_deep ∙ (λ j. near_spot 0 j ∷ near_spot 1 j ∷ near_spot 2 j ∷ far k 2 ∷ far k 1 ∷ far k 0 ∷ [])

-- What a walk asks of such a block; the places of the two squares that lie v along its side.
abbrev pub Leaf : (kind : Bool) (w h size : ℕ) → Block → (at : ℕ) → Type 0
Leaf kind w h size k at = Fits kind w h size k at × (k.a ≡ 2) × (2 ≤ k.b) × (k.b ≤ 3)

abbrev Rung : (w : ℕ) → Block → (v near_place far_place : ℕ) → Type 0
Rung w k v p q = (p ≡ place w (near k v)) × (q ≡ place w (far k v))

-- Two numbers from n on fit, and a table of a size has the places of their squares in it.
abbrev TwoFit : (kind : Bool) (n size p q : ℕ) → Type 0
TwoFit kind n size p q = (n + 1 < past_32_bits) × (cond kind p n < size) × (cond kind q (n + 1) < size)

module _ {kind : Bool} {w h size : ℕ} {k : Block} {at : ℕ} (leaf : Leaf kind w h size k at) where
  deep_three : (k.b ≡ 2 → ⊥) → k.b ≡ 3
  deep_three other =
      let least = leaf.2 in
      let most = leaf.3 in
      omega arith

  -- what a rung's code asks: of the lower two, and of the third
  pub rung_asks : {v : ℕ} → v ≤ 1 → Inside w h k × (w ≤ longest_side) × (h ≤ longest_side) × (k.a ≡ 2) × (v < k.b)
  rung_asks l = let least = leaf.2 in (leaf.0.inside, leaf.0.w_limit, leaf.0.h_limit, leaf.1, omega arith)

  pub high_asks : (k.b ≡ 2 → ⊥) → Inside w h k × (w ≤ longest_side) × (h ≤ longest_side) × (k.a ≡ 2) × (2 < k.b)
  high_asks other = let three = deep_three other in (leaf.0.inside, leaf.0.w_limit, leaf.0.h_limit, leaf.1, omega arith)

  -- a number of the block fits
  pub leaf_number : (n : ℕ) → n ≤ 4 → at + n < past_32_bits
  leaf_number n l =
      let all : k.a * k.b ≡ 2 * k.b = ap (λ m. m * k.b) leaf.1 in
      let least = leaf.2 in
      let numbers = leaf.0.numbers in
      let fits = squares_fit leaf.0 in
      omega arith

  -- the places of a rung lie in the table
  near_in : {v p : ℕ} → v < k.b → p ≡ place w (near k v) → p < w * h
  near_in l is = near_below leaf.0.inside leaf.1 _ l is

  far_in : {v p : ℕ} → v < k.b → p ≡ place w (far k v) → p < w * h
  far_in l is = far_below leaf.0.inside leaf.1 _ l is

  -- room for two squares of the block, in a table as long
  module _ {long : ℕ} (same : long ≡ size) where
    one_fits : (n : ℕ) → n < at + 2 * k.b → {p : ℕ} → p < w * h → cond kind p n < long
    one_fits n l below =
        let all : k.a * k.b ≡ 2 * k.b = ap (λ m. m * k.b) leaf.1 in
        let room = leaf.0.room in
        either_below n _ long kind (omega arith) (λ e. let places = leaf.0.places e in omega arith)

    two_fit : (n : ℕ) → n + 2 ≤ at + 2 * k.b → {p q : ℕ} → p < w * h → q < w * h → TwoFit kind n long p q
    two_fit n l below_p below_q =
        let all : k.a * k.b ≡ 2 * k.b = ap (λ m. m * k.b) leaf.1 in
        let numbers = leaf.0.numbers in
        let fits = squares_fit leaf.0 in
        (omega arith, one_fits n (omega arith) below_p, one_fits (n + 1) (omega arith) below_q)

    pub up_fits : {p q : ℕ} → p ≡ place w (near k 0) → q ≡ place w (near k 1) → TwoFit kind at long p q
    up_fits is_p is_q = let least = leaf.2 in two_fit at (omega arith) (near_in (omega arith) is_p) (near_in (omega arith) is_q)

    pub top_fits : (k.b ≡ 2 → ⊥) → {p q : ℕ} → Rung w k 2 p q → TwoFit kind (at + 2) long p q
    top_fits other is = let three = deep_three other in two_fit (at + 2) (omega arith) (near_in (omega arith) is.0) (far_in (omega arith) is.1)

    down_fits : (n : ℕ) → n + 2 ≤ 2 * k.b → {p q : ℕ} → p ≡ place w (far k 1) → q ≡ place w (far k 0) → TwoFit kind (at + n) long p q
    down_fits n l is_p is_q = let least = leaf.2 in two_fit (at + n) (omega arith) (far_in (omega arith) is_p) (far_in (omega arith) is_q)

    pub down_from_two : {p q : ℕ} → p ≡ place w (far k 1) → q ≡ place w (far k 0) → TwoFit kind (at + 2) long p q
    down_from_two is_p is_q = let least = leaf.2 in down_fits 2 (omega arith) is_p is_q

    pub down_from_three : (k.b ≡ 2 → ⊥) → {p q : ℕ} → p ≡ place w (far k 1) → q ≡ place w (far k 0) → TwoFit kind (at + 4) long p q
    down_from_three other is_p is_q = let three = deep_three other in down_fits 4 (omega arith) is_p is_q

  -- its blocks
  pub count_two_deep : k.b ≡ 2 → 4 ≡ length (blocks k)
  count_two_deep eb =
      blocks_two k.start k.run k.side
      ∙ (λ j. length (blocks (record { start = k.start; run = k.run; a = sym leaf.1 j; side = k.side; b = sym eb j })))

  pub count_three_deep : (k.b ≡ 2 → ⊥) → 4 ≡ length (blocks k)
  count_three_deep other =
      blocks_three k.start k.run k.side
      ∙ (λ j. length (blocks (record { start = k.start; run = k.run; a = sym leaf.1 j; side = k.side; b = sym (deep_three other) j })))

  -- steps on the squares two by two, as the code takes them, are the walk over the block
  module _ {S : Type 0} (step : S → ℕ → ℕ → S) (state : S) {p₀ q₀ p₁ q₁ : ℕ} (low : Rung w k 0 p₀ q₀) (middle : Rung w k 1 p₁ q₁)
      {first : S} (one : first ≡ twice step state at p₀ p₁) where
    pub over_two_deep : k.b ≡ 2 → {last : S} → last ≡ twice step first (at + 2) q₁ q₀ → last ≡ over_block step state w k at
    unfolding over
    over_two_deep eb two =
        two
        ∙ (λ j. twice step (one j) (at + 2) (middle.1 j) (low.1 j))
        ∙ (λ j. twice step (twice step state at (low.0 j) (middle.0 j)) (at + 2) (place w (far k 1)) (place w (far k 0)))
        ∙ sym
        (ap (λ ss. over step state at (map (place w) ss)) (squares_two leaf.0.inside leaf.1 eb)
        ∙ over_two step state at (place w (near k 0)) (place w (near k 1)) (place w (far k 1) ∷ place w (far k 0) ∷ [])
        ∙ over_two step (twice step state at (place w (near k 0)) (place w (near k 1))) (at + 2) (place w (far k 1)) (place w (far k 0)) [])

    pub over_three_deep : (k.b ≡ 2 → ⊥) → {p₂ q₂ : ℕ} → Rung w k 2 p₂ q₂ → {second last : S}
        → second ≡ twice step first (at + 2) p₂ q₂ → last ≡ twice step second (at + 4) q₁ q₀ → last ≡ over_block step state w k at
    unfolding over
    over_three_deep other high two three =
        let up = twice step state at (place w (near k 0)) (place w (near k 1)) in
        let top = twice step up (at + 2) (place w (near k 2)) (place w (far k 2)) in
        let down = place w (far k 1) ∷ place w (far k 0) ∷ [] in
        let on : at + 2 + 2 ≡ at + 4 = omega arith in
        three
        ∙ (λ j. twice step (two j) (at + 4) (middle.1 j) (low.1 j))
        ∙ (λ j. twice step (twice step (one j) (at + 2) (high.0 j) (high.1 j)) (at + 4) (place w (far k 1)) (place w (far k 0)))
        ∙ (λ j. twice step (twice step (twice step state at (low.0 j) (middle.0 j)) (at + 2) (place w (near k 2)) (place w (far k 2)))
        (at + 4) (place w (far k 1)) (place w (far k 0)))
        ∙ sym
        (ap (λ ss. over step state at (map (place w) ss)) (squares_three leaf.0.inside leaf.1 (deep_three other))
        ∙ over_two step state at (place w (near k 0)) (place w (near k 1)) (place w (near k 2) ∷ place w (far k 2) ∷ down)
        ∙ over_two step up (at + 2) (place w (near k 2)) (place w (far k 2)) down
        ∙ ap (λ n. over step top n down) on
        ∙ over_two step top (at + 4) (place w (far k 1)) (place w (far k 0)) [])

-- the places of a rung, as its code has them
both_moved : (along across : ℕ) (turned back : Bool) (v : ℕ)
    → cond turned (square (stepped_to across v back) (stepped_to along 1 back)) (square (stepped_to along 1 back) (stepped_to across v back))
    ≡ moved (direction (not turned) back) v (moved (direction turned back) 1 (cond turned (square across along) (square along across)))
unfolding moved
both_moved along across false false v = refl
both_moved along across false true v = refl
both_moved along across true false v = refl
both_moved along across true true v = refl

module _ (k : Placed) (w v : ℕ) {beyond up : ℕ} (eb : beyond ≡ stepped_to k.along 1 k.back) (eu : up ≡ stepped_to k.across v k.back) where
  pub near_is : place w (cond k.turned (square up k.along) (square k.along up)) ≡ place w (near (block k) v)
  near_is =
      ap (place w)
      (ap (λ n. cond k.turned (square n k.along) (square k.along n)) eu ∙ side_moved k.along k.across k.turned k.back v)

  pub far_is : place w (cond k.turned (square up beyond) (square beyond up)) ≡ place w (far (block k) v)
  far_is =
      ap (place w)
      (ap₂ (λ m n. cond k.turned (square m n) (square n m)) eu eb ∙ both_moved k.along k.across k.turned k.back v)
