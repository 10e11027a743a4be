-- The two kinds of table as lists, place by place: what is entered for a whole area is what the lookups' definitions say. By number the
-- places stand as they are entered; by square each place has exactly one number.
use mathlib.Core.Bool.{Bool, true, false, cond}
use mathlib.Core.List.{List, [], ◌∷◌, ◌++◌, map, append-nil}
use mathlib.Core.Logic.{⊎_elim}
use mathlib.Core.Path.{◌≡◌, refl, sym, ap, subst, subst⁻¹, ◌∙◌}
use Prim.Native.Nat.{ℕ, zero, suc, ◌+◌, ◌*◌, ◌/◌, ◌%◌, ◌≤◌, ◌<◌}
use native.Mathlib.Nat.{add-zero, zero-add, suc-add, add-suc, le_of_suc-le-suc, eq-or-lt_of_le, mod-lt, mul_comm, div-add-mod', div-lt_iff_lt-mul}
use native.Mathlib.Nat.{mul-add-mod_self_right, mod-eq_of_lt, mul-add-div_right, div-eq_of_lt}
use native.Mathlib.Numerals.{add-one}
use native.Mathlib.Omega.{arith}
use lib.ListN.{length, get_or, set, length-append, length-map, length-set, get_or-append, drop_of_length-le}
use lib.Seq.{get_or-append_seam, get_or-set_same, get_or-set_other, ext_get_or}
use Rattle.division.specs.Division.{Square, square, whole, curve, square_of, number_of}
use Rattle.division.proofs.EachSquareOnce.{length_curve, square_held, square_of_number, number_of_square, number_below}
use Rattle.division.proofs.Blocks.{whole_inside}
use Rattle.division.proofs.Coordinates.{Within, whole_holds, whole_within}
use Rattle.division.proofs.PlaceInList.{getD_map_in}
use Rattle.tables.specs.Tables.{places, by_number, by_square, due_by}
use Rattle.leaves.specs.Walk.{place, over, enter_one, filled_with}
use Rattle.leaves.proofs.Entries.{enter_length, place_below}
use Rattle.copies.proofs.Entered.{numbers_entered}

pub places_length : (f : ℕ → ℕ) (n : ℕ) → length (places f n) ≡ n
unfolding places
places_length f zero = refl
places_length f (suc n) = length-append (places f n) (f n ∷ []) ∙ ap (λ m. m + 1) (places_length f n) ∙ add-one n

pub place_holds : (f : ℕ → ℕ) (n i : ℕ) → i < n → get_or (places f n) i 0 ≡ f i
unfolding places
place_holds f zero i l = absurd (omega arith)
place_holds f (suc n) i l =
    ⊎_elim
    (λ e. ap (λ j. get_or (places f n ++ (f n ∷ [])) j 0) (e ∙ sym (places_length f n)) ∙ get_or-append_seam (places f n) (f n) [] 0 ∙ ap f (sym e))
    (λ m. get_or-append (places f n) (f n ∷ []) 0 i (subst⁻¹ (λ (k : ℕ). i < k) (places_length f n) m) ∙ place_holds f n i m)
    (eq-or-lt_of_le (le_of_suc-le-suc l))

-- by square: a place that is not among those entered keeps its value, and one that is gets its number
kept_place : (t : List ℕ) (n : ℕ) (ps : List ℕ) (p : ℕ) → ((j : ℕ) → j < length ps → get_or ps j 0 ≡ p → ⊥) → get_or (over (enter_one true) t n ps) p 0 ≡
    get_or t p 0
unfolding over
kept_place t n [] p other = refl
kept_place t n (q ∷ ps) p other =
    kept_place (set t q n) (suc n) ps p (λ j l e. other (suc j) (omega arith) e) ∙ get_or-set_other t q p n 0 (λ e. other 0 (omega arith) (sym e))

square_entered : (t : List ℕ) (n : ℕ) (ps : List ℕ) (p i : ℕ) → p < length t → i < length ps → get_or ps i 0 ≡ p
    → ((j : ℕ) → j < length ps → get_or ps j 0 ≡ p → j ≡ i) → get_or (over (enter_one true) t n ps) p 0 ≡ n + i
unfolding over
square_entered t n [] p i l m e only = absurd (omega arith)
square_entered t n (q ∷ ps) p zero l m e only =
    kept_place (set t q n) (suc n) ps p (λ j k f. let same = only (suc j) (omega arith) f in omega arith)
    ∙ ap (λ r. get_or (set t r n) p 0) e
    ∙ get_or-set_same t p n 0 l
    ∙ sym (add-zero n)
square_entered t n (q ∷ ps) p (suc i) l m e only =
    square_entered (set t q n) (suc n) ps p i (subst⁻¹ (λ (k : ℕ). p < k) (length-set t q n) l) (le_of_suc-le-suc m) e
    (λ j k f. let same = only (suc j) (omega arith) f in omega arith)
    ∙ suc-add n i ∙ sym (add-suc n i)

-- a place and its square
square_there : (w : ℕ) (s : Square) → s.x < w → square (place w s % w) (place w s / w) ≡ s
square_there w s l =
    let some : 0 < w = omega arith in
    λ i. square
    ((mul-add-mod_self_right s.y w s.x ∙ mod-eq_of_lt l) i)
    ((mul-add-div_right some s.y s.x ∙ ap (λ n. s.y + n) (div-eq_of_lt l) ∙ add-zero s.y) i)

place_there : (w p : ℕ) → place w (square (p % w) (p / w)) ≡ p
place_there w p = div-add-mod' p w

-- the places of a whole area's squares, in the curve's order
abbrev pub ps : (w h : ℕ) → List ℕ
ps w h = map (place w) (curve (whole w h))

module _ (w h : ℕ) (a : 1 ≤ w) (b : 1 ≤ h) where
  within_there : (p : ℕ) → p < w * h → Within w h (square (p % w) (p / w))
  within_there p l = record { run = mod-lt p a; side = (div-lt_iff_lt-mul a).1 (subst (λ (n : ℕ). p < n) (mul_comm w h) l) }

  pub ps_length : length (ps w h) ≡ w * h
  unfolding whole
  ps_length = length-map (curve (whole w h)) (place w) ∙ length_curve (whole w h) (whole_inside w h a b).sized

  ps_at : (i : ℕ) → i < w * h → get_or (ps w h) i 0 ≡ place w (square_of (whole w h) i)
  unfolding square_of whole
  ps_at i l =
      getD_map_in (place w) (curve (whole w h)) i 0 (square 0 0) (subst⁻¹ (λ (n : ℕ). i < n) (length_curve (whole w h) (whole_inside w h a b).sized) l)

  ps_square : (j : ℕ) → j < w * h → Within w h (square_of (whole w h) j)
  unfolding whole
  ps_square j l = whole_within w h (square_of (whole w h) j) (square_held w h (whole w h) (whole_inside w h a b) j l)

  -- a place of the area is that of one square, whose number is the only one there
  only_number : (p j : ℕ) → j < w * h → get_or (ps w h) j 0 ≡ p → j ≡ number_of (whole w h) (square (p % w) (p / w))
  unfolding whole
  only_number p j l e =
      let is : place w (square_of (whole w h) j) ≡ p = sym (ps_at j l) ∙ e in
      let there : square (p % w) (p / w) ≡ square_of (whole w h) j =
      ap (λ q. square (q % w) (q / w)) (sym is) ∙ square_there w (square_of (whole w h) j) (ps_square j l).run in
      sym (ap (number_of (whole w h)) there ∙ number_of_square w h (whole w h) (whole_inside w h a b) j l)

  number_there : (p : ℕ) → p < w * h →
      (number_of (whole w h) (square (p % w) (p / w)) < w * h) × (get_or (ps w h) (number_of (whole w h) (square (p % w) (p / w))) 0 ≡ p)
  unfolding whole
  number_there p below =
      let s = square (p % w) (p / w) in
      let held = whole_holds w h s (within_there p below) in
      let inside = whole_inside w h a b in
      let i_below : number_of (whole w h) s < w * h = number_below w h (whole w h) inside s held in
      (i_below, ps_at (number_of (whole w h) s) i_below ∙ ap (place w) (square_of_number w h (whole w h) inside s held) ∙ place_there w p)

  ps_below : (j : ℕ) → j < w * h → get_or (ps w h) j 0 < w * h
  ps_below j l = subst⁻¹ (λ (p : ℕ). p < w * h) (ps_at j l) (place_below w h (square_of (whole w h) j) (ps_square j l))

  -- A look at square number j, of a table of either kind: its place, and the value due there.
  module _ (j : ℕ) (l : j < w * h) (n : ℕ) (e : n ≡ j) where
    pub values_below : (n < w * h) × (get_or (ps w h) j 0 < w * h)
    values_below = (subst⁻¹ (λ (m : ℕ). m < w * h) e l, ps_below j l)

    pub due_there : (kind : Bool) → get_or (due_by kind w h) (cond kind (get_or (ps w h) j 0) n) 0 ≡ cond kind n (get_or (ps w h) j 0)
    unfolding by_number by_square
    due_there false = ap (λ m. get_or (by_number w h) m 0) e ∙ place_holds (λ i. (square_of (whole w h) i).y * w + (square_of (whole w h) i).x) (w * h) j l
        ∙ sym (ps_at j l)
    due_there true =
        place_holds (λ p. number_of (whole w h) (square (p % w) (p / w))) (w * h) (get_or (ps w h) j 0) (ps_below j l)
        ∙ sym (only_number (get_or (ps w h) j 0) j l refl) ∙ sym e

  -- the square that is looked at for a place
  pub looked_for : (kind : Bool) (i : ℕ) → ℕ
  looked_for kind i = cond kind (number_of (whole w h) (square (i % w) (i / w))) i

  pub looked_below : (kind : Bool) (i : ℕ) → i < w * h → looked_for kind i < w * h
  unfolding looked_for
  looked_below false i l = l
  looked_below true i l = (number_there i l).0

  pub looked_at : (kind : Bool) (i : ℕ) → i < w * h → (n : ℕ) → n ≡ looked_for kind i → cond kind (get_or (ps w h) (looked_for kind i) 0) n ≡ i
  unfolding looked_for
  looked_at false i l n e = e
  looked_at true i l n e = (number_there i l).1

  pub due_length : (kind : Bool) → length (due_by kind w h) ≡ w * h
  unfolding by_number by_square
  due_length false = places_length (λ i. (square_of (whole w h) i).y * w + (square_of (whole w h) i).x) (w * h)
  due_length true = places_length (λ p. number_of (whole w h) (square (p % w) (p / w))) (w * h)

  module _ (t : List ℕ) (size : length t ≡ w * h) where
    number_table : filled_with false w t (whole w h) 0 ≡ by_number w h
    unfolding by_number
    number_table =
        let long = ps_length in
        numbers_entered t 0 (ps w h) (omega arith)
        ∙ ap (λ zs. ps w h ++ zs) (drop_of_length-le t {i = 0 + length (ps w h)} (omega arith))
        ∙ append-nil (ps w h)
        ∙ ext_get_or 0 (ps w h) (by_number w h) (ps_length ∙ sym (places_length (λ i. (square_of (whole w h) i).y * w + (square_of (whole w h) i).x) (w * h)))
        (λ i l. let below : i < w * h = subst (λ (n : ℕ). i < n) ps_length l in
        ps_at i below ∙ sym (place_holds (λ i. (square_of (whole w h) i).y * w + (square_of (whole w h) i).x) (w * h) i below))

    square_table : filled_with true w t (whole w h) 0 ≡ by_square w h
    unfolding by_square whole
    square_table =
        let f : ℕ → ℕ = λ p. number_of (whole w h) (square (p % w) (p / w)) in
        let long : length (filled_with true w t (whole w h) 0) ≡ w * h = enter_length true t 0 (ps w h) ∙ size in
        ext_get_or 0 (filled_with true w t (whole w h) 0) (by_square w h) (long ∙ sym (places_length f (w * h)))
        (λ p l. let below : p < w * h = subst (λ (n : ℕ). p < n) long l in
        let i = number_of (whole w h) (square (p % w) (p / w)) in
        let there = number_there p below in
        square_entered t 0 (ps w h) p i (subst⁻¹ (λ (n : ℕ). p < n) size below) (subst⁻¹ (λ (n : ℕ). i < n) ps_length there.0) there.1
        (λ j k e. only_number p j (subst (λ (n : ℕ). j < n) ps_length k) e)
        ∙ zero-add i
        ∙ sym (place_holds f (w * h) p below))

    pub due_table : (kind : Bool) → filled_with kind w t (whole w h) 0 ≡ due_by kind w h
    due_table false = number_table
    due_table true = square_table
