-- The places of a block that repeats another are the images of the other's. Both lie alike around their starts, by their own a by b area: a square lies
-- as many places on from the one start as from the other, or as many back.
use Rattle.std.proofs.Common.{◌≡◌, ℕ, ◌+◌, ◌-◌, ◌*◌, ◌<◌, ◌≤◌, Bool, true, false, cond, not, List, map, length, get_or, sym, ap, ◌∙◌, subst, ap₂, add-mul}
use Rattle.std.proofs.Common.{◌++◌, take, drop, drop-drop, arith, ext_get_or}
use Rattle.std.proofs.lemmas.List.{drop-take, take-take}
use mathlib.Core.List.{map-map}
use mathlib.Core.Path.{subst⁻¹}
use lib.ListN.{length-map}
use Rattle.terms.specs.Terms.{past_32_bits}
use Rattle.division.specs.Division.{Square, square, Direction, Block, whole, moved, against, curve, blocks, square_of}
use Rattle.division.specs.Division.Inside.{Paired, x_y, y_x, x_y_back, y_x_back, Room, Inside}
use Rattle.division.proofs.Plane.{moved_none}
use Rattle.division.proofs.EachSquareOnce.{length_curve, square_held}
use Rattle.division.proofs.Blocks.{whole_inside}
use Rattle.division.proofs.Coordinates.{spot, Within, spot_inside, whole_within}
use Rattle.division.proofs.SameLengths.{square_alike, count_alike}
use Rattle.division.proofs.PlaceInList.{getD_map_in}
use Rattle.leaves.specs.Walk.{place, filled_with}
use Rattle.leaves.proofs.Entries.{place_below, squares_fit}
use Rattle.copies.specs.Copies.{image, facing, Agree, Held, Again}
use Rattle.copies.proofs.Entered.{numbers_entered, held_places, places_held}

-- a block's start has its place in the table
pub start_below : (w h : ℕ) (k : Block) → Inside w h k → place w k.start < w * h
unfolding spot
start_below w h k i =
    subst (λ (s : Square). place w s < w * h) (ap (moved k.side 0) (moved_none k.run k.start) ∙ moved_none k.side k.start)
    (place_below w h (spot k (square 0 0)) (spot_inside w h k i (square 0 0) (record { run = i.sized.run; side = i.sized.side })))

-- how many places lie between a block's start and its (u, v), and whether the block goes back
abbrev away : (w : ℕ) {d t : Direction} → Paired d t → Square → ℕ
away w x_y s = s.y * w + s.x
away w y_x s = s.x * w + s.y
away w x_y_back s = s.y * w + s.x
away w y_x_back s = s.x * w + s.y

abbrev backwards : {d t : Direction} → Paired d t → Bool
backwards x_y = false
backwards y_x = false
backwards x_y_back = true
backwards y_x_back = true

-- q lies n places on from p, or back
abbrev Lies : (back : Bool) (p q n : ℕ) → Type 0
Lies true p q n = q + n ≡ p
Lies false p q n = q ≡ p + n

on : (w x y u v : ℕ) → (y + v) * w + (x + u) ≡ y * w + x + (v * w + u)
on w x y u v = omega (arith, add-mul y v w)

off : (w x y u v : ℕ) → u ≤ x → v ≤ y → (y - v) * w + (x - u) + (v * w + u) ≡ y * w + x
off w x y u v l m =
    let rows : (y - v) * w + v * w ≡ y * w = sym (add-mul (y - v) v w) ∙ ap (λ n. n * w) (omega arith) in
    omega arith

-- a square of a block that faces such a block the same way, or the opposite way
spot_lies : (w h : ℕ) (opposite : Bool) {d t : Direction} (ways : Paired d t) (a b : ℕ) (start s : Square)
    → Room w h (facing opposite d) a start → Room w h (facing opposite t) b start → s.x < a → s.y < b
    → Lies (cond opposite (not (backwards ways)) (backwards ways)) (place w start)
    (place w (moved (facing opposite t) s.y (moved (facing opposite d) s.x start))) (away w ways s)
unfolding moved against
spot_lies w h false x_y a b start s r q l m = on w start.x start.y s.x s.y
spot_lies w h false y_x a b start s r q l m = on w start.x start.y s.y s.x
spot_lies w h false x_y_back a b start s r q l m = off w start.x start.y s.x s.y (omega arith) (omega arith)
spot_lies w h false y_x_back a b start s r q l m = off w start.x start.y s.y s.x (omega arith) (omega arith)
spot_lies w h true x_y a b start s r q l m = off w start.x start.y s.x s.y (omega arith) (omega arith)
spot_lies w h true y_x a b start s r q l m = off w start.x start.y s.y s.x (omega arith) (omega arith)
spot_lies w h true x_y_back a b start s r q l m = on w start.x start.y s.x s.y
spot_lies w h true y_x_back a b start s r q l m = on w start.x start.y s.y s.x

-- what is the image at the starts is the image n places away from them
image_away : (opposite back : Bool) (c n : ℕ) {p q p' q' : ℕ} → p' ≡ image opposite c p → p < past_32_bits → q < past_32_bits → q' < past_32_bits
    → Lies back p q n → Lies (cond opposite (not back) back) p' q' n → image opposite c q ≡ q'
image_away true true c n is l m m' lies lies' = omega arith
image_away true false c n is l m m' lies lies' = omega arith
image_away false true c n is l m m' lies lies' = omega arith
image_away false false c n is l m m' lies lies' = omega arith

-- two constants that have the same image of a place are one
pub constant_one : (opposite : Bool) (c d x : ℕ) → c < past_32_bits → d < past_32_bits → x < past_32_bits → image opposite c x ≡ image opposite d x → c ≡ d
constant_one true c d x l m n same = omega arith
constant_one false c d x l m n same = omega arith

-- the i-th square of a block's own area, and its place in the table
own_within : (w h : ℕ) (k : Block) → Inside w h k → (i : ℕ) → i < k.a * k.b → Within k.a k.b (square_of (whole k.a k.b) i)
unfolding whole
own_within w h k inside i l =
    let own = whole_inside k.a k.b inside.sized.run inside.sized.side in
    whole_within k.a k.b (square_of (whole k.a k.b) i) (square_held k.a k.b (whole k.a k.b) own i l)

pub entry_below : (w h : ℕ) (k : Block) → Inside w h k → (i : ℕ) → i < k.a * k.b → get_or (map (place w) (curve k)) i 0 < w * h
unfolding square_of whole
entry_below w h k inside i l =
    let s = square_of (whole k.a k.b) i in
    let long = length_curve k inside.sized in
    subst⁻¹ (λ (n : ℕ). n < w * h)
    (getD_map_in (place w) (curve k) i 0 (square 0 0) (omega arith) ∙ ap (place w) (square_alike w h k inside i l))
    (place_below w h (spot k s) (spot_inside w h k inside s (own_within w h k inside i l)))

-- part of what a list begins with
part_of_front : (t : List ℕ) (from n to : ℕ) → from + n ≤ to → take n (drop from (take to t)) ≡ take n (drop from t)
part_of_front t from n to l =
    ap (λ m. take n (drop from (take m t))) (let on : to ≡ from + (to - from) = omega arith in on)
    ∙ ap (take n) (drop-take from (to - from) t)
    ∙ take-take n (to - from) (drop from t) (omega arith)

-- both have as many squares
pub same_squares : {w h : ℕ} {t : List ℕ} {j : Block} {from : ℕ} {k : Block} {to : ℕ} {opposite : Bool} → Again w h t j from k to opposite
    → k.a * k.b ≡ j.a * j.b
same_squares again = ap₂ ◌*◌ again.same_a again.same_b

-- their number fits, and both have their places in the table, the one before the other
pub both_fit : {w h : ℕ} {t : List ℕ} {j : Block} {from : ℕ} {k : Block} {to : ℕ} {opposite : Bool} → Again w h t j from k to opposite
    → (k.a * k.b < past_32_bits) × (from + k.a * k.b ≤ to) × (to + k.a * k.b ≤ length t)
both_fit again =
    let numbers = again.fits.numbers in
    let room = again.fits.room in
    let all = squares_fit again.fits in
    let before = again.before in
    let same = same_squares again in
    (omega arith, omega arith, omega arith)

module _ {w h : ℕ} {t : List ℕ} {j : Block} {from : ℕ} {k : Block} {to : ℕ} {opposite : Bool} (again : Again w h t j from k to opposite)
    (c : ℕ) (starts : place w k.start ≡ image opposite c (place w j.start)) where
  j_within : (s : Square) → Within k.a k.b s → Within j.a j.b s
  j_within s l =
      let u = l.run in
      let v = l.side in
      let same_a = again.same_a in
      let same_b = again.same_b in
      record { run = omega arith; side = omega arith }

  -- (u, v) of the one block and of the other
  place_alike : (s : Square) → Within k.a k.b s → image opposite c (place w (spot j s)) ≡ place w (spot k s)
  unfolding spot
  place_alike s l =
      let there = again.fits.inside in
      let ways = again.inside.paired in
      let own = j_within s l in
      let all = squares_fit again.fits in
      let start = start_below w h j again.inside in
      let j_below = place_below w h (spot j s) (spot_inside w h j again.inside s own) in
      let k_below = place_below w h (spot k s) (spot_inside w h k there s l) in
      image_away opposite (backwards ways) c (away w ways s) starts (omega arith) (omega arith) (omega arith)
      (spot_lies w h false ways j.a j.b j.start s again.inside.run again.inside.side own.run own.side)
      (subst⁻¹ (λ (p : Square). Lies (cond opposite (not (backwards ways)) (backwards ways)) (place w k.start) (place w p) (away w ways s))
      (ap₂ (λ d e. moved e s.y (moved d s.x k.start)) again.run again.side)
      (spot_lies w h opposite ways k.a k.b k.start s
      (subst (λ (d : Direction). Room w h d k.a k.start) again.run there.run)
      (subst (λ (d : Direction). Room w h d k.b k.start) again.side there.side) l.run l.side))

  -- the i-th square of the one block and of the other
  entry_alike : (i : ℕ) → i < k.a * k.b
      → get_or (map (λ s. image opposite c (place w s)) (curve j)) i 0 ≡ get_or (map (place w) (curve k)) i 0
  unfolding square_of whole
  entry_alike i l =
      let there = again.fits.inside in
      let here = again.inside in
      let s = square_of (whole k.a k.b) i in
      let same = same_squares again in
      let j_long = length_curve j here.sized in
      let k_long = length_curve k there.sized in
      getD_map_in (λ s. image opposite c (place w s)) (curve j) i 0 (square 0 0) (omega arith)
      ∙ ap (λ s. image opposite c (place w s))
      (square_alike w h j here i (omega arith) ∙ ap₂ (λ m n. spot j (square_of (whole m n) i)) (sym again.same_a) (sym again.same_b))
      ∙ place_alike s (own_within w h k there i l)
      ∙ sym
      (getD_map_in (place w) (curve k) i 0 (square 0 0) (omega arith)
      ∙ ap (place w) (square_alike w h k there i l))

  entries_alike : map (image opposite c) (map (place w) (curve j)) ≡ map (place w) (curve k)
  entries_alike =
      let images : Square → ℕ = λ s. image opposite c (place w s) in
      let j_long = length-map (curve j) images ∙ length_curve j again.inside.sized in
      let k_long = length-map (curve k) (place w) ∙ length_curve k again.fits.inside.sized in
      let same = same_squares again in
      map-map (image opposite c) (place w) (curve j)
      ∙ ext_get_or 0 (map images (curve j)) (map (place w) (curve k)) (omega arith) (λ i l. entry_alike i (omega arith))

  -- an entry of the one block and of the other
  image_entry : (i : ℕ) → i < k.a * k.b → image opposite c (get_or (map (place w) (curve j)) i 0) ≡ get_or (map (place w) (curve k)) i 0
  image_entry i l =
      let long = length_curve j again.inside.sized in
      let same = same_squares again in
      let below : i < length (curve j) = omega arith in
      ap (image opposite c) (getD_map_in (place w) (curve j) i 0 (square 0 0) below)
      ∙ sym (getD_map_in (λ s. image opposite c (place w s)) (curve j) i 0 (square 0 0) below)
      ∙ entry_alike i l

  j_entry : (i : ℕ) → i < k.a * k.b → image opposite c (get_or t (from + i) 0) ≡ get_or (map (place w) (curve k)) i 0
  j_entry i l =
      let same = same_squares again in
      ap (image opposite c) (held_places w t j from again.held i (omega arith)) ∙ image_entry i l

  -- places that agree are the other block's
  pub agree_held : Agree opposite c t from to (k.a * k.b) → Held w t k to
  agree_held agree =
      places_held w t k to again.fits.inside.sized (both_fit again).2 (λ i l. agree i l ∙ j_entry i l)

  pub held_agree : Held w t k to → Agree opposite c t from to (k.a * k.b)
  held_agree held i l = held_places w t k to held i l ∙ sym (j_entry i l)

  -- the images of the one block's entries are the other's
  images_are : map (image opposite c) (take (k.a * k.b) (drop from t)) ≡ map (place w) (curve k)
  images_are =
      ap (λ n. map (image opposite c) (take n (drop from t))) (same_squares again) ∙ ap (map (image opposite c)) again.held ∙ entries_alike

  -- so the other block stands where these images do; the code takes m places, and n
  pub images_held : {way : Bool} → way ≡ opposite → (m n : ℕ) → m ≡ k.a * k.b → n ≡ k.a * k.b
      → (take m (drop to t) ≡ map (image way c) (take n (drop from t)) → Held w t k to)
      × (Held w t k to → take m (drop to t) ≡ map (image way c) (take n (drop from t)))
  images_held is_way m n is_m is_n =
      let there = ap (λ i. take i (drop to t)) is_m in
      let images = ap₂ (λ o i. map (image o c) (take i (drop from t))) is_way is_n ∙ images_are in
      (λ e. sym there ∙ e ∙ images, λ held. there ∙ held ∙ sym images)

  -- and is entered where they are: before it the table stays, and behind it
  pub images_filled : {way : Bool} → way ≡ opposite → {front back ts : List ℕ} → front ≡ take to t → back ≡ drop to t → (n : ℕ) → n ≡ k.a * k.b
      → ts ≡ map (image way c) (take n (drop from front)) → front ++ (ts ++ drop (k.a * k.b) back) ≡ filled_with false w t k to
  images_filled is_way {back = back} is_front is_back n is_n is_ts =
      let fit = both_fit again in
      let long = length-map (curve k) (place w) ∙ length_curve k again.fits.inside.sized in
      let early = ap₂ (λ i zs. take i (drop from zs)) is_n is_front ∙ part_of_front t from (k.a * k.b) to fit.1 in
      ap₂ (λ xs zs. xs ++ (zs ++ drop (k.a * k.b) back)) is_front (is_ts ∙ ap₂ (λ o zs. map (image o c) zs) is_way early ∙ images_are)
      ∙ ap (λ zs. take to t ++ (map (place w) (curve k) ++ zs))
      (ap (drop (k.a * k.b)) is_back ∙ drop-drop (k.a * k.b) to t ∙ ap (λ n. drop (to + n) t) (sym long))
      ∙ sym (numbers_entered t to (map (place w) (curve k)) (omega arith))

-- a block has as many blocks as the one that it repeats
pub again_count : {w h : ℕ} {t : List ℕ} {j : Block} {from : ℕ} {k : Block} {to : ℕ} {opposite : Bool} → Again w h t j from k to opposite
    → length (blocks j) ≡ length (blocks k)
again_count {j = j} {k = k} again = sym (count_alike k j again.inside.sized again.same_a again.same_b)
