-- A block of the division stands in a file's table exactly if its squares are right one after the other: so it does if the file has its entries, or the images
-- of a block that it repeats; and once a square is wrong, the walk stays so.
use mathlib.Core.Bool.{Bool, true, false, not, cond}
use mathlib.Core.List.{List, [], ◌∷◌, map}
use mathlib.Core.Path.{◌≡◌, refl, sym, ap, subst, subst⁻¹, ◌∙◌}
use Prim.Native.Nat.{ℕ, zero, suc, ◌+◌, ◌*◌, ◌<◌}
use native.Mathlib.Nat.{add-zero, suc-add, add-suc}
use native.Mathlib.Omega.{arith}
use borrow.Author.Tests.{eqb-true, eqb-false, not-true, not-false}
use lib.Dec.{eqb}
use lib.ListN.{length, get_or}
use Rattle.terms.specs.Telling.{Tells}
use Rattle.terms.proofs.Telling.{refuses, grants, tells_so, tells_one}
use Rattle.division.specs.Division.{Block, whole, curve}
use Rattle.leaves.specs.Walk.{place, over, over_block, filled_with, Fits}
use Rattle.leaves.proofs.Entries.{enter_length}
use Rattle.copies.specs.Copies.{image, Agree, Held, Again}
use Rattle.copies.proofs.Entered.{held_places, places_held, over_held}
use Rattle.copies.proofs.Alike.{both_fit, agree_held, held_agree}
use Rattle.stretches.specs.Stretch.{Lies}
use Rattle.stretches.proofs.Stretches.{places_long}
use Rattle.tables.proofs.PlaceByPlace.{places_length, place_holds}
use Rattle.holdings.specs.Holdings.{table_word, table_in, Entered, Repeated, right_one, block_right, AllRight}

-- a walk that met a wrong square
stays_wrong : (t : List ℕ) (n : ℕ) (ps : List ℕ) → over (right_one t) false n ps ≡ false
unfolding over
stays_wrong t n [] = refl
stays_wrong t n (p ∷ ps) = ap (λ (s : Bool). over (right_one t) s (suc n) ps) (by (eqb (get_or t n 0) p)) ∙ stays_wrong t (suc n) ps
  where
    by : (b : Bool) → cond b false false ≡ false
    by true = refl
    by false = refl

module _ (t : List ℕ) (w : ℕ) (k : Block) (at : ℕ) (so_far : Bool) where
  pub then_wrong : not so_far ≡ true → false ≡ over_block (right_one t) so_far w k at
  then_wrong e =
      sym (ap (λ (s : Bool). over_block (right_one t) s w k at) (not-true so_far e) ∙ stays_wrong t at (map (place w) (curve k)))

  pub then_right : not so_far ≡ false → {r : Bool} → r ≡ block_right w t k at → r ≡ over_block (right_one t) so_far w k at
  then_right e is = is ∙ ap (λ (s : Bool). over_block (right_one t) s w k at) (sym (not-false so_far e))

-- and one that met none: places in a row from n on are right
abbrev Right : (t : List ℕ) (n : ℕ) (ps : List ℕ) → Type 0
Right t n ps = (i : ℕ) → i < length ps → get_or t (n + i) 0 ≡ get_or ps i 0

right_first : (t : List ℕ) (n p : ℕ) (ps : List ℕ) (b : Bool) → eqb (get_or t n 0) p ≡ b → Tells (over (right_one t) true (suc n) ps) (Right t (suc n) ps)
    → Tells (over (right_one t) (cond b true false) (suc n) ps) (Right t n (p ∷ ps))
right_first t n p ps true e rest = tells_so rest to from
  where
    to : Right t (suc n) ps → Right t n (p ∷ ps)
    to right zero l = ap (λ (k : ℕ). get_or t k 0) (add-zero n) ∙ eqb-true (get_or t n 0) p e
    to right (suc i) l = ap (λ (k : ℕ). get_or t k 0) (add-suc n i ∙ sym (suc-add n i)) ∙ right i (omega arith)

    from : Right t n (p ∷ ps) → Right t (suc n) ps
    from right i l = ap (λ (k : ℕ). get_or t k 0) (suc-add n i ∙ sym (add-suc n i)) ∙ right (suc i) (omega arith)
right_first t n p ps false e rest =
    subst⁻¹ (λ (r : Bool). Tells r (Right t n (p ∷ ps))) (stays_wrong t (suc n) ps)
    (refuses (λ right. eqb-false (get_or t n 0) p e (ap (λ (k : ℕ). get_or t k 0) (sym (add-zero n)) ∙ right 0 (omega arith))))

over_right : (t : List ℕ) (n : ℕ) (ps : List ℕ) → Tells (over (right_one t) true n ps) (Right t n ps)
unfolding over
over_right t n [] = grants (λ i l. absurd (omega arith))
over_right t n (p ∷ ps) = right_first t n p ps (eqb (get_or t n 0) p) refl (over_right t (suc n) ps)

-- the table that a file's words have
pub table_at : (words : List ℕ) (n p : ℕ) → p < n → get_or (table_in words n) p 0 ≡ table_word words p
table_at words n p l = place_holds (table_word words) n p l

pub table_long : (words : List ℕ) (n : ℕ) → length (table_in words n) ≡ n
table_long words n = places_length (table_word words) n

-- the first n entries stand from a place on
abbrev FirstOf : (words : List ℕ) (at : ℕ) (entries : List ℕ) (n : ℕ) → Type 0
FirstOf words at entries n = (i : ℕ) → i < n → table_word words (at + i) ≡ get_or entries i 0

-- a block of it
module _ {w h : ℕ} (words : List ℕ) {k : Block} {at : ℕ} (lies : Lies w h k at) where
  abbrev t : List ℕ
  t = table_in words (w * h)

  pub block_tells : Tells (block_right w t k at) (Held w t k at)
  block_tells =
      let long = places_long lies in
      let all = table_long words (w * h) in
      let room = lies.room in
      tells_so (over_right t at (map (place w) (curve k)))
      (λ right. places_held w t k at lies.inside.sized (omega arith) (λ i l. right i (omega arith)))
      (λ held i l. held_places w t k at held i (omega arith))

  pub held_so : (r : Bool) → r ≡ block_right w t k at → not r ≡ false → Held w t k at
  held_so r is e = block_tells.0 (sym is ∙ not-false r e)

  -- by its entries
  pub entered_right : {r : Bool} → Tells r (FirstOf words at (map (place w) (curve k)) (k.a * k.b)) → r ≡ block_right w t k at
  entered_right tells = tells_one (tells_so tells to from) block_tells
    where
      to : FirstOf words at (map (place w) (curve k)) (k.a * k.b) → Held w t k at
      to entered =
          let all = table_long words (w * h) in
          let room = lies.room in
          places_held w t k at lies.inside.sized (omega arith) (λ i l. table_at words (w * h) (at + i) (omega arith) ∙ entered i l)

      from : Held w t k at → FirstOf words at (map (place w) (curve k)) (k.a * k.b)
      from held i l = let room = lies.room in sym (table_at words (w * h) (at + i) (omega arith)) ∙ held_places w t k at held i l

-- by a block that it repeats
module _ {w h : ℕ} (words : List ℕ) {j : Block} {from : ℕ} {k : Block} {to : ℕ} {opposite : Bool}
    (again : Again w h (table_in words (w * h)) j from k to opposite) (c : ℕ) (starts : place w k.start ≡ image opposite c (place w j.start)) where
  both_in : (i : ℕ) → i < k.a * k.b → (from + i < w * h) × (to + i < w * h)
  both_in i l =
      let fit = both_fit again in
      let before = fit.1 in
      let room = fit.2 in
      let all = table_long words (w * h) in
      (omega arith, omega arith)

  agree_so : Repeated opposite c words from to (k.a * k.b) → Agree opposite c (table_in words (w * h)) from to (k.a * k.b)
  agree_so repeated i l =
      let both = both_in i l in
      table_at words (w * h) (to + i) both.1 ∙ repeated i l ∙ ap (image opposite c) (sym (table_at words (w * h) (from + i) both.0))

  so_agree : Agree opposite c (table_in words (w * h)) from to (k.a * k.b) → Repeated opposite c words from to (k.a * k.b)
  so_agree agree i l =
      let both = both_in i l in
      sym (table_at words (w * h) (to + i) both.1) ∙ agree i l ∙ ap (image opposite c) (table_at words (w * h) (from + i) both.0)

  pub repeated_right : {r : Bool} → Tells r (Repeated opposite c words from to (k.a * k.b)) → r ≡ block_right w (table_in words (w * h)) k to
  repeated_right tells =
      let lies = subst (λ (n : ℕ). Fits false w h n k to) (table_long words (w * h)) again.fits in
      tells_one (tells_so tells (λ repeated. agree_held again c starts (agree_so repeated)) (λ held. so_agree (held_agree again c starts held)))
      (block_tells words lies)

-- the entries that a fill leaves in a buffer of the block's squares
module _ {w h : ℕ} (buffer : List ℕ) {k : Block} (fits : Fits false w h (length buffer) k 0) {es : List ℕ} (is : es ≡ filled_with false w buffer k 0)
    (size : length buffer ≡ k.a * k.b) where
  filled_long : length es ≡ k.a * k.b
  filled_long = ap length is ∙ enter_length false buffer 0 (map (place w) (curve k)) ∙ size

  filled_entry : (i : ℕ) → i < k.a * k.b → get_or es i 0 ≡ get_or (map (place w) (curve k)) i 0
  filled_entry i l =
      ap (λ (zs : List ℕ). get_or zs i 0) is
      ∙ ap (λ (n : ℕ). get_or (filled_with false w buffer k 0) n 0) (let z : i ≡ 0 + i = omega arith in z)
      ∙ held_places w (filled_with false w buffer k 0) k 0 (over_held buffer fits) i l

  pub filled_tells : (words : List ℕ) (at : ℕ) {r : Bool} → Tells r (Entered words at es) → Tells r (FirstOf words at (map (place w) (curve k)) (k.a * k.b))
  filled_tells words at tells =
      let long = filled_long in
      tells_so tells (λ entered i l. entered i (omega arith) ∙ filled_entry i l) (λ entered i l. entered i (omega arith) ∙ sym (filled_entry i (omega arith)))

-- the whole area
whole_squares : (w h : ℕ) {k : Block} → k ≡ whole w h → k.a * k.b ≡ w * h
unfolding whole
whole_squares w h is = ap (λ (b : Block). b.a * b.b) is

whole_from_0 : (w h : ℕ) (words : List ℕ) {k : Block} → Lies w h k 0 → k ≡ whole w h → {r : Bool}
    → r ≡ block_right w (table_in words (w * h)) k 0 → Tells r (AllRight words w h)
whole_from_0 w h words {k} lies is_k is = subst⁻¹ (λ (b : Bool). Tells b (AllRight words w h)) is (tells_so (block_tells words lies) to from)
  where
    to : Held w (table_in words (w * h)) k 0 → AllRight words w h
    to held i l =
        let all = whole_squares w h is_k in
        sym (table_at words (w * h) i l)
        ∙ ap (λ (n : ℕ). get_or (table_in words (w * h)) n 0) (let z : i ≡ 0 + i = omega arith in z)
        ∙ held_places w (table_in words (w * h)) k 0 held i (omega arith)
        ∙ ap (λ (b : Block). get_or (map (place w) (curve b)) i 0) is_k

    from : AllRight words w h → Held w (table_in words (w * h)) k 0
    from right =
        let all = whole_squares w h is_k in
        let long = table_long words (w * h) in
        places_held w (table_in words (w * h)) k 0 lies.inside.sized (omega arith)
        (λ i l. ap (λ (n : ℕ). get_or (table_in words (w * h)) n 0) (let z : 0 + i ≡ i = omega arith in z)
        ∙ table_at words (w * h) i (omega arith)
        ∙ right i (omega arith)
        ∙ ap (λ (b : Block). get_or (map (place w) (curve b)) i 0) (sym is_k))

pub whole_tells : (w h : ℕ) (words : List ℕ) {k : Block} {at : ℕ} → Lies w h k at → k ≡ whole w h → at ≡ 0 → {r : Bool}
    → r ≡ block_right w (table_in words (w * h)) k at → Tells r (AllRight words w h)
whole_tells w h words {k} lies is_k begins is =
    whole_from_0 w h words (subst (Lies w h k) begins lies) is_k (is ∙ ap (λ n. block_right w (table_in words (w * h)) k n) begins)
