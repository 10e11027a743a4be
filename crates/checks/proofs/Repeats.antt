-- A check by number: what was found before a block stays the least; a part before whose end nothing is wrong stands in the table; one that stands leaves the
-- least as it is. So a part that repeats one that stands need only be compared.
use mathlib.Core.Bool.{Bool, true, false, cond, true≢false, false≢true}
use mathlib.Core.List.{List, [], ◌∷◌, map}
use mathlib.Core.Path.{◌≡◌, refl, sym, ap, ap₂, subst, ◌∙◌}
use Prim.Native.Nat.{ℕ, suc, ◌+◌, ◌*◌, ◌/◌, ◌%◌, ◌≤◌, ◌<◌}
use native.Mathlib.Nat.{add-zero, suc-add, add-suc}
use native.Mathlib.Omega.{arith}
use borrow.Author.Tests.{leb-false, le-leb, lt-leb, eq-eqb, eqb-true, eqb-false}
use lib.Dec.{eqb}
use lib.ListN.{length, get_or, length-map}
use Rattle.division.specs.declared.Choice.TheVariants.{LongCut, UCut}
use Rattle.leaves.specs.declared.Numbered.{Numbered}
use Rattle.division.specs.Division.{Block, even_half, First, Second, A, C, part, curve}
use Rattle.division.specs.Forms.{block}
use Rattle.division.proofs.EachSquareOnce.{length_curve}
use Rattle.std.specs.Prelude.{Option, Some, None}
use Rattle.leaves.specs.declared.Wrong.{Wrong}
use Rattle.leaves.specs.Walk.{place, over, sooner, none_before, least_one, checked, Fits}
use Rattle.leaves.proofs.Checks.{Late, late_so, over_most, over_below}
use Rattle.leaves.proofs.PartByPart.{Cut, to_c, first_call, a_call}
use Rattle.copies.specs.Copies.{Held, Again}
use Rattle.copies.proofs.Entered.{held_places, places_held}
use Rattle.copies.proofs.Siblings.{second_again, c_again}

-- what was found before a place was found before the next one
later_on : (n : ℕ) (least : Option Wrong) → none_before n least ≡ false → none_before (suc n) least ≡ false
later_on n None e = absurd (true≢false e)
later_on n (Some found) e = let l = leb-false n found.place e in lt-leb (suc n) found.place (omega arith)

module _ (t : List ℕ) where
  -- a look at a later place keeps what was found before
  later_one : (least : Option Wrong) (n p : ℕ) → none_before n least ≡ false → least_one false t least n p ≡ least
  later_one None n p e = absurd (true≢false e)
  later_one (Some found) n p e = by (eqb (get_or t n 0) p)
    where
      by : (right : Bool) → cond right (Some found) (sooner (Some found) (record { place = n; due = p })) ≡ Some found
      by true = refl
      by false = let l = leb-false n found.place e in rw (le-leb found.place n (omega arith))

  later_kept : (least : Option Wrong) (n : ℕ) (ps : List ℕ) → none_before n least ≡ false → over (least_one false t) least n ps ≡ least
  unfolding over
  later_kept least n [] e = refl
  later_kept least n (p ∷ ps) e =
      ap (λ m. over (least_one false t) m (suc n) ps) (later_one least n p e) ∙ later_kept least (suc n) ps (later_on n least e)

  -- right places keep the least
  right_kept : (least : Option Wrong) (n : ℕ) (ps : List ℕ) → ((i : ℕ) → i < length ps → get_or t (n + i) 0 ≡ get_or ps i 0)
      → over (least_one false t) least n ps ≡ least
  unfolding over
  right_kept least n [] right = refl
  right_kept least n (p ∷ ps) right =
      ap (λ m. over (least_one false t) m (suc n) ps)
      (rw (eq-eqb (get_or t n 0) p (ap (λ m. get_or t m 0) (sym (add-zero n)) ∙ right 0 (omega arith))))
      ∙ right_kept least (suc n) ps (λ i l. ap (λ m. get_or t m 0) (suc-add n i ∙ sym (add-suc n i)) ∙ right (suc i) (omega arith))

  -- places before the least are right
  right_by : (least : Option Wrong) (n : ℕ) (ps : List ℕ) (to i : ℕ) → i < length ps → n + length ps ≤ to → Late to (over (least_one false t) least n ps)
      → (right : Bool) → eqb (get_or t (n + i) 0) (get_or ps i 0) ≡ right → get_or t (n + i) 0 ≡ get_or ps i 0
  right_by least n ps to i l room late true e = eqb-true (get_or t (n + i) 0) (get_or ps i 0) e
  right_by least n ps to i l room late false e =
      let no_sooner = over_below false t least n ps i l (eqb-false (get_or t (n + i) 0) (get_or ps i 0) e) to late in
      absurd (omega arith)

-- what was found before a block
pub found_before : (w : ℕ) (t : List ℕ) (k : Block) (at : ℕ) (least : Option Wrong) (by_square : Bool) → by_square ≡ false → none_before at least ≡ false
    → least ≡ checked by_square w t k at least
found_before w t k at least by_square by_number e =
    sym (ap (λ b. checked b w t k at least) by_number ∙ later_kept t least at (map (place w) (curve k)) e)

-- a block before whose end nothing is wrong, and one that stands
module _ {kind : Bool} {w h : ℕ} (t : List ℕ) {k : Block} {at : ℕ} (fits : Fits kind w h (length t) k at) where
  long : length (map (place w) (curve k)) ≡ k.a * k.b
  long = length-map (curve k) (place w) ∙ length_curve k fits.inside.sized

  right_held : (to : ℕ) (least : Option Wrong) → at + k.a * k.b ≤ to → Late to (checked false w t k at least) → Held w t k at
  right_held to least before late =
      let room = fits.room in
      let n = long in
      places_held w t k at fits.inside.sized (omega arith)
      (λ i l. right_by t least at (map (place w) (curve k)) to i (omega arith) (omega arith) late
      (eqb (get_or t (at + i) 0) (get_or (map (place w) (curve k)) i 0)) refl)

  held_kept : Held w t k at → (least : Option Wrong) → least ≡ checked false w t k at least
  held_kept held least =
      let n = long in
      sym (right_kept t least at (map (place w) (curve k)) (λ i l. held_places w t k at held i (omega arith)))

-- what `comparable` tells
record Comparable (by_square alike : Bool) (to : ℕ) (least : Option Wrong) : Type 0 where
  by_number : by_square ≡ false
  is_alike : alike ≡ true
  late : Late to least

abbrev Told : (told by_square alike : Bool) (to : ℕ) (least : Option Wrong) → Type 0
Told told by_square alike to least = told ≡ cond by_square false (cond alike (none_before to least) false)

comparable_by : (by_square alike late : Bool) (to : ℕ) (least : Option Wrong) → none_before to least ≡ late
    → cond by_square false (cond alike late false) ≡ true
    → Comparable by_square alike to least
comparable_by true alike late to least is told = absurd (false≢true told)
comparable_by false false late to least is told = absurd (false≢true told)
comparable_by false true false to least is told = absurd (false≢true told)
comparable_by false true true to least is told = record { by_number = refl; is_alike = refl; late = late_so to least is }

comparable_so : (by_square alike : Bool) (to : ℕ) (least : Option Wrong) {told : Bool} → Told told by_square alike to least → told ≡ true
    → Comparable by_square alike to least
comparable_so by_square alike to least is taken = comparable_by by_square alike (none_before to least) to least refl (sym is ∙ taken)

-- a part that stands, of the kind that is asked
stands_so : {kind : Bool} {w h : ℕ} (t : List ℕ) {k : Block} {at : ℕ} → Fits kind w h (length t) k at → (by_square : Bool) → by_square ≡ false
    → Held w t k at → (least : Option Wrong) → least ≡ checked by_square w t k at least
stands_so {w = w} t {k} {at} fits by_square by_number held least = held_kept t fits held least ∙ ap (λ b. checked b w t k at least) (sym by_number)

-- the long cut's second part, where the code compares it
module _ {kind : Bool} {w h : ℕ} (t : List ℕ) {k : Block} {at m : ℕ} (cut : Cut kind LongCut w h (length t) k at m) (by_square : Bool) (p q : Numbered)
    (is_p : block p.placed ≡ part First k) (on_p : p.first ≡ at + 0) (is_q : block q.placed ≡ part Second k) (on_q : q.first ≡ at + even_half k.a * k.b)
    (so_far : Option Wrong) {found : Option Wrong} (first : found ≡ checked by_square w t (block p.placed) p.first so_far)
    {told : Bool} (is : Told told by_square (eqb p.placed.a q.placed.a) q.first found) (taken : told ≡ true) where
  second_compared : Comparable by_square (eqb p.placed.a q.placed.a) q.first found
  second_compared = comparable_so by_square (eqb p.placed.a q.placed.a) q.first found is taken

  pub second_asks : Again w h t (block p.placed) p.first (block q.placed) q.first false
  unfolding part
  second_asks =
      let squares : p.placed.a * p.placed.b ≡ even_half k.a * k.b = ap₂ ◌*◌ (ap (λ b. b.a) is_p) (ap (λ b. b.b) is_p) in
      let by_number = first ∙ ap (λ b. checked b w t (block p.placed) p.first so_far) second_compared.by_number in
      second_again cut p q is_p on_p is_q on_q refl
      (right_held t (first_call cut refl p is_p on_p).1 q.first so_far (omega arith) (subst (Late q.first) by_number second_compared.late))
      (eqb-true p.placed.a q.placed.a second_compared.is_alike)

  pub second_stands : Held w t (block q.placed) q.first → found ≡ checked by_square w t (block q.placed) q.first found
  second_stands held = stands_so t second_asks.fits by_square second_compared.by_number held found

-- the U cut's C, behind A and B
module _ {kind : Bool} {w h : ℕ} (t : List ℕ) {k : Block} {at m : ℕ} (cut : Cut kind UCut w h (length t) k at m) (by_square : Bool) (p q r : Numbered)
    (is_p : block p.placed ≡ part A k) (on_p : p.first ≡ at) (is_r : block r.placed ≡ part C k) (on_r : r.first ≡ to_c cut)
    (so_far : Option Wrong) {found_a found_b : Option Wrong} (first : found_a ≡ checked by_square w t (block p.placed) p.first so_far)
    (second : found_b ≡ checked by_square w t (block q.placed) q.first found_a)
    {told : Bool} (is : Told told by_square (eqb (k.a % 2) 0) r.first found_b) (taken : told ≡ true) where
  c_compared : Comparable by_square (eqb (k.a % 2) 0) r.first found_b
  c_compared = comparable_so by_square (eqb (k.a % 2) 0) r.first found_b is taken

  pub c_asks : Again w h t (block p.placed) p.first (block r.placed) r.first true
  unfolding part
  c_asks =
      let squares : p.placed.a * p.placed.b ≡ even_half k.b * (k.a / 2) = ap₂ ◌*◌ (ap (λ b. b.a) is_p) (ap (λ b. b.b) is_p) in
      let by_number = first ∙ ap (λ b. checked b w t (block p.placed) p.first so_far) c_compared.by_number in
      let late = over_most by_square t found_a q.first (map (place w) (curve (block q.placed))) r.first (subst (Late r.first) second c_compared.late) in
      c_again cut p r is_p on_p is_r on_r refl
      (right_held t (a_call cut refl p is_p on_p).1 r.first so_far (omega arith) (subst (Late r.first) by_number late))
      (eqb-true (k.a % 2) 0 c_compared.is_alike)

  pub c_stands : Held w t (block r.placed) r.first → found_b ≡ checked by_square w t (block r.placed) r.first found_b
  c_stands held = stands_so t c_asks.fits by_square c_compared.by_number held found_b
