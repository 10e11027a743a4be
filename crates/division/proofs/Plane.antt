-- Squares and directions: steps in a direction add up, steps in the two directions of a block do not meet, and a stretch of squares that has
-- room in a w by h area splits in two and turns round. Each law goes by the four directions, and each case is linear arithmetic.
use mathlib.Core.Bool.{Bool, true, false, ◌&&◌}
use mathlib.Core.Logic.{⊎_elim}
use mathlib.Core.Path.{◌≡◌, refl, sym, ap, ap₂, subst, subst⁻¹, ◌∙◌}
use Prim.Native.Nat.{ℕ, suc, ◌+◌, ◌-◌, ◌≤◌, ◌<◌, min}
use native.Mathlib.Nat.{add_assoc, add_comm, add-zero, sub-zero, eq-zero-or-pos, min_comm}
use native.Mathlib.Omega.{arith}
use borrow.Author.Tests.{le-leb, leb-true, leb-false, eqb-true, eqb-false, eq-eqb, ne_eqb}
use lib.Dec.{leb, ltb, eqb}
use Rattle.division.specs.Division.{Square, Direction, +x, +y, -x, -y, moved, against, within, same, one}
use Rattle.division.specs.Division.Inside.{Paired, x_y, y_x, x_y_back, y_x_back, Room}

-- the parts of a block with such a pair of directions have such a pair
pub turned : {d t : Direction} → Paired d t → Paired t d
turned x_y = y_x
turned y_x = x_y
turned x_y_back = y_x_back
turned y_x_back = x_y_back

pub reversed : {d t : Direction} → Paired d t → Paired (against d) (against t)
unfolding against
reversed x_y = x_y_back
reversed y_x = y_x_back
reversed x_y_back = x_y
reversed y_x_back = y_x

square_eq : {p q : Square} → p.x ≡ q.x → p.y ≡ q.y → p ≡ q
square_eq e f = λ i. record { x = e i; y = f i }

-- n steps after m steps are m + n steps
pub moved_add : (d : Direction) (m n : ℕ) (s : Square) → moved d n (moved d m s) ≡ moved d (m + n) s
unfolding moved
moved_add +x m n s = square_eq (omega arith) refl
moved_add +y m n s = square_eq refl (omega arith)
moved_add -x m n s = square_eq (omega arith) refl
moved_add -y m n s = square_eq refl (omega arith)

pub moved_none : (d : Direction) (s : Square) → moved d 0 s ≡ s
unfolding moved
moved_none +x s = square_eq (add-zero s.x) refl
moved_none +y s = square_eq refl (add-zero s.y)
moved_none -x s = square_eq (sub-zero s.x) refl
moved_none -y s = square_eq refl (sub-zero s.y)

-- steps in the two directions of a block go in either order
pub moved_swap : {d t : Direction} → Paired d t → (m n : ℕ) (s : Square) → moved d m (moved t n s) ≡ moved t n (moved d m s)
unfolding moved
moved_swap x_y m n s = refl
moved_swap y_x m n s = refl
moved_swap x_y_back m n s = refl
moved_swap y_x_back m n s = refl

-- n steps back from the last of m squares
pub moved_back : (w h : ℕ) (d : Direction) (m n : ℕ) (s : Square) → Room w h d m s → n < m → moved (against d) n (moved d (m - 1) s) ≡ moved d (m - 1 - n) s
unfolding moved against
moved_back w h +x m n s r l = square_eq (omega arith) refl
moved_back w h +y m n s r l = square_eq refl (omega arith)
moved_back w h -x m n s r l = square_eq (omega arith) refl
moved_back w h -y m n s r l = square_eq refl (omega arith)

-- a part of a stretch has room, the stretch the other way has, and steps across it leave it its room
pub room_on : (w h : ℕ) (d : Direction) (m l n : ℕ) (s : Square) → Room w h d n s → m + l ≤ n → Room w h d l (moved d m s)
unfolding moved
room_on w h +x m l n s r f = omega arith
room_on w h +y m l n s r f = omega arith
room_on w h -x m l n s r f = omega arith
room_on w h -y m l n s r f = omega arith

pub room_back : (w h : ℕ) (d : Direction) (l n : ℕ) (s : Square) → Room w h d n s → 1 ≤ n → l ≤ n → Room w h (against d) l (moved d (n - 1) s)
unfolding moved against
room_back w h +x l n s r p f = omega arith
room_back w h +y l n s r p f = omega arith
room_back w h -x l n s r p f = omega arith
room_back w h -y l n s r p f = omega arith

pub room_across : (w h : ℕ) {d t : Direction} → Paired d t → (m n : ℕ) (s : Square) → Room w h d n s → Room w h d n (moved t m s)
unfolding moved
room_across w h x_y m n s r = r
room_across w h y_x m n s r = r
room_across w h x_y_back m n s r = r
room_across w h y_x_back m n s r = r

-- a test as 0 or 1, which linear arithmetic reads
leb_number : (a b : ℕ) (t : Bool) → leb a b ≡ t → one t ≡ min 1 (suc b - a)
leb_number a b true e = omega (arith, leb-true a b e)
leb_number a b false e = omega (arith, leb-false a b e)

one_leb : (a b : ℕ) → one (leb a b) ≡ min 1 (suc b - a)
one_leb a b = leb_number a b (leb a b) refl

pub one_and : (s t : Bool) → one (s && t) ≡ min (one s) (one t)
one_and true true = refl
one_and true false = refl
one_and false true = refl
one_and false false = refl

pub one_le : (t : Bool) → one t ≤ 1
one_le true = omega arith
one_le false = omega arith

-- what lies in one of two stretches, and across
pub min_split : (r r₁ r₂ s : ℕ) → r ≡ r₁ + r₂ → r ≤ 1 → s ≤ 1 → min r₁ s + min r₂ s ≡ min r s
min_split r r₁ r₂ s e l m = omega arith

-- 1 where lo ≤ c < hi, else 0, as a difference that telescopes
span : (lo hi c : ℕ) → ℕ
span lo hi c = one (leb lo c) - one (leb hi c)

leb_mono : (y z c : ℕ) → y ≤ z → one (leb z c) ≤ one (leb y c)
leb_mono y z c l = simp one_leb (omega arith)

leb_not : (a b : ℕ) → one (leb (suc a) b) ≡ 1 - one (leb b a)
leb_not a b = simp one_leb (omega arith)

leb_shift : (hi n c : ℕ) → n ≤ hi + 1 → one (leb (suc hi) (c + n)) ≡ one (leb (suc hi - n) c)
leb_shift hi n c l = simp one_leb (omega arith)

span_join : (lo mid hi c : ℕ) → lo ≤ mid → mid ≤ hi → span lo hi c ≡ span lo mid c + span mid hi c
unfolding span
span_join lo mid hi c l m = omega (arith, leb_mono lo mid c l, leb_mono mid hi c m)

span_empty : (z c : ℕ) → span z z c ≡ 0
unfolding span
span_empty z c = omega arith

up_span : (lo n c : ℕ) → one (leb lo c && ltb c (lo + n)) ≡ span lo (lo + n) c
unfolding span
up_span lo n c = omega (arith, one_and (leb lo c) (ltb c (lo + n)), leb_not c (lo + n), one_leb lo c, leb_mono lo (lo + n) c (omega arith))

down_span : (hi n c : ℕ) → n ≤ hi + 1 → one (leb c hi && ltb hi (c + n)) ≡ span (suc hi - n) (suc hi) c
unfolding span
down_span hi n c l =
    let both = one_and (leb c hi) (ltb hi (c + n)) in
    let order = leb_mono (suc hi - n) (suc hi) c (omega arith) in
    omega (arith, both, one_le (leb c hi), one_le (leb (suc hi - n) c), leb_shift hi n c l, leb_not hi c, order)

-- where a stretch begins and ends on its axis, and a square's coordinate there
abbrev low : Direction → ℕ → Square → ℕ
low +x n s = s.x
low +y n s = s.y
low -x n s = suc s.x - n
low -y n s = suc s.y - n

abbrev high : Direction → ℕ → Square → ℕ
high +x n s = s.x + n
high +y n s = s.y + n
high -x n s = suc s.x
high -y n s = suc s.y

abbrev along : Direction → Square → ℕ
along +x p = p.x
along +y p = p.y
along -x p = p.x
along -y p = p.y

within_span : (w h : ℕ) (d : Direction) (n : ℕ) (s p : Square) → Room w h d n s → one (within d n s p) ≡ span (low d n s) (high d n s) (along d p)
unfolding within
within_span w h +x n s p r = up_span s.x n p.x
within_span w h +y n s p r = up_span s.y n p.y
within_span w h -x n s p r = down_span s.x n p.x r.0
within_span w h -y n s p r = down_span s.y n p.y r.0

-- a stretch of m + n squares up from lo, and one down from hi, as two
up_split : (lo m n c : ℕ) → span lo (lo + (m + n)) c ≡ span lo (lo + m) c + span (lo + m) (lo + m + n) c
up_split lo m n c = rw (add_assoc lo m n) (span_join lo (lo + m) (lo + (m + n)) c (omega arith) (omega arith))

down_split : (hi m n c : ℕ) → m + n ≤ hi + 1
    → span (suc hi - (m + n)) (suc hi) c ≡ span (suc hi - m) (suc hi) c + span (suc (hi - m) - n) (suc (hi - m)) c
down_split hi m n c l = ⊎_elim none some (eq-zero-or-pos n)
  where
    Goal : Type 0
    Goal = span (suc hi - (m + n)) (suc hi) c ≡ span (suc hi - m) (suc hi) c + span (suc (hi - m) - n) (suc (hi - m)) c

    none : n ≡ 0 → Goal
    none e = rw (e, add-zero, sub-zero, span_empty (suc (hi - m)) c, add-zero)

    some : 0 < n → Goal
    some p =
        let e : suc (hi - m) ≡ suc hi - m = omega arith in
        let f : suc hi - (m + n) ≡ suc hi - m - n = omega arith in
        rw (e, f, span_join (suc hi - m - n) (suc hi - m) (suc hi) c (omega arith) (omega arith))
        (add_comm (span (suc hi - m - n) (suc hi - m) c) (span (suc hi - m) (suc hi) c))

span_split : (w h : ℕ) (d : Direction) (m n : ℕ) (s : Square) (c : ℕ) → Room w h d (m + n) s
    → span (low d (m + n) s) (high d (m + n) s) c ≡ span (low d m s) (high d m s) c + span (low d n (moved d m s)) (high d n (moved d m s)) c
unfolding moved
span_split w h +x m n s c r = up_split s.x m n c
span_split w h +y m n s c r = up_split s.y m n c
span_split w h -x m n s c r = down_split s.x m n c r.0
span_split w h -y m n s c r = down_split s.y m n c r.0

span_back : (w h : ℕ) (d : Direction) (n : ℕ) (s p : Square) → Room w h d n s → 1 ≤ n
    → span (low (against d) n (moved d (n - 1) s)) (high (against d) n (moved d (n - 1) s)) (along (against d) p) ≡ span (low d n s) (high d n s) (along d p)
unfolding moved against
span_back w h +x n s p r l = ap₂ (λ lo hi. span lo hi p.x) (omega arith) (omega arith)
span_back w h +y n s p r l = ap₂ (λ lo hi. span lo hi p.y) (omega arith) (omega arith)
span_back w h -x n s p r l = ap₂ (λ lo hi. span lo hi p.x) (omega arith) (omega arith)
span_back w h -y n s p r l = ap₂ (λ lo hi. span lo hi p.y) (omega arith) (omega arith)

-- the first m squares of a stretch that has room have room
pub room_first : (w h : ℕ) (d : Direction) (m n : ℕ) (s : Square) → Room w h d n s → m ≤ n → Room w h d m s
room_first w h +x m n s r l = omega arith
room_first w h +y m n s r l = omega arith
room_first w h -x m n s r l = omega arith
room_first w h -y m n s r l = omega arith

-- the stretch of m + n squares from s is that of m from s and that of n from m squares on
pub within_split : (w h : ℕ) (d : Direction) (m n : ℕ) (s p : Square) → Room w h d (m + n) s
    → one (within d (m + n) s p) ≡ one (within d m s p) + one (within d n (moved d m s) p)
within_split w h d m n s p r =
    within_span w h d (m + n) s p r
    ∙ span_split w h d m n s (along d p) r
    ∙ sym (ap₂ ◌+◌ (within_span w h d m s p (room_first w h d m (m + n) s r (omega arith)))
    (within_span w h d n (moved d m s) p (room_on w h d m n (m + n) s r (omega arith))))

pub within_cut : (w h : ℕ) (d : Direction) (m n : ℕ) (s p : Square) → Room w h d n s → m < n
    → one (within d n s p) ≡ one (within d m s p) + one (within d (n - m) (moved d m s) p)
within_cut w h d m n s p r l =
    let e : m + (n - m) ≡ n = omega arith in
    subst (λ (z : ℕ). one (within d z s p) ≡ one (within d m s p) + one (within d (n - m) (moved d m s) p)) e
    (within_split w h d m (n - m) s p (subst⁻¹ (λ (z : ℕ). Room w h d z s) e r))

-- a stretch holds the same squares when it is walked from its other end
pub within_back : (w h : ℕ) (d : Direction) (n : ℕ) (s p : Square) → Room w h d n s → 1 ≤ n
    → one (within (against d) n (moved d (n - 1) s) p) ≡ one (within d n s p)
within_back w h d n s p r l =
    within_span w h (against d) n (moved d (n - 1) s) p (room_back w h d n n s r l (omega arith))
    ∙ span_back w h d n s p r l
    ∙ sym (within_span w h d n s p r)

pub within_across : {d t : Direction} → Paired d t → (m n : ℕ) (s p : Square) → within d n (moved t m s) p ≡ within d n s p
unfolding within moved
within_across x_y m n s p = refl
within_across y_x m n s p = refl
within_across x_y_back m n s p = refl
within_across y_x_back m n s p = refl

-- no square lies within a stretch of none, and only s itself within one of one square along either direction
pub within_none : (w h : ℕ) (d : Direction) (s p : Square) → Room w h d 0 s → one (within d 0 s p) ≡ 0
within_none w h +x s p r = within_span w h +x 0 s p r ∙ rw add-zero (span_empty s.x p.x)
within_none w h +y s p r = within_span w h +y 0 s p r ∙ rw add-zero (span_empty s.y p.y)
within_none w h -x s p r = within_span w h -x 0 s p r ∙ rw sub-zero (span_empty (suc s.x) p.x)
within_none w h -y s p r = within_span w h -y 0 s p r ∙ rw sub-zero (span_empty (suc s.y) p.y)

eqb_number : (a b : ℕ) (t : Bool) → eqb a b ≡ t → one t ≡ min 1 (suc a - b) - min 1 (suc a - (b + 1))
eqb_number a b true e = omega (arith, eqb-true a b e)
eqb_number a b false e = omega (arith, eqb-false a b e)

eqb_up : (a b : ℕ) → one (eqb a b) ≡ one (leb b a && ltb a (b + 1))
unfolding span
eqb_up a b = eqb_number a b (eqb a b) refl ∙ sym (up_span b 1 a ∙ ap₂ ◌-◌ (one_leb b a) (one_leb (b + 1) a))

eqb_comm : (a b : ℕ) (t : Bool) → eqb a b ≡ t → t ≡ eqb b a
eqb_comm a b true e = sym (eq-eqb b a (sym (eqb-true a b e)))
eqb_comm a b false e = sym (ne_eqb b a (λ f. eqb-false a b e (sym f)))

eqb_down : (a b : ℕ) → one (eqb a b) ≡ one (leb a b && ltb b (a + 1))
eqb_down a b = ap one (eqb_comm a b (eqb a b) refl) ∙ eqb_up b a

pub same_within : {d t : Direction} → Paired d t → (s p : Square) → one (same p s) ≡ min (one (within d 1 s p)) (one (within t 1 s p))
unfolding same within
same_within x_y s p = simp (one_and, eqb_up)
same_within y_x s p = simp (one_and, eqb_up) (min_comm _ _)
same_within x_y_back s p = simp (one_and, eqb_down)
same_within y_x_back s p = simp (one_and, eqb_down) (min_comm _ _)

-- a stretch holds the squares that its steps lead to, and steps across it change nothing
pub within_moved : (w h : ℕ) (d : Direction) (n m : ℕ) (s : Square) → Room w h d n s → m < n → within d n s (moved d m s) ≡ true
unfolding within moved
within_moved w h +x n m s r l = rw (le-leb s.x (s.x + m) (omega arith), le-leb (suc (s.x + m)) (s.x + n) (omega arith))
within_moved w h +y n m s r l = rw (le-leb s.y (s.y + m) (omega arith), le-leb (suc (s.y + m)) (s.y + n) (omega arith))
within_moved w h -x n m s r l = rw (le-leb (s.x - m) s.x (omega arith), le-leb (suc s.x) (s.x - m + n) (omega arith))
within_moved w h -y n m s r l = rw (le-leb (s.y - m) s.y (omega arith), le-leb (suc s.y) (s.y - m + n) (omega arith))

pub within_aside : {d t : Direction} → Paired d t → (m n : ℕ) (s p : Square) → within d n s (moved t m p) ≡ within d n s p
unfolding within moved
within_aside x_y m n s p = refl
within_aside y_x m n s p = refl
within_aside x_y_back m n s p = refl
within_aside y_x_back m n s p = refl
