-- What is entered by number from a place on: the places before it stay, and what is entered stands there. So a block that is entered is held, and stays so
-- under what is entered behind it.
use Rattle.std.proofs.Common.{◌≡◌, ℕ, suc, ◌+◌, ◌*◌, ◌<◌, ◌≤◌, Bool, true, false, cond, List, [], ◌∷◌, ◌++◌, map, length, get_or, take, drop}
use Rattle.std.proofs.Common.{set, sym, refl, ap, ◌∙◌, ap₂, append_assoc, add-zero, add-suc, suc-add, arith, length-drop, length-set}
use Rattle.std.proofs.Common.{take-append-drop, length-take-le, get_or-drop, get_or-take, take-suc-set, take_at, drop-set-lt, ext_get_or, take-add}
use Rattle.std.proofs.Common.{drop_at}
use lib.ListN.{length-map}
use lib.Seq.{take-set-le}
use Rattle.division.specs.Division.{Block, curve}
use Rattle.division.specs.Division.Inside.{Sized}
use Rattle.division.proofs.EachSquareOnce.{length_curve}
use Rattle.leaves.specs.Walk.{place, over, enter_one, filled_with, Fits}
use Rattle.leaves.proofs.Entries.{enter_length}
use Rattle.copies.specs.Copies.{Held}

-- the places before
over_front : (m : ℕ) (t : List ℕ) (n : ℕ) (ps : List ℕ) → m ≤ n → take m (over (enter_one false) t n ps) ≡ take m t
unfolding over
over_front m t n [] l = refl
over_front m t n (p ∷ ps) l = over_front m (set t n p) (suc n) ps (omega arith) ∙ take-set-le m t n p l

-- the places themselves
pub numbers_entered : (t : List ℕ) (n : ℕ) (ps : List ℕ) → n + length ps ≤ length t
    → over (enter_one false) t n ps ≡ take n t ++ (ps ++ drop (n + length ps) t)
unfolding over
numbers_entered t n [] l = sym (ap (λ m. take n t ++ drop m t) (add-zero n) ∙ take-append-drop n t)
numbers_entered t n (p ∷ ps) l =
    let on : suc n + length ps ≡ n + suc (length ps) = suc-add n (length ps) ∙ sym (add-suc n (length ps)) in
    let same = length-set t n p in
    numbers_entered (set t n p) (suc n) ps (omega arith)
    ∙ ap₂ (λ xs ys. xs ++ (ps ++ ys)) (take-suc-set t n p (omega arith))
    (drop-set-lt (suc n + length ps) t n p (omega arith) ∙ ap (λ m. drop m t) on)
    ∙ append_assoc (take n t) (p ∷ []) (ps ++ drop (n + suc (length ps)) t)

-- what a count of a test adds
pub at_most_one : (right : Bool) {more : ℕ} → more ≡ cond right 1 0 → more ≤ 1
at_most_one true is = omega arith
at_most_one false is = omega arith

-- a block that stands in the table, place by place
pub held_places : (w : ℕ) (t : List ℕ) (k : Block) (from : ℕ) → Held w t k from → (i : ℕ) → i < k.a * k.b
    → get_or t (from + i) 0 ≡ get_or (map (place w) (curve k)) i 0
held_places w t k from held i l =
    sym (get_or-take (k.a * k.b) (drop from t) i 0 l ∙ get_or-drop from t i 0) ∙ ap (λ zs. get_or zs i 0) held

pub places_held : (w : ℕ) (t : List ℕ) (k : Block) (from : ℕ) → Sized k → from + k.a * k.b ≤ length t
    → ((i : ℕ) → i < k.a * k.b → get_or t (from + i) 0 ≡ get_or (map (place w) (curve k)) i 0) → Held w t k from
places_held w t k from sized room same =
    let n = k.a * k.b in
    let left = length-drop from t in
    let long = length-take-le n (drop from t) (omega arith) in
    let long_k = length-map (curve k) (place w) ∙ length_curve k sized in
    ext_get_or 0 (take n (drop from t)) (map (place w) (curve k)) (long ∙ sym long_k)
    (λ i l. let below : i < n = omega arith in get_or-take n (drop from t) i 0 below ∙ get_or-drop from t i 0 ∙ same i below)

-- a block that is entered stands in the table
pub over_held : {kind : Bool} {w h : ℕ} (t : List ℕ) {k : Block} {at : ℕ} → Fits kind w h (length t) k at → Held w (filled_with false w t k at) k at
over_held {w = w} t {k} {at} fits =
    let ps = map (place w) (curve k) in
    let long : length ps ≡ k.a * k.b = length-map (curve k) (place w) ∙ length_curve k fits.inside.sized in
    let room = fits.room in
    ap (λ zs. take (k.a * k.b) (drop at zs)) (numbers_entered t at ps (omega arith))
    ∙ ap (take (k.a * k.b)) (drop_at (take at t) (ps ++ drop (at + length ps) t) at (length-take-le at t (omega arith)))
    ∙ take_at ps (drop (at + length ps) t) (k.a * k.b) long

-- and stays there
middle : (from n : ℕ) (t : List ℕ) → from ≤ length t → take n (drop from t) ≡ drop from (take (from + n) t)
middle from n t l = sym (ap (drop from) (take-add from n t) ∙ drop_at (take from t) (take n (drop from t)) from (length-take-le from t l))

pub held_on : (w : ℕ) (t : List ℕ) (k : Block) (from n : ℕ) (ps : List ℕ) → from + k.a * k.b ≤ n → from ≤ length t
    → Held w t k from → Held w (over (enter_one false) t n ps) k from
held_on w t k from n ps l room held =
    let same = enter_length false t n ps in
    middle from (k.a * k.b) (over (enter_one false) t n ps) (omega arith)
    ∙ ap (drop from) (over_front (from + k.a * k.b) t n ps l)
    ∙ sym (middle from (k.a * k.b) t room)
    ∙ held
