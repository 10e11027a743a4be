-- The walks' tally along the curve is the definition's runs: runs so far are kept last first, each number taken up lengthens the first of them or comes
-- before it, and behind the walk, turned about, they are the runs that the definition makes from the other end.
use mathlib.Core.Bool.{Bool, true, false, cond}
use mathlib.Core.List.{List, [], ◌∷◌, ◌++◌}
use mathlib.Core.Path.{◌≡◌, refl, sym, ap, ap₂, ◌∙◌}
use Prim.Native.Nat.{ℕ, suc, ◌+◌, ◌-◌, ◌*◌, ◌≤◌}
use native.Mathlib.Nat.{le_refl, zero-add}
use native.Mathlib.Omega.{arith}
use borrow.Author.Tests.{eqb-true, eqb-false, eq-eqb, ne_eqb}
use lib.Dec.{eqb}
use lib.ListN.{length, drop, set, length-drop}
use lib.Seq.{drop-drop}
use Rattle.std.specs.Prelude.{Option, Some, None}
use Rattle.division.specs.Division.{Square}
use Rattle.panes.specs.Panes.{Tally, tally, none, follows, joined, over}
use Rattle.panes.proofs.Stretches.{joined_by, over_bare}
use Rattle.windows.specs.Windows.{Run, run, ahead, runs_from, pairs, written}

-- a run put ahead of runs, as a number is
onto : Run → List Run → List Run
onto r [] = r ∷ []
onto r (s ∷ ss) = cond (eqb s.first (r.last + 1)) (run r.first s.last ∷ ss) (r ∷ s ∷ ss)

onto_ahead : (n : ℕ) (ss : List Run) → onto (run n n) ss ≡ ahead n ss
unfolding onto ahead
onto_ahead n [] = refl
onto_ahead n (s ∷ ss) = refl

-- runs kept last first, turned about and put before others
turned : List Run → List Run → List Run
turned [] ss = ss
turned (r ∷ rs) ss = turned rs (r ∷ ss)

glued : List Run → List Run → List Run
glued [] ss = ss
glued (r ∷ rs) ss = turned rs (onto r ss)

-- one number more, behind them
added : List Run → ℕ → List Run
added [] n = run n n ∷ []
added (r ∷ rs) n = cond (eqb (r.last + 1) n) (run r.first n ∷ rs) (run n n ∷ r ∷ rs)

walked : (Square → Bool) → List Run → ℕ → List Square → List Run
walked test rs n [] = rs
walked test rs n (s ∷ ss) = walked test (cond (test s) (added rs n) rs) (suc n) ss

-- a number behind a run, ahead of others
lengthened_onto : (r : Run) (n : ℕ) (ss : List Run) → r.last + 1 ≡ n → onto (run r.first n) ss ≡ onto r (ahead n ss)
unfolding onto ahead
lengthened_onto r n [] e = rw (eq-eqb n (r.last + 1) (sym e))
lengthened_onto r n (s ∷ ss) e = by (eqb s.first (n + 1))
  where
    by : (t : Bool) → cond t (run r.first s.last ∷ ss) (run r.first n ∷ s ∷ ss) ≡ onto r (cond t (run n s.last ∷ ss) (run n n ∷ s ∷ ss))
    by true = rw (eq-eqb n (r.last + 1) (sym e))
    by false = rw (eq-eqb n (r.last + 1) (sym e))

apart_onto : (r : Run) (n : ℕ) (ss : List Run) → (r.last + 1 ≡ n → ⊥) → r ∷ ahead n ss ≡ onto r (ahead n ss)
unfolding onto ahead
apart_onto r n [] other = rw (ne_eqb n (r.last + 1) (λ e. other (sym e)))
apart_onto r n (s ∷ ss) other = by (eqb s.first (n + 1))
  where
    by : (t : Bool) → r ∷ cond t (run n s.last ∷ ss) (run n n ∷ s ∷ ss) ≡ onto r (cond t (run n s.last ∷ ss) (run n n ∷ s ∷ ss))
    by true = rw (ne_eqb n (r.last + 1) (λ e. other (sym e)))
    by false = rw (ne_eqb n (r.last + 1) (λ e. other (sym e)))

added_glued : (rs : List Run) (n : ℕ) (ss : List Run) → glued (added rs n) ss ≡ glued rs (ahead n ss)
unfolding glued added turned
added_glued [] n ss = onto_ahead n ss
added_glued (r ∷ rs) n ss = by (eqb (r.last + 1) n) refl
  where
    by : (t : Bool) → eqb (r.last + 1) n ≡ t → glued (cond t (run r.first n ∷ rs) (run n n ∷ r ∷ rs)) ss ≡ turned rs (onto r (ahead n ss))
    by true e = ap (turned rs) (lengthened_onto r n ss (eqb-true (r.last + 1) n e))
    by false e = ap (λ xs. turned rs (r ∷ xs)) (onto_ahead n ss) ∙ ap (turned rs) (apart_onto r n ss (eqb-false (r.last + 1) n e))

walked_glued : (test : Square → Bool) (rs : List Run) (n : ℕ) (ss : List Square) → glued (walked test rs n ss) [] ≡ glued rs (runs_from test n ss)
unfolding walked runs_from
walked_glued test rs n [] = refl
walked_glued test rs n (s ∷ ss) = walked_glued test (cond (test s) (added rs n) rs) (suc n) ss ∙ by (test s)
  where
    by : (t : Bool) → glued (cond t (added rs n) rs) (runs_from test (suc n) ss)
        ≡ glued rs (cond t (ahead n (runs_from test (suc n) ss)) (runs_from test (suc n) ss))
    by true = added_glued rs n (runs_from test (suc n) ss)
    by false = refl

glued_turned : (rs : List Run) → glued rs [] ≡ turned rs []
unfolding glued turned onto
glued_turned [] = refl
glued_turned (r ∷ rs) = refl

walked_runs : (test : Square → Bool) (n : ℕ) (ss : List Square) → turned (walked test [] n ss) [] ≡ runs_from test n ss
unfolding glued
walked_runs test n ss = sym (glued_turned (walked test [] n ss)) ∙ walked_glued test [] n ss

turned_length : (rs ss : List Run) → length (turned rs ss) ≡ length rs + length ss
unfolding turned
turned_length [] ss = sym (zero-add (length ss))
turned_length (r ∷ rs) ss = turned_length rs (r ∷ ss) ∙ omega arith

-- What is told of runs: how many, the number behind the last, and the slice with their pairs in front of the rest.
end_of : List Run → Option ℕ
end_of [] = None
end_of (r ∷ rs) = Some (r.last + 1)

pairs_before : List Run → List ℕ → List ℕ
pairs_before [] l = l
pairs_before (r ∷ rs) l = pairs_before rs (r.first ∷ r.last ∷ l)

abbrev state : List Run → List ℕ → Tally
state rs pairs = tally (length rs) (end_of rs) pairs

abbrev tallied : List Run → List ℕ → Tally
tallied rs l = state rs (pairs_before rs (drop (2 * length rs) l))

pairs_turned : (rs ss : List Run) (l : List ℕ) → pairs_before rs (pairs ss ++ l) ≡ pairs (turned rs ss) ++ l
unfolding pairs_before turned pairs
pairs_turned [] ss l = refl
pairs_turned (r ∷ rs) ss l = pairs_turned rs (r ∷ ss) l

set_before : (rs : List Run) (l : List ℕ) (k v : ℕ) → set (pairs_before rs l) (2 * length rs + k) v ≡ pairs_before rs (set l k v)
unfolding pairs_before
set_before [] l k v = ap (λ i. set l i v) (zero-add k)
set_before (r ∷ rs) l k v =
    ap (λ i. set (pairs_before rs (r.first ∷ r.last ∷ l)) i v) on ∙ set_before rs (r.first ∷ r.last ∷ l) (suc (suc k)) v
  where
    on : 2 * suc (length rs) + k ≡ 2 * length rs + suc (suc k)
    on = omega arith

-- one number more, without pairs
added_state : (rs : List Run) (n : ℕ) → joined (state rs []) n (n + 1) ≡ state (added rs n) []
unfolding added end_of
added_state [] n = joined_by (tally 0 None []) n (n + 1) false refl
added_state (r ∷ rs) n = by (eqb (r.last + 1) n) refl
  where
    by : (t : Bool) → eqb (r.last + 1) n ≡ t
        → joined (tally (suc (length rs)) (Some (r.last + 1)) []) n (n + 1) ≡ state (cond t (run r.first n ∷ rs) (run n n ∷ r ∷ rs)) []
    by true e = joined_by (tally (suc (length rs)) (Some (r.last + 1)) []) n (n + 1) true e
    by false e =
        joined_by (tally (suc (length rs)) (Some (r.last + 1)) []) n (n + 1) false e
        ∙ ap (λ k. tally k (Some (n + 1)) []) (let k : suc (length rs) + 1 ≡ suc (suc (length rs)) = omega arith in k)

-- and the pairs: a new run's behind those of the runs so far, or the last number of a run that is lengthened
two_set : (l : List ℕ) (n : ℕ) → 2 ≤ length l → set (set l 0 n) 1 n ≡ n ∷ n ∷ drop 2 l
two_set [] n r = absurd (omega arith)
two_set (x ∷ []) n r = absurd (omega arith)
two_set (x ∷ y ∷ l) n r = refl

new_tallied : (rs : List Run) (n : ℕ) (l : List ℕ) → follows (tallied rs l) n ≡ false → 2 * suc (length rs) ≤ length l
    → joined (tallied rs l) n (n + 1) ≡ tallied (run n n ∷ rs) l
unfolding end_of pairs_before
new_tallied rs n l other room =
    let rest = drop (2 * length rs) l in
    let long : length rest ≡ length l - 2 * length rs = length-drop (2 * length rs) l in
    let more : length rs + 1 ≡ suc (length rs) = omega arith in
    let first : 2 * length rs ≡ 2 * length rs + 0 = omega arith in
    let second : 2 * (length rs + 1) - 1 ≡ 2 * length rs + 1 = omega arith in
    let last : n + 1 - 1 ≡ n = omega arith in
    let on : 2 * length rs + 2 ≡ 2 * suc (length rs) = omega arith in
    joined_by (tallied rs l) n (n + 1) false other
    ∙ ap₂ (λ k xs. tally k (Some (n + 1)) xs) more
    ((λ i. set (set (pairs_before rs rest) (first i) n) (second i) (last i))
    ∙ ap (λ xs. set xs (2 * length rs + 1) n) (set_before rs rest 0 n)
    ∙ set_before rs (set rest 0 n) 1 n
    ∙ ap (pairs_before rs) (two_set rest n (omega arith) ∙ ap (λ xs. n ∷ n ∷ xs) (drop-drop 2 (2 * length rs) l ∙ ap (λ k. drop k l) on)))

longer_tallied : (r : Run) (rs : List Run) (n : ℕ) (l : List ℕ) → eqb (r.last + 1) n ≡ true
    → joined (tallied (r ∷ rs) l) n (n + 1) ≡ tallied (run r.first n ∷ rs) l
unfolding end_of pairs_before
longer_tallied r rs n l is =
    let rest = drop (2 * suc (length rs)) l in
    let place : 2 * suc (length rs) - 1 ≡ 2 * length rs + 1 = omega arith in
    let last : n + 1 - 1 ≡ n = omega arith in
    joined_by (tallied (r ∷ rs) l) n (n + 1) true is
    ∙ ap (tally (suc (length rs)) (Some (n + 1)))
    ((λ i. set (pairs_before rs (r.first ∷ r.last ∷ rest)) (place i) (last i)) ∙ set_before rs (r.first ∷ r.last ∷ rest) 1 n)

added_tallied : (rs : List Run) (n : ℕ) (l : List ℕ) → 2 * length (added rs n) ≤ length l → joined (tallied rs l) n (n + 1) ≡ tallied (added rs n) l
unfolding added end_of
added_tallied [] n l room = new_tallied [] n l refl room
added_tallied (r ∷ rs) n l room = by (eqb (r.last + 1) n) refl room
  where
    by : (t : Bool) → eqb (r.last + 1) n ≡ t → 2 * length (cond t (run r.first n ∷ rs) (run n n ∷ r ∷ rs)) ≤ length l
        → joined (tallied (r ∷ rs) l) n (n + 1) ≡ tallied (cond t (run r.first n ∷ rs) (run n n ∷ r ∷ rs)) l
    by true e room = longer_tallied r rs n l e
    by false e room = new_tallied (r ∷ rs) n l e room

-- no run is lost
added_more : (rs : List Run) (n : ℕ) → length rs ≤ length (added rs n)
unfolding added
added_more [] n = omega arith
added_more (r ∷ rs) n = by (eqb (r.last + 1) n)
  where
    by : (t : Bool) → length (r ∷ rs) ≤ length (cond t (run r.first n ∷ rs) (run n n ∷ r ∷ rs))
    by true = omega arith
    by false = omega arith

walked_more : (test : Square → Bool) (rs : List Run) (n : ℕ) (ss : List Square) → length rs ≤ length (walked test rs n ss)
unfolding walked
walked_more test rs n [] = le_refl (length rs)
walked_more test rs n (s ∷ ss) = by (test s) (λ qs. walked_more test qs (suc n) ss)
  where
    by : (t : Bool) → ((qs : List Run) → length qs ≤ length (walked test qs (suc n) ss)) → length rs ≤ length (walked test (cond t (added rs n) rs) (suc n) ss)
    by true more = let one = added_more rs n in let rest = more (added rs n) in omega arith
    by false more = more rs

-- the whole walk: what is told without pairs, and with room its pairs
walked_state : (test : Square → Bool) (rs : List Run) (n : ℕ) (ss : List Square) → over test (state rs []) n ss ≡ state (walked test rs n ss) []
unfolding walked over
walked_state test rs n [] = refl
walked_state test rs n (s ∷ ss) = ap (λ t. over test t (suc n) ss) (by (test s)) ∙ walked_state test (cond (test s) (added rs n) rs) (suc n) ss
  where
    by : (b : Bool) → cond b (joined (state rs []) n (n + 1)) (state rs []) ≡ state (cond b (added rs n) rs) []
    by true = added_state rs n
    by false = refl

walked_tallied : (test : Square → Bool) (rs : List Run) (n : ℕ) (ss : List Square) (l : List ℕ) → 2 * length (walked test rs n ss) ≤ length l
    → over test (tallied rs l) n ss ≡ tallied (walked test rs n ss) l
unfolding walked over
walked_tallied test rs n [] l room = refl
walked_tallied test rs n (s ∷ ss) l room =
    ap (λ t. over test t (suc n) ss) (by (test s) more) ∙ walked_tallied test (cond (test s) (added rs n) rs) (suc n) ss l room
  where
    more : 2 * length (cond (test s) (added rs n) rs) ≤ length l
    more = let rest = walked_more test (cond (test s) (added rs n) rs) (suc n) ss in omega arith

    by : (b : Bool) → 2 * length (cond b (added rs n) rs) ≤ length l
        → cond b (joined (tallied rs l) n (n + 1)) (tallied rs l) ≡ tallied (cond b (added rs n) rs) l
    by true room = added_tallied rs n l room
    by false room = refl

-- What a walk over all squares of a list comes to: as many runs as the definition has, and their pairs in front of the rest.
module _ (test : Square → Bool) (ss : List Square) (l : List ℕ) where
  many : length (walked test [] 0 ss) ≡ length (runs_from test 0 ss)
  many = let long = turned_length (walked test [] 0 ss) [] in let is = ap length (walked_runs test 0 ss) in omega arith

  pub counted_runs : (over test (none l) 0 ss).count ≡ length (runs_from test 0 ss)
  unfolding end_of
  counted_runs = ap (λ t. t.count) (over_bare test (none l) 0 ss ∙ walked_state test [] 0 ss) ∙ many

  pub written_runs : 2 * length (runs_from test 0 ss) ≤ length l → (over test (none l) 0 ss).pairs ≡ written (runs_from test 0 ss) l
  unfolding end_of pairs_before written pairs
  written_runs room =
      let same = many in
      let rs = walked test [] 0 ss in
      ap (λ t. t.pairs) (walked_tallied test [] 0 ss l (omega arith))
      ∙ pairs_turned rs [] (drop (2 * length rs) l)
      ∙ ap₂ (λ qs k. pairs qs ++ drop (2 * k) l) (walked_runs test 0 ss) same
