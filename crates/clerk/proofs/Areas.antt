-- The documents' sentences on the area in force and its origin, for every clerk and every line: which lines set them, which clear the area, and that no other
-- alters it. A line says what it asks, so that no N or S line begins with AREA or ORIGIN, and every line that asks for one of these begins with it.
use mathlib.Core.Bool.{Bool, true, false, cond, ◌||◌, or-true, true≢false}
use mathlib.Core.List.{List, [], ◌∷◌, ◌++◌}
use mathlib.Core.Logic.{◌⊎◌, inl, inr}
use mathlib.Core.Path.{◌≡◌, refl, sym, ap, ap₂, ◌∙◌}
use Prim.Native.Nat.{ℕ, ◌-◌, ◌*◌}
use native.Mathlib.Omega.{arith}
use borrow.Author.Tests.{ne_eqb}
use lib.Dec.{eqb, lit<}
use lib.IntN.{ℤ, pos, nat_abs}
use lib.ListN.{get_or, take}
use lib.Seq.{get_or-take}
use Rattle.terms.specs.declared.Area.{Area}
use Rattle.terms.specs.declared.Refusal.{Refusal}
use Rattle.terms.specs.declared.Refusal.TheVariants.{OriginLimit}
use Rattle.terms.specs.Terms.{accepted, SignedFigures, signed, origin_accepted, at_post, grid_accepted}
use Rattle.curve.specs.Lookups.{number_to_square_at, square_to_number_at, finish_square_at}
use Rattle.curve.proofs.Moved.{finish_at_post}
use Rattle.curve.proofs.Refused.{finish_answered}
use Rattle.division.specs.Division.{whole, square_of}
use Rattle.terms.proofs.Limits.{both_accepted}
use Rattle.terms.proofs.Meanings.{lengths_exactly, squares_exactly}
use Rattle.lines.specs.declared.Request.{Request}
use Rattle.lines.specs.declared.Request.TheVariants.{SetArea, SetOrigin, AskNumber, AskSquare}
use Rattle.words.specs.Words.{begins, same_bytes}
use Rattle.lines.specs.Lines.{AREA, ORIGIN, begins_setting, request, Spelt, SpeltSigned, SaysTwo}
use Rattle.words.proofs.Same.{same_itself, same_true}
use Rattle.lines.proofs.Asking.{SaysIfAsked, says_so, area_spelt, origin_spelt}
use Rattle.std.specs.Prelude.{Some, None, Result, Ok, Err}
use Rattle.clerk.specs.Clerk as spec
use Rattle.clerk.proofs.Handling.{nth_number}
use Rattle.clerk.proofs.InForce.{in_force, was_in_force}

-- a reply with another word
call_other : (word : spec.Word) (f : SignedFigures) (b : Bool) (other : spec.Word) → (word ≡ other → ⊥) → (spec.Refused ≡ other → ⊥)
    → (cond b (spec.says word ([] ++ f.values)) (spec.says spec.Refused (pos f.refusal ∷ []))).word ≡ other → ⊥
call_other word f true other n m e = n e
call_other word f false other n m e = m e

under_other : (clerk : spec.InForce) (word : spec.Word) (f : Area → SignedFigures) (other : spec.Word) → (word ≡ other → ⊥) → (spec.Refused ≡ other → ⊥)
    → (spec.under clerk (λ area. spec.from_call word [] (f area))).word ≡ other → ⊥
under_other None word f other n m e = m e
under_other (Some area) word f other n m e = call_other word (f area) (eqb (f area).refusal 0) other n m e

-- what is said to an AREA line, by whether its area is accepted, and the clerk after it
abbrev to_area : ℕ → ℕ → spec.Said
to_area w h = spec.from_call spec.AreaSaid (pos w ∷ pos h ∷ pos (w * h) ∷ []) (finish_square_at (at_post w h))

module _ (w h : ℕ) where
  to_an_area : accepted w h ≡ true →
      let s = square_of (whole w h) (w * h - 1) in
      to_area w h ≡ spec.says spec.AreaSaid (pos w ∷ pos h ∷ pos (w * h) ∷ pos s.x ∷ pos s.y ∷ [])
  to_an_area ok = ap (spec.from_call spec.AreaSaid (pos w ∷ pos h ∷ pos (w * h) ∷ [])) (finish_at_post w h ok)

  to_no_area : accepted w h ≡ false → (to_area w h).word ≡ spec.Refused
  to_no_area bad = rw (ne_eqb (finish_square_at (at_post w h)).refusal 0 (λ e. true≢false (sym (found e) ∙ bad))) refl
    where
      found : (finish_square_at (at_post w h)).refusal ≡ 0 → accepted w h ≡ true
      found e =
          let told = (finish_answered (at_post w h)).0 e in
          both_accepted w h ((lengths_exactly w h).1 told.0) ((squares_exactly w h).1 told.1.0)

  set_there : accepted w h ≡ true → spec.clerk_under (at_post w h) ≡ Some (at_post w h)
  unfolding origin_accepted
  set_there ok = rw ok refl

  set_none : accepted w h ≡ false → spec.clerk_under (at_post w h) ≡ None
  set_none bad = rw bad refl

  refused_set : (to_area w h).word ≡ spec.Refused → accepted w h ≡ false
  refused_set e = by (accepted w h) refl
    where
      by : (t : Bool) → accepted w h ≡ t → accepted w h ≡ false
      by false p = p
      by true p = cc (ap (λ s. s.word) (to_an_area p))

  answered_set : ((to_area w h).word ≡ spec.Refused → ⊥) → accepted w h ≡ true
  answered_set n = by (accepted w h) refl
    where
      by : (t : Bool) → accepted w h ≡ t → accepted w h ≡ true
      by true p = p
      by false p = absurd (n (to_no_area p))

-- what is said to an ORIGIN line, by whether its origin is accepted
module _ (ox oy : ℤ) where
  to_an_origin : origin_accepted ox oy ≡ true → spec.origin_reply ox oy ≡ spec.says spec.OriginSaid (ox ∷ oy ∷ [])
  to_an_origin ok = rw ok refl

  refused_origin : (spec.origin_reply ox oy).word ≡ spec.Refused → origin_accepted ox oy ≡ false
  refused_origin e = by (origin_accepted ox oy) refl
    where
      by : (t : Bool) → origin_accepted ox oy ≡ t → origin_accepted ox oy ≡ false
      by false p = p
      by true p = cc (ap (λ s. s.word) (to_an_origin p))

  answered_origin : ((spec.origin_reply ox oy).word ≡ spec.Refused → ⊥) → origin_accepted ox oy ≡ true
  answered_origin n = by (origin_accepted ox oy) refl
    where
      by : (t : Bool) → origin_accepted ox oy ≡ t → origin_accepted ox oy ≡ true
      by true p = p
      by false p = absurd (n (rw p refl))

-- An area with another origin.
abbrev pub moved_to : Area → (ox oy : ℤ) → Area
moved_to area ox oy = record { w = area.w; h = area.h; ox = ox; oy = oy }

-- An AREA reply's width and height are the area then in force, at origin 0 0: "An accepted AREA line sets the area for the lines below it", and the origin
-- is "set to 0 0 by each accepted AREA line".
module _ (v u w h : ℕ) (rest : List ℤ) (e : to_area v u ≡ spec.says spec.AreaSaid (pos w ∷ pos h ∷ rest)) where
  set_by : (t : Bool) → accepted v u ≡ t → spec.clerk_under (at_post v u) ≡ Some (at_post w h)
  set_by true ok =
      let same = sym (to_an_area v u ok) ∙ e in
      set_there v u ok ∙ ap₂ (λ w h. Some (at_post w h)) (ap (λ s. nat_abs (nth_number 0 s)) same) (ap (λ s. nat_abs (nth_number 1 s)) same)
  set_by false bad = cc (to_no_area v u bad, ap (λ s. s.word) e)

left_set : (clerk : spec.InForce) (begins : Bool) (q : Result Request Refusal) (w h : ℕ) (rest : List ℤ)
    → spec.reply_to clerk q ≡ spec.says spec.AreaSaid (pos w ∷ pos h ∷ rest)
    → spec.clerk_after clerk begins q ≡ Some (at_post w h)
left_set clerk begins (Ok (SetArea v u)) w h rest e = set_by v u w h rest e (accepted v u) refl
left_set clerk begins (Ok (SetOrigin ox oy)) w h rest e = absurd (by clerk (origin_accepted ox oy) (ap (λ s. s.word) e))
  where
    by : (clerk : spec.InForce) (t : Bool)
        → (spec.under clerk (λ area. cond t (spec.says spec.OriginSaid (ox ∷ oy ∷ [])) (spec.refuses OriginLimit))).word ≡ spec.AreaSaid → ⊥
    by None t e = cc
    by (Some area) true e = cc
    by (Some area) false e = cc
left_set clerk begins (Ok (AskNumber i)) w h rest e =
    absurd (under_other clerk spec.Cell (λ area. number_to_square_at area i) spec.AreaSaid (λ z. cc) (λ z. cc) (ap (λ s. s.word) e))
left_set clerk begins (Ok (AskSquare x y)) w h rest e =
    absurd (under_other clerk spec.Number (λ area. signed (square_to_number_at area x y)) spec.AreaSaid (λ z. cc) (λ z. cc) (ap (λ s. s.word) e))
left_set clerk begins (Err r) w h rest e = cc (ap (λ s. s.word) e)

pub set_in_force : (clerk : spec.InForce) (line : List ℕ) (w h : ℕ) (rest : List ℤ) → spec.reply clerk line ≡ spec.says spec.AreaSaid (pos w ∷ pos h ∷ rest)
    → spec.after clerk line ≡ Some (at_post w h)
unfolding spec.reply spec.after
set_in_force clerk line w h rest e = left_set (spec.counted clerk) (begins_setting line) (request line) w h rest e

-- An accepted AREA line: it says AREA and two numbers, which are an area within the limit, and sets that at origin 0 0.
pub record Sets (clerk : spec.InForce) (line : List ℕ) : Type 0 where
  pub w : ℕ
  pub h : ℕ
  pub says : SaysTwo Spelt AREA w h line
  pub within : accepted w h ≡ true
  pub set : spec.after clerk line ≡ Some (at_post w h)

-- An accepted ORIGIN line: it says ORIGIN and two numbers, which are an origin within the range, and sets that for the area in force, which stays.
pub record SetsOrigin (clerk : spec.InForce) (line : List ℕ) : Type 0 where
  pub area : Area
  pub was : clerk ≡ Some area
  pub ox : ℤ
  pub oy : ℤ
  pub says : SaysTwo SpeltSigned ORIGIN ox oy line
  pub within : origin_accepted ox oy ≡ true
  pub set : spec.after clerk line ≡ Some (moved_to area ox oy)

-- A line whose first bytes are AREA, or ORIGIN.
abbrev pub Begun : List ℕ → Type 0
Begun line = (take 4 line ≡ AREA) ⊎ (take 6 line ≡ ORIGIN)

-- no line begins with a letter other than a word's and with the word
other_letter : (line said : List ℕ) → (get_or said 0 0 ≡ 65 → ⊥) → line ≡ said → take 4 line ≡ AREA → ⊥
other_letter line said other is area = other (ap (λ s. get_or s 0 0) (sym is) ∙ sym (get_or-take 4 line 0 0 (lit< tt)) ∙ ap (λ s. get_or s 0 0) area)

other_origin : (line said : List ℕ) → (get_or said 0 0 ≡ 79 → ⊥) → line ≡ said → take 6 line ≡ ORIGIN → ⊥
other_origin line said other is word = other (ap (λ s. get_or s 0 0) (sym is) ∙ sym (get_or-take 6 line 0 0 (lit< tt)) ∙ ap (λ s. get_or s 0 0) word)

not_begun : (line said : List ℕ) → (get_or said 0 0 ≡ 65 → ⊥) → (get_or said 0 0 ≡ 79 → ⊥) → line ≡ said → Begun line → ⊥
not_begun line said a o is (inl area) = other_letter line said a is area
not_begun line said a o is (inr word) = other_origin line said o is word

module _ (clerk : spec.InForce) (line : List ℕ) where
  begins_is : Begun line → begins_setting line ≡ true
  begins_is (inl area) = let is : begins line AREA ≡ true = ap (λ s. same_bytes s AREA) area ∙ same_itself AREA in rw is refl
  begins_is (inr word) = let is : begins line ORIGIN ≡ true = ap (λ s. same_bytes s ORIGIN) word ∙ same_itself ORIGIN in rw is (or-true (begins line AREA))

  begins_not : (Begun line → ⊥) → begins_setting line ≡ false
  begins_not other = by (begins line AREA) (begins line ORIGIN) refl refl
    where
      by : (t u : Bool) → begins line AREA ≡ t → begins line ORIGIN ≡ u → (begins line AREA || begins line ORIGIN) ≡ false
      by false false e f = rw (e, f) refl
      by true u e f = absurd (other (inl (same_true (take 4 line) AREA e)))
      by false true e f = absurd (other (inr (same_true (take 6 line) ORIGIN f)))

  -- "A refused line whose first four bytes are AREA leaves no area in force, for any reason of refusal", and "a refused line that begins with the bytes
  -- `ORIGIN` leaves no area in force".
  refused_by : (q : Result Request Refusal) → SaysIfAsked q line → Begun line → (spec.reply_to (spec.counted clerk) q).word ≡ spec.Refused
      → spec.clerk_after (spec.counted clerk) (begins_setting line) q ≡ None
  refused_by (Ok (SetArea w h)) b begun e = set_none w h (refused_set w h e)
  refused_by (Ok (SetOrigin ox oy)) b begun e = by (spec.counted clerk) e
    where
      by : (clerk : spec.InForce) → (spec.reply_to clerk (Ok (SetOrigin ox oy))).word ≡ spec.Refused → spec.with_origin clerk ox oy ≡ None
      by None e = refl
      by (Some area) e = rw (refused_origin ox oy e) refl
  refused_by (Ok (AskNumber i)) b begun e = absurd (not_begun line _ (λ z. omega arith) (λ z. omega arith) b.is begun)
  refused_by (Ok (AskSquare x y)) b begun e = absurd (not_begun line _ (λ z. omega arith) (λ z. omega arith) b.is begun)
  refused_by (Err r) b begun e = rw (begins_is begun) refl

  pub refused_leaves_none : Begun line → (spec.reply clerk line).word ≡ spec.Refused → spec.after clerk line ≡ None
  unfolding spec.reply spec.after
  refused_leaves_none = refused_by (request line) (says_so line)

  -- "No other line alters the area": a line that does not begin so leaves the clerk as it was, area and origin, or as it counted.
  other_by : (q : Result Request Refusal) → SaysIfAsked q line → (Begun line → ⊥)
      → spec.clerk_after (spec.counted clerk) (begins_setting line) q ≡ spec.counted clerk
  other_by (Ok (SetArea w h)) b other = absurd (other (inl (ap (take 4) b.is)))
  other_by (Ok (SetOrigin ox oy)) b other = absurd (other (inr (ap (take 6) b.is)))
  other_by (Ok (AskNumber i)) b other = refl
  other_by (Ok (AskSquare x y)) b other = refl
  other_by (Err r) b other = rw (begins_not other) refl

  pub others_alter_nothing : (Begun line → ⊥) → spec.after clerk line ≡ spec.counted clerk
  unfolding spec.after
  others_alter_nothing = other_by (request line) (says_so line)

  -- "An accepted AREA line sets the area for the lines below it": a line that begins so and is not refused sets exactly the area that it says.
  accepted_by : (q : Result Request Refusal) → request line ≡ q → SaysIfAsked q line → take 4 line ≡ AREA
      → ((spec.reply_to (spec.counted clerk) q).word ≡ spec.Refused → ⊥)
      → Sets clerk line
  unfolding spec.after
  accepted_by (Ok (SetArea w h)) is b area e =
      let ok = answered_set w h e in
      record { w = w; h = h; says = b; within = ok; set = ap (spec.clerk_after (spec.counted clerk) (begins_setting line)) is ∙ set_there w h ok }
  accepted_by (Ok (SetOrigin ox oy)) is b area e = absurd (other_letter line _ (λ z. omega arith) b.is area)
  accepted_by (Ok (AskNumber i)) is b area e = absurd (other_letter line _ (λ z. omega arith) b.is area)
  accepted_by (Ok (AskSquare x y)) is b area e = absurd (other_letter line _ (λ z. omega arith) b.is area)
  accepted_by (Err r) is b area e = absurd (e refl)

  pub accepted_sets : take 4 line ≡ AREA → ((spec.reply clerk line).word ≡ spec.Refused → ⊥) → Sets clerk line
  unfolding spec.reply
  accepted_sets = accepted_by (request line) refl (says_so line)

  -- "an origin (ox, oy) .., set by a line `ORIGIN ox oy`": a line that begins so and is not refused sets exactly the origin that it says.
  origin_by : (q : Result Request Refusal) → request line ≡ q → SaysIfAsked q line → take 6 line ≡ ORIGIN
      → ((spec.reply_to (spec.counted clerk) q).word ≡ spec.Refused → ⊥)
      → SetsOrigin clerk line
  unfolding spec.after
  origin_by (Ok (SetOrigin ox oy)) is b word e = by (spec.counted clerk) refl e
    where
      by : (held : spec.InForce) → spec.counted clerk ≡ held → ((spec.reply_to held (Ok (SetOrigin ox oy))).word ≡ spec.Refused → ⊥) → SetsOrigin clerk line
      by None was e = absurd (e refl)
      by (Some area) was e =
          let ok = answered_origin ox oy e in
          record {
            area = area;
            was = was_in_force clerk area was;
            ox = ox;
            oy = oy;
            says = b;
            within = ok;
            set = ap₂ (λ held q. spec.clerk_after held (begins_setting line) q) was is ∙ rw ok refl;
          }
  origin_by (Ok (SetArea w h)) is b word e = absurd (other_origin line _ (λ z. omega arith) b.is word)
  origin_by (Ok (AskNumber i)) is b word e = absurd (other_origin line _ (λ z. omega arith) b.is word)
  origin_by (Ok (AskSquare x y)) is b word e = absurd (other_origin line _ (λ z. omega arith) b.is word)
  origin_by (Err r) is b word e = absurd (e refl)

  pub accepted_origin_sets : take 6 line ≡ ORIGIN → ((spec.reply clerk line).word ≡ spec.Refused → ⊥) → SetsOrigin clerk line
  unfolding spec.reply
  accepted_origin_sets = origin_by (request line) refl (says_so line)

-- So the line `AREA w h` of every area within the limit, in whichever spellings, sets that area at origin 0 0, whatever was in force.
pub area_line_sets : (clerk : spec.InForce) (w h : ℕ) → accepted w h ≡ true → (line : List ℕ) → SaysTwo Spelt AREA w h line
    → spec.after clerk line ≡ Some (at_post w h)
unfolding spec.after
area_line_sets clerk w h ok line says = ap (spec.clerk_after (spec.counted clerk) (begins_setting line)) (area_spelt w h line says) ∙ set_there w h ok

-- And the line `ORIGIN ox oy` of every origin within the range sets that, whatever the origin was: it does not add.
pub origin_line_sets : (area : Area) → grid_accepted area ≡ true → (ox oy : ℤ) → origin_accepted ox oy ≡ true → (line : List ℕ)
    → SaysTwo SpeltSigned ORIGIN ox oy line → spec.after (Some area) line ≡ Some (moved_to area ox oy)
unfolding spec.after
origin_line_sets area on ox oy ok line says =
    ap₂ (λ held q. spec.clerk_after held (begins_setting line) q) (in_force area on) (origin_spelt ox oy line says) ∙ rw ok refl
