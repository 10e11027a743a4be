-- A clerk as it counts: with an area that is accepted with its origin it counts as it is, with any other as one with no area. Every clerk that the library
-- makes, or that a line leaves, counts as it is.
use mathlib.Core.Bool.{Bool, true, false}
use mathlib.Core.List.{List}
use mathlib.Core.Path.{◌≡◌, refl, sym, ap, ◌∙◌}
use Prim.Native.Nat.{ℕ}
use lib.IntN.{ℤ}
use Rattle.terms.specs.declared.Area.{Area}
use Rattle.terms.specs.declared.Refusal.{Refusal}
use Rattle.terms.specs.Terms.{origin_accepted, at_post, grid_accepted}
use Rattle.terms.proofs.Limits.{grid_passed}
use Rattle.lines.specs.declared.Request.{Request}
use Rattle.lines.specs.declared.Request.TheVariants.{SetArea, SetOrigin, AskNumber, AskSquare}
use Rattle.lines.specs.Lines.{begins_setting, request}
use Rattle.std.specs.Prelude.{Some, None, Result, Ok, Err}
use Rattle.clerk.specs.Clerk as spec

module _ (area : Area) where
  pub in_force : grid_accepted area ≡ true → spec.clerk_under area ≡ Some area
  in_force on = rw on refl

  pub none_in_force : grid_accepted area ≡ false → spec.clerk_under area ≡ None
  none_in_force off = rw off refl

  -- an area that counts as in force is accepted, with its origin
  pub counts_accepted : spec.clerk_under area ≡ Some area → grid_accepted area ≡ true
  counts_accepted is = by (grid_accepted area) refl
    where
      by : (t : Bool) → grid_accepted area ≡ t → grid_accepted area ≡ true
      by true on = on
      by false off = cc (none_in_force off, is)

  -- "counts as none": a clerk made by hand with an area that is not accepted, or with such an origin, is in every line as one with no area, in what it
  -- replies and in what it leaves.
  pub none_by_hand : grid_accepted area ≡ false → (line : List ℕ)
      → (spec.reply (Some area) line ≡ spec.reply None line) × (spec.after (Some area) line ≡ spec.after None line)
  unfolding spec.reply spec.after
  none_by_hand off line =
      let none = none_in_force off in
      (ap (λ held. spec.reply_to held (request line)) none, ap (λ held. spec.clerk_after held (begins_setting line) (request line)) none)

-- A clerk that the library makes counts as it is:
pub made_counts : (area : Area) → spec.counted (spec.clerk_under area) ≡ spec.clerk_under area
made_counts area = by (grid_accepted area) refl
  where
    by : (t : Bool) → grid_accepted area ≡ t → spec.counted (spec.clerk_under area) ≡ spec.clerk_under area
    by true on = ap spec.counted (in_force area on)
    by false off = ap spec.counted (none_in_force area off) ∙ sym (none_in_force area off)

pub counted_counts : (clerk : spec.InForce) → spec.counted (spec.counted clerk) ≡ spec.counted clerk
counted_counts None = refl
counted_counts (Some area) = made_counts area

-- so does one that an ORIGIN line leaves, whose area was in force before,
origin_counts : (clerk : spec.InForce) → spec.counted clerk ≡ clerk → (ox oy : ℤ) → spec.counted (spec.with_origin clerk ox oy) ≡ spec.with_origin clerk ox oy
origin_counts None is ox oy = refl
origin_counts (Some area) is ox oy = by (origin_accepted ox oy) refl
  where
    by : (t : Bool) → origin_accepted ox oy ≡ t
        → spec.counted (spec.with_origin (Some area) ox oy) ≡ spec.with_origin (Some area) ox oy
    by true near = rw (near, (grid_passed area (counts_accepted area is)).0, near) refl
    by false far = rw far refl

-- and one that any line leaves, whatever clerk it came to.
pub left_counts : (clerk : spec.InForce) (line : List ℕ) → spec.counted (spec.after clerk line) ≡ spec.after clerk line
unfolding spec.after
left_counts clerk line = by (begins_setting line) (request line)
  where
    by : (begins : Bool) (q : Result Request Refusal)
        → spec.counted (spec.clerk_after (spec.counted clerk) begins q) ≡ spec.clerk_after (spec.counted clerk) begins q
    by begins (Ok (SetArea w h)) = made_counts (at_post w h)
    by begins (Ok (SetOrigin ox oy)) = origin_counts (spec.counted clerk) (counted_counts clerk) ox oy
    by begins (Ok (AskNumber i)) = counted_counts clerk
    by begins (Ok (AskSquare x y)) = counted_counts clerk
    by true (Err r) = refl
    by false (Err r) = counted_counts clerk

-- So an area that a line leaves in force is accepted with its origin.
pub left_accepted : (clerk : spec.InForce) (line : List ℕ) (area : Area) → spec.after clerk line ≡ Some area → grid_accepted area ≡ true
left_accepted clerk line area is = counts_accepted area (ap spec.counted (sym is) ∙ left_counts clerk line ∙ is)

-- A clerk that counts as one with an area in force has that area.
pub was_in_force : (clerk : spec.InForce) (area : Area) → spec.counted clerk ≡ Some area → clerk ≡ Some area
was_in_force None area is = is
was_in_force (Some a) area is = by (grid_accepted a) refl
  where
    by : (t : Bool) → grid_accepted a ≡ t → Some a ≡ Some area
    by true on = sym (in_force a on) ∙ is
    by false off = cc (none_in_force a off, is)
