-- One step of a search: the part that holds a square, with the square as that part has it. One law over the part, and for each cut which part it is.
use mathlib.Core.Bool.{Bool, true, false, cond}
use mathlib.Core.Path.{◌≡◌, refl, sym, ap, ap₂, subst, subst⁻¹, ◌∙◌}
use Prim.Native.Nat.{ℕ, ◌+◌, ◌-◌, ◌*◌, ◌/◌, ◌≤◌, ◌<◌}
use native.Mathlib.Nat.{add_assoc, sub_self, mul-le-mul}
use native.Mathlib.Omega.{arith}
use borrow.Author.Tests.{ltb-true, ltb-false}
use lib.Dec.{ltb}
use Rattle.terms.specs.Terms.{longest_side, past_32_bits}
use Rattle.division.specs.declared.Choice.TheVariants.{StraightRun, StraightSide, LongCut, UCut}
use Rattle.division.specs.declared.Spot.{Spot}
use Rattle.division.specs.Division.{square, whole, choice, even_half, First, Second, A, B, C, part, parts_of}
use Rattle.division.specs.Division.Inside.{Sized, x_y, Inside}
use Rattle.division.specs.Forms.{seen_in}
use Rattle.division.proofs.Cases.{long_lengths, u_lengths, run_length, side_length}
use Rattle.division.proofs.Blocks.{whole_inside, at_most_54}
use Rattle.division.proofs.Coordinates.{Within, whole_holds, seen_from}
use Rattle.division.proofs.Descent.{some_holding}
use Rattle.division.proofs.PartHolding.{Lies, in_first, in_second, in_a, in_b, in_c, squares_of, lies_smaller, lies_inside, lies_fits}
use Rattle.division.proofs.SameLengths.{area_run, area_side, area_cut}
use Rattle.division.proofs.WithinLimits.{a_limit, b_limit, SumsFit, sums_fit}
use Rattle.searches.specs.Searches.{numbered, spot_at, spot_number, spot_blocks, Lying, Leads, Searches}

sized_of : (s : Spot) {before : ℕ} → Lying s before → Sized (whole s.a s.b)
unfolding whole
sized_of s r = record { run = let l = r.along in omega arith; side = let l = r.across in omega arith }

module _ (s : Spot) (before : ℕ) (r : Lying s before) (two : 2 ≤ s.b) where
  leads : (lies : Lies s.a s.b (square s.u s.v)) (on : ℕ) → on ≡ before + squares_of s.a s.b lies.before
      → Leads s before (record
      { a = (part lies.name (whole s.a s.b)).a; b = (part lies.name (whole s.a s.b)).b; u = lies.there.x; v = lies.there.y }) on
  unfolding whole
  leads lies on is =
      let here = square s.u s.v in
      let k = whole s.a s.b in
      let q = part lies.name k in
      let a_least : 1 ≤ s.a = let l = r.along in omega arith in
      let b_least : 1 ≤ s.b = omega arith in
      let small = whole_inside s.a s.b a_least b_least in
      let large : Inside longest_side longest_side k =
      record { sized = small.sized; paired = x_y; run = let l = r.a_limit in omega arith; side = let l = r.b_limit in omega arith } in
      let q_inside = lies_inside longest_side longest_side k large two here lies in
      let less = (lies_smaller k small.sized here lies).two_thirds in
      let fits = lies_fits s.a s.b k small two here lies in
      let answers = area_cut s.a s.b a_least b_least here two lies in
      let q_area : 1 * 1 ≤ q.a * q.b = mul-le-mul q_inside.sized.run q_inside.sized.side in
      record {
        lying = record {
          a_limit = a_limit q q_inside;
          b_limit = b_limit q q_inside;
          along = lies.within.run;
          across = lies.within.side;
          room = let l = r.room in omega arith;
        };
        falls = omega arith;
        number = ap (λ n. n + spot_number (record { a = q.a; b = q.b; u = lies.there.x; v = lies.there.y })) is
            ∙ add_assoc before (squares_of s.a s.b lies.before) (spot_number (record { a = q.a; b = q.b; u = lies.there.x; v = lies.there.y }))
            ∙ ap (λ n. before + n) (sym answers.0);
        holding = answers.1;
      }

-- the part of a long cut that holds a spot, and the numbers before it
module _ {s : Spot} {before : ℕ} (r : Lying s before × (choice s.a s.b ≡ LongCut)) where
  pub long_two : (2 ≤ s.a) × (2 ≤ s.b)
  unfolding whole
  long_two = long_lengths (whole s.a s.b) (sized_of s r.0) r.1

  long_leads_by : (first : Bool) → ltb s.u (even_half s.a) ≡ first →
      Leads s before (seen_in (cond first First Second) s) (before + (s.u - (seen_in (cond first First Second) s).u) * s.b)
  unfolding squares_of part parts_of seen_from whole
  long_leads_by true t =
      leads s before r.0 long_two.1 (in_first s.a s.b (square s.u s.v) r.1 (ltb-true s.u (even_half s.a) t) r.0.across)
      (before + (s.u - s.u) * s.b) (rw sub_self (omega arith))
  long_leads_by false t =
      let from = ltb-false s.u (even_half s.a) t in
      let skip : s.u - (s.u - even_half s.a) ≡ even_half s.a = omega arith in
      leads s before r.0 long_two.1 (in_second s.a s.b (square s.u s.v) r.1 from r.0.along r.0.across)
      (before + (s.u - (s.u - even_half s.a)) * s.b) (rw skip (omega arith))

  pub long_leads : {t : Spot} → t ≡ seen_in (cond (ltb s.u (even_half s.a)) First Second) s → Leads s before t (before + (s.u - t.u) * s.b)
  long_leads is = subst⁻¹ (λ (t : Spot). Leads s before t (before + (s.u - t.u) * s.b)) is (long_leads_by (ltb s.u (even_half s.a)) refl)

-- the parts of a U cut that hold a spot, and the numbers before each
module _ {s : Spot} {before : ℕ} (r : Lying s before × (choice s.a s.b ≡ UCut)) where
  pub u_two : (2 ≤ s.a) × (2 ≤ s.b)
  unfolding whole
  u_two = u_lengths (whole s.a s.b) (sized_of s r.0) r.1

  module _ {e : ℕ} (half : e ≡ even_half s.b) where
    pub u_sums : SumsFit before s.a s.b e
    u_sums = sums_fit before s.a s.b e u_two.1 half r.0.room

    pub a_leads : {t : Spot} → t ≡ seen_in A s → s.v < e → s.u < s.a / 2 → Leads s before t before
    unfolding squares_of part parts_of seen_from whole
    a_leads is l m =
        subst⁻¹ (λ (t : Spot). Leads s before t before) is
        (leads s before r.0 u_two.1 (in_a s.a s.b (square s.u s.v) r.1 m (subst (λ (n : ℕ). s.v < n) half l)) before (omega arith))

    pub b_leads : {t : Spot} → t ≡ seen_in B s → e ≤ s.v → Leads s before t (before + e * (s.a / 2))
    unfolding squares_of part parts_of seen_from whole
    b_leads is l =
        subst⁻¹ (λ (t : Spot). Leads s before t (before + e * (s.a / 2))) is
        (leads s before r.0 u_two.1 (in_b s.a s.b (square s.u s.v) r.1 r.0.along (subst (λ (n : ℕ). n ≤ s.v) half l) r.0.across)
        (before + e * (s.a / 2)) (rw half (omega arith)))

    pub c_leads : {t : Spot} → t ≡ seen_in C s → s.v < e → s.a / 2 ≤ s.u → Leads s before t (before + e * (s.a / 2) + s.a * (s.b - e))
    unfolding squares_of part parts_of seen_from whole
    c_leads is l m =
        subst⁻¹ (λ (t : Spot). Leads s before t (before + e * (s.a / 2) + s.a * (s.b - e))) is
        (leads s before r.0 u_two.1 (in_c s.a s.b (square s.u s.v) r.1 m r.0.along (subst (λ (n : ℕ). s.v < n) half l))
        (before + e * (s.a / 2) + s.a * (s.b - e)) (rw half (omega arith)))

-- what a search asks and answers of a block
module _ {s : Spot} {before above : ℕ} (r : Searches s before above) where
  lies_in : Within s.a s.b (square s.u s.v)
  lies_in = record { run = r.lying.along; side = r.lying.across }

  -- a straight block alone holds its squares, each of which has its place in the row for its number
  pub run_answered : choice s.a s.b ≡ StraightRun → (before + s.u ≡ before + spot_number s) × (above + 1 ≡ above + spot_blocks s)
  unfolding whole
  run_answered c =
      let sized = sized_of s r.lying in
      let answers = area_run s.a s.b sized.run sized.side (square s.u s.v) lies_in c (run_length (whole s.a s.b) sized c) in
      (omega (arith, answers.0), omega (arith, answers.1))

  pub side_answered : choice s.a s.b ≡ StraightSide → (before + s.v ≡ before + spot_number s) × (above + 1 ≡ above + spot_blocks s)
  unfolding whole
  side_answered c =
      let sized = sized_of s r.lying in
      let answers = area_side s.a s.b sized.run sized.side (square s.u s.v) lies_in c (side_length (whole s.a s.b) sized c) in
      (omega (arith, answers.0), omega (arith, answers.1))

  pub counted : above + 1 < past_32_bits
  unfolding whole
  counted =
      let sized = sized_of s r.lying in
      let some = some_holding (whole s.a s.b) (square s.u s.v) sized (whole_holds s.a s.b (square s.u s.v) lies_in) in
      let few = r.count in
      omega arith

  -- a cut one is what its part answers
  module _ {t : Spot} {on : ℕ} (l : Leads s before t on) where
    counts : (above + 1) + spot_blocks t ≡ above + spot_blocks s
    counts = let more = l.holding in omega arith

    pub part_searches : Searches t on (above + 1)
    part_searches = record { lying = l.lying; count = let all = r.count in let sum = counts in omega arith }

    pub part_numbered : numbered (on + spot_number t) ((above + 1) + spot_blocks t) ≡ numbered (before + spot_number s) (above + spot_blocks s)
    part_numbered = ap₂ numbered l.number counts

pub ruleset part_answered = (part_searches, part_numbered)

-- an area is a block to search from: few blocks hold any square
pub searches_whole : (w h x y : ℕ) → Lying (spot_at w h x y) 0 → Searches (spot_at w h x y) 0 0
unfolding whole
searches_whole w h x y r =
    let sized = sized_of (spot_at w h x y) r in
    let most = at_most_54 w h sized.run r.a_limit sized.side r.b_limit (square x y) in
    record { lying = r; count = omega arith }
