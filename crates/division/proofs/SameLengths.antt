-- The division in local coordinates, u along a block's run and v along its side: number, square and count of blocks depend on the lengths alone,
-- so that a block of lengths a and b answers as the a by b area does. By induction over blocks: (u, v) lies in one part, at (u', v') of it.
use mathlib.Core.List.{List, [], ◌∷◌, map}
use mathlib.Core.Path.{◌≡◌, refl, sym, ap, ap₂, subst, subst⁻¹, ◌∙◌}
use Prim.Native.Nat.{ℕ, suc, ◌+◌, ◌≤◌, ◌<◌}
use native.Mathlib.Nat.{mul-one, one-mul}
use native.Mathlib.Omega.{arith}
use lib.ListN.{length, length-map}
use lib.Seq.{ext_get_or}
use Rattle.division.specs.declared.Choice.TheVariants.{StraightRun, StraightSide}
use Rattle.division.specs.Division.{Square, square, Block, whole, choice, Part, First, Second, A, B, C, part, parts, parts_of}
use Rattle.division.specs.Division.{moved, curve, blocks, blocks_holding, square_of, number_of}
use Rattle.division.specs.Division.Inside.{Sized, Inside}
use Rattle.division.proofs.Rules.{All, Chosen, is_run, is_side, is_long, is_u, chosen, parts_are}
use Rattle.division.proofs.Cases.{induction, rule}
use Rattle.division.proofs.Plane.{moved_none}
use Rattle.division.proofs.Sums.{total, all_right}
use Rattle.division.proofs.Cuts.{area}
use Rattle.division.proofs.EachSquareOnce.{length_curve, square_held, square_of_number, number_of_square}
use Rattle.division.proofs.Blocks.{blocks_length, whole_inside}
use Rattle.division.proofs.Descent.{run_square, side_square, straight_holding, number_in, holding_in}
use Rattle.division.proofs.Coordinates.{spot, Within, spot_whole, spot_held, spot_part, whole_within}
use Rattle.division.proofs.PartHolding.{Lies, squares_of, squares_in, lies_parts, lies_within, lies_inside, lies_long, lies_u}
use Rattle.division.proofs.PlaceInList.{getD_map_in}

-- a block with another's lengths
abbrev resized : Block → Block → Block
resized j k = record { start = j.start; run = j.run; a = k.a; side = j.side; b = k.b }

-- a part's lengths depend on its block's lengths alone
part_resized : (j k : Block) (p : Part) → part p (resized j k) ≡ resized (part p (resized j k)) (part p k)
unfolding part
part_resized j k First = refl
part_resized j k Second = refl
part_resized j k A = refl
part_resized j k B = refl
part_resized j k C = refl

-- what a block answers at (u, v): the number of the square there, and how many blocks hold it
pub record Answer (j : Block) (s : Square) (number holding : ℕ) : Type 0 where
  pub number_is : number_of j (spot j s) ≡ number
  pub holding_is : blocks_holding j (spot j s) ≡ holding

-- in a straight block the number is how far along the square lies, and the block alone holds it
module _ (w h : ℕ) (k : Block) (i : Inside w h k) (s : Square) (l : Within k.a k.b s) where
  run_answer : choice k.a k.b ≡ StraightRun → k.b ≡ 1 → Answer k s s.x 1
  unfolding parts_of spot
  run_answer e b =
      let c = (rule k StraightRun i.sized e).0 in
      let z : s.y ≡ 0 = let across = l.side in omega arith in
      let there : spot k s ≡ square_of k s.x =
      ap (λ n. moved k.side n (moved k.run s.x k.start)) z
      ∙ moved_none k.side (moved k.run s.x k.start)
      ∙ sym (run_square k c s.x l.run) in
      record {
        number_is = ap (number_of k) there ∙ number_of_square w h k i s.x (rw (b, mul-one) l.run);
        holding_is = straight_holding k (spot k s) i.sized (parts_are k StraightRun e) (spot_held w h k i s l);
      }

  side_answer : choice k.a k.b ≡ StraightSide → k.a ≡ 1 → Answer k s s.y 1
  unfolding parts_of spot
  side_answer e a =
      let c = (rule k StraightSide i.sized e).0 in
      let z : s.x ≡ 0 = let along = l.run in omega arith in
      let there : spot k s ≡ square_of k s.y =
      ap (λ n. moved k.side s.y (moved k.run n k.start)) z
      ∙ ap (moved k.side s.y) (moved_none k.run k.start)
      ∙ sym (side_square k c s.y l.side) in
      record {
        number_is = ap (number_of k) there ∙ number_of_square w h k i s.y (rw (a, one-mul) l.side);
        holding_is = straight_holding k (spot k s) i.sized (parts_are k StraightSide e) (spot_held w h k i s l);
      }

-- in a cut block the number is what the part says, after the parts before it, and one block more holds the square
module _ (w h : ℕ) (j : Block) (i : Inside w h j) (two : 2 ≤ j.b) (s : Square) (lies : Lies j.a j.b s) where
  cut_answer : (n m : ℕ) → Answer (part lies.name j) lies.there n m → Answer j s (squares_of j.a j.b lies.before + n) (suc m)
  cut_answer n m answer =
      let q = part lies.name j in
      let before = map (λ p. part p j) lies.before in
      let after = map (λ p. part p j) lies.after in
      let l = lies_within j s lies in
      let there : spot j s ≡ spot q lies.there = ap (spot j) (sym lies.back) ∙ sym (spot_part w h j i lies.name lies.there two l) in
      let held = spot_held w h q (lies_inside w h j i two s lies) lies.there l in
      record {
        number_is = ap (number_of j) there
            ∙ number_in w h j i before q after (lies_parts j s lies) (spot q lies.there) held
            ∙ ap₂ ◌+◌ (squares_in j lies.before) answer.number_is;
        holding_is = ap (blocks_holding j) there
            ∙ holding_in w h j i before q after (lies_parts j s lies) (spot q lies.there) held
            ∙ ap suc answer.holding_is;
      }

-- the answer is the same wherever a block of these lengths stands
abbrev Everywhere : Block → Type 0
Everywhere k =
    (s : Square) → Within k.a k.b s → (n : ℕ) × (m : ℕ) × ((w h : ℕ) (j : Block) → Inside w h (resized j k) → Answer (resized j k) s n m)

everywhere_cut : (k : Block) → All Everywhere (parts k) → 2 ≤ k.b → (s : Square) (lies : Lies k.a k.b s)
    → (n : ℕ) × (m : ℕ) × ((w h : ℕ) (j : Block) → Inside w h (resized j k) → Answer (resized j k) s n m)
everywhere_cut k all two s lies =
    let p = lies.name in
    let part_all : Everywhere (part p k) =
    (all_right Everywhere (map (λ p. part p k) lies.before) (part p k ∷ map (λ p. part p k) lies.after)
    (subst (All Everywhere) (lies_parts k s lies) all)).0 in
    let answers = part_all lies.there (lies_within k s lies) in (
      squares_of k.a k.b lies.before + answers.0,
      suc answers.1,
      λ w h j i.
          cut_answer w h (resized j k) i two s lies answers.0 answers.1
          (subst⁻¹ (λ (q : Block). Answer q lies.there answers.0 answers.1) (part_resized j k p)
          (answers.2 w h (part p (resized j k)) (subst (Inside w h) (part_resized j k p) (lies_inside w h (resized j k) i two s lies)))),
    )

everywhere_by : (k : Block) → Sized k → All Everywhere (parts k) → Chosen k.a k.b → Everywhere k
everywhere_by k z all (is_run e b) s l = (s.x, 1, λ w h j i. run_answer w h (resized j k) i s l e b)
everywhere_by k z all (is_side e a b) s l = (s.y, 1, λ w h j i. side_answer w h (resized j k) i s l e a)
everywhere_by k z all (is_long e a b t) s l = everywhere_cut k all b s (lies_long k.a k.b s l e)
everywhere_by k z all (is_u e a b t) s l = everywhere_cut k all b s (lies_u k.a k.b s l e)

everywhere : (k : Block) → Sized k → Everywhere k
everywhere = induction Everywhere (λ k z all. everywhere_by k z all (chosen k z))

-- as many blocks wherever a block of these lengths stands
abbrev AsMany : Block → Type 0
AsMany k = (j : Block) → length (blocks (resized j k)) ≡ length (blocks k)

parts_as_many : (j k : Block) (ps : List Part) → All AsMany (map (λ p. part p k) ps)
    → total (λ q. length (blocks q)) (map (λ p. part p (resized j k)) ps) ≡ total (λ q. length (blocks q)) (map (λ p. part p k) ps)
parts_as_many j k [] all = refl
parts_as_many j k (p ∷ ps) all =
    ap₂ ◌+◌ (ap (λ q. length (blocks q)) (part_resized j k p) ∙ all.0 (part p (resized j k))) (parts_as_many j k ps all.1)

as_many : (k : Block) → Sized k → All AsMany (parts k) → AsMany k
unfolding parts
as_many k z all j =
    blocks_length (resized j k) (record { run = z.run; side = z.side })
    ∙ ap (λ n. 1 + n) (parts_as_many j k (parts_of (choice k.a k.b)) all)
    ∙ sym (blocks_length k z)

-- Blocks of the same lengths have equally many blocks.
pub count_alike : (j k : Block) → Sized k → j.a ≡ k.a → j.b ≡ k.b → length (blocks j) ≡ length (blocks k)
count_alike j k z same_a same_b =
    (λ i. length (blocks (record { start = j.start; run = j.run; a = same_a i; side = j.side; b = same_b i })))
    ∙ induction AsMany as_many k z j

-- A block of lengths a and b answers at (u, v) as the a by b area does.
pub alike : (w h : ℕ) (k : Block) → Inside w h k → (s : Square) → Within k.a k.b s
    → Answer k s (number_of (whole k.a k.b) s) (blocks_holding (whole k.a k.b) s)
unfolding whole
alike w h k i s l =
    let answers = everywhere k i.sized s l in
    let here = answers.2 w h k i in
    let there = answers.2 k.a k.b (whole k.a k.b) (whole_inside k.a k.b i.sized.run i.sized.side) in
    let is : spot (whole k.a k.b) s ≡ s = spot_whole k.a k.b s in
    record {
      number_is = here.number_is ∙ sym there.number_is ∙ ap (number_of (whole k.a k.b)) is;
      holding_is = here.holding_is ∙ sym there.holding_is ∙ ap (blocks_holding (whole k.a k.b)) is;
    }

-- The one law that ties the local form to the placed blocks: a block's curve is that of the a by b area, each (u, v) put where it lies.
pub square_alike : (w h : ℕ) (k : Block) → Inside w h k → (n : ℕ) → n < area k → square_of k n ≡ spot k (square_of (whole k.a k.b) n)
unfolding whole
square_alike w h k i n l =
    let all = whole k.a k.b in
    let all_inside = whole_inside k.a k.b i.sized.run i.sized.side in
    let s = square_of all n in
    let within = whole_within k.a k.b s (square_held k.a k.b all all_inside n l) in
    ap (square_of k) (sym ((alike w h k i s within).number_is ∙ number_of_square k.a k.b all all_inside n l))
    ∙ square_of_number w h k i (spot k s) (spot_held w h k i s within)

pub curve_alike : (w h : ℕ) (k : Block) → Inside w h k → curve k ≡ map (spot k) (curve (whole k.a k.b))
unfolding square_of whole
curve_alike w h k i =
    let all = whole k.a k.b in
    let all_length = length_curve all (whole_inside k.a k.b i.sized.run i.sized.side).sized in
    let k_length = length_curve k i.sized in
    ext_get_or (square 0 0) (curve k) (map (spot k) (curve all)) (k_length ∙ sym (length-map (curve all) (spot k) ∙ all_length))
    (λ n l. let below : n < area k = subst (λ (m : ℕ). n < m) k_length l in
    square_alike w h k i n below
    ∙ sym (getD_map_in (spot k) (curve all) n (square 0 0) (square 0 0) (subst⁻¹ (λ (m : ℕ). n < m) all_length below)))

-- what an area answers at (u, v), by its case: the steps of a search that needs no start and no direction
module _ (a b : ℕ) (pa : 1 ≤ a) (pb : 1 ≤ b) (s : Square) where
  all : Inside a b (whole a b)
  all = whole_inside a b pa pb

  at_whole : (n m : ℕ) → Answer (whole a b) s n m → (number_of (whole a b) s ≡ n) × (blocks_holding (whole a b) s ≡ m)
  at_whole n m answer =
      (ap (number_of (whole a b)) (sym (spot_whole a b s)) ∙ answer.number_is, ap (blocks_holding (whole a b)) (sym (spot_whole a b s)) ∙ answer.holding_is)

  pub area_run : Within a b s → choice a b ≡ StraightRun → b ≡ 1 → (number_of (whole a b) s ≡ s.x) × (blocks_holding (whole a b) s ≡ 1)
  unfolding whole
  area_run l e one = at_whole s.x 1 (run_answer a b (whole a b) all s l e one)

  pub area_side : Within a b s → choice a b ≡ StraightSide → a ≡ 1 → (number_of (whole a b) s ≡ s.y) × (blocks_holding (whole a b) s ≡ 1)
  unfolding whole
  area_side l e one = at_whole s.y 1 (side_answer a b (whole a b) all s l e one)

  pub area_cut : 2 ≤ b → (lies : Lies a b s)
      → (number_of (whole a b) s
      ≡ squares_of a b lies.before + number_of (whole (part lies.name (whole a b)).a (part lies.name (whole a b)).b) lies.there)
      × (blocks_holding (whole a b) s ≡ suc (blocks_holding (whole (part lies.name (whole a b)).a (part lies.name (whole a b)).b) lies.there))
  unfolding whole
  area_cut two lies =
      let q = part lies.name (whole a b) in
      at_whole (squares_of a b lies.before + number_of (whole q.a q.b) lies.there) (suc (blocks_holding (whole q.a q.b) lies.there))
      (cut_answer a b (whole a b) all two s lies (number_of (whole q.a q.b) lies.there) (blocks_holding (whole q.a q.b) lies.there)
      (alike a b q (lies_inside a b (whole a b) all two s lies) lies.there lies.within))
