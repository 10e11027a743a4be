-- The part of a cut block that (u, v) lies in, with (u, v) as that part has it: one record for all five parts, and every (u, v) of the block has one.
-- The part's lengths depend on the block's alone, and so do the squares of the parts before it.
use mathlib.Core.List.{List, [], ◌∷◌, ◌++◌, map, map-append}
use mathlib.Core.Path.{◌≡◌, refl, ap, ap₂, subst, subst⁻¹, ◌∙◌}
use Prim.Native.Nat.{ℕ, ◌+◌, ◌-◌, ◌/◌, ◌≤◌, ◌<◌}
use native.Mathlib.Nat.{add-sub_of_le}
use native.Mathlib.Decide.{dec_lt}
use native.Mathlib.Omega.{arith}
use Rattle.division.specs.declared.Choice.TheVariants.{LongCut, UCut}
use Rattle.division.specs.Division.{Square, square, Block, whole, choice, even_half, Part, First, Second, A, B, C, part, parts, parts_of}
use Rattle.division.specs.Division.Inside.{Sized, Inside}
use Rattle.division.proofs.Rules.{Smaller}
use Rattle.division.proofs.Sums.{total}
use Rattle.division.proofs.Cuts.{area}
use Rattle.division.proofs.Descent.{skip_fits, part_smaller, part_inside}
use Rattle.division.proofs.Coordinates.{Within, seen_from}

not_lt : {m n : ℕ} → ¬ (m < n) → n ≤ m
not_lt f = omega arith

-- the part of an a by b block that (u, v) lies in, with (u, v) as that part has it
pub record Lies (a b : ℕ) (s : Square) : Type 0 where
  pub name : Part
  pub before : List Part
  pub after : List Part
  pub are : parts_of (choice a b) ≡ before ++ (name ∷ after)
  pub there : Square
  pub within : Within (part name (whole a b)).a (part name (whole a b)).b there
  pub back : seen_from name a b there ≡ s

module _ (a b : ℕ) (s : Square) where
  abbrev pub in_first : choice a b ≡ LongCut → s.x < even_half a → s.y < b → Lies a b s
  unfolding part parts_of seen_from whole
  in_first c l m =
      record { name = First; before = []; after = Second ∷ []; are = ap parts_of c; there = s; within = record { run = l; side = m }; back = refl }

  abbrev pub in_second : choice a b ≡ LongCut → even_half a ≤ s.x → s.x < a → s.y < b → Lies a b s
  unfolding part parts_of seen_from whole
  in_second c l r m =
      record {
        name = Second;
        before = First ∷ [];
        after = [];
        are = ap parts_of c;
        there = square (s.x - even_half a) s.y;
        within = record { run = omega arith; side = m };
        back = λ i. square (add-sub_of_le l i) s.y;
      }

  abbrev pub in_a : choice a b ≡ UCut → s.x < a / 2 → s.y < even_half b → Lies a b s
  unfolding part parts_of seen_from whole
  in_a c l m =
      record {
        name = A;
        before = [];
        after = B ∷ C ∷ [];
        are = ap parts_of c;
        there = square s.y s.x;
        within = record { run = m; side = l };
        back = refl;
      }

  abbrev pub in_b : choice a b ≡ UCut → s.x < a → even_half b ≤ s.y → s.y < b → Lies a b s
  unfolding part parts_of seen_from whole
  in_b c l m r =
      record {
        name = B;
        before = A ∷ [];
        after = C ∷ [];
        are = ap parts_of c;
        there = square s.x (s.y - even_half b);
        within = record { run = l; side = omega arith };
        back = λ i. square s.x (add-sub_of_le m i);
      }

  abbrev pub in_c : choice a b ≡ UCut → a / 2 ≤ s.x → s.x < a → s.y < even_half b → Lies a b s
  unfolding part parts_of seen_from whole
  in_c c l r m =
      record {
        name = C;
        before = A ∷ B ∷ [];
        after = [];
        are = ap parts_of c;
        there = square (even_half b - 1 - s.y) (a - 1 - s.x);
        within = record { run = omega arith; side = omega arith };
        back = ap₂ square (omega arith) (omega arith);
      }

pub part_whole : (j : Block) (p : Part) → whole (part p j).a (part p j).b ≡ whole (part p (whole j.a j.b)).a (part p (whole j.a j.b)).b
unfolding part whole
part_whole j First = refl
part_whole j Second = refl
part_whole j A = refl
part_whole j B = refl
part_whole j C = refl

-- the squares of some parts of an a by b block
unfoldable pub squares_of : ℕ → ℕ → List Part → ℕ
squares_of a b ps = total (λ p. area (part p (whole a b))) ps

pub squares_in : (j : Block) (ps : List Part) → total area (map (λ p. part p j) ps) ≡ squares_of j.a j.b ps
unfolding squares_of whole
squares_in j [] = refl
squares_in j (p ∷ ps) = ap₂ ◌+◌ (ap area (part_whole j p)) (squares_in j ps)

-- a cut block's parts by their names
pub named_parts : (j : Block) (before : List Part) (p : Part) (after : List Part) → parts_of (choice j.a j.b) ≡ before ++ (p ∷ after)
    → parts j ≡ map (λ p. part p j) before ++ (part p j ∷ map (λ p. part p j) after)
unfolding parts
named_parts j before p after e = ap (map (λ p. part p j)) e ∙ map-append (λ p. part p j) before (p ∷ after)

pub lies_parts : (j : Block) (s : Square) (lies : Lies j.a j.b s)
    → parts j ≡ map (λ p. part p j) lies.before ++ (part lies.name j ∷ map (λ p. part p j) lies.after)
lies_parts j s lies = named_parts j lies.before lies.name lies.after lies.are

pub lies_within : (j : Block) (s : Square) (lies : Lies j.a j.b s) → Within (part lies.name j).a (part lies.name j).b lies.there
unfolding whole
lies_within j s lies = subst⁻¹ (λ (k : Block). Within k.a k.b lies.there) (part_whole j lies.name) lies.within

-- the part lies within whatever area the block lies in
module _ (w h : ℕ) (j : Block) (i : Inside w h j) (two : 2 ≤ j.b) (s : Square) (lies : Lies j.a j.b s) where
  pub lies_inside : Inside w h (part lies.name j)
  lies_inside = part_inside w h j i (map (λ p. part p j) lies.before) (part lies.name j) (map (λ p. part p j) lies.after) (lies_parts j s lies)

  -- the parts before it leave it its room
  pub lies_fits : squares_of j.a j.b lies.before + area (part lies.name j) ≤ area j
  lies_fits =
      subst (λ (n : ℕ). n + area (part lies.name j) ≤ area j) (squares_in j lies.before)
      (skip_fits j i.sized (map (λ p. part p j) lies.before) (part lies.name j) (map (λ p. part p j) lies.after) (lies_parts j s lies))

-- the part is smaller than the block
pub lies_smaller : (j : Block) → Sized j → (s : Square) (lies : Lies j.a j.b s) → Smaller j (part lies.name j)
lies_smaller j z s lies = part_smaller j z (map (λ p. part p j) lies.before) (part lies.name j) (map (λ p. part p j) lies.after) (lies_parts j s lies)

-- every (u, v) of a cut block lies in a part
pub lies_long : (a b : ℕ) (s : Square) → Within a b s → choice a b ≡ LongCut → Lies a b s
lies_long a b s l c = by (dec_lt s.x (even_half a))
  where
    by : Dec (s.x < even_half a) → Lies a b s
    by (yes y) = in_first a b s c y l.side
    by (no n) = in_second a b s c (not_lt n) l.run l.side

pub lies_u : (a b : ℕ) (s : Square) → Within a b s → choice a b ≡ UCut → Lies a b s
lies_u a b s l c = by (dec_lt s.y (even_half b)) (dec_lt s.x (a / 2))
  where
    by : Dec (s.y < even_half b) → Dec (s.x < a / 2) → Lies a b s
    by (no n) d = in_b a b s c l.run (not_lt n) l.side
    by (yes y) (yes z) = in_a a b s c z y
    by (yes y) (no m) = in_c a b s c (not_lt m) l.run y
