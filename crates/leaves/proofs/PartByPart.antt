-- A walk over a block part by part: each part has its room, its area is less, and the parts' squares in order are the block's.
use mathlib.Core.Bool.{Bool, false, true≢false}
use mathlib.Core.List.{List, [], ◌∷◌, ◌++◌, map, map-append}
use mathlib.Core.Path.{◌≡◌, sym, ap, ap₂, subst⁻¹, ◌∙◌}
use Prim.Native.Nat.{ℕ, ◌+◌, ◌-◌, ◌*◌, ◌/◌, ◌≤◌, ◌<◌}
use native.Mathlib.Nat.{add-zero, mul_comm, mul-le-mul}
use native.Mathlib.Omega.{arith}
use lib.ListN.{length-map}
use Rattle.division.specs.declared.Choice.{Choice}
use Rattle.division.specs.declared.Choice.TheVariants.{StraightRun, StraightSide, LongCut, UCut}
use Rattle.leaves.specs.declared.Numbered.{Numbered}
use Rattle.division.specs.Division.{Square, Block, choice, even_half, First, Second, A, B, C, part, parts, parts_of, curve}
use Rattle.division.specs.Division.Inside.{Sized}
use Rattle.division.proofs.Rules.{parts_are}
use Rattle.division.specs.Forms.{block}
use Rattle.division.proofs.Cases.{rule, u_lengths, side_length}
use Rattle.division.proofs.Plane.{turned}
use Rattle.division.proofs.Sums.{total}
use Rattle.division.proofs.Cuts.{area}
use Rattle.division.proofs.EachSquareOnce.{length_curve}
use Rattle.division.proofs.Descent.{part_inside, part_smaller, skip_fits}
use Rattle.leaves.specs.Walk.{place, over, over_block, exchanged, Fits}
use Rattle.leaves.proofs.Entries.{over_append}

-- What a walk asks of a block of a case: its measure is m, and it has its room. What it then hands on to the function of that case.
abbrev pub Cut : (kind : Bool) → Choice → (w h size : ℕ) → Block → (at m : ℕ) → Type 0
Cut kind case w h size k at m = (3 * (k.a * k.b) ≡ m) × (Fits kind w h size k at × (choice k.a k.b ≡ case))

-- what fits a table of either kind fits one by number
pub by_number_fits : {kind : Bool} {w h size : ℕ} {k : Block} {at : ℕ} → Fits kind w h size k at → Fits false w h size k at
by_number_fits f =
    record {
      w_limit = f.w_limit;
      h_limit = f.h_limit;
      inside = f.inside;
      numbers = f.numbers;
      room = f.room;
      places = λ e. absurd (true≢false (sym e));
    }

-- one call on a part: its measure is less, and it has its room
module _ {kind : Bool} {w h size : ℕ} {k : Block} {at m : ℕ} {case : Choice} (cut : Cut kind case w h size k at m)
    (before : List Block) (q : Block) (after : List Block) (e : parts k ≡ before ++ (q ∷ after)) where
  call : {long : ℕ} → long ≡ size → (r : Numbered) → block r.placed ≡ q → r.first ≡ at + total area before
      → (3 * (r.placed.a * r.placed.b) + 2 < m) × Fits kind w h long (block r.placed) r.first
  call {long} same r there is =
      let measure = cut.0 in
      let f = cut.1.0 in
      let inside = part_inside w h k f.inside before q after e in
      let thirds = (part_smaller k f.inside.sized before q after e).two_thirds in
      let some : 1 * 1 ≤ area q = mul-le-mul inside.sized.run inside.sized.side in
      let squares : r.placed.a * r.placed.b ≡ area q = ap area there in
      let fits = skip_fits k f.inside.sized before q after e in
      let numbers = f.numbers in
      let room = f.room in (
        omega arith,
        subst⁻¹ (λ (b : Block). Fits kind w h long b r.first) there
            (record {
              w_limit = f.w_limit;
              h_limit = f.h_limit;
              inside = inside;
              numbers = omega arith;
              room = omega arith;
              places = λ e. let places = f.places e in omega arith;
            }),
      )

-- a block's squares where its curve begins with a part's
first_over : {S : Type 0} (step : S → ℕ → ℕ → S) (state : S) (w : ℕ) (k q : Block) (zs : List Square) (at : ℕ) → Sized q → curve k ≡ curve q ++ zs
    → over_block step state w k at ≡ over step (over_block step state w q at) (at + area q) (map (place w) zs)
first_over step state w k q zs at s e =
    ap (λ ss. over step state at (map (place w) ss)) e
    ∙ ap (over step state at) (map-append (place w) (curve q) zs)
    ∙ over_append step state at (map (place w) (curve q)) (map (place w) zs)
    ∙ ap (λ n. over step (over_block step state w q at) (at + n) (map (place w) zs)) (length-map (curve q) (place w) ∙ length_curve q s)

-- the long cut
module _ {kind : Bool} {w h size : ℕ} {k : Block} {at m : ℕ} (cut : Cut kind LongCut w h size k at m) where
  sized_first : Sized (part First k)
  unfolding parts_of
  sized_first = (part_inside w h k cut.1.0.inside [] (part First k) (part Second k ∷ []) (parts_are k LongCut cut.1.1)).sized

  pub first_call : {long : ℕ} → long ≡ size → (r : Numbered) → block r.placed ≡ part First k → r.first ≡ at + 0
      → (3 * (r.placed.a * r.placed.b) + 2 < m) × Fits kind w h long (block r.placed) r.first
  unfolding parts_of
  first_call same r there is = call cut [] (part First k) (part Second k ∷ []) (parts_are k LongCut cut.1.1) same r there is

  pub second_call : {long : ℕ} → long ≡ size → (r : Numbered) → block r.placed ≡ part Second k → r.first ≡ at + even_half k.a * k.b
      → (3 * (r.placed.a * r.placed.b) + 2 < m) × Fits kind w h long (block r.placed) r.first
  unfolding parts_of part
  second_call same r there is =
      call cut (part First k ∷ []) (part Second k) [] (parts_are k LongCut cut.1.1) same r there (omega arith)

  long_over : {S : Type 0} (step : S → ℕ → ℕ → S) (state : S)
      → over_block step (over_block step state w (part First k) at) w (part Second k) (at + even_half k.a * k.b) ≡ over_block step state w k at
  unfolding part
  long_over step state =
      sym (first_over step state w k (part First k) (curve (part Second k)) at sized_first (rule k LongCut cut.1.0.inside.sized cut.1.1).0)

  -- steps on the parts that the code makes, one after the other
  pub long_steps : {S : Type 0} (step : S → ℕ → ℕ → S) (state : S) {p q : Block} {i j : ℕ} → p ≡ part First k → i ≡ at + 0 → q ≡ part Second k
      → j ≡ at + even_half k.a * k.b → {first last : S} → first ≡ over_block step state w p i → last ≡ over_block step first w q j
      → last ≡ over_block step state w k at
  long_steps step state is_p is_i is_q is_j {first} one two =
      two
      ∙ ap₂ (λ b n. over_block step first w b n) is_q is_j
      ∙ ap (λ s. over_block step s w (part Second k) (at + even_half k.a * k.b))
      (one ∙ ap₂ (λ b n. over_block step state w b n) is_p (is_i ∙ add-zero at))
      ∙ long_over step state

-- the U cut
pub u_deep : {kind : Bool} {w h size : ℕ} {k : Block} {at : ℕ} → Fits kind w h size k at → choice k.a k.b ≡ UCut → 2 ≤ k.b
u_deep {k = k} f c = (u_lengths k f.inside.sized c).1

module _ {kind : Bool} {w h size : ℕ} {k : Block} {at m : ℕ} (cut : Cut kind UCut w h size k at m) where
  sized_a : Sized (part A k)
  unfolding parts_of
  sized_a =
      (part_inside w h k cut.1.0.inside [] (part A k) (part B k ∷ part C k ∷ []) (parts_are k UCut cut.1.1)).sized

  sized_b : Sized (part B k)
  unfolding parts_of
  sized_b =
      (part_inside w h k cut.1.0.inside (part A k ∷ []) (part B k) (part C k ∷ []) (parts_are k UCut cut.1.1)).sized

  -- where B and C begin
  abbrev pub to_b : ℕ
  to_b = at + even_half k.b * (k.a / 2)

  abbrev pub to_c : ℕ
  to_c = at + even_half k.b * (k.a / 2) + k.a * (k.b - even_half k.b)

  pub a_call : {long : ℕ} → long ≡ size → (r : Numbered) → block r.placed ≡ part A k → r.first ≡ at
      → (3 * (r.placed.a * r.placed.b) + 2 < m) × Fits kind w h long (block r.placed) r.first
  unfolding parts_of
  a_call same r there is =
      call cut [] (part A k) (part B k ∷ part C k ∷ []) (parts_are k UCut cut.1.1) same r there (omega arith)

  pub b_call : {long : ℕ} → long ≡ size → (r : Numbered) → block r.placed ≡ part B k → r.first ≡ to_b
      → (3 * (r.placed.a * r.placed.b) + 2 < m) × Fits kind w h long (block r.placed) r.first
  unfolding parts_of part
  b_call same r there is =
      call cut (part A k ∷ []) (part B k) (part C k ∷ []) (parts_are k UCut cut.1.1) same r there (omega arith)

  pub c_call : {long : ℕ} → long ≡ size → (r : Numbered) → block r.placed ≡ part C k → r.first ≡ to_c
      → (3 * (r.placed.a * r.placed.b) + 2 < m) × Fits kind w h long (block r.placed) r.first
  unfolding parts_of part
  c_call same r there is =
      call cut (part A k ∷ part B k ∷ []) (part C k) [] (parts_are k UCut cut.1.1) same r there (omega arith)

  u_over : {S : Type 0} (step : S → ℕ → ℕ → S) (state : S)
      → over_block step (over_block step (over_block step state w (part A k) at) w (part B k) to_b) w (part C k) to_c ≡ over_block step state w k at
  unfolding part
  u_over step state =
      let first = over_block step state w (part A k) at in
      let rest = curve (part B k) ++ curve (part C k) in
      sym
      (first_over step state w k (part A k) rest at sized_a (rule k UCut cut.1.0.inside.sized cut.1.1).0
      ∙ ap (over step first (at + area (part A k))) (map-append (place w) (curve (part B k)) (curve (part C k)))
      ∙ over_append step first (at + area (part A k)) (map (place w) (curve (part B k))) (map (place w) (curve (part C k)))
      ∙ ap (λ x. over step (over_block step first w (part B k) (at + area (part A k))) (at + area (part A k) + x) (map (place w) (curve (part C k))))
      (length-map (curve (part B k)) (place w) ∙ length_curve (part B k) sized_b))

  pub u_steps : {S : Type 0} (step : S → ℕ → ℕ → S) (state : S) {p q r : Block} {i j l : ℕ} → p ≡ part A k → i ≡ at → q ≡ part B k → j ≡ to_b
      → r ≡ part C k → l ≡ to_c → {first second last : S} → first ≡ over_block step state w p i → second ≡ over_block step first w q j
      → last ≡ over_block step second w r l → last ≡ over_block step state w k at
  u_steps step state is_p is_i is_q is_j is_r is_l {first} {second} one two three =
      three
      ∙ ap₂ (λ b n. over_block step second w b n) is_r is_l
      ∙ ap (λ s. over_block step s w (part C k) to_c)
      (two
      ∙ ap₂ (λ b n. over_block step first w b n) is_q is_j
      ∙ ap (λ s. over_block step s w (part B k) to_b) (one ∙ ap₂ (λ b n. over_block step state w b n) is_p is_i))
      ∙ u_over step state

-- a straight block with run and side exchanged: the same squares in the same order
module _ {kind : Bool} {w h size : ℕ} {k : Block} {at : ℕ} (f : Fits kind w h size k at) (c : choice k.a k.b ≡ StraightSide) where
  exchanged_fits : Fits kind w h size (exchanged k) at
  unfolding exchanged
  exchanged_fits =
      let numbers = f.numbers in
      let room = f.room in
      record {
        w_limit = f.w_limit;
        h_limit = f.h_limit;
        inside = record {
          sized = record { run = f.inside.sized.side; side = f.inside.sized.run };
          paired = turned f.inside.paired;
          run = f.inside.side;
          side = f.inside.run;
        };
        numbers = omega (arith, mul_comm k.a k.b);
        room = omega (arith, mul_comm k.a k.b);
        places = f.places;
      }

  exchanged_case : choice (exchanged k).a (exchanged k).b ≡ StraightRun
  unfolding exchanged choice
  exchanged_case = rw (side_length k f.inside.sized c)

  pub side_call : (r : Numbered) → block r.placed ≡ exchanged k → r.first ≡ at
      → Fits kind w h size (block r.placed) r.first × (choice r.placed.a r.placed.b ≡ StraightRun)
  side_call r there is =
      subst⁻¹ (λ (j : Block). Fits kind w h size j r.first × (choice j.a j.b ≡ StraightRun)) there
      (subst⁻¹ (Fits kind w h size (exchanged k)) is exchanged_fits, exchanged_case)

  pub side_over : {S : Type 0} (step : S → ℕ → ℕ → S) (state : S) (r : Numbered) → block r.placed ≡ exchanged k → r.first ≡ at →
      over_block step state w (block r.placed) r.first ≡ over_block step state w k at
  unfolding exchanged
  side_over step state r there is =
      ap₂ (λ n zs. over step state n (map (place w) zs)) is
      (ap curve there
      ∙ (rule (exchanged k) StraightRun exchanged_fits.inside.sized exchanged_case).0
      ∙ sym (rule k StraightSide f.inside.sized c).0)
