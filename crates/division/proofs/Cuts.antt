-- A cut's parts make up the block and share no square, and lie within whatever area the block lies in. Each square counts 0 or 1 along the run and
-- along the side, and the parts' counts add up to the block's; C is walked from its other end.
use mathlib.Core.Path.{◌≡◌, sym, ap, subst⁻¹, ◌∙◌}
use Prim.Native.Nat.{ℕ, ◌+◌, ◌-◌, ◌*◌, ◌/◌, ◌≤◌, min}
use native.Mathlib.Nat.{add-zero, mul-add, add-mul, mul_comm}
use native.Mathlib.Omega.{arith}
use Rattle.division.specs.Division.{Square, Block, even_half, First, Second, A, B, C, part, parts, moved, within, holds, one}
use Rattle.division.specs.Division.Inside.{Room, Inside}
use Rattle.division.proofs.Rules.{All, halves}
use Rattle.division.proofs.Cases.{Cut, in_two, in_three}
use Rattle.division.proofs.Plane.{turned, reversed, moved_add, moved_swap, room_on, room_back, room_across, room_first}
use Rattle.division.proofs.Plane.{one_and, one_le, min_split, within_cut, within_back, within_across}
use Rattle.division.proofs.Sums.{total}

abbrev pub area : Block → ℕ
area k = k.a * k.b

-- the parts' areas add up to the block's
pub long_areas : (e a b : ℕ) → e ≤ a → e * b + ((a - e) * b + 0) ≡ a * b
long_areas e a b l =
    let s : (e + (a - e)) * b ≡ e * b + (a - e) * b = add-mul e (a - e) b in
    let t : (e + (a - e)) * b ≡ a * b = ap (λ n. n * b) (omega arith) in
    omega arith

pub u_areas : (e m a b : ℕ) → e ≤ b → m ≤ a → e * m + (a * (b - e) + (e * (a - m) + 0)) ≡ a * b
u_areas e m a b l r =
    let s : e * m + e * (a - m) ≡ e * a = sym (mul-add e m (a - m)) ∙ ap (λ n. e * n) (omega arith) in
    let t : a * e + a * (b - e) ≡ a * b = sym (mul-add a e (b - e)) ∙ ap (λ n. a * n) (omega arith) in
    omega (arith, mul_comm e a)

pub areas : (k : Block) → Cut k → total area (parts k) ≡ area k
unfolding part
areas k (in_two a b e) = rw e (long_areas (even_half k.a) k.a k.b (let half = halves k.a a in omega arith))
areas k (in_three a b e) = rw e (u_areas (even_half k.b) (k.a / 2) k.a k.b (let half = halves k.b b in omega arith) (omega arith))

-- the parts' squares add up, as 0 or 1 along the run and along the side
u_counts : (r r₁ r₂ s s₁ s₂ : ℕ) → r ≡ r₁ + r₂ → s ≡ s₁ + s₂ → r ≤ 1 → s ≤ 1 → min s₁ r₁ + (min r s₂ + (min s₁ r₂ + 0)) ≡ min r s
u_counts r r₁ r₂ s s₁ s₂ e f l m = omega arith

-- each part of a cut lies where its block lies
module _ (w h : ℕ) (k : Block) (i : Inside w h k) where
  first_inside : 2 ≤ k.a → Inside w h (part First k)
  unfolding part
  first_inside a =
      let half = halves k.a a in
      let lies = i.sized.side in
      record {
        sized = omega arith;
        paired = i.paired;
        run = room_first w h k.run (even_half k.a) k.a k.start i.run (omega arith);
        side = i.side;
      }

  second_inside : 2 ≤ k.a → Inside w h (part Second k)
  unfolding part
  second_inside a =
      let half = halves k.a a in
      let lies = i.sized.side in
      record {
        sized = omega arith;
        paired = i.paired;
        run = room_on w h k.run (even_half k.a) (k.a - even_half k.a) k.a k.start i.run (omega arith);
        side = room_across w h (turned i.paired) (even_half k.a) k.b k.start i.side;
      }

  a_inside : 2 ≤ k.a → 2 ≤ k.b → Inside w h (part A k)
  unfolding part
  a_inside a b =
      let half = halves k.b b in
      record {
        sized = omega arith;
        paired = turned i.paired;
        run = room_first w h k.side (even_half k.b) k.b k.start i.side (omega arith);
        side = room_first w h k.run (k.a / 2) k.a k.start i.run (omega arith);
      }

  b_inside : 2 ≤ k.b → Inside w h (part B k)
  unfolding part
  b_inside b =
      let half = halves k.b b in
      let lies = i.sized.run in
      record {
        sized = omega arith;
        paired = i.paired;
        run = room_across w h i.paired (even_half k.b) k.a k.start i.run;
        side = room_on w h k.side (even_half k.b) (k.b - even_half k.b) k.b k.start i.side (omega arith);
      }

  -- the even half of the side has its room at the run's last square, too
  pub last_room : 2 ≤ k.b → Room w h k.side (even_half k.b) (moved k.run (k.a - 1) k.start)
  last_room b =
      let half = halves k.b b in
      let e = even_half k.b in
      room_across w h (turned i.paired) (k.a - 1) e k.start (room_first w h k.side e k.b k.start i.side (omega arith))

  c_inside : 2 ≤ k.a → 2 ≤ k.b → Inside w h (part C k)
  unfolding part
  c_inside a b =
      let half = halves k.b b in
      let e = even_half k.b in
      let last = moved k.run (k.a - 1) k.start in
      let up = moved k.side (e - 1) k.start in
      let up_room = room_across w h i.paired (e - 1) k.a k.start i.run in
      record {
        sized = omega arith;
        paired = reversed (turned i.paired);
        run = room_back w h k.side e e last (last_room b) (omega arith) (omega arith);
        side = rw (moved_swap (turned i.paired) (e - 1) (k.a - 1) k.start)
            (room_back w h k.run (k.a - k.a / 2) k.a up up_room (omega arith) (omega arith));
      }

  -- the run and the side of part C, each walked from its other end
  c_run : (p : Square) → 2 ≤ k.b → one (within (part C k).run (part C k).a (part C k).start p) ≡ one (within k.side (even_half k.b) k.start p)
  unfolding part
  c_run p b =
      let half = halves k.b b in
      let e = even_half k.b in
      let last = moved k.run (k.a - 1) k.start in
      within_back w h k.side e last p (last_room b) (omega arith)
      ∙ ap one (within_across (turned i.paired) (k.a - 1) e k.start p)

  c_side : (p : Square) → 2 ≤ k.a
      → one (within (part C k).side (part C k).b (part C k).start p) ≡ one (within k.run (k.a - k.a / 2) (moved k.run (k.a / 2) k.start) p)
  unfolding part
  c_side p a =
      let e = even_half k.b in
      let m = k.a / 2 in
      let n = k.a - m in
      let on = moved k.run m k.start in
      let there : moved k.side (e - 1) (moved k.run (k.a - 1) k.start) ≡ moved k.run (n - 1) (moved k.side (e - 1) on) =
      ap (moved k.side (e - 1)) (ap (λ z. moved k.run z k.start) (omega arith) ∙ sym (moved_add k.run m (n - 1) k.start))
      ∙ moved_swap (turned i.paired) (e - 1) (n - 1) on in
      let on_room = room_on w h k.run m n k.a k.start i.run (omega arith) in
      rw there
      (within_back w h k.run n (moved k.side (e - 1) on) p (room_across w h i.paired (e - 1) n on on_room) (omega arith)
      ∙ ap one (within_across i.paired (e - 1) n on p))

  -- each square of the block is in exactly one part
  long_holds : (p : Square) → 2 ≤ k.a → one (holds (part First k) p) + (one (holds (part Second k) p) + 0) ≡ one (holds k p)
  unfolding part holds
  long_holds p a =
      let half = halves k.a a in
      let e = even_half k.a in
      let split = within_cut w h k.run e k.a k.start p i.run half.less in
      let along = within k.run k.a k.start p in
      let across = within k.side k.b k.start p in
      rw (within_across (turned i.paired) e k.b k.start p)
      (simp one_and
      (ap (λ z. min (one (within k.run e k.start p)) (one across) + z) (add-zero _) ∙ min_split _ _ _ _ split (one_le along) (one_le across)))

  u_holds : (p : Square) → 2 ≤ k.a → 2 ≤ k.b → one (holds (part A k) p) + (one (holds (part B k) p) + (one (holds (part C k) p) + 0)) ≡ one (holds k p)
  unfolding part holds
  u_holds p a b =
      let half = halves k.b b in
      let e = even_half k.b in
      let m = k.a / 2 in
      let run = within_cut w h k.run m k.a k.start p i.run (omega arith) in
      let side = within_cut w h k.side e k.b k.start p i.side half.less in
      let along = within k.run k.a k.start p in
      let across = within k.side k.b k.start p in
      simp (one_and, c_run p b, c_side p a, within_across i.paired e k.a k.start p)
      (u_counts _ _ _ _ _ _ run side (one_le along) (one_le across))

pub inside_parts : (w h : ℕ) (k : Block) → Inside w h k → Cut k → All (Inside w h) (parts k)
inside_parts w h k i (in_two a b e) = subst⁻¹ (All (Inside w h)) e (first_inside w h k i a, (second_inside w h k i a, tt))
inside_parts w h k i (in_three a b e) = subst⁻¹ (All (Inside w h)) e (a_inside w h k i a b, (b_inside w h k i b, (c_inside w h k i a b, tt)))

pub holds_parts : (w h : ℕ) (k : Block) → Inside w h k → Cut k → (p : Square) → total (λ q. one (holds q p)) (parts k) ≡ one (holds k p)
holds_parts w h k i (in_two a b e) p = rw e (long_holds w h k i p a)
holds_parts w h k i (in_three a b e) p = rw e (u_holds w h k i p a b)
