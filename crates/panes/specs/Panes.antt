-- A window as a block of the division sees it, and what the walk over it asks and leaves: for each square of the block that lies in the window, in the
-- curve's order, its number taken up into runs. They render no sentence of document 02; `windows` says what its order 2 asks.
use Rattle.std.specs.Prelude.{Bool, ◌&&◌, cond, List, [], ◌∷◌, ◌≡◌, ℕ, suc, ◌+◌, ◌-◌, ◌*◌, ◌/◌, ◌≤◌, ◌<◌, min, leb, ltb, eqb, set}
use Rattle.std.specs.Prelude.{Option, Some, None, nat_eq}
use Rattle.std.specs.Option.{option_eq}
use Rattle.terms.specs.Terms.{longest_side, past_32_bits}
use Rattle.division.specs.Division.{Square, whole, curve, even_half, Part, First, Second, A, B, C}
use Rattle.panes.specs.declared.Pane.{Pane}

-- The pane of a walk's parameters. Its squares have u from u0 on and below u1, and v from v0 on and below v1: u along the block's run, v along its side.
abbrev pub pane_at : (a b u0 u1 v0 v1 : ℕ) → Pane
pane_at a b u0 u1 v0 v1 = record { a = a; b = b; u0 = u0; u1 = u1; v0 = v0; v1 = v1 }

abbrev pub in_span : (from to i : ℕ) → Bool
in_span from to i = leb from i && ltb i to

unfoldable pub in_pane : Pane → Square → Bool
in_pane p s = in_span p.u0 p.u1 s.x && in_span p.v0 p.v1 s.y

-- A pane as a part of its block has it.
abbrev pub pane_in : Part → Pane → Pane
pane_in First p = pane_at (even_half p.a) p.b p.u0 (min p.u1 (even_half p.a)) p.v0 p.v1
pane_in Second p = pane_at (p.a - even_half p.a) p.b (p.u0 - even_half p.a) (p.u1 - even_half p.a) p.v0 p.v1
pane_in A p = pane_at (even_half p.b) (p.a / 2) p.v0 (min p.v1 (even_half p.b)) p.u0 (min p.u1 (p.a / 2))
pane_in B p = pane_at p.a (p.b - even_half p.b) p.u0 p.u1 (p.v0 - even_half p.b) (p.v1 - even_half p.b)
pane_in C p =
    pane_at (even_half p.b) (p.a - p.a / 2) (even_half p.b - p.v1) (even_half p.b - p.v0) (p.a - p.u1)
    (min (p.a - p.u0) (p.a - p.a / 2))

-- Whether a pane is its whole block.
abbrev pub is_whole : Pane → Bool
is_whole p = (eqb p.u0 0 && eqb p.v0 0) && (eqb p.u1 p.a && eqb p.v1 p.b)

-- The runs so far: how many there are, which number comes behind the last, and their pairs in a list.
pub record Tally : Type 0 where
  pub count : ℕ
  pub behind : Option ℕ
  pub pairs : List ℕ

abbrev pub tally : ℕ → Option ℕ → List ℕ → Tally
tally count behind pairs = record { count = count; behind = behind; pairs = pairs }

abbrev pub none : List ℕ → Tally
none pairs = tally 0 None pairs

-- The numbers from p on and below q taken up: they lengthen the last run where they follow it, and are a new run where they do not. A number is set at its
-- place in the list, if the list has it.
abbrev pub put : Tally → (at n : ℕ) → Tally
put t at n = tally t.count t.behind (set t.pairs at n)

abbrev pub begun : Tally → (p : ℕ) → Tally
begun t p = let new = put t (2 * t.count) p in tally (new.count + 1) new.behind new.pairs

abbrev pub ended : Tally → (q : ℕ) → Tally
ended t q = let last = put t (2 * t.count - 1) (q - 1) in tally last.count (Some q) last.pairs

abbrev pub follows : Tally → (p : ℕ) → Bool
follows t p = option_eq nat_eq t.behind (Some p)

unfoldable pub joined : Tally → (p q : ℕ) → Tally
joined t p q = ended (cond (follows t p) t (begun t p)) q

-- The numbers, from n on, of those of a list of squares that pass a test, taken up one by one; so, of a block's squares that lie in a pane.
unfoldable pub over : (Square → Bool) → Tally → (n : ℕ) → List Square → Tally
over test t n [] = t
over test t n (s ∷ ss) = over test (cond (test s) (joined t n (n + 1)) t) (suc n) ss

abbrev pub seen : Pane → Tally → (n : ℕ) → Tally
seen p t n = over (in_pane p) t n (curve (whole p.a p.b))

-- The runs of a pane of a whole area, whose squares are numbered from 0 on: how many there are, and a list with their pairs written to its first places.
abbrev pub runs_of : Pane → ℕ
runs_of p = (seen p (none []) 0).count

abbrev pub pairs_into : Pane → List ℕ → List ℕ
pairs_into p pairs = (seen p (none pairs) 0).pairs

-- What a walk asks of its pane, of the numbers from n on, and of the runs so far: lengths and numbers within the limits, and no more runs than numbers.
pub record Walks (p : Pane) (n count : ℕ) : Type 0 where
  pub a_least : 1 ≤ p.a
  pub b_least : 1 ≤ p.b
  pub a_limit : p.a ≤ longest_side
  pub b_limit : p.b ≤ longest_side
  pub u_limit : p.u1 ≤ p.a
  pub v_limit : p.v1 ≤ p.b
  pub room : n + p.a * p.b < past_32_bits
  pub few : count ≤ n

-- A pane that has a square.
pub record Opens (p : Pane) : Type 0 where
  pub along : p.u0 < p.u1
  pub across : p.v0 < p.v1

-- A pane of a block 2 wide and 2 or 3 deep.
pub record Leaf (p : Pane) (n : ℕ) : Type 0 where
  pub wide : p.a ≡ 2
  pub least : 2 ≤ p.b
  pub most : p.b ≤ 3
  pub along : p.u0 < p.u1
  pub across : p.v0 < p.v1
  pub u_limit : p.u1 ≤ p.a
  pub v_limit : p.v1 ≤ p.b
  pub room : n + p.a * p.b < past_32_bits

-- What is asked where numbers are taken up.
pub record Joins (count p q : ℕ) : Type 0 where
  pub some : p < q
  pub few : count ≤ p
