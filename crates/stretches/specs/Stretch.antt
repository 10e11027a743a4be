-- What a walk over the division leaves of a list that has the entries of numbers from `first` on, and these entries. For successive numbers, what document 01,
-- "What a lookup and a table say", has a table by number hold.
use Rattle.std.specs.Prelude.{false, cond, List, map, ℕ, ◌-◌, ◌*◌, ltb, set, take, drop}
use Rattle.division.specs.Division.{Block, whole, curve}
use Rattle.leaves.specs.Walk.{place, over_block, Fits}

-- The list with square number n, at place p, put in: at n - first, if the list has that number; else as it is. So, with a block's squares put in.
abbrev pub put_from : (first : ℕ) → List ℕ → (n p : ℕ) → List ℕ
put_from first t n p = cond (ltb n first) t (set t (n - first) p)

abbrev pub stretched : (first w : ℕ) → List ℕ → Block → (at : ℕ) → List ℕ
stretched first w t k at = over_block (put_from first) t w k at

-- A block that lies within its area, and whose numbers from `at` on are the area's: it fits the whole table by number, though there is none.
abbrev pub Lies : (w h : ℕ) → Block → (at : ℕ) → Type 0
Lies w h k at = Fits false w h (w * h) k at

-- The entries of n numbers from `first` on: each is the place y·w + x of the square that has the number.
unfoldable pub entries_from : (w h first n : ℕ) → List ℕ
entries_from w h first n = take n (drop first (map (place w) (curve (whole w h))))
