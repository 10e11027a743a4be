-- What the functions that look for an area's table by number in a file ask and tell: which word of the file each place of its table has, and whether the
-- squares of a block of the division stand there. It renders no sentence of document 02.
use Rattle.std.specs.Prelude.{Bool, true, false, cond, List, map, ◌≡◌, ℕ, ◌+◌, ◌*◌, ◌/◌, ◌%◌, ◌≤◌, ◌<◌, eqb, length, get_or}
use Rattle.division.specs.Division.{Block, whole, curve}
use Rattle.leaves.specs.Walk.{place, over_block}
use Rattle.copies.specs.Copies.{image}
use Rattle.tables.specs.Tables.{places}

-- The number of the word that place p of a table has: 126 to a block of the file, from block 1 on. The word itself, and the table of n places that a file's
-- words have.
abbrev pub word_for : (p : ℕ) → ℕ
word_for p = 128 * (1 + p / 126) + p % 126

abbrev pub table_word : (words : List ℕ) (p : ℕ) → ℕ
table_word words p = get_or words (word_for p) 0

abbrev pub table_in : (words : List ℕ) (n : ℕ) → List ℕ
table_in words n = places (table_word words) n

-- A file of so many bytes that n places have their words in it.
abbrev pub Reaches : (file : List ℕ) (n : ℕ) → Type 0
Reaches file n = (p : ℕ) → p < n → 4 * word_for p + 4 ≤ length file

-- The words of places from `at` on are some entries; those of n places from `to` on are the images of those from `from` on.
abbrev pub Entered : (words : List ℕ) (at : ℕ) (entries : List ℕ) → Type 0
Entered words at entries = (i : ℕ) → i < length entries → table_word words (at + i) ≡ get_or entries i 0

abbrev pub Repeated : (opposite : Bool) (c : ℕ) (words : List ℕ) (from to n : ℕ) → Type 0
Repeated opposite c words from to n = (i : ℕ) → i < n → table_word words (to + i) ≡ image opposite c (table_word words (from + i))

-- Whether all was right so far, and square number n is too: its entry in a table by number is p. So of all squares of a block of the division, numbered on
-- from `at`.
abbrev pub right_one : List ℕ → (so_far : Bool) (n p : ℕ) → Bool
right_one t so_far n p = cond (eqb (get_or t n 0) p) so_far false

abbrev pub block_right : (w : ℕ) → List ℕ → Block → (at : ℕ) → Bool
block_right w t k at = over_block (right_one t) true w k at

-- The entries of a w by h area by number; and each place of the table has its own.
abbrev pub entries : (w h : ℕ) → List ℕ
entries w h = map (place w) (curve (whole w h))

abbrev pub AllRight : (words : List ℕ) (w h : ℕ) → Type 0
AllRight words w h = (i : ℕ) → i < w * h → table_word words i ≡ get_or (entries w h) i 0
