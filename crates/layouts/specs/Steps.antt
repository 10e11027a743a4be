-- What the functions that judge, write and read a card ask and leave, place by place. It renders no sentence of document 02.
use Rattle.std.specs.Prelude.{Bool, cond, List, map, ◌≡◌, ℕ, ◌+◌, ◌-◌, ◌*◌, ◌/◌, ◌%◌, ◌≤◌, ◌<◌, min, length, get_or}
use Rattle.division.specs.Division.{whole, curve}
use Rattle.leaves.specs.Walk.{place}
use Rattle.sectors.specs.Steps.{Has, Framed}
use Rattle.tables.specs.Tables.{places}
use Rattle.layouts.specs.Layouts.{head, table_blocks}

-- A file with room for the card of a table of so many places.
abbrev pub Room : (file : List ℕ) (places : ℕ) → Type 0
Room file places = 512 * (1 + table_blocks places) ≤ length file

-- So for the places that are told by entries.
abbrev pub Reaches : (file : List ℕ) (entries : List ℕ) → Type 0
Reaches file entries = (i : ℕ) → i < length entries → Room file (1 + get_or entries i 0)

-- The word of a card for place p of its table: the first block is not the table's.
abbrev pub table_word : (words : List ℕ) (p : ℕ) → ℕ
table_word words p = get_or words (128 * (1 + p / 126) + p % 126) 0

-- How many of the table's words its block b has in use.
abbrev pub in_use : (places b : ℕ) → ℕ
in_use places b = min 126 (places - 126 * b)

-- The words have what is due for square number n, which has the place p: by square n at p, else p at n. So for entries of successive numbers from `first` on.
abbrev pub Told : (by_square : Bool) (words : List ℕ) (n p : ℕ) → Type 0
Told by_square words n p = table_word words (cond by_square p n) ≡ cond by_square n p

abbrev pub AllTold : (by_square : Bool) (words : List ℕ) (first : ℕ) (entries : List ℕ) → Type 0
AllTold by_square words first entries = (i : ℕ) → i < length entries → Told by_square words (first + i) (get_or entries i 0)

-- The entries of a w by h area by number, and the words told right for the first n of them, and for m from `first` on.
abbrev pub entries : (w h : ℕ) → List ℕ
entries w h = map (place w) (curve (whole w h))

abbrev pub RightTold : (by_square : Bool) (words : List ℕ) (w h n : ℕ) → Type 0
RightTold by_square words w h n = (i : ℕ) → i < n → Told by_square words i (get_or (entries w h) i 0)

abbrev pub PartTold : (by_square : Bool) (words : List ℕ) (w h first m : ℕ) → Type 0
PartTold by_square words w h first m = (i : ℕ) → i < m → Told by_square words (first + i) (get_or (entries w h) (first + i) 0)

-- The first m of the table's blocks have their frames; block 0 has its words and its frame.
abbrev pub Frames : (words : List ℕ) (places m : ℕ) → Type 0
Frames words places m = (b : ℕ) → b < m → Framed words (1 + b) (in_use places b)

abbrev pub Headed : (words : List ℕ) (w h kind : ℕ) → Type 0
Headed words w h kind = Has words 0 (head w h kind) × Framed words 0 4

-- The table of so many places that a card's words have.
abbrev pub table_in : (words : List ℕ) (n : ℕ) → List ℕ
table_in words n = places (table_word words) n
