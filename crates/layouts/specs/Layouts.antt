-- What a card is: the file of an area's table, in blocks of 512 bytes, and how long it is. Document 02, order 8: "Block 0 uses four words .. The table follows
-- from block 1, each block full but perhaps the last, none empty." A block is that of `sectors`.
use Rattle.std.specs.Prelude.{List, [], ◌∷◌, ◌++◌, ℕ, ◌+◌, ◌*◌, ◌/◌, eqb, length}
use Rattle.sectors.specs.Sectors.{bytes_of, sealed, packed}
use Rattle.tables.specs.Tables.{due_by}

-- "version 1, width, height, kind (1 by number, 2 by square)"
abbrev pub head : (w h kind : ℕ) → List ℕ
head w h kind = 1 ∷ w ∷ h ∷ kind ∷ []

-- "each block full but perhaps the last, none empty": so many blocks, 126 words to each, for a table of so many places.
abbrev pub table_blocks : (places : ℕ) → ℕ
table_blocks places = (places + 125) / 126

-- The card of any table, as words and as bytes.
abbrev pub card_words : (w h kind : ℕ) → (table : List ℕ) → List ℕ
card_words w h kind table = sealed (head w h kind) ++ packed (table_blocks (length table)) table

unfoldable pub card_of : (w h kind : ℕ) → (table : List ℕ) → List ℕ
card_of w h kind table = bytes_of (card_words w h kind table)

-- "both take only a right table": the table that is due to a kind, of those two, and its card.
abbrev pub right_table : (w h kind : ℕ) → List ℕ
right_table w h kind = due_by (eqb kind 2) w h

abbrev pub card : (w h kind : ℕ) → List ℕ
card w h kind = card_of w h kind (right_table w h kind)

-- How many bytes a card of an area has, of either kind.
abbrev pub card_bytes : (w h : ℕ) → ℕ
card_bytes w h = 512 * (1 + table_blocks (w * h))
