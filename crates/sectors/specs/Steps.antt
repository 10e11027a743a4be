-- What the functions that read and write blocks ask and leave, word by word. It renders no sentence of document 02.
use Rattle.std.specs.Prelude.{List, [], ◌∷◌, ◌++◌, ◌≡◌, ℕ, ◌+◌, ◌*◌, ◌≤◌, ◌<◌, cond, Option, Some, None, nat_lt, length, get_or, take, drop}
use Rattle.sectors.specs.Sectors.{check_of, first_bad_in, whole_blocks}

-- n words from `from` on.
abbrev pub slice : List ℕ → (from n : ℕ) → List ℕ
slice vs from n = take n (drop from vs)

-- The words from `at` on are those of a list.
abbrev pub Has : (words : List ℕ) (at : ℕ) → List ℕ → Type 0
Has words at vs = (i : ℕ) → i < length vs → get_or words (at + i) 0 ≡ get_or vs i 0

-- Words from `least` on and below `most` of a block that begins at word `at` are zero.
abbrev pub Zeros : (words : List ℕ) (at least most : ℕ) → Type 0
Zeros words at least most = (j : ℕ) → least ≤ j → j < most → get_or words (at + j) 0 ≡ 0

-- Block b has so many words in use: the others are zero, and its count says so.
abbrev pub Framed : (words : List ℕ) (b used : ℕ) → Type 0
Framed words b used = Zeros words (128 * b) used 126 × (get_or words (128 * b + 126) 0 ≡ used)

-- A block's content with its count behind it, and then the check that is due to them.
abbrev pub closed : (content : List ℕ) (used : ℕ) → List ℕ
closed content used =
    let summed : List ℕ = content ++ (used ∷ []) in
    summed ++ (check_of summed ∷ [])

-- The first whole block whose check is bad, where there is one.
abbrev pub bad_block : (file : List ℕ) → Option ℕ
bad_block file = cond (nat_lt (first_bad_in file) (whole_blocks file)) (Some (first_bad_in file)) None
