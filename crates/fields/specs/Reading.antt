-- How the reader finds the fields of a line: where each begins and ends, and where the next begins. Document 01, "Order lines": "The reader takes the
-- fields of a line one at a time, left to right."
use Rattle.std.specs.Prelude.{cond, List, [], ◌∷◌, ℕ, ◌+◌, leb, eqb, length, drop, Option, Some, None}
use Rattle.std.specs.Borrow.{Bor}
use Rattle.fields.specs.declared.Taken.{Taken}
use Rattle.fields.specs.declared.Taken.TheVariants.{Two, Three}

-- The bytes before the first space.
unfoldable pub up_to_space : List ℕ → List ℕ
up_to_space [] = []
up_to_space (b ∷ bs) = cond (eqb b 32) [] (b ∷ up_to_space bs)

-- The field that begins at a place, if the line reaches so far.
abbrev pub field_at : (line : List ℕ) (at : ℕ) → Option (List ℕ)
field_at line at = cond (leb at (length line)) (Some (up_to_space (drop at line))) None

-- The place past a field and the space after it.
abbrev pub past : (at : ℕ) → Option (List ℕ) → ℕ
past at (Some field) = at + (length field + 1)
past at None = at

-- What is taken of a line with these first four fields, as far as it has them: its two or three.
abbrev pub taken_of : (a b c d : Option (List ℕ)) → List (List ℕ)
taken_of (Some a) (Some b) None d = a ∷ b ∷ []
taken_of (Some a) (Some b) (Some c) None = a ∷ b ∷ c ∷ []
taken_of (Some a) (Some b) (Some c) (Some d) = []
taken_of (Some a) None c d = []
taken_of None b c d = []

-- The first four fields of a line, one after the other, and what is taken of it.
abbrev pub three_read : List ℕ → List (List ℕ)
three_read line =
    let a = field_at line 0 in
    let at_b = past 0 a in
    let b = field_at line at_b in
    let at_c = past at_b b in
    let c = field_at line at_c in
    let d = field_at line (past at_c c) in
    taken_of a b c d

-- The bytes of what is taken, none where the line has fewer fields or more.
abbrev pub pieces : Option Taken → List (List ℕ)
pieces (Some (Two word a)) = word.now ∷ a.now ∷ []
pieces (Some (Three word a b)) = word.now ∷ a.now ∷ b.now ∷ []
pieces None = []

-- The slice of a line that begins at a place of it, and has these bytes: `ref_ptr` tells a slice's block of memory, and the place there of its first byte.
abbrev pub slice_at : (line : Bor (List ℕ)) (at : ℕ) → List ℕ → Bor (List ℕ)
slice_at line at field = record { ref_ptr = (line.ref_ptr.0, line.ref_ptr.1 + at); now = field }

-- What is taken of a line with these two or three fields: its slices with their bytes, one behind the other from its front, with a space between.
abbrev pub taken : (line : Bor (List ℕ)) → List (List ℕ) → Option Taken
taken line (word ∷ a ∷ []) = Some (Two (slice_at line 0 word) (slice_at line (past 0 (Some word)) a))
taken line (word ∷ a ∷ b ∷ []) =
    let at_a = past 0 (Some word) in
    Some (Three (slice_at line 0 word) (slice_at line at_a a) (slice_at line (past at_a (Some a)) b))
taken line [] = None
taken line (word ∷ []) = None
taken line (word ∷ a ∷ b ∷ c ∷ fields) = None
