-- A file in blocks and a table in parts, as iterators meet them one after the other: the first block with a bad check is the file's, and what is told of a
-- block is told of the file.
use mathlib.Core.Bool.{Bool, true, false, not, cond}
use mathlib.Core.List.{List, [], ◌∷◌, ◌++◌, append-nil}
use mathlib.Core.Path.{◌≡◌, refl, sym, ap, ap₂, ◌∙◌}
use Prim.Native.Nat.{ℕ, zero, suc, ◌+◌, ◌*◌, ◌/◌, ◌≤◌, ◌<◌, min}
use native.Mathlib.Nat.{mul-zero, mul-suc}
use borrow.Author.Tests.{leb-true, leb-false, ltb-true, ltb-false}
use lib.Dec.{leb, ltb}
use native.Mathlib.Omega.{arith}
use lib.ListN.{length, get_or, take, drop, length-append, length-drop, drop_of_length-le}
use lib.Seq.{take_at, drop_at, take_all, drop-drop}
use Rattle.std.proofs.Common.{rules}
use Rattle.std.specs.Ordering.{ord_min, nat_cmp}
use Rattle.std.specs.List.{position_or_len, zip, enumerate_from}
use Rattle.std.specs.Slice.Iter.{chunks_exact_rest, chunks_exact_size, chunks_exact_steps, chunks_rest, chunks_size, chunks_steps}
use Rattle.std.proofs.lemmas.Iterator.{YieldsList}
use Rattle.std.proofs.lemmas.List.FromFn.{length-enumerate_from, get_or-enumerate_from}
use Rattle.std.proofs.lemmas.Slice.Zip.{length-zip, get_or-zip}
use Rattle.std.proofs.lemmas.Iterator.Splits.{YieldsList-from_shown_while}
use Rattle.terms.specs.Telling.{Tells}
use Rattle.terms.proofs.Telling.{tells_so}
use Rattle.sectors.specs.Sectors.{words_of, good, first_bad, whole_blocks}
use Rattle.sectors.specs.Steps.{slice, Has, Framed}
use Rattle.sectors.proofs.Entering.{slice_at}
use Rattle.sectors.proofs.Words.{words_take, words_drop}
use Rattle.sectors.proofs.Checks.{within_128}

-- the lesser of two numbers, as the library says it
pub lesser : (a b : ℕ) → ord_min nat_cmp a b ≡ min a b
lesser a b = by (ltb b a) refl
  where
    by : (t : Bool) → ltb b a ≡ t → ord_min nat_cmp a b ≡ min a b
    by true e = let z = ltb-true b a e in search rules
    by false e = let z = ltb-false b a e in search rules

-- So many parts of one size from the front of a list, of which the last may be short.
abbrev pub parts : (size n : ℕ) → List ℕ → List (List ℕ)
parts size zero vs = []
parts size (suc n) vs = take size vs ∷ parts size n (drop size vs)

pub parts_length : (size n : ℕ) (vs : List ℕ) → length (parts size n vs) ≡ n
parts_length size zero vs = refl
parts_length size (suc n) vs = ap suc (parts_length size n (drop size vs))

pub part_at : (size n : ℕ) (vs : List ℕ) (k : ℕ) (other : List ℕ) → k < n → get_or (parts size n vs) k other ≡ slice vs (size * k) size
part_at size zero vs k other l = absurd (omega arith)
part_at size (suc n) vs zero other l = ap (λ (m : ℕ). slice vs m size) (let z : 0 ≡ size * 0 = omega (arith, mul-zero size) in z)
part_at size (suc n) vs (suc k) other l =
    part_at size n (drop size vs) k other (omega arith)
    ∙ ap (take size) (drop-drop (size * k) size vs
    ∙ ap (λ (m : ℕ). drop m vs) (let z : size + size * k ≡ size * suc k = omega (arith, mul-suc size k) in z))

-- of a block's part that comes off the front, and the rest
one_off : (front rest all : List ℕ) → all ≡ front ++ rest → length front ≡ 512 → parts 512 (length all / 512) all ≡ front ∷ parts 512 (length rest / 512) rest
one_off front rest all is size =
    let long = length-append front rest in
    ap₂ (λ (n : ℕ) (vs : List ℕ). parts 512 n vs)
    (ap (λ (vs : List ℕ). length vs / 512) is ∙ (let z : length (front ++ rest) / 512 ≡ suc (length rest / 512) = omega arith in z)) is
    ∙ ap₂ (λ (x xs : List ℕ). x ∷ parts 512 (length rest / 512) xs) (take_at front rest 512 size) (drop_at front rest 512 size)

empty : (vs : List ℕ) → length vs ≡ 0 → vs ≡ []
empty [] none = refl
empty (v ∷ vs) none = absurd (omega arith)

-- of a part that comes off the front of a table's places
piece_off : (front rest all : List ℕ) → all ≡ front ++ rest → length front ≡ min 126 (length all) → 0 < length all
    → parts 126 ((length all + 125) / 126) all ≡ front ∷ parts 126 ((length rest + 125) / 126) rest
piece_off front rest all is size some =
    let long = length-append front rest in
    let same = ap length is in
    ap₂ (λ (n : ℕ) (vs : List ℕ). parts 126 n vs) (let z : (length all + 125) / 126 ≡ suc ((length rest + 125) / 126) = omega arith in z) is
    ∙ by (leb 126 (length front)) refl
  where
    by : (t : Bool) → leb 126 (length front) ≡ t
        → parts 126 (suc ((length rest + 125) / 126)) (front ++ rest) ≡ front ∷ parts 126 ((length rest + 125) / 126) rest
    by true e =
        let full = leb-true 126 (length front) e in
        let whole : length front ≡ 126 = omega arith in
        ap₂ (λ (x xs : List ℕ). x ∷ parts 126 ((length rest + 125) / 126) xs) (take_at front rest 126 whole) (drop_at front rest 126 whole)
    by false e =
        let short = leb-false 126 (length front) e in
        let long = length-append front rest in
        let same = ap length is in
        let none : length rest ≡ 0 = omega arith in
        ap₂ (λ (x xs : List ℕ). x ∷ parts 126 ((length rest + 125) / 126) xs)
        (take_all 126 (front ++ rest) (omega arith) ∙ ap (λ (vs : List ℕ). front ++ vs) (empty rest none) ∙ append-nil front)
        (drop_of_length-le (front ++ rest) (let z : length (front ++ rest) ≤ 126 = omega arith in z) ∙ sym (empty rest none))

-- the parts that a table's chunks of 126 places are
pub pieces_in_turn : {s : _} (table : List ℕ) → chunks_rest s ≡ table → chunks_size s ≡ 126
    → YieldsList (chunks_steps {A = ℕ}) (λ x. x.now) s (parts 126 ((length table + 125) / 126) table)
pieces_in_turn {s} table rest size =
    rw (sym rest) (YieldsList-from_shown_while (chunks_steps {A = ℕ}) (λ x. x.now)
    (λ t. parts 126 ((length (chunks_rest t) + 125) / 126) (chunks_rest t)) (λ t. chunks_size t ≡ 126)
    (λ a b k step. parts_length 126 ((length (chunks_rest a) + 125) / 126) (chunks_rest a) ∙ (let z = step.1.0 in omega arith))
    (λ a x b k step. (
      step.0 ∙ k,
      piece_off x.now (chunks_rest b) (chunks_rest a) step.1.0
          (step.1.1 ∙ ap (λ (n : ℕ). min n (length (chunks_rest a))) k) step.1.2,
    )) s size)

-- the blocks that a file's chunks of 512 bytes are
pub blocks_in_turn : {s : _} (file : List ℕ) → chunks_exact_rest s ≡ file → chunks_exact_size s ≡ 512
    → YieldsList (chunks_exact_steps {A = ℕ}) (λ x. x.now) s (parts 512 (length file / 512) file)
blocks_in_turn {s} file rest size =
    rw (sym rest) (YieldsList-from_shown_while (chunks_exact_steps {A = ℕ}) (λ x. x.now)
    (λ t. parts 512 (length (chunks_exact_rest t) / 512) (chunks_exact_rest t)) (λ t. chunks_exact_size t ≡ 512)
    (λ a b k step. parts_length 512 (length (chunks_exact_rest a) / 512) (chunks_exact_rest a) ∙ (let z = step.1.0 in omega arith))
    (λ a x b k step. (step.0 ∙ k, one_off x.now (chunks_exact_rest b) (chunks_exact_rest a) step.1.0 (step.1.1 ∙ k))) s size)

-- so many parts and blocks
abbrev pub pieces : List ℕ → ℕ
pieces table = (length table + 125) / 126

-- a table's parts beside a file's blocks, and its parts by their numbers: what comes at turn k
abbrev pub pairs : (table file : List ℕ) → List (List ℕ × List ℕ)
pairs table file = zip (parts 126 (pieces table) table) (parts 512 (whole_blocks file) file)

pub pairs_length : (table file : List ℕ) → length (pairs table file) ≡ min (pieces table) (whole_blocks file)
pairs_length table file =
    length-zip (parts 126 (pieces table) table) (parts 512 (whole_blocks file) file)
    ∙ ap₂ min (parts_length 126 (pieces table) table) (parts_length 512 (whole_blocks file) file)

pub pair_at : (table file : List ℕ) (k : ℕ) {part block : List ℕ} → k < length (pairs table file) → (part, block) ≡ get_or (pairs table file) k (part, block)
    → (k < pieces table) × (k < whole_blocks file) × (part ≡ slice table (126 * k) 126) × (block ≡ slice file (512 * k) 512)
pair_at table file k {part} {block} l here =
    let size = pairs_length table file in
    let some = parts_length 126 (pieces table) table in
    let blocks = parts_length 512 (whole_blocks file) file in
    let is = here ∙ get_or-zip (parts 126 (pieces table) table) (parts 512 (whole_blocks file) file) k (part, block) (omega arith) (omega arith) in (
      omega arith,
      omega arith,
      ap (λ (p : List ℕ × List ℕ). p.0) is ∙ part_at 126 (pieces table) table k part (omega arith),
      ap (λ (p : List ℕ × List ℕ). p.1) is ∙ part_at 512 (whole_blocks file) file k block (omega arith),
    )

abbrev pub numbers : List ℕ → List (ℕ × List ℕ)
numbers table = enumerate_from 0 (parts 126 (pieces table) table)

pub numbers_length : (table : List ℕ) → length (numbers table) ≡ pieces table
numbers_length table = length-enumerate_from 0 (parts 126 (pieces table) table) ∙ parts_length 126 (pieces table) table

pub number_at : (table : List ℕ) (k : ℕ) {b : ℕ} {part : List ℕ} → k < length (numbers table) → (b, part) ≡ get_or (numbers table) k (b, part)
    → (k < pieces table) × (b ≡ k) × (part ≡ slice table (126 * k) 126)
number_at table k {b} {part} l here =
    let size = numbers_length table in
    let some = parts_length 126 (pieces table) table in
    let is = here ∙ get_or-enumerate_from 0 (parts 126 (pieces table) table) k (b, part) (omega arith) in (
      omega arith,
      ap (λ (p : ℕ × List ℕ). p.0) is ∙ omega arith,
      ap (λ (p : ℕ × List ℕ). p.1) is ∙ part_at 126 (pieces table) table k part (omega arith),
    )

abbrev pub bad : List ℕ → Bool
bad block = not (good (words_of block))

pub first_bad_found : (n : ℕ) (file : List ℕ) → 512 * n ≤ length file → position_or_len bad (parts 512 n file) ≡ first_bad n (words_of file)
unfolding first_bad
first_bad_found zero file room = refl
first_bad_found (suc n) file room =
    let more : position_or_len bad (parts 512 n (drop 512 file)) ≡ first_bad n (drop 128 (words_of file)) =
    first_bad_found n (drop 512 file) (let long = length-drop 512 file in omega arith) ∙ ap (first_bad n) (words_drop file 128 (omega arith)) in
    let here : good (words_of (take 512 file)) ≡ good (words_of file) = ap good (words_take file 128 (omega arith)) ∙ within_128 (words_of file) in
    by (good (words_of (take 512 file))) ∙ ap₂ (λ (t : Bool) (k : ℕ). cond t (suc k) 0) here more
  where
    by : (t : Bool) → cond (not (not t)) (1 + position_or_len bad (parts 512 n (drop 512 file))) 0
        ≡ cond t (suc (position_or_len bad (parts 512 n (drop 512 file)))) 0
    by true = omega arith
    by false = refl

-- what is told of a block by itself is told of the file's words
module _ (words : List ℕ) (b : ℕ) {block : List ℕ} (is : block ≡ slice words (128 * b) 128) where
  word_there : (j : ℕ) → j < 128 → get_or block (0 + j) 0 ≡ get_or words (128 * b + j) 0
  word_there j l =
      ap₂ (λ (ws : List ℕ) (k : ℕ). get_or ws k 0) is (let z : 0 + j ≡ j = omega arith in z) ∙ slice_at words (128 * b) 128 j l

  pub words_tell : (vs : List ℕ) → length vs ≤ 128 → {r : Bool} → Tells r (Has block 0 vs) → Tells r (Has words (128 * b) vs)
  words_tell vs few tells =
      tells_so tells (λ has j l. sym (word_there j (omega arith)) ∙ has j l) (λ has j l. word_there j (omega arith) ∙ has j l)

  pub frame_tells : (used : ℕ) {r : Bool} → Tells r (Framed block 0 used) → Tells r (Framed words b used)
  frame_tells used tells =
      tells_so tells (λ f. ((λ j m l. sym (word_there j (omega arith)) ∙ f.0 j m l), sym (word_there 126 (omega arith)) ∙ f.1))
      (λ f. ((λ j m l. word_there j (omega arith) ∙ f.0 j m l), word_there 126 (omega arith) ∙ f.1))
