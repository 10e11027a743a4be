-- The words of successive places: those in one block of the file are successive words, so that a loop may go on from piece to piece.
use mathlib.Core.Bool.{Bool, true, false, cond, true≢false}
use mathlib.Core.List.{List, ◌∷◌}
use mathlib.Core.Path.{◌≡◌, refl, sym, ap, ap₂, subst, ◌∙◌}
use Prim.Native.Nat.{ℕ, zero, suc, ◌+◌, ◌-◌, ◌*◌, ◌/◌, ◌%◌, ◌≤◌, ◌<◌}
use native.Mathlib.Omega.{arith}
use borrow.Author.Tests.{ltb-true, ltb-false, eqb-true, eq-eqb}
use lib.Dec.{eqb, ltb}
use lib.ListN.{length, get_or, take, drop, length-drop}
use lib.Seq.{take_all, get_or-drop}
use Rattle.std.specs.List.{filter, range_with_len}
use Rattle.terms.specs.Telling.{Tells}
use Rattle.terms.proofs.Telling.{grants, tells_equal, tells_so}
use Rattle.sectors.specs.Sectors.{words_of}
use Rattle.sectors.specs.Steps.{slice, Has}
use Rattle.sectors.proofs.Words.{words_drop}
use Rattle.sectors.proofs.Entering.{slice_length, slice_at}
use Rattle.copies.specs.Copies.{image, Agree}
use Rattle.holdings.specs.Holdings.{word_for, table_word, Reaches, Entered, Repeated}

-- what holds of all below `done`, and of m more, holds of all below their sum
pub all_further : (P : ℕ → Type 0) (done m : ℕ) → ((i : ℕ) → i < done → P i) → ((j : ℕ) → j < m → P (done + j)) → (i : ℕ) → i < done + m → P i
all_further P done m so_far more i l = by (ltb i done) refl
  where
    by : (b : Bool) → ltb i done ≡ b → P i
    by true e = so_far i (ltb-true i done e)
    by false e =
        let behind = ltb-false i done e in
        subst P (let z : done + (i - done) ≡ i = omega arith in z) (more (i - done) (omega arith))

-- the word of a place j behind another, in its block
words_on : (p j : ℕ) → p % 126 + j < 126 → word_for (p + j) ≡ word_for p + j
words_on p j l =
    let block : (p + j) / 126 ≡ p / 126 = omega arith in
    let rest : (p + j) % 126 ≡ p % 126 + j = omega arith in
    omega arith

word_there : (words : List ℕ) (p j : ℕ) → p % 126 + j < 126 → get_or words (word_for p + j) 0 ≡ table_word words (p + j)
word_there words p j l = ap (λ (k : ℕ). get_or words k 0) (sym (words_on p j l))

-- a file that reaches n places has room for every piece of them that lies in one of its blocks
pub piece_fits : (file : List ℕ) {n : ℕ} → Reaches file n → (p m : ℕ) → p + m ≤ n → 1 ≤ m → m ≤ 126 - p % 126 → 4 * (word_for p + m) ≤ length file
piece_fits file reaches p m l some few =
    let last = reaches (p + (m - 1)) (omega arith) in
    let is = words_on p (m - 1) (omega arith) in
    omega arith

-- a piece of m places behind the first `done`
module _ (words : List ℕ) (at done m : ℕ) (few : m ≤ 126 - (at + done) % 126) where
  one_entered : (j : ℕ) → j < m → get_or words (word_for (at + done) + j) 0 ≡ table_word words (at + (done + j))
  one_entered j l =
      word_there words (at + done) j (omega arith) ∙ ap (table_word words) (let z : at + done + j ≡ at + (done + j) = omega arith in z)

  -- and its entries, which the file's bytes from its first word on begin with
  module _ (entries : List ℕ) (room : done + m ≤ length entries) where
    abbrev First : ℕ → Type 0
    First n = (i : ℕ) → i < n → table_word words (at + i) ≡ get_or entries i 0

    piece_length : length (slice entries done m) ≡ m
    piece_length = slice_length entries done m room

    pub entered_more : First done → Has words (word_for (at + done)) (slice entries done m) → First (done + m)
    entered_more so_far has =
        all_further (λ i. table_word words (at + i) ≡ get_or entries i 0) done m so_far
        (λ j l. let size = piece_length in sym (one_entered j l) ∙ has j (omega arith) ∙ slice_at entries done m j l)

    pub entered_piece : Entered words at entries → Has words (word_for (at + done)) (slice entries done m)
    entered_piece all j l =
        let size = piece_length in
        one_entered j (omega arith) ∙ all (done + j) (omega arith) ∙ sym (slice_at entries done m j (omega arith))

-- what bytes from a word on begin with
pub begins : (file : List ℕ) (a : ℕ) (vs : List ℕ) → 4 * a ≤ length file → {r : Bool}
    → Tells r (Has (words_of (take (length file - 4 * a) (drop (4 * a) file))) 0 vs) → Tells r (Has (words_of file) a vs)
begins file a vs room tells =
    let left = length-drop (4 * a) file in
    let rest : words_of (take (length file - 4 * a) (drop (4 * a) file)) ≡ drop a (words_of file) =
    ap words_of (take_all (length file - 4 * a) (drop (4 * a) file) (omega arith)) ∙ words_drop file a room in
    let at : (j : ℕ) → get_or (words_of (take (length file - 4 * a) (drop (4 * a) file))) (0 + j) 0 ≡ get_or (words_of file) (a + j) 0 =
    λ j. ap₂ (λ (ws : List ℕ) (k : ℕ). get_or ws k 0) rest (let z : 0 + j ≡ j = omega arith in z) ∙ get_or-drop a (words_of file) j 0 in
    tells_so tells (λ has j l. sym (at j) ∙ has j l) (λ has j l. at j ∙ has j l)

-- of so many numbers from one on those that pass a test: as many as there are exactly if all do
pub all_counted : (test : ℕ → Bool) (n from : ℕ)
    → (length (filter test (range_with_len from n)) ≤ n) × Tells (eqb (length (filter test (range_with_len from n))) n)
    ((i : ℕ) → i < n → test (from + i) ≡ true)
all_counted test zero from = (omega arith, grants (λ i l. absurd (omega arith)))
all_counted test (suc n) from = by (test from) refl (all_counted test n (from + 1))
  where
    by : (t : Bool) → test from ≡ t
        → (length (filter test (range_with_len (from + 1) n)) ≤ n)
        × Tells (eqb (length (filter test (range_with_len (from + 1) n))) n) ((i : ℕ) → i < n → test (from + 1 + i) ≡ true)
        → (length (cond t (from ∷ filter test (range_with_len (from + 1) n)) (filter test (range_with_len (from + 1) n))) ≤ suc n)
        × Tells (eqb (length (cond t (from ∷ filter test (range_with_len (from + 1) n)) (filter test (range_with_len (from + 1) n)))) (suc n))
        ((i : ℕ) → i < suc n → test (from + i) ≡ true)
    by true e more = (omega (arith, more.0), tells_equal _ _ all (λ ps. ap suc (eqb-true _ _ (more.1.1 (λ i l. later i (ps (suc i) (omega arith)))))))
      where
        all : suc (length (filter test (range_with_len (from + 1) n))) ≡ suc n → (i : ℕ) → i < suc n → test (from + i) ≡ true
        all same zero l = ap test (let z : from + 0 ≡ from = omega arith in z) ∙ e
        all same (suc i) l =
            ap test (let z : from + suc i ≡ from + 1 + i = omega arith in z)
            ∙ more.1.0 (eq-eqb _ _ (let z : length (filter test (range_with_len (from + 1) n)) ≡ n = omega arith in z)) i (omega arith)

        later : (i : ℕ) → test (from + suc i) ≡ true → test (from + 1 + i) ≡ true
        later i is = ap test (let z : from + 1 + i ≡ from + suc i = omega arith in z) ∙ is
    by false e more = (
      omega (arith, more.0),
      tells_equal _ _ (λ same. absurd (omega (arith, more.0)))
          (λ ps. absurd (true≢false (sym (ps 0 (omega arith)) ∙ ap test (let z : from + 0 ≡ from = omega arith in z) ∙ e))),
    )

-- whether word i behind one is the image of word i behind another; and what a count of those says of all
abbrev pub agrees : (opposite : Bool) (c : ℕ) → List ℕ → (from to i : ℕ) → Bool
agrees opposite c words from to i = eqb (get_or words (to + i) 0) (image opposite c (get_or words (from + i) 0))

pub agree_counted : (opposite : Bool) (c : ℕ) (words : List ℕ) (from to n : ℕ) {many : ℕ}
    → many ≡ length (filter (agrees opposite c words from to) (range_with_len 0 n)) → Tells (eqb many n) (Agree opposite c words from to n)
agree_counted opposite c words from to n {many} is =
    let test = agrees opposite c words from to in
    let none : (i : ℕ) → 0 + i ≡ i = λ i. omega arith in
    tells_so (subst (λ (k : ℕ). Tells (eqb k n) ((i : ℕ) → i < n → test (0 + i) ≡ true)) (sym is) (all_counted test n 0).1)
    (λ all i l. eqb-true _ _ (sym (ap test (none i)) ∙ all i l)) (λ all i l. ap test (none i) ∙ eq-eqb _ _ (all i l))

-- a piece of m places that has the images of another
module _ (opposite : Bool) (c : ℕ) (words : List ℕ) (from to done m : ℕ) (few_from : m ≤ 126 - (from + done) % 126) (few_to : m ≤ 126 - (to + done) % 126) where
  one_from : (j : ℕ) → j < m → get_or words (word_for (from + done) + j) 0 ≡ table_word words (from + (done + j))
  one_from = one_entered words from done m few_from

  one_to : (j : ℕ) → j < m → get_or words (word_for (to + done) + j) 0 ≡ table_word words (to + (done + j))
  one_to = one_entered words to done m few_to

  pub repeated_more : Repeated opposite c words from to done → Agree opposite c words (word_for (from + done)) (word_for (to + done)) m
      → Repeated opposite c words from to (done + m)
  repeated_more so_far agree =
      all_further (λ i. table_word words (to + i) ≡ image opposite c (table_word words (from + i))) done m so_far
      (λ j l. sym (one_to j l) ∙ agree j l ∙ ap (image opposite c) (one_from j l))

  pub repeated_piece : {n : ℕ} → done + m ≤ n → Repeated opposite c words from to n
      → Agree opposite c words (word_for (from + done)) (word_for (to + done)) m
  repeated_piece room all j l = one_to j l ∙ all (done + j) (omega arith) ∙ ap (image opposite c) (sym (one_from j l))
