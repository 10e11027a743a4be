-- A table written and copied out block by block: how far a loop has got, and that the whole file is the card then.
use mathlib.Core.Bool.{Bool, true, false}
use mathlib.Core.List.{List, ◌++◌, append_assoc, append-nil}
use mathlib.Core.Path.{◌≡◌, refl, sym, ap, ap₂, ◌∙◌}
use Prim.Native.Nat.{ℕ, zero, suc, ◌+◌, ◌-◌, ◌*◌, ◌/◌, ◌%◌, ◌≤◌, ◌<◌, min}
use native.Mathlib.Numerals.{add-one}
use native.Mathlib.Omega.{arith}
use borrow.Author.Tests.{ltb-true, ltb-false}
use lib.Dec.{ltb}
use lib.ListN.{length, get_or, take, drop, length-append, drop_of_length-le, get_or-append}
use lib.Seq.{sets, sets-eq, drop-drop, get_or-take, get_or-append-add, length-take-le, ext_get_or}
use Rattle.sectors.specs.Sectors.{words_of, bytes_of, sealed, packed}
use Rattle.sectors.specs.Steps.{slice}
use Rattle.sectors.proofs.Words.{Bytes, same_bytes}
use Rattle.sectors.proofs.Entering.{sets_append, slice_at}
use Rattle.sectors.proofs.Packing.{sealed_length, packed_length}
use Rattle.tables.proofs.PlaceByPlace.{places_length, place_holds}
use Rattle.layouts.specs.Layouts.{head, table_blocks, card_of}
use Rattle.layouts.specs.Steps.{table_word, table_in}

-- one block more is packed, and written
packed_more : (b : ℕ) (vs : List ℕ) → packed (suc b) vs ≡ packed b vs ++ sealed (slice vs (126 * b) 126)
unfolding packed
packed_more zero vs = append-nil (sealed (take 126 vs))
packed_more (suc b) vs =
    ap (λ (ws : List ℕ). sealed (take 126 vs) ++ ws) (packed_more b (drop 126 vs)
    ∙ ap (λ (l : List ℕ). packed b (drop 126 vs) ++ sealed (take 126 l))
    (drop-drop (126 * b) 126 vs ∙ ap (λ (k : ℕ). drop k vs) (let z : 126 + 126 * b ≡ 126 * suc b = omega arith in z)))
    ∙ sym (append_assoc (sealed (take 126 vs)) (packed b (drop 126 vs)) (sealed (slice vs (126 * suc b) 126)))

pub block_more : (words vs : List ℕ) (b : ℕ) {so_far now : List ℕ} → so_far ≡ sets words 128 (packed b vs)
    → now ≡ sets so_far (128 * (1 + b)) (sealed (slice vs (126 * b) 126)) → now ≡ sets words 128 (packed (b + 1) vs)
block_more words vs b {so_far} before step =
    let size = packed_length b vs in
    let at : 128 * (1 + b) ≡ 128 + length (packed b vs) = omega arith in
    step
    ∙ ap (λ (ws : List ℕ). sets ws (128 * (1 + b)) (sealed (slice vs (126 * b) 126))) before
    ∙ ap (λ (k : ℕ). sets (sets words 128 (packed b vs)) k (sealed (slice vs (126 * b) 126))) at
    ∙ sym (sets_append words 128 (packed b vs) (sealed (slice vs (126 * b) 126)))
    ∙ ap (sets words 128) (sym (packed_more b vs) ∙ ap (λ (k : ℕ). packed k vs) (sym (add-one b)))

-- all words of a list entered from its beginning are the list
all_set : (l vs : List ℕ) → length vs ≡ length l → sets l 0 vs ≡ vs
all_set l vs same =
    sets-eq vs l 0 (omega arith)
    ∙ ap (λ (rest : List ℕ). vs ++ rest) (drop_of_length-le l (let z : length l ≤ 0 + length vs = omega arith in z))
    ∙ append-nil vs

-- block 0 and then the table's blocks: the card
pub card_written : (w h kind : ℕ) (table file : List ℕ) (places : ℕ) → length table ≡ places → Bytes file → length file ≡ 512 * (1 + table_blocks places)
    → (words : List ℕ) → length words ≡ length file / 4 → {headed : List ℕ} → headed ≡ sets words 0 (sealed (head w h kind))
    → words_of file ≡ sets headed 128 (packed (table_blocks places) table) → file ≡ card_of w h kind table
unfolding card_of
card_written w h kind table file places long bytes size words same {headed} is_headed is =
    let n = table_blocks places in
    let one : length (sealed (head w h kind)) ≡ 128 = sealed_length (head w h kind) (omega arith) in
    let blocks = packed_length n table in
    let all = sealed (head w h kind) ++ packed n table in
    let all_length : length all ≡ 128 * (1 + n) = length-append (sealed (head w h kind)) (packed n table) ∙ omega (arith, one, blocks) in
    let joined : words_of file ≡ all =
    is
    ∙ ap₂ (λ (ws : List ℕ) (k : ℕ). sets ws k (packed n table)) is_headed (let z : 128 ≡ 0 + length (sealed (head w h kind)) = omega arith in z)
    ∙ sym (sets_append words 0 (sealed (head w h kind)) (packed n table))
    ∙ all_set words all (omega (arith, all_length, same, size)) in
    same_bytes file all bytes (omega (arith, all_length, size)) joined
    ∙ ap (λ (k : ℕ). bytes_of (sealed (head w h kind) ++ packed (table_blocks k) table)) (sym long)

-- words entered into a list, by its places
pub entered_in : (l : List ℕ) (at : ℕ) (vs : List ℕ) (j : ℕ) → at + length vs ≤ length l → j < length vs → get_or (sets l at vs) (at + j) 0 ≡ get_or vs j 0
entered_in l at vs j room m =
    let before : length (take at l) ≡ at = length-take-le at l (omega arith) in
    ap (λ (ws : List ℕ). get_or ws (at + j) 0) (sets-eq vs l at room ∙ append_assoc (take at l) vs (drop (at + length vs) l))
    ∙ ap (λ (k : ℕ). get_or (take at l ++ (vs ++ drop (at + length vs) l)) (k + j) 0) (sym before)
    ∙ get_or-append-add (take at l) (vs ++ drop (at + length vs) l) j 0
    ∙ get_or-append vs (drop (at + length vs) l) 0 j m

pub kept_before : (l : List ℕ) (at : ℕ) (vs : List ℕ) (p : ℕ) → at + length vs ≤ length l → p < at → get_or (sets l at vs) p 0 ≡ get_or l p 0
kept_before l at vs p room m =
    let before : length (take at l) ≡ at = length-take-le at l (omega arith) in
    ap (λ (ws : List ℕ). get_or ws p 0) (sets-eq vs l at room ∙ append_assoc (take at l) vs (drop (at + length vs) l))
    ∙ get_or-append (take at l) (vs ++ drop (at + length vs) l) 0 p (omega arith)
    ∙ get_or-take at l p 0 m

-- one block more is copied out
pub copied_more : (words table : List ℕ) (b end : ℕ) {block now : List ℕ} → end ≡ min (length table) (126 * b + 126) → 126 * b < length table
    → block ≡ slice words (128 * (1 + b)) 128 → length block ≡ 128 → ((p : ℕ) → p < 126 * b → p < length table → get_or table p 0 ≡ table_word words p)
    → now ≡ take (end - 126 * b) block → (p : ℕ) → p < 126 * (b + 1) → p < length table → get_or (sets table (126 * b) now) p 0 ≡ table_word words p
copied_more words table b end {block} {now} is some is_block size before copied p most l = by (ltb p (126 * b)) refl
  where
    long : length now ≡ end - 126 * b
    long = ap length copied ∙ length-take-le (end - 126 * b) block (omega arith)

    by : (t : Bool) → ltb p (126 * b) ≡ t → get_or (sets table (126 * b) now) p 0 ≡ table_word words p
    by true e =
        let early = ltb-true p (126 * b) e in
        let z = long in
        kept_before table (126 * b) now p (omega arith) early ∙ before p early l
    by false e =
        let late = ltb-false p (126 * b) e in
        let j = p - 126 * b in
        let z = long in
        let here : p ≡ 126 * b + j = omega arith in
        let at : 1 + b ≡ 1 + p / 126 = omega arith in
        let rest : j ≡ p % 126 = omega arith in
        ap (λ (k : ℕ). get_or (sets table (126 * b) now) k 0) here
        ∙ entered_in table (126 * b) now j (omega arith) (omega arith)
        ∙ ap (λ (ws : List ℕ). get_or ws j 0) copied ∙ get_or-take (end - 126 * b) block j 0 (omega arith)
        ∙ ap (λ (ws : List ℕ). get_or ws j 0) is_block ∙ slice_at words (128 * (1 + b)) 128 j (omega arith)
        ∙ ap₂ (λ (k i : ℕ). get_or words (128 * k + i) 0) at rest

-- all are copied
pub copied_all : (words table : List ℕ) (n : ℕ) → length table ≡ n → ((p : ℕ) → p < n → get_or table p 0 ≡ table_word words p) → table ≡ table_in words n
copied_all words table n long same =
    ext_get_or 0 table (table_in words n) (long ∙ sym (places_length (table_word words) n))
    (λ p l. let below : p < n = omega arith in same p below ∙ sym (place_holds (table_word words) n p below))
