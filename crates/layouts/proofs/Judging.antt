-- What a file tells of a table, number by number: as loops over blocks and over numbers get to it.
use mathlib.Core.Bool.{Bool, true, false}
use mathlib.Core.List.{List}
use mathlib.Core.Path.{◌≡◌, refl, sym, ap, ap₂, subst, subst⁻¹, ◌∙◌}
use Prim.Native.Nat.{ℕ, ◌+◌, ◌-◌, ◌*◌, ◌/◌, ◌%◌, ◌≤◌, ◌<◌, min}
use native.Mathlib.Omega.{arith}
use borrow.Author.Tests.{ltb-true, ltb-false}
use lib.Dec.{ltb}
use lib.ListN.{length, get_or, take, drop, length-take, length-drop}
use lib.Seq.{take_all, drop-drop}
use Rattle.terms.specs.Terms.{Limits}
use Rattle.terms.specs.Telling.{Tells}
use Rattle.terms.proofs.Telling.{tells_so}
use Rattle.sectors.specs.Sectors.{words_of}
use Rattle.sectors.specs.Steps.{slice, Has, Framed}
use Rattle.sectors.proofs.Words.{words_slice}
use Rattle.sectors.proofs.Entering.{slice_at}
use Rattle.stretches.specs.Stretch.{entries_from}
use Rattle.stretches.proofs.Stretches.{entries_length, entry_at, entry_in_area}
use Rattle.layouts.specs.Steps.{Room, Reaches, table_word, in_use, Frames, Told, AllTold, entries, PartTold}

-- a test that said yes and no, and two, of which the first said no
pub never : {R : Type 0} {r : Bool} → r ≡ true → r ≡ false → R
never granted said = absurd (let z : true ≡ false = sym granted ∙ said in let w : ◌≡◌ {A = ℕ} 0 1 = cc in omega arith)

pub no_first : {P R : Type 0} {r : Bool} → Tells r P → r ≡ false → (R → P) → Tells r R
no_first tells said from = ((λ granted. never granted said), λ q. tells.1 (from q))

-- block k of those from block o on, which a slice of the file has
pub block_words : (file : List ℕ) (o k : ℕ) → 512 * (o + k) + 512 ≤ length file → {block : List ℕ}
    → block ≡ slice (take (length file - 512 * o) (drop (512 * o) file)) (512 * k) 512 → words_of block ≡ slice (words_of file) (128 * (o + k)) 128
block_words file o k room is =
    let left = length-drop (512 * o) file in
    ap words_of (is
    ∙ ap (λ (bs : List ℕ). take 512 (drop (512 * k) bs)) (take_all (length file - 512 * o) (drop (512 * o) file) (omega arith))
    ∙ ap (take 512) (drop-drop (512 * k) (512 * o) file ∙ ap (λ (n : ℕ). drop n file) (let z : 512 * o + 512 * k ≡ 4 * (128 * (o + k)) = omega arith in z)))
    ∙ words_slice file (128 * (o + k)) 128 (omega arith)

-- one frame more
pub frames_more : (words : List ℕ) (places b : ℕ) → Frames words places b → Framed words (1 + b) (in_use places b) → Frames words places (b + 1)
frames_more words places b before here k l = by (ltb k b) refl
  where
    by : (t : Bool) → ltb k b ≡ t → Framed words (1 + k) (in_use places k)
    by true e = before k (ltb-true k b e)
    by false e =
        let late = ltb-false k b e in
        subst (λ (n : ℕ). Framed words (1 + n) (in_use places n)) (let z : b ≡ k = omega arith in z) here

-- part b of the entries of a stretch, and the block of the file that is to have it
module _ (words : List ℕ) (first : ℕ) (entries : List ℕ) (b : ℕ) (begins : first % 126 ≡ 0) {block part : List ℕ}
    (is_block : block ≡ slice words (128 * (1 + first / 126 + b)) 128) (is_part : part ≡ slice entries (126 * b) 126) where
  part_length : length part ≡ min 126 (length entries - 126 * b)
  part_length = ap length is_part ∙ length-take 126 (drop (126 * b) entries) ∙ ap (min 126) (length-drop (126 * b) entries)

  there : (j : ℕ) → j < 126 → get_or block (0 + j) 0 ≡ table_word words (first + (126 * b + j))
  there j l =
      let p = first + (126 * b + j) in
      let at : 1 + first / 126 + b ≡ 1 + p / 126 = omega arith in
      let rest : j ≡ p % 126 = omega arith in
      ap₂ (λ (ws : List ℕ) (k : ℕ). get_or ws k 0) is_block (let z : 0 + j ≡ j = omega arith in z)
      ∙ slice_at words (128 * (1 + first / 126 + b)) 128 j (omega arith)
      ∙ ap₂ (λ (k i : ℕ). get_or words (128 * k + i) 0) at rest

  entry : (j : ℕ) → j < 126 → get_or part j 0 ≡ get_or entries (126 * b + j) 0
  entry j l = ap (λ (vs : List ℕ). get_or vs j 0) is_part ∙ slice_at entries (126 * b) 126 j l

  pub told_block : AllTold false words first entries → Has block 0 part
  told_block told j l =
      let size = part_length in
      there j (omega arith) ∙ told (126 * b + j) (omega arith) ∙ sym (entry j (omega arith))

  block_told : Has block 0 part → (i : ℕ) → 126 * b ≤ i → i < 126 * (b + 1) → i < length entries → Told false words (first + i) (get_or entries i 0)
  block_told has i least most l =
      let size = part_length in
      let j = i - 126 * b in
      let is : 126 * b + j ≡ i = omega arith in
      ap (λ (k : ℕ). table_word words (first + k)) (sym is) ∙ sym (there j (omega arith)) ∙ has j (omega arith) ∙ entry j (omega arith)
      ∙ ap (λ (k : ℕ). get_or entries k 0) is

  pub blocks_more : ((i : ℕ) → i < 126 * b → i < length entries → Told false words (first + i) (get_or entries i 0)) → Has block 0 part
      → (i : ℕ) → i < 126 * (b + 1) → i < length entries → Told false words (first + i) (get_or entries i 0)
  blocks_more before has i most l = by (ltb i (126 * b)) refl
    where
      by : (t : Bool) → ltb i (126 * b) ≡ t → Told false words (first + i) (get_or entries i 0)
      by true e = before i (ltb-true i (126 * b) e) l
      by false e = block_told has i (ltb-false i (126 * b) e) most l

-- from stretch to stretch, up to so many places
module _ (by : Bool) (words : List ℕ) (w h at m : ℕ) (room : at + m ≤ w * h) where
  pub right_more : ((i : ℕ) → i < at → i < w * h → Told by words i (get_or (entries w h) i 0)) → PartTold by words w h at m
      → (i : ℕ) → i < at + m → i < w * h → Told by words i (get_or (entries w h) i 0)
  right_more so_far more i l k = by_place (ltb i at) refl
    where
      by_place : (b : Bool) → ltb i at ≡ b → Told by words i (get_or (entries w h) i 0)
      by_place true e = so_far i (ltb-true i at e) k
      by_place false e =
          let behind = ltb-false i at e in
          subst (λ (k : ℕ). Told by words k (get_or (entries w h) k 0)) (let z : at + (i - at) ≡ i = omega arith in z) (more (i - at) (omega arith))

-- the lent buffer has the entries of the stretch
module _ (w h first m : ℕ) (t : Limits w h) (room : first + m ≤ w * h) {es : List ℕ} (is : es ≡ entries_from w h first m) where
  pub entries_put : length es ≡ m
  entries_put = ap length is ∙ entries_length w h t.w_least t.h_least first m room

  stretched : (i : ℕ) → i < m → get_or es i 0 ≡ get_or (entries w h) (first + i) 0
  stretched i l = ap (λ (ps : List ℕ). get_or ps i 0) is ∙ entry_at w h t.w_least t.h_least first m room i l

  pub all_reached : (file : List ℕ) → Room file (w * h) → Reaches file es
  all_reached file all i l =
      let size = entries_put in
      let same = ap (λ (ps : List ℕ). get_or ps i 0) is in
      let below = entry_in_area w h t.w_least t.h_least first m room i (omega arith) in
      omega arith

  -- the kind that is read is that of the type, and the test's
  pub buffer_tells : (words : List ℕ) {by read told : Bool} → read ≡ by → read ≡ told → {r : Bool} → Tells r (AllTold told words first es)
      → Tells r (PartTold by words w h first m)
  buffer_tells words {by} chosen taken {r} tells =
      let size = entries_put in
      let same = subst (λ (b : Bool). Tells r (AllTold b words first es)) (sym taken ∙ chosen) tells in
      tells_so same (λ told i l. subst (λ (p : ℕ). Told by words (first + i) p) (stretched i l) (told i (omega arith)))
      (λ told i l. subst⁻¹ (λ (p : ℕ). Told by words (first + i) p) (stretched i (omega arith)) (told i (omega arith)))
