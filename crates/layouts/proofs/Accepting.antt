-- A file is a card exactly if it has a card's length, its blocks' frames and checks, its head and its table: each follows from the file's words, and the words
-- from them.
use mathlib.Core.Bool.{Bool, true, false, not, cond}
use mathlib.Core.List.{List, ◌++◌}
use mathlib.Core.Path.{◌≡◌, refl, sym, ap, ap₂, subst, subst⁻¹, ◌∙◌}
use Prim.Native.Nat.{ℕ, zero, suc, ◌+◌, ◌*◌, ◌/◌, ◌%◌, ◌≤◌, ◌<◌, min}
use native.Mathlib.Omega.{arith}
use lib.Dec.{eqb}
use lib.ListN.{length, get_or, take, drop, length-append, length-take, length-drop}
use lib.Seq.{take_all, take_at, drop_at, drop-drop}
use Rattle.terms.specs.Terms.{Limits}
use Rattle.terms.specs.Telling.{Tells}
use Rattle.terms.proofs.Telling.{refuses, said_no, tells_so}
use Rattle.sectors.specs.Sectors.{words_of, sealed, packed, first_bad, first_bad_in, whole_blocks}
use Rattle.sectors.specs.Steps.{slice, Has, Framed}
use Rattle.sectors.proofs.Words.{Bytes, words_length, words_back, bytes_length, same_bytes}
use Rattle.sectors.proofs.Entering.{slice_at}
use Rattle.sectors.proofs.Checks.{good_at, found, only_found}
use Rattle.sectors.proofs.Packing.{sealed_length, block_is, block_has, block_framed, block_good, few_taken, packed_length, packed_block, slice_join}
use Rattle.sectors.proofs.Packing.{blocks_packed}
use Rattle.tables.specs.Tables.{due_by}
use Rattle.tables.proofs.PlaceByPlace.{values_below, due_there, looked_for, looked_below, looked_at, due_length}
use Rattle.layouts.specs.Layouts.{head, table_blocks, card_words, card_of, right_table, card, card_bytes}
use Rattle.layouts.specs.Steps.{table_word, in_use, entries, RightTold, Frames, Headed}

pub either_below : (by : Bool) {p q n : ℕ} → p < n → q < n → cond by p q < n
either_below true l m = l
either_below false l m = m

-- the card of any table, block by block
module _ (w h kind : ℕ) (table : List ℕ) where
  abbrev words : List ℕ
  words = card_words w h kind table

  abbrev blocks : ℕ
  blocks = table_blocks (length table)

  first_length : length (sealed (head w h kind)) ≡ 128
  first_length = sealed_length (head w h kind) (omega arith)

  pub card_words_length : length words ≡ 128 * (1 + blocks)
  card_words_length =
      let one = first_length in
      let rest = packed_length blocks table in
      length-append (sealed (head w h kind)) (packed blocks table) ∙ omega (arith, one, rest)

  pub card_length : length (card_of w h kind table) ≡ 512 * (1 + blocks)
  unfolding card_of
  card_length = bytes_length words ∙ omega (arith, card_words_length)

  pub card_in_words : words_of (card_of w h kind table) ≡ words
  unfolding card_of
  card_in_words = words_back words

  head_block : slice words (128 * 0) 128 ≡ sealed (head w h kind)
  head_block = take_at (sealed (head w h kind)) (packed blocks table) 128 first_length

  table_block : (b : ℕ) → b < blocks → slice words (128 * (1 + b)) 128 ≡ sealed (slice table (126 * b) 126)
  table_block b l =
      ap (take 128)
      (ap (λ (k : ℕ). drop k words) (let z : 128 * (1 + b) ≡ 128 + 128 * b = omega arith in z)
      ∙ sym (drop-drop (128 * b) 128 words)
      ∙ ap (drop (128 * b)) (drop_at (sealed (head w h kind)) (packed blocks table) 128 first_length))
      ∙ packed_block blocks table b l

  few_head : length (head w h kind) ≤ 126
  few_head = omega arith

  pub card_headed : Headed words w h kind
  card_headed =
      let room = card_words_length in
      (block_has (head w h kind) few_head words 0 (omega arith) head_block, block_framed (head w h kind) few_head words 0 (omega arith) head_block)

  -- a block of the table has as many words as are in use
  pub used_length : (b : ℕ) → length (slice table (126 * b) 126) ≡ in_use (length table) b
  used_length b = length-take 126 (drop (126 * b) table) ∙ ap (min 126) (length-drop (126 * b) table)

  pub card_framed : Frames words (length table) blocks
  card_framed b l =
      let room = card_words_length in
      subst (λ (n : ℕ). Framed words (1 + b) n) (used_length b)
      (block_framed (slice table (126 * b) 126) (few_taken table (126 * b)) words (1 + b) (omega arith) (table_block b l))

  pub card_holds : (p : ℕ) → p < length table → table_word words p ≡ get_or table p 0
  card_holds p l =
      let b = p / 126 in
      let j = p % 126 in
      let room = card_words_length in
      let used = used_length b in
      block_has (slice table (126 * b) 126) (few_taken table (126 * b)) words (1 + b) (omega arith) (table_block b (omega arith)) j (omega arith)
      ∙ slice_at table (126 * b) 126 j (omega arith)
      ∙ ap (λ (k : ℕ). get_or table k 0) (let z : 126 * b + j ≡ p = omega arith in z)

  block_right : (b : ℕ) → b < 1 + blocks → good_at words b ≡ true
  block_right zero l = let room = card_words_length in block_good (head w h kind) few_head words 0 (omega arith) head_block
  block_right (suc b) l =
      let room = card_words_length in
      ap (good_at words) (let z : suc b ≡ 1 + b = omega arith in z)
      ∙ block_good (slice table (126 * b) 126) (few_taken table (126 * b)) words (1 + b) (omega arith) (table_block b (omega arith))

  pub card_good : first_bad_in (card_of w h kind table) ≡ whole_blocks (card_of w h kind table)
  card_good =
      let n : whole_blocks (card_of w h kind table) ≡ 1 + blocks = ap (λ (k : ℕ). k / 512) card_length ∙ omega arith in
      ap₂ first_bad n card_in_words
      ∙ only_found (1 + blocks) words (1 + blocks) (omega arith) (block_right, λ l. absurd (omega arith))
      ∙ sym n

-- the words of a card's length whose blocks say so are the card's
module _ (w h kind : ℕ) (table words : List ℕ) (long : length words ≡ 128 * (1 + table_blocks (length table)))
    (goods : (b : ℕ) → b < 1 + table_blocks (length table) → good_at words b ≡ true) (headed : Headed words w h kind)
    (frames : Frames words (length table) (table_blocks (length table))) (holds : (p : ℕ) → p < length table → table_word words p ≡ get_or table p 0) where
  abbrev n : ℕ
  n = table_blocks (length table)

  head_is : slice words (128 * 0) 128 ≡ sealed (head w h kind)
  head_is = block_is (head w h kind) (omega arith) words 0 (omega arith) headed.0 headed.1 (goods 0 (omega arith))

  block_holds : (b : ℕ) → b < n → Has words (128 * (1 + b)) (slice table (126 * b) 126)
  block_holds b l j m =
      let used = used_length w h kind table b in
      let p = 126 * b + j in
      let block : 1 + b ≡ 1 + p / 126 = omega arith in
      let rest : j ≡ p % 126 = omega arith in
      ap₂ (λ (k i : ℕ). get_or words (128 * k + i) 0) block rest
      ∙ holds p (omega arith)
      ∙ sym (slice_at table (126 * b) 126 j (omega arith))

  block_there : (b : ℕ) → b < n → slice words (128 * (1 + b)) 128 ≡ sealed (slice table (126 * b) 126)
  block_there b l =
      block_is (slice table (126 * b) 126) (few_taken table (126 * b)) words (1 + b) (omega arith) (block_holds b l)
      (subst⁻¹ (λ (k : ℕ). Framed words (1 + b) k) (used_length w h kind table b) (frames b l)) (goods (1 + b) (omega arith))

  pub are_card_words : words ≡ card_words w h kind table
  are_card_words =
      sym (take_all (128 + 128 * n) words (omega arith))
      ∙ slice_join words 0 128 (128 * n) (omega arith)
      ∙ ap₂ ◌++◌ head_is (blocks_packed words 1 n table (omega arith) block_there)

-- the right table, told number by number, and place by place
module _ (w h : ℕ) (t : Limits w h) (by : Bool) (words : List ℕ) where
  abbrev Places : Type 0
  Places = (p : ℕ) → p < w * h → table_word words p ≡ get_or (due_by by w h) p 0

  by_places : RightTold by words w h (w * h) → Places
  by_places right p l =
      let j = looked_for w h t.w_least t.h_least by p in
      let below = looked_below w h t.w_least t.h_least by p l in
      let there : cond by (get_or (entries w h) j 0) j ≡ p = looked_at w h t.w_least t.h_least by p l j refl in
      ap (table_word words) (sym there)
      ∙ right j below
      ∙ sym (due_there w h t.w_least t.h_least j below j refl by)
      ∙ ap (λ (q : ℕ). get_or (due_by by w h) q 0) there

  by_numbers : Places → RightTold by words w h (w * h)
  by_numbers same i l =
      let both = values_below w h t.w_least t.h_least i l i refl in
      same (cond by (get_or (entries w h) i 0) i) (either_below by both.1 both.0) ∙ due_there w h t.w_least t.h_least i l i refl by

-- as the code goes
module _ (w h : ℕ) (t : Limits w h) (kind : ℕ) (file : List ℕ) where
  abbrev due : List ℕ
  due = right_table w h kind

  due_places : length due ≡ w * h
  due_places = due_length w h t.w_least t.h_least (eqb kind 2)

  in_words : file ≡ card w h kind → words_of file ≡ card_words w h kind due
  in_words is = ap words_of is ∙ card_in_words w h kind due

  pub wrong_length : (length file ≡ card_bytes w h → ⊥) → Tells false (file ≡ card w h kind)
  wrong_length other =
      refuses (λ is. other (ap length is ∙ card_length w h kind due ∙ ap (λ (k : ℕ). 512 * (1 + table_blocks k)) due_places))

  pub wrong_head : {r : Bool} → Tells r (Headed (words_of file) w h kind) → not r ≡ true → Tells false (file ≡ card w h kind)
  wrong_head tells e =
      refuses (λ is. said_no tells e (subst⁻¹ (λ (ws : List ℕ). Headed ws w h kind) (in_words is) (card_headed w h kind due)))

  pub wrong_frames : {r : Bool} → Tells r (Frames (words_of file) (w * h) (table_blocks (w * h))) → not r ≡ true → Tells false (file ≡ card w h kind)
  wrong_frames tells e =
      refuses (λ is. said_no tells e (subst (λ (k : ℕ). Frames (words_of file) k (table_blocks k)) due_places
      (subst⁻¹ (λ (ws : List ℕ). Frames ws (length due) (table_blocks (length due))) (in_words is) (card_framed w h kind due))))

  -- the table is judged by the kind that the number tells
  pub by_table : first_bad_in file ≡ whole_blocks file → length file ≡ card_bytes w h → Bytes file → Headed (words_of file) w h kind
      → Frames (words_of file) (w * h) (table_blocks (w * h)) → {by : Bool} → eqb kind 2 ≡ by → {r : Bool}
      → Tells r (RightTold by (words_of file) w h (w * h)) → Tells r (file ≡ card w h kind)
  unfolding card_of
  by_table none long bytes headed frames chosen {r} tells =
      tells_so (subst⁻¹ (λ (b : Bool). Tells r (RightTold b (words_of file) w h (w * h))) chosen tells) to from
    where
      whole : length file ≡ 512 * (1 + table_blocks (length due))
      whole = long ∙ ap (λ (k : ℕ). 512 * (1 + table_blocks k)) (sym due_places)

      words_long : length (words_of file) ≡ 128 * (1 + table_blocks (length due))
      words_long =
          let all = words_length file in
          let z = whole in
          omega arith

      goods : (b : ℕ) → b < 1 + table_blocks (length due) → good_at (words_of file) b ≡ true
      goods b l = (found (whole_blocks file) (words_of file)).0 b (subst⁻¹ (λ (k : ℕ). b < k) none (let z = whole in omega arith))

      to : RightTold (eqb kind 2) (words_of file) w h (w * h) → file ≡ card w h kind
      to right =
          same_bytes file (card_words w h kind due) bytes (let z = whole in let m = card_words_length w h kind due in omega arith)
          (are_card_words w h kind due (words_of file) words_long goods headed
          (subst⁻¹ (λ (k : ℕ). Frames (words_of file) k (table_blocks k)) due_places frames)
          (λ p l. by_places w h t (eqb kind 2) (words_of file) right p (subst (λ (k : ℕ). p < k) due_places l)))

      from : file ≡ card w h kind → RightTold (eqb kind 2) (words_of file) w h (w * h)
      from is =
          by_numbers w h t (eqb kind 2) (words_of file)
          (λ p l. ap (λ (ws : List ℕ). table_word ws p) (in_words is) ∙ card_holds w h kind due p (subst⁻¹ (λ (k : ℕ). p < k) due_places l))
