-- What a card says, sentence by sentence, and what a departure is: a file of bytes is the card exactly if each of its words says so, and it departs exactly if
-- one of them does not.
use mathlib.Core.Bool.{Bool, true, false, ◌||◌}
use mathlib.Core.List.{List}
use mathlib.Core.Logic.{◌↔◌, ◌⊎◌, inl, inr}
use mathlib.Core.Path.{◌≡◌, refl, sym, ap, ap₂, subst, subst⁻¹, ◌∙◌}
use Prim.Native.Nat.{ℕ, zero, suc, ◌+◌, ◌-◌, ◌*◌, ◌/◌, ◌%◌, ◌≤◌, ◌<◌, min}
use native.Mathlib.Omega.{arith}
use borrow.Author.Tests.{eqb-true, eqb-false, ltb-true, ltb-false}
use lib.Dec.{eqb, ltb}
use lib.ListN.{length, get_or}
use Rattle.terms.specs.Terms.{accepted}
use Rattle.terms.proofs.Limits.{limits, both_accepted}
use Rattle.terms.proofs.Meanings.{lengths_exactly, squares_exactly}
use Rattle.sectors.specs.Sectors.{words_of, whole_blocks}
use Rattle.sectors.specs.Steps.{Has, Framed}
use Rattle.sectors.proofs.Words.{Bytes, words_length, same_bytes}
use Rattle.sectors.proofs.Checks.{good_at, found}
use Rattle.tables.proofs.PlaceByPlace.{due_length}
use Rattle.layouts.specs.Layouts.{head, table_blocks, card_words, card_of, right_table, card}
use Rattle.layouts.specs.Steps.{Frames}
use Rattle.layouts.proofs.Accepting.{card_words_length, card_length, card_in_words, card_headed, card_framed, card_holds, are_card_words}
use Rattle.cards.specs.Cards.{read}
use Rattle.cards.proofs.Refused.{Kind, NoKind, Fits, ChecksRight, none_bad, read_refused_15}

-- Word number i of a file.
abbrev pub word : (file : List ℕ) (i : ℕ) → ℕ
word file i = get_or (words_of file) i 0

-- The order's sentences, in numbers, of a file whose checks are right.
pub record Says (w h kind : ℕ) (file : List ℕ) : Type 0 where
  -- "The table follows from block 1, each block full but perhaps the last, none empty": no block is missing, and none is there besides
  pub long : length file ≡ 512 * (1 + (w * h + 125) / 126)
  -- "Block 0 uses four words: version 1, width, height, kind"
  pub version : word file 0 ≡ 1
  pub width : word file 1 ≡ w
  pub height : word file 2 ≡ h
  pub kind_told : word file 3 ≡ kind
  -- "one that counts the content words in use", "Unused words are zero": of block 0, and of each of the table's blocks
  pub head_count : word file 126 ≡ 4
  pub head_unused : (j : ℕ) → 4 ≤ j → j < 126 → word file j ≡ 0
  pub count : (b : ℕ) → b < (w * h + 125) / 126 → word file (128 * (1 + b) + 126) ≡ min 126 (w * h - 126 * b)
  pub unused : (b j : ℕ) → b < (w * h + 125) / 126 → min 126 (w * h - 126 * b) ≤ j → j < 126 → word file (128 * (1 + b) + j) ≡ 0
  -- a right table: place p is word p % 126 of the table's block p / 126
  pub table : (p : ℕ) → p < w * h → word file (128 * (1 + p / 126) + p % 126) ≡ get_or (right_table w h kind) p 0

-- "each block full but perhaps the last, none empty", of the words in use that such a file's blocks count
pub full_but_the_last : {w h kind : ℕ} {file : List ℕ} → Says w h kind file → (b : ℕ) → b + 1 < (w * h + 125) / 126 → word file (128 * (1 + b) + 126) ≡ 126
full_but_the_last {w} {h} s b l = s.count b (omega arith) ∙ (let z : min 126 (w * h - 126 * b) ≡ 126 = omega arith in z)

pub none_empty : {w h kind : ℕ} {file : List ℕ} → Says w h kind file → (b : ℕ) → b < (w * h + 125) / 126 → 1 ≤ word file (128 * (1 + b) + 126)
none_empty s b l = let is = s.count b l in omega arith

-- .. and one of them not so: each is a departure.
pub data Departs (w h kind : ℕ) (file : List ℕ) : Type 0 where
  other_length : (length file ≡ 512 * (1 + (w * h + 125) / 126) → ⊥) → Departs w h kind file
  other_version : (word file 0 ≡ 1 → ⊥) → Departs w h kind file
  other_width : (word file 1 ≡ w → ⊥) → Departs w h kind file
  other_height : (word file 2 ≡ h → ⊥) → Departs w h kind file
  other_kind : (word file 3 ≡ kind → ⊥) → Departs w h kind file
  other_head_count : (word file 126 ≡ 4 → ⊥) → Departs w h kind file
  used_in_head : (j : ℕ) → 4 ≤ j → j < 126 → (word file j ≡ 0 → ⊥) → Departs w h kind file
  other_count : (b : ℕ) → b < (w * h + 125) / 126 → (word file (128 * (1 + b) + 126) ≡ min 126 (w * h - 126 * b) → ⊥) → Departs w h kind file
  used_behind : (b j : ℕ) → b < (w * h + 125) / 126 → min 126 (w * h - 126 * b) ≤ j → j < 126 → (word file (128 * (1 + b) + j) ≡ 0 → ⊥) → Departs w h kind
      file
  wrong_place : (p : ℕ) → p < w * h → (word file (128 * (1 + p / 126) + p % 126) ≡ get_or (right_table w h kind) p 0 → ⊥) → Departs w h kind file

-- a file that says all this departs in nothing
pub says_all : {w h kind : ℕ} {file : List ℕ} → Says w h kind file → Departs w h kind file → ⊥
says_all s (other_length d) = d s.long
says_all s (other_version d) = d s.version
says_all s (other_width d) = d s.width
says_all s (other_height d) = d s.height
says_all s (other_kind d) = d s.kind_told
says_all s (other_head_count d) = d s.head_count
says_all s (used_in_head j m l d) = d (s.head_unused j m l)
says_all s (other_count b l d) = d (s.count b l)
says_all s (used_behind b j l m n d) = d (s.unused b j l m n)
says_all s (wrong_place p l d) = d (s.table p l)

-- of tests of all numbers below n all hold, or one is found that does not
all_or_one : (n : ℕ) (test : ℕ → Bool) → ((i : ℕ) → i < n → test i ≡ true) ⊎ ((i : ℕ) × ((i < n) × (test i ≡ false)))
all_or_one zero test = inl (λ i l. absurd (omega arith))
all_or_one (suc n) test = by (all_or_one n test) (test n) refl
  where
    by : ((i : ℕ) → i < n → test i ≡ true) ⊎ ((i : ℕ) × ((i < n) × (test i ≡ false))) → (t : Bool) → test n ≡ t
        → ((i : ℕ) → i < suc n → test i ≡ true) ⊎ ((i : ℕ) × ((i < suc n) × (test i ≡ false)))
    by (inr one) t e = inr (one.0, (let l = one.1.0 in omega arith, one.1.1))
    by (inl all) false e = inr (n, (omega arith, e))
    by (inl all) true e = inl (λ i l. at i l (eqb i n) refl)
      where
        at : (i : ℕ) → i < suc n → (b : Bool) → eqb i n ≡ b → test i ≡ true
        at i l true d = ap test (eqb-true i n d) ∙ e
        at i l false d = let other = eqb-false i n d in all i (omega arith)

-- a test of a word that need be 0 only from `least` on
unless_before : (j least v : ℕ) → ltb j least || eqb v 0 ≡ true → least ≤ j → v ≡ 0
unless_before j least v e m = by (ltb j least) refl e
  where
    by : (t : Bool) → ltb j least ≡ t → t || eqb v 0 ≡ true → v ≡ 0
    by true d e = let l = ltb-true j least d in absurd (omega arith)
    by false d e = eqb-true v 0 e

not_before : (j least v : ℕ) → ltb j least || eqb v 0 ≡ false → (least ≤ j) × (v ≡ 0 → ⊥)
not_before j least v e = by (ltb j least) refl e
  where
    by : (t : Bool) → ltb j least ≡ t → t || eqb v 0 ≡ false → (least ≤ j) × (v ≡ 0 → ⊥)
    by true d e = absurd (let z : ◌≡◌ {A = ℕ} 0 1 = cc in omega arith)
    by false d e = (ltb-false j least d, eqb-false v 0 e)

-- every file says all this, or departs
module _ (w h kind : ℕ) (file : List ℕ) where
  abbrev n : ℕ
  n = (w * h + 125) / 126

  abbrev in_head : ℕ → Bool
  in_head j = ltb j 4 || eqb (word file j) 0

  abbrev counts : ℕ → Bool
  counts b = eqb (word file (128 * (1 + b) + 126)) (min 126 (w * h - 126 * b))

  abbrev behind : ℕ → Bool
  behind i = ltb (i % 126) (min 126 (w * h - 126 * (i / 126))) || eqb (word file (128 * (1 + i / 126) + i % 126)) 0

  abbrev places : ℕ → Bool
  places p = eqb (word file (128 * (1 + p / 126) + p % 126)) (get_or (right_table w h kind) p 0)

  abbrev Verdict : Type 0
  Verdict = Says w h kind file ⊎ Departs w h kind file

  module _ (long : length file ≡ 512 * (1 + n)) (version : word file 0 ≡ 1) (width : word file 1 ≡ w) (height : word file 2 ≡ h)
      (kind_told : word file 3 ≡ kind) (head_count : word file 126 ≡ 4) where
    by_places : ((j : ℕ) → j < 126 → in_head j ≡ true) → ((b : ℕ) → b < n → counts b ≡ true) → ((i : ℕ) → i < 126 * n → behind i ≡ true)
        → ((p : ℕ) → p < w * h → places p ≡ true) ⊎ ((p : ℕ) × ((p < w * h) × (places p ≡ false))) → Verdict
    by_places head every unused (inr one) = inr (wrong_place one.0 one.1.0 (eqb-false _ _ one.1.1))
    by_places head every unused (inl all) =
        inl (record {
          long = long;
          version = version;
          width = width;
          height = height;
          kind_told = kind_told;
          head_count = head_count;
          head_unused = λ j m l. unless_before j 4 (word file j) (head j l) m;
          count = λ b l. eqb-true _ _ (every b l);
          unused = λ b j l m k. behind_at b j l m k;
          table = λ p l. eqb-true _ _ (all p l);
        })
      where
        behind_at : (b j : ℕ) → b < n → min 126 (w * h - 126 * b) ≤ j → j < 126 → word file (128 * (1 + b) + j) ≡ 0
        behind_at b j l m k =
            let i = 126 * b + j in
            let block : i / 126 ≡ b = omega arith in
            let rest : i % 126 ≡ j = omega arith in
            ap₂ (λ (c d : ℕ). word file (128 * (1 + c) + d)) (sym block) (sym rest)
            ∙ unless_before (i % 126) (min 126 (w * h - 126 * (i / 126))) (word file (128 * (1 + i / 126) + i % 126)) (unused i (omega arith))
            (let z : min 126 (w * h - 126 * (i / 126)) ≤ i % 126 = omega arith in z)

    by_unused : ((j : ℕ) → j < 126 → in_head j ≡ true) → ((b : ℕ) → b < n → counts b ≡ true)
        → ((i : ℕ) → i < 126 * n → behind i ≡ true) ⊎ ((i : ℕ) × ((i < 126 * n) × (behind i ≡ false))) → Verdict
    by_unused head every (inl all) = by_places head every all (all_or_one (w * h) places)
    by_unused head every (inr one) =
        let i = one.0 in
        let l = one.1.0 in
        let found = not_before (i % 126) (min 126 (w * h - 126 * (i / 126))) (word file (128 * (1 + i / 126) + i % 126)) one.1.1 in
        inr (used_behind (i / 126) (i % 126) (omega arith) found.0 (omega arith) found.1)

    by_counts : ((j : ℕ) → j < 126 → in_head j ≡ true) → ((b : ℕ) → b < n → counts b ≡ true) ⊎ ((b : ℕ) × ((b < n) × (counts b ≡ false))) → Verdict
    by_counts head (inl all) = by_unused head all (all_or_one (126 * n) behind)
    by_counts head (inr one) = inr (other_count one.0 one.1.0 (eqb-false _ _ one.1.1))

    by_head : ((j : ℕ) → j < 126 → in_head j ≡ true) ⊎ ((j : ℕ) × ((j < 126) × (in_head j ≡ false))) → Verdict
    by_head (inl all) = by_counts all (all_or_one n counts)
    by_head (inr one) =
        let found = not_before one.0 4 (word file one.0) one.1.1 in
        inr (used_in_head one.0 found.0 one.1.0 found.1)

  so : (x y : ℕ) → ((x ≡ y → ⊥) → Departs w h kind file) → (x ≡ y → Verdict) → Verdict
  so x y departs goes_on = by (eqb x y) refl
    where
      by : (t : Bool) → eqb x y ≡ t → Verdict
      by true e = goes_on (eqb-true x y e)
      by false e = inr (departs (eqb-false x y e))

  verdict : Verdict
  verdict =
      so (length file) (512 * (1 + n)) other_length (λ long.
      so (word file 0) 1 other_version (λ version.
      so (word file 1) w other_width (λ width.
      so (word file 2) h other_height (λ height.
      so (word file 3) kind other_kind (λ kind_told.
      so (word file 126) 4 other_head_count (λ head_count.
      by_head long version width height kind_told head_count (all_or_one 126 in_head)))))))

-- the card says all this, and what says all this is the card
module _ (w h : ℕ) (ok : accepted w h ≡ true) (kind : ℕ) where
  abbrev due : List ℕ
  due = right_table w h kind

  places_due : length due ≡ w * h
  places_due = let limit = limits w h ok in due_length w h limit.w_least limit.h_least (eqb kind 2)

  abbrev words : List ℕ
  words = card_words w h kind due

  in_words : (i : ℕ) → word (card w h kind) i ≡ get_or words i 0
  in_words i = ap (λ (ws : List ℕ). get_or ws i 0) (card_in_words w h kind due)

  pub card_says : Says w h kind (card w h kind)
  card_says =
      let headed = card_headed w h kind due in
      let frames : Frames words (w * h) (table_blocks (w * h)) = subst (λ (k : ℕ). Frames words k (table_blocks k)) places_due (card_framed w h kind due) in
      record {
        long = card_length w h kind due ∙ ap (λ (k : ℕ). 512 * (1 + table_blocks k)) places_due;
        version = in_words 0 ∙ headed.0 0 (omega arith);
        width = in_words 1 ∙ headed.0 1 (omega arith);
        height = in_words 2 ∙ headed.0 2 (omega arith);
        kind_told = in_words 3 ∙ headed.0 3 (omega arith);
        head_count = in_words 126 ∙ headed.1.1;
        head_unused = λ j m l. in_words j ∙ ap (λ (k : ℕ). get_or words k 0) (let z : j ≡ 128 * 0 + j = omega arith in z) ∙ headed.1.0 j m l;
        count = λ b l. in_words (128 * (1 + b) + 126) ∙ (frames b l).1;
        unused = λ b j l m k. in_words (128 * (1 + b) + j) ∙ (frames b l).0 j m k;
        table = λ p l. in_words (128 * (1 + p / 126) + p % 126) ∙ card_holds w h kind due p (subst⁻¹ (λ (k : ℕ). p < k) places_due l);
      }

  module _ (file : List ℕ) (bytes : Bytes file) (checks : ChecksRight file) where
    pub says_card : Says w h kind file → file ≡ card w h kind
    unfolding card_of
    says_card s = is
      where
        size : length file ≡ 512 * (1 + table_blocks (length due))
        size = s.long ∙ ap (λ (k : ℕ). 512 * (1 + table_blocks k)) (sym places_due)

        goods : (b : ℕ) → b < 1 + table_blocks (length due) → good_at (words_of file) b ≡ true
        goods b l =
            (found (whole_blocks file) (words_of file)).0 b
            (subst⁻¹ (λ (k : ℕ). b < k) ((none_bad file).1 checks) (let z = size in omega arith))

        four : Has (words_of file) 0 (head w h kind)
        four zero l = s.version
        four (suc zero) l = s.width
        four (suc (suc zero)) l = s.height
        four (suc (suc (suc zero))) l = s.kind_told
        four (suc (suc (suc (suc i)))) l = absurd (omega arith)

        first : Framed (words_of file) 0 4
        first =
            ((λ j m l. ap (λ (k : ℕ). word file k) (let z : 128 * 0 + j ≡ j = omega arith in z) ∙ s.head_unused j m l), s.head_count)

        frames : Frames (words_of file) (length due) (table_blocks (length due))
        frames =
            subst⁻¹ (λ (k : ℕ). Frames (words_of file) k (table_blocks k)) places_due (λ b l. ((λ j m k. s.unused b j l m k), s.count b l))

        words_are : words_of file ≡ card_words w h kind due
        words_are =
            are_card_words w h kind due (words_of file) (let all = words_length file in let z = size in omega arith) goods (four, first) frames
            (λ p l. s.table p (subst (λ (k : ℕ). p < k) places_due l))

        is : file ≡ card w h kind
        is = same_bytes file (card_words w h kind due) bytes (let z = size in let m = card_words_length w h kind due in omega arith) words_are

    -- A file of bytes whose checks are right departs exactly if it is not the card.
    pub departs_exactly : Departs w h kind file ↔ (file ≡ card w h kind → ⊥)
    departs_exactly = (
      λ d is. says_all (subst⁻¹ (Says w h kind) is card_says) d,
      λ other. by (verdict w h kind file) other,
    )
      where
        by : Says w h kind file ⊎ Departs w h kind file → (file ≡ card w h kind → ⊥) → Departs w h kind file
        by (inl s) other = absurd (other (says_card s))
        by (inr d) other = d

-- Each departure is 15, and 15 of a kind that there is is one of them.
module _ (w h kind : ℕ) (file table : List ℕ) (fits : Fits w h (length table)) (checks : ChecksRight file) (known : Kind kind) (bytes : Bytes file) where
  ok : accepted w h ≡ true
  ok = both_accepted w h ((lengths_exactly w h).1 fits.0) ((squares_exactly w h).1 fits.1.0)

  pub departure_15 : Departs w h kind file → (read w h kind file table).refusal ≡ 15
  departure_15 d =
      (read_refused_15 w h kind file table).1 (fits, (checks, inr (known, (departs_exactly w h ok kind file bytes checks).0 d)))

  pub fifteen_departs : (read w h kind file table).refusal ≡ 15 → Departs w h kind file
  fifteen_departs e = by ((read_refused_15 w h kind file table).0 e).1.1
    where
      contrary : Kind kind → NoKind kind → ⊥
      contrary (inl e) none = none.0 e
      contrary (inr e) none = none.1 e

      by : NoKind kind ⊎ (Kind kind × (file ≡ card w h kind → ⊥)) → Departs w h kind file
      by (inl none) = absurd (contrary known none)
      by (inr other) = (departs_exactly w h ok kind file bytes checks).1 other.1
