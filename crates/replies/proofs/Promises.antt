-- What the promises come to: a reply's text is its line's number, its word and its numbers, in decimal and with a space between each two; and two results that
-- meet a promise are one. And what they turn away: each wrong program is met by a buffer in which it would have to leave two things at once.
use mathlib.Core.Bool.{true, true≢false}
use mathlib.Core.List.{List, [], ◌∷◌, ◌++◌, map, append-nil, append_assoc}
use mathlib.Core.Path.{◌≡◌, refl, sym, ap, ◌∙◌}
use Prim.Native.Nat.{ℕ}
use native.Mathlib.Omega.{arith}
use lib.Dec.{leb}
use lib.IntN.{ℤ, pos, negsuc}
use lib.ListN.{replicate}
use Rattle.words.specs.Letters.{bytes}
use Rattle.lines.proofs.Asking.{between}
use Rattle.clerk.specs.Clerk.{Word, AreaSaid, OriginSaid, Cell, Number, Refused, Said, says}
use Rattle.words.specs.Decimal.{decimal_by, decimal, signed_decimal}
use Rattle.replies.specs.Text.{all_spaced, spaced_word, text, stop, longest, Writes, if_room}

-- "prints for each line its number from 1, a space, and one of: AREA w h n fx fy; CELL x y k; NUMBER i k; REFUSED r", order 6's "ORIGIN ox oy", and a newline.
abbrev pub printed_word : Word → List ℕ
printed_word AreaSaid = bytes "AREA"
printed_word OriginSaid = bytes "ORIGIN"
printed_word Cell = bytes "CELL"
printed_word Number = bytes "NUMBER"
printed_word Refused = bytes "REFUSED"

numbers_spaced : (first : List ℕ) (zs : List ℤ) → between (first ∷ map signed_decimal zs) ≡ first ++ all_spaced zs
unfolding between
numbers_spaced first [] = sym (append-nil first)
numbers_spaced first (z ∷ zs) = ap (λ t. first ++ (32 ∷ t)) (numbers_spaced (signed_decimal z) zs)

word_spaced : (w : Word) → spaced_word w ≡ 32 ∷ printed_word w
word_spaced AreaSaid = refl
word_spaced OriginSaid = refl
word_spaced Cell = refl
word_spaced Number = refl
word_spaced Refused = refl

pub text_is : (line : ℕ) (s : Said) → text line s ≡ between (decimal line ∷ printed_word s.word ∷ map signed_decimal s.numbers) ++ bytes "\n"
unfolding text between
text_is line s =
    let said = numbers_spaced (printed_word s.word) s.numbers in
    ap (λ w. decimal line ++ ((w ++ all_spaced s.numbers) ++ (10 ∷ []))) (word_spaced s.word)
    ∙ ap (λ t. decimal line ++ ((32 ∷ t) ++ (10 ∷ []))) (sym said)
    ∙ sym (append_assoc (decimal line) (32 ∷ between (printed_word s.word ∷ map signed_decimal s.numbers)) (10 ∷ []))

-- So a reply with numbers below 0: a minus, and no 0 before the digits.
pub origin_printed : text 2 (says OriginSaid (negsuc 4 ∷ pos 7 ∷ [])) ≡ bytes "2 ORIGIN -5 7\n"
unfolding text decimal decimal_by
origin_printed = refl

pub cell_printed : text 3 (says Cell (negsuc 2 ∷ pos 8 ∷ pos 3 ∷ [])) ≡ bytes "3 CELL -3 8 3\n"
unfolding text decimal decimal_by
cell_printed = refl

-- Two results that meet the promise of `write_reply`, of `write_stop` or of a call that writes as they do are one.
pub writes_one : {before bytes one other : List ℕ} {at end end' : ℕ} → Writes before at bytes one end → Writes before at bytes other end'
    → (one ≡ other) × (end ≡ end')
writes_one w w' = (w.written ∙ sym w'.written, w.behind ∙ sym w'.behind)

-- Of `has_room`: one that always finds room, and one that asks for a single byte.
pub always_room : ((size : ℕ) → true ≡ leb longest size) → ⊥
always_room promise = true≢false (promise 0)

pub room_for_a_byte : ((size : ℕ) → leb 1 size ≡ leb longest size) → ⊥
room_for_a_byte promise = true≢false (promise 1)

-- Of `write_reply` and `write_stop`: one that writes nothing, and one that writes the same for every line.
abbrev buffer : List ℕ
buffer = replicate longest 0

abbrev leaves : (ℕ → List ℕ) → ((line : ℕ) → List ℕ) → (ℕ → ℕ) → Type 0
leaves bytes after end = (line : ℕ) → Writes buffer 0 (if_room buffer 0 (bytes line)) (after line) (end line)

abbrev six : ℕ → List ℕ
six line = text line (says Refused (pos 6 ∷ []))

pub reply_not_written : leaves six (λ line. buffer) (λ line. 0) → ⊥
unfolding text decimal decimal_by
reply_not_written promise = let other : ◌≡◌ {A = ℕ} 0 12 = (promise 1).behind in omega arith

pub stop_not_written : leaves stop (λ line. buffer) (λ line. 0) → ⊥
unfolding stop decimal decimal_by
stop_not_written promise = let other : ◌≡◌ {A = ℕ} 0 7 = (promise 1).behind in omega arith

pub reply_unnumbered : (after : List ℕ) (end : ℕ) → leaves six (λ line. after) (λ line. end) → ⊥
unfolding text decimal decimal_by
reply_unnumbered after end promise =
    let one : end ≡ 12 = (promise 1).behind in
    let ten : end ≡ 13 = (promise 10).behind in
    omega arith

pub stop_unnumbered : (after : List ℕ) (end : ℕ) → leaves stop (λ line. after) (λ line. end) → ⊥
unfolding stop decimal decimal_by
stop_unnumbered after end promise =
    let one : end ≡ 7 = (promise 1).behind in
    let ten : end ≡ 8 = (promise 10).behind in
    omega arith
