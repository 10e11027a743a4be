-- What the desk does at each byte, and at the end of the input. It renders, byte by byte, document 01, "A line is the bytes before a newline (byte 10);
-- bytes after the last newline are a line if there are any" and "If there is a line 65,536 it prints 65536 STOP for it, and reads no more". Pieces, the
-- room of an output and that a line is kept, as far as the bytes of it that decide, are a form of the code.
use Rattle.std.specs.Prelude.{true, false, cond, List, [], ◌∷◌, ◌++◌, ◌≡◌, ℕ, suc, ◌+◌, leb, ltb, eqb, length, take, drop, replicate, None}
use Rattle.clerk.specs.Clerk.{after, reply}
use Rattle.replies.specs.Text.{text, stop, longest, Writes}
use Rattle.desk.specs.declared.Begun.{Begun}
use Rattle.desk.specs.declared.Desk.{Desk}
use Rattle.desk.specs.Desk.{last_answered}

-- How many bytes of a line are kept. A line of over 64 bytes is refused, whatever it says, so the first 65 decide.
abbrev pub kept_bytes : ℕ
kept_bytes = 65

-- The bytes that are kept; of no bytes; and those of one byte more, where there is room for it.
abbrev pub kept_of : Begun → List ℕ
kept_of g = take g.count g.bytes

abbrev pub none_kept : Begun
none_kept = record { bytes = replicate kept_bytes 0; count = 0 }

abbrev pub one_more : Begun → (b : ℕ) → Begun
one_more g b = record { bytes = kept_of g ++ (b ∷ drop (suc g.count) g.bytes); count = g.count + 1 }

abbrev pub with_byte : Begun → (b : ℕ) → Begun
with_byte g b = cond (leb kept_bytes (length (kept_of g))) g (one_more g b)

-- The bytes of the line that is begun, as far as they are kept.
abbrev pub begun_line : Desk → List ℕ
begun_line d = kept_of d.begun

-- The reply to it, as text.
abbrev pub reply_text : Desk → List ℕ
reply_text d = text d.line (reply d.clerk.area (begun_line d))

-- A desk before its first byte.
abbrev pub at_first : Desk
at_first = record { clerk = record { area = None }; line = 1; begun = none_kept; closed = false }

-- The desk after the first byte of a line 65,536; after a newline; after another byte.
abbrev pub stopped : Desk → Desk
stopped d = record { clerk = d.clerk; line = d.line; begun = d.begun; closed = true }

abbrev pub behind_newline : Desk → Desk
behind_newline d =
    record { clerk = record { area = after d.clerk.area (begun_line d) }; line = d.line + 1; begun = none_kept; closed = d.closed }

abbrev pub longer : Desk → (b : ℕ) → Desk
longer d b = record { clerk = d.clerk; line = d.line; begun = with_byte d.begun b; closed = d.closed }

-- The desk, and what is printed, after a byte.
abbrev pub next_desk : Desk → (b : ℕ) → Desk
next_desk d b = cond d.closed d (cond (ltb last_answered d.line) (stopped d) (cond (eqb b 10) (behind_newline d) (longer d b)))

abbrev pub prints : Desk → (b : ℕ) → List ℕ
prints d b =
    cond d.closed [] (cond (ltb last_answered d.line) (stop d.line) (cond (eqb b 10) (reply_text d) []))

-- What is printed at the end of the input: for a line that is begun its reply, or STOP for a line 65,536.
abbrev pub prints_last : Desk → List ℕ
prints_last d =
    cond d.closed [] (cond (eqb (length (begun_line d)) 0) [] (cond (ltb last_answered d.line) (stop d.line) (reply_text d)))

-- The bytes of a piece one by one, as long as there is room for the longest text in an output of that size, from a place of it on.
pub record Result : Type 0 where
  pub desk : Desk
  pub taken : ℕ
  pub printed : List ℕ

abbrev pub still : Desk → Result
still d = record { desk = d; taken = 0; printed = [] }

abbrev pub onward : List ℕ → Result → Result
onward first r = record { desk = r.desk; taken = suc r.taken; printed = first ++ r.printed }

unfoldable pub fed : Desk → (at size : ℕ) → List ℕ → Result
fed d at size [] = still d
fed d at size (b ∷ bs) =
    cond (leb (at + longest) size) (onward (prints d b) (fed (next_desk d b) (at + length (prints d b)) size bs)) (still d)

-- What a call of `feed` is lent: a chunk, and an output to write in from its beginning on.
pub record Lent : Type 0 where
  pub chunk : List ℕ
  pub out : List ℕ

-- What it leaves: the desk, how many bytes of the chunk were taken, the output and how many bytes were written.
pub record Returned : Type 0 where
  pub desk : Desk
  pub taken : ℕ
  pub out : List ℕ
  pub written : ℕ

-- What is due of what is lent, and that it was done.
abbrev pub feed_due : Desk → Lent → Result
feed_due d lent = fed d 0 (length lent.out) lent.chunk

pub record Feeds (d : Desk) (lent : Lent) (back : Returned) : Type 0 where
  pub desk_is : back.desk ≡ (feed_due d lent).desk
  pub taken_is : back.taken ≡ (feed_due d lent).taken
  pub written_is : Writes lent.out 0 (feed_due d lent).printed back.out back.written
