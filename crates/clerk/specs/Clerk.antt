-- What the clerk replies to a line, and which area is in force after it: document 01, "Order lines", and the origin of document 02, order 6.
use Rattle.std.specs.Prelude.{Bool, cond, List, [], ◌∷◌, ◌++◌, ℕ, ◌*◌, eqb, ℤ, pos, Option, Some, None, Result, Ok, Err}
use Rattle.terms.specs.declared.Area.{Area}
use Rattle.terms.specs.declared.Refusal as Refusals
use Rattle.terms.specs.Terms.{refusal_number, origin_accepted, at_post, grid_accepted, SignedFigures, signed}
use Rattle.curve.specs.Lookups.{number_to_square_at, square_to_number_at, finish_square_at}
use Rattle.lines.specs.declared.Request.{Request}
use Rattle.lines.specs.declared.Request.TheVariants.{SetArea, SetOrigin, AskNumber, AskSquare}
use Rattle.lines.specs.Lines.{begins_setting, request}
use Rattle.clerk.specs.declared.Reply as Replies

-- A reply on paper: its word and its numbers. "AREA w h n fx fy (n squares, finish square); CELL x y k; NUMBER i k (k blocks reported); REFUSED r", and of
-- order 6 "ORIGIN ox oy".
pub data Word : Type 0 where
  AreaSaid : Word
  OriginSaid : Word
  Cell : Word
  Number : Word
  Refused : Word

pub record Said : Type 0 where
  pub word : Word
  pub numbers : List ℤ

abbrev pub says : Word → List ℤ → Said
says word numbers = record { word = word; numbers = numbers }

abbrev pub refuses : Refusals.Refusal → Said
refuses r = says Refused (pos (refusal_number r) ∷ [])

abbrev pub said : Result Replies.Reply Refusals.Refusal → Said
said (Ok (Replies.TheVariants.AreaSet w h squares x y)) = says AreaSaid (pos w ∷ pos h ∷ pos squares ∷ x ∷ y ∷ [])
said (Ok (Replies.TheVariants.OriginSet ox oy)) = says OriginSaid (ox ∷ oy ∷ [])
said (Ok (Replies.TheVariants.Cell x y blocks)) = says Cell (x ∷ y ∷ pos blocks ∷ [])
said (Ok (Replies.TheVariants.Number number blocks)) = says Number (pos number ∷ pos blocks ∷ [])
said (Err r) = refuses r

-- What a call of the library with these figures comes to: the word with its numbers, or its refusal.
abbrev pub from_call : Word → List ℤ → SignedFigures → Said
from_call word first f = cond (eqb f.refusal 0) (says word (first ++ f.values)) (says Refused (pos f.refusal ∷ []))

-- What a clerk holds: the area in force with its origin, if there is one.
abbrev pub InForce : Type 0
InForce = Option Area

-- "7: N or S line with no area in force"; order 6: "7 also for ORIGIN with no area in force".
abbrev pub under : InForce → (Area → Said) → Said
under None asked = refuses Refusals.TheVariants.NoArea
under (Some area) asked = asked area

-- Order 6: "12 for an origin beyond the range, in a line after 7"; "An accepted line prints `ORIGIN ox oy`".
abbrev pub origin_reply : (ox oy : ℤ) → Said
origin_reply ox oy = cond (origin_accepted ox oy) (says OriginSaid (ox ∷ oy ∷ [])) (refuses Refusals.TheVariants.OriginLimit)

-- "For a line it is 8, 6, 5, 7, then the library's order": the first three are the request's. An AREA line tells the finish square of an area at origin 0 0.
abbrev pub reply_to : InForce → Result Request Refusals.Refusal → Said
reply_to held (Ok (SetArea w h)) = from_call AreaSaid (pos w ∷ pos h ∷ pos (w * h) ∷ []) (finish_square_at (at_post w h))
reply_to held (Ok (SetOrigin ox oy)) = under held (λ area. origin_reply ox oy)
reply_to held (Ok (AskNumber i)) = under held (λ area. from_call Cell [] (number_to_square_at area i))
reply_to held (Ok (AskSquare x y)) = under held (λ area. from_call Number [] (signed (square_to_number_at area x y)))
reply_to held (Err r) = refuses r

-- The clerk with an area in force, or with none where the area or its origin is not accepted.
abbrev pub clerk_under : Area → InForce
clerk_under area = cond (grid_accepted area) (Some area) None

-- What a clerk holds as it counts. One made by hand may hold an area that is not accepted, or an origin: it counts as one with no area in force, whatever the
-- line.
abbrev pub counted : InForce → InForce
counted None = None
counted (Some area) = clerk_under area

-- Order 6: "an origin (ox, oy) .., set by a line `ORIGIN ox oy`". One that is refused leaves no area in force.
abbrev pub with_origin : InForce → (ox oy : ℤ) → InForce
with_origin None ox oy = None
with_origin (Some area) ox oy = cond (origin_accepted ox oy) (Some (record { w = area.w; h = area.h; ox = ox; oy = oy })) None

-- The clerk after a line, by what the line asks and whether it begins with AREA or ORIGIN.
abbrev pub clerk_after : InForce → (begins : Bool) → Result Request Refusals.Refusal → InForce
-- "An accepted AREA line sets the area for the lines below it", and its origin "to 0 0". One that is refused for its area leaves none.
clerk_after held begins (Ok (SetArea w h)) = clerk_under (at_post w h)
clerk_after held begins (Ok (SetOrigin ox oy)) = with_origin held ox oy
-- "A refused line whose first four bytes are AREA leaves no area in force, for any reason of refusal", and of order 6 one that begins with ORIGIN.
clerk_after held begins (Err r) = cond begins None held
-- "No other line alters the area".
clerk_after held begins (Ok (AskNumber i)) = held
clerk_after held begins (Ok (AskSquare x y)) = held

unfoldable pub after : InForce → List ℕ → InForce
after held line = clerk_after (counted held) (begins_setting line) (request line)

unfoldable pub reply : InForce → List ℕ → Said
reply held line = reply_to (counted held) (request line)
