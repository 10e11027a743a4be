-- What writing and reading answer once the area is accepted and the table has its places: by the guards that are left then; and the kind of a card by its
-- number. It renders no sentence of document 02.
use Rattle.std.specs.Prelude.{Bool, true, false, cond, Option, Some, None, Result, Ok, Err, List, [], ◌∷◌, ◌≡◌, ℕ, eqb, length}
use Rattle.terms.specs.declared.Refusal.{Refusal}
use Rattle.terms.specs.declared.Refusal.TheVariants as Refusals
use Rattle.terms.specs.Terms.{Figures}
use Rattle.terms.specs.Guards.{guarded, rest}
use Rattle.leaves.specs.declared.Wrong.{Wrong}
use Rattle.cards.specs.declared.Kind.{Kind}
use Rattle.cards.specs.declared.Kind.TheVariants as Kinds
use Rattle.cards.specs.declared.Unread.{Unread}
use Rattle.cards.specs.declared.Unread.TheVariants as Unreads
use Rattle.cards.specs.Cards.{write_guards, read_guards}

-- The kind of a number, and whether a kind is by square.
abbrev pub known : ℕ → Result Kind Refusal
known kind = cond (eqb kind 1) (Ok Kinds.ByNumber) (cond (eqb kind 2) (Ok Kinds.BySquare) (Err Refusals.Departure))

abbrev pub by_square : Kind → Bool
by_square Kinds.ByNumber = false
by_square Kinds.BySquare = true

-- A bad check is told with its block, and not as a refusal alone.
abbrev pub TellsBlock : Unread → Type 0
TellsBlock u = u ≡ Unreads.Refused Refusals.BadCheck → ⊥

-- Whether a check found its table right.
abbrev pub says_right : Result (Option Wrong) Refusal → Bool
says_right (Ok None) = true
says_right (Ok (Some wrong)) = false
says_right (Err r) = false

abbrev pub write_on : (w h kind : ℕ) (table file : List ℕ) → Figures
write_on w h kind table file = guarded (rest 3 (write_guards w h kind table (length file))) 0 []

abbrev pub read_on : (w h kind : ℕ) (file : List ℕ) → Figures
read_on w h kind file = guarded (rest 4 (read_guards w h kind file 0)) 1 (0 ∷ [])
