-- What the promise of `request_of` comes to: two requests that meet it are one, since a request can be told from its figures.
use mathlib.Core.Bool.{cond}
use mathlib.Core.Path.{◌≡◌, refl, ap}
use lib.Dec.{eqb}
use lib.IntN.{pos, nat_abs}
use lib.ListN.{get_or}
use Rattle.terms.specs.declared.Refusal.{Refusal}
use Rattle.std.specs.Prelude.{Result, Ok, Err}
use Rattle.terms.proofs.Refusals.{named, named_back}
use Rattle.terms.proofs.OneAnswer.{by_figures}
use Rattle.lines.specs.declared.Request.{Request}
use Rattle.lines.specs.declared.Request.TheVariants.{SetArea, SetOrigin, AskNumber, AskSquare}
use Rattle.lines.specs.Lines.{Asked, asked}

-- the request of some figures: by the first letter of the word, which a refusal has none of
of_figures : Asked → Result Request Refusal
of_figures q =
    let letter = get_or q.word 0 0 in
    let one = get_or q.numbers 0 (pos 0) in
    let two = get_or q.numbers 1 (pos 0) in
    cond (eqb letter 65) (Ok (SetArea (nat_abs one) (nat_abs two)))
    (cond (eqb letter 79) (Ok (SetOrigin one two))
    (cond (eqb letter 78) (Ok (AskNumber (nat_abs one))) (cond (eqb letter 83) (Ok (AskSquare one two)) (Err (named q.refusal)))))

told_back : (q : Result Request Refusal) → of_figures (asked q) ≡ q
unfolding of_figures
told_back (Ok (SetArea w h)) = refl
told_back (Ok (SetOrigin ox oy)) = refl
told_back (Ok (AskNumber i)) = refl
told_back (Ok (AskSquare x y)) = refl
told_back (Err r) = ap Err (named_back r)

pub request_one : (p q : Result Request Refusal) {a : Asked} → asked p ≡ a → asked q ≡ a → p ≡ q
request_one = by_figures asked of_figures told_back
