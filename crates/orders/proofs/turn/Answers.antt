-- `orders::turn` meets its contract: what was read is answered; it says that there is no more where nothing was read, and else where the desk is closed.
use Rattle.std.proofs.Common.{◌≡◌, true, false, Bool, refl, inl, inr, arith}
use Rattle.orders.proofs.Serving.{not_begun, read_on}
use Rattle.orders.proofs.turn.Goals as goal

-- where a desk does not go on it is closed
shut : (b : Bool) → mathlib.Core.Bool.not b ≡ false → b ≡ true
shut true e = refl
shut false e = cc

pub returns-then-n-ne0 : goal.returns-then-n-ne0
returns-then-n-ne0 g c =
    λ some. read_on (not_begun _ _ refl) c.in_ok-n.ensures.bytes c.in_ok-serve.ensures (λ e. inl (shut _ e))

pub returns-else-n-ne0 : goal.returns-else-n-ne0
returns-else-n-ne0 g c =
    λ some. read_on (not_begun _ _ refl) c.in_ok-n.ensures.bytes c.in_ok-serve.ensures
    (λ e. inr (c.in_ok-n.ensures.end c.if-n-ne0.false (omega arith)))
