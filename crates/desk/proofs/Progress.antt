-- For a program over the desk: it takes at least a byte of what it is fed where there is room.
use mathlib.Core.Path.{ap, ◌∙◌}
use Prim.Native.Nat.{◌≤◌, ◌<◌}
use native.Mathlib.Omega.{arith}
use borrow.Author.Tests.{le-leb}
use lib.ListN.{length}
use Rattle.replies.specs.Text.{longest}
use Rattle.desk.specs.declared.Desk.{Desk}
use Rattle.desk.specs.Steps.{Result, Lent, Returned, Feeds}
use Rattle.desk.proofs.Feeding.{fed_byte}

-- a call of `feed` that meets its promise
pub goes_on : {d : Desk} {lent : Lent} {back : Returned} → Feeds d lent back → longest ≤ length lent.out → 0 < length lent.chunk → 0 < back.taken
goes_on {d} {lent} f room l =
    let size = length lent.out in
    let byte = fed_byte d 0 size lent.chunk 0 l (le-leb longest size room) in
    let taken = f.taken_is ∙ ap (λ (r : Result). r.taken) byte in
    omega arith
