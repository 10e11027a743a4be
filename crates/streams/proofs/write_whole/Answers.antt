-- What a try wrote comes behind what was written before, and what it left is the rest.
use Rattle.std.proofs.Common.{◌≡◌, ◌≤◌, ℕ, ◌-◌, List, Option, Result, Ok, Err, OnErr, ◌++◌, length, take, drop, sym, ap, subst, ◌∙◌, arith}
use Rattle.std.proofs.Common.{append_assoc, length-append}
use Rattle.std.proofs.lemmas.List.{take-append-drop, take_rest}
use Rattle.std.proofs.Math.Seq.{take-append_seam}
use Rattle.std.proofs.KnownBytes.{Appends-trans, Appends-kept}
use Rattle.std.specs.Io.KnownBytes.{Appends}
use Rattle.streams.proofs.write_whole.Goals as goal

-- what was written is a front of the buffer
front : (had has : Option (List ℕ)) (wrote left buf : List ℕ) → wrote ++ left ≡ buf → Appends had has wrote
    → (n : ℕ) × (n ≤ length buf) × Appends had has (take n buf)
front had has wrote left buf e put = (
  length wrote,
  omega (arith, length-append wrote left, ap length e),
  subst (Appends had has) (sym (ap (take (length wrote)) (sym e) ∙ take-append_seam wrote left)) put,
)

-- and so it is with n bytes more of what was left
one_more : (wrote left buf : List ℕ) (n : ℕ) → wrote ++ left ≡ buf → (wrote ++ take n left) ++ take (length left - n) (drop n left) ≡ buf
one_more wrote left buf n e = rw take_rest (append_assoc wrote (take n left) (drop n left) ∙ ap (wrote ++◌) (take-append-drop n left) ∙ e)

in_either : {T E P : Type 0} (r : Result T E) → P → OnErr r P
in_either (Ok x) p = tt
in_either (Err e) p = p

pub returns-in_err-n-clause-some : goal.returns-in_err-n-clause-some
returns-in_err-n-clause-some g c =
    let i = c.loop.invariant in
    let put = front _ _ i.0 c.loop.left.now c.args.buf.now i.1 (Appends-kept _ _ _ _ i.2 c.in_err-n.ensures.bytes) in
    in_either _ put

pub loop-preserved : goal.loop-preserved
loop-preserved g c =
    let i = c.loop.invariant in
    let n = c.in_ok-n.n in
    let left = c.loop.left.now in
    (i.0 ++ take n left, one_more i.0 left c.args.buf.now n i.1, Appends-trans _ _ _ _ _ i.2 c.in_ok-n.ensures.bytes)

pub returns-clause-some : goal.returns-clause-some
returns-clause-some g c = let i = c.loop.invariant in front _ _ i.0 c.loop.left.now c.args.buf.now i.1 i.2
