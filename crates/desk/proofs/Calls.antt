-- A program's calls of `feed` and `finish` are the steps of a feeding: what they wrote, one after the other, is what is printed for the input, and so by
-- `whole_printed` the output of it. What a call wrote stands at the front of its output, as long as it returned.
use mathlib.Core.Bool.{Bool, true, false, cond}
use mathlib.Core.List.{List, [], ◌++◌}
use mathlib.Core.Path.{◌≡◌, refl, sym, ap, subst}
use Prim.Native.Nat.{ℕ, ◌≤◌}
use native.Mathlib.Omega.{arith}
use lib.Dec.{leb}
use lib.ListN.{length, take, drop}
use Rattle.replies.specs.Text.{longest, Writes, if_room}
use Rattle.replies.proofs.Writing.{stands_written, writes_as}
use Rattle.desk.specs.declared.Desk.{Desk}
use Rattle.desk.specs.Steps.{prints_last, Lent, Returned, feed_due, Feeds}
use Rattle.desk.specs.Pieces.{Printed, ended, closed, piece_fed}
use Rattle.desk.proofs.Bytes.{all_written}

-- A call of `feed` that meets its promise, and a feeding from where it left the desk.
module _ {d : Desk} {lent : Lent} {back : Returned} (f : Feeds d lent back) (within : back.written ≤ length lent.out) where
  abbrev wrote : List ℕ
  wrote = take back.written back.out

  wrote_is : wrote ≡ (feed_due d lent).printed
  wrote_is = stands_written f.written_is within

  pub feed_is_a_step : (rest : List ℕ) {printed : List ℕ} → Printed back.desk (drop back.taken lent.chunk ++ rest) printed
      → Printed d (lent.chunk ++ rest) (wrote ++ printed)
  feed_is_a_step rest {printed} feeding =
      subst (λ (zs : List ℕ). Printed d (lent.chunk ++ rest) (zs ++ printed)) (sym wrote_is)
      (piece_fed d 0 (length lent.out) lent.chunk rest printed
      (subst (λ (e : Desk). Printed e (drop (feed_due d lent).taken lent.chunk ++ rest) printed) f.desk_is
      (subst (λ (n : ℕ). Printed back.desk (drop n lent.chunk ++ rest) printed) f.taken_is feeding)))

-- A call of `finish` that meets its promise, with room, at the end of the input; and one with a desk that reads no more, wherever the input stands.
module _ (d : Desk) {out out' : List ℕ} {end : ℕ} (w : Writes out 0 (if_room out 0 (prints_last d)) out' end) where
  pub finish_is_the_end : end ≤ longest → longest ≤ length out → Printed d [] (take end out')
  finish_is_the_end few room =
      subst (λ (zs : List ℕ). Printed d [] zs) (sym (stands_written (all_written (prints_last d) room w) (omega arith))) (ended d)

  pub finish_when_closed : (input : List ℕ) → d.closed ≡ true → Printed d input (take end out')
  finish_when_closed input o =
      subst (λ (zs : List ℕ). Printed d input zs) (sym (ap (λ n. take n out') (writes_as (silent (leb longest (length out))) w).behind)) (closed d input o)
    where
      silent : (t : Bool) → cond t (prints_last d) [] ≡ []
      silent true = rw o refl
      silent false = refl
