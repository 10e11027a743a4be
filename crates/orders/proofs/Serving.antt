-- Of a program over the desk: its calls of `feed` one after the other, its turns one after the other, and the end. What it wrote for all that it read is the
-- output of that.
use Rattle.std.proofs.Common.{◌≡◌, ℕ, ◌≤◌, Bool, true, false, List, [], ◌++◌, Option, None, Some, IfSome, ◌⊎◌, inl, inr, length, take, drop, subst, sym, ap}
use Rattle.std.proofs.Common.{◌∙◌, append_assoc}
use Rattle.std.specs.Io.KnownBytes.{Appends, Consumes, IsAtEnd}
use Rattle.std.proofs.KnownBytes.{Appends-nil, Appends-trans, Consumes-nil, Consumes-trans}
use Rattle.replies.specs.Text.{longest, Writes, if_room}
use Rattle.desk.specs.declared.Desk.{Desk}
use Rattle.desk.specs.Desk.{output}
use Rattle.desk.specs.Steps.{at_first, prints_last, Lent, Returned, Feeds}
use Rattle.desk.specs.Pieces.{Printed}
use Rattle.desk.proofs.Calls.{feed_is_a_step, finish_is_the_end, finish_when_closed}
use Rattle.desk.proofs.Stream.{whole_printed}
use Rattle.orders.specs.Serving.{Answers, Turns}

-- Before the first byte nothing is written, and all of the chunk is left.
pub none_yet : (held : Option (List ℕ)) (d : Desk) (bytes : List ℕ) → Answers held held d bytes d bytes
none_yet held d bytes = record {
  wrote = [];
  put = Appends-nil held;
  leads = λ (rest printed : List ℕ) (feeding : Printed d (bytes ++ rest) printed). feeding;
}

-- A call of `feed` on what was left, all of whose text is written.
pub fed_on : {held holds now : Option (List ℕ)} {first d : Desk} {bytes : List ℕ} {lent : Lent} {back : Returned} → Feeds d lent back
    → back.written ≤ length lent.out → Answers held holds first bytes d lent.chunk → Appends holds now (take back.written back.out)
    → Answers held now first bytes back.desk (drop back.taken lent.chunk)
fed_on {held} {holds} {now} {first} {d} {bytes} {lent} {back} f within before put =
    let text = take back.written back.out in
    record {
      wrote = before.wrote ++ text;
      put = Appends-trans held holds now before.wrote text before.put put;
      leads = λ (rest printed : List ℕ) (feeding : Printed back.desk (drop back.taken lent.chunk ++ rest) printed).
          subst (λ (zs : List ℕ). Printed first (bytes ++ rest) zs) (sym (append_assoc before.wrote text printed))
          (before.leads rest (text ++ printed) (feed_is_a_step f within rest feeding));
    }

-- Before the first turn nothing is read.
pub not_begun : (had held : Option (List ℕ)) {d e : Desk} → e ≡ d → Turns had had held held d e true
not_begun had held {d} {e} same =
    subst (λ (f : Desk). Turns had had held held d f true) (sym same)
    (record { took = []; gave = Consumes-nil had; answered = none_yet held d []; over = λ e. cc })

-- One read more, all of which is answered; where there is to be no more, the desk is closed then or the reader at its end.
pub read_on : {r s t u v w : Option (List ℕ)} {d e f : Desk} {read : List ℕ} {more more' : Bool} → Turns r s u v d e more → Consumes s t read
    → Answers v w e read f [] → (more' ≡ false → (f.closed ≡ true) ⊎ IsAtEnd t) → Turns r t u w d f more'
read_on {r} {s} {t} {u} {v} {w} {d} {e} {f} {read} before gave answered over =
    let took = before.took in
    let wrote = before.answered.wrote in
    let wrote' = answered.wrote in
    record {
      took = took ++ read;
      gave = Consumes-trans r s t took read before.gave gave;
      answered = record {
        wrote = wrote ++ wrote';
        put = Appends-trans u v w wrote wrote' before.answered.put answered.put;
        leads = λ (rest printed : List ℕ) (feeding : Printed f rest printed).
            subst (λ (zs : List ℕ). Printed d zs ((wrote ++ wrote') ++ printed)) (sym (append_assoc took read rest))
            (subst (λ (zs : List ℕ). Printed d (took ++ (read ++ rest)) zs) (sym (append_assoc wrote wrote' printed))
            (before.answered.leads (read ++ rest) (wrote' ++ printed) (answered.leads rest printed feeding)));
      };
      over = over;
    }

-- One turn after another.
pub turned : {r s t u v w : Option (List ℕ)} {d e f : Desk} {more more' : Bool} → Turns r s u v d e more → Turns s t v w e f more'
    → Turns r t u w d f more'
turned one next = read_on one next.gave next.answered next.over

-- After the last turn `finish` writes what is left to print.
module _ {d : Desk} {out out' : List ℕ} {end : ℕ} (w : Writes out 0 (if_room out 0 (prints_last d)) out' end)
    (few : end ≤ longest) (room : longest ≤ length out) where
  last : {ys : List ℕ} → (d.closed ≡ true) ⊎ (ys ≡ []) → Printed d ys (take end out')
  last {ys} (inl o) = finish_when_closed d w ys o
  last {ys} (inr e) = subst (λ (zs : List ℕ). Printed d zs (take end out')) (sym e) (finish_is_the_end d w few room)

  pub whole : {had has held holds : Option (List ℕ)} (now : Option (List ℕ)) {more : Bool} → Turns had has held holds at_first d more
      → more ≡ false → Appends holds now (take end out') → IfSome had (λ input. Appends held now (output input))
  whole {had} {has} {held} {holds} now {more} turns none put = by had has turns.gave (turns.over none)
    where
      by : (r s : Option (List ℕ)) → Consumes r s turns.took → (d.closed ≡ true) ⊎ IsAtEnd s → IfSome r (λ input. Appends held now (output input))
      by None s gave over = tt
      by (Some xs) None gave over = absurd gave
      by (Some xs) (Some ys) gave over =
          let text = take end out' in
          let all : Printed at_first (turns.took ++ ys) (turns.answered.wrote ++ text) = turns.answered.leads ys text (last over) in
          subst (Appends held now) (whole_printed all ∙ ap output (sym gave))
          (Appends-trans held holds now turns.answered.wrote text turns.answered.put put)
