-- `tables::admit` meets its contract: the area's guards, and the table's length after them.
use mathlib.Core.List.{[], ◌∷◌}
use mathlib.Core.Path.{◌≡◌, refl, sym, ◌∙◌}
use Prim.Native.Nat.{◌*◌}
use lib.Dec.{lit<, eqb}
use Rattle.terms.specs.declared.Refusal.TheVariants.{TableLength}
use Rattle.terms.specs.Guards.{◌else◌, admitted}
use Rattle.terms.proofs.Guards.{next_granted}
use Rattle.tables.specs.Tables.{table_guards}
use Rattle.tables.proofs.Admitted.{refused_so}
use Rattle.tables.proofs.admit.Goals as goal

pub returns : goal.returns
returns c =
    let area = c.args.area in
    let granted = sym c.admit_area.ensures ∙ c.in_ok-admit_area.was in
    let fits : c.guard.result ≡ admitted (eqb c.args.places (area.w * area.h) else TableLength ∷ []) = c.guard.ensures in
    refused_so area.w area.h c.args.places (next_granted (table_guards area.w area.h c.args.places) 2 (lit< tt) granted fits (λ p. refl))
