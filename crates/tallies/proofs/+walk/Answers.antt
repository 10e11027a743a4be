-- The walk's four functions meet their contracts, by the laws of `PartByPart`: what is not cut is one stretch of numbers or two, and of a cut each part is
-- walked behind those before it.
use Rattle.std.proofs.Common.{sym, ◌∙◌, refl}
use Rattle.panes.specs.Panes.{pane_at}
use Rattle.panes.specs.Told.{told}
use Rattle.panes.proofs.PartsSeen.{no_run, no_side, none_seen, whole_seen, run_seen, side_seen}
use Rattle.tallies.proofs.PartByPart.{long_two, long_fits, first_call, second_call, second_told, u_two, u_fits, a_call, b_call, c_call, c_told}
use Rattle.tallies.proofs.Uncut.{leaf_of}
use Rattle.tallies.proofs.+walk.Goals.{walk-then-p-via-then-p, walk-then-p-via-else-p+then-p-2}
use Rattle.tallies.proofs.+walk.Goals as goal

pub walk-returns-then-p-clause-told : goal.walk-returns-then-p-clause-told
walk-returns-then-p-clause-told t c =
    none_seen c.args.p c.requires (told c.args.runs.now)
    (elim c.then-p.branch [
      | walk-then-p-via-then-p w ↦ no_run w.if-p.true
      | walk-then-p-via-else-p+then-p-2 w ↦ no_side w.if-p-2.true
    ])

pub walk-returns-then-is_whole-clause-told : goal.walk-returns-then-is_whole-clause-told
walk-returns-then-is_whole-clause-told t c =
    c.join.ensures.told ∙ sym (whole_seen c.args.p c.requires (told c.args.runs.now) (sym c.is_whole.ensures ∙ c.if-is_whole.true))

pub walk_cut-join_leaf-requires : goal.walk_cut-join_leaf-requires
walk_cut-join_leaf-requires t c =
    (c.requires.0, leaf_of c.requires.0 c.requires.1 (sym c.choose.ensures ∙ c.in-UCut.is) c.if-p-eq2.true c.if-p-le3.true)

pub walk_cut-returns-in-StraightRun-clause-told : goal.walk_cut-returns-in-StraightRun-clause-told
walk_cut-returns-in-StraightRun-clause-told t c =
    let p = c.args.p in
    c.join.ensures.told ∙ sym (run_seen p c.requires.0 (told c.args.runs.now) c.requires.1 (sym c.choose.ensures ∙ c.in-StraightRun.is))

pub walk_cut-returns-in-StraightSide-clause-told : goal.walk_cut-returns-in-StraightSide-clause-told
walk_cut-returns-in-StraightSide-clause-told t c =
    let p = c.args.p in
    c.join-in-StraightSide.ensures.told
    ∙ sym (side_seen p c.requires.0 (told c.args.runs.now) c.requires.1 (sym c.choose.ensures ∙ c.in-StraightSide.is))

pub walk_long-in_first-requires : goal.walk_long-in_first-requires
walk_long-in_first-requires t c = ((long_two (told c.args.runs.now) (c.decreases, c.requires)).0, c.requires.0.a_limit)

pub walk_long-walk-requires : goal.walk_long-walk-requires
walk_long-walk-requires t c = first_call (told c.args.runs.now) (c.decreases, c.requires) c.in_first.ensures

pub walk_long-in_second-requires : goal.walk_long-in_second-requires
walk_long-in_second-requires t c = ((long_two (told c.args.runs.now) (c.decreases, c.requires)).0, c.requires.0.a_limit)

pub walk_long-overflow_mul-e : goal.walk_long-overflow_mul-e
walk_long-overflow_mul-e t c = record { fits = (long_fits (told c.args.runs.now) (c.decreases, c.requires) c.even_half-e.ensures).0 }

pub walk_long-overflow_add-n : goal.walk_long-overflow_add-n
walk_long-overflow_add-n t c = record { fits = (long_fits (told c.args.runs.now) (c.decreases, c.requires) c.even_half-e.ensures).1 }

pub walk_long-walk-requires-2 : goal.walk_long-walk-requires-2
walk_long-walk-requires-2 t c =
    second_call (told c.args.runs.now) (c.decreases, c.requires) c.even_half-e.ensures c.in_first.ensures c.in_second.ensures c.walk.ensures.told

pub walk_long-returns-clause-told : goal.walk_long-returns-clause-told
walk_long-returns-clause-told t c =
    second_told (told c.args.runs.now) (c.decreases, c.requires) c.even_half-e.ensures c.in_first.ensures c.in_second.ensures c.walk.ensures.told
    c.walk-2.ensures.told

pub walk_u-overflow_mul-to_b : goal.walk_u-overflow_mul-to_b
walk_u-overflow_mul-to_b t c = record { fits = (u_fits (told c.args.runs.now) (c.decreases, c.requires) c.even_half-e.ensures).in_a }

pub walk_u-overflow_add-to_b : goal.walk_u-overflow_add-to_b
walk_u-overflow_add-to_b t c = record { fits = (u_fits (told c.args.runs.now) (c.decreases, c.requires) c.even_half-e.ensures).to_b }

pub walk_u-overflow_sub-to_c : goal.walk_u-overflow_sub-to_c
walk_u-overflow_sub-to_c t c = (u_fits (told c.args.runs.now) (c.decreases, c.requires) c.even_half-e.ensures).half

pub walk_u-overflow_add-to_c : goal.walk_u-overflow_add-to_c
walk_u-overflow_add-to_c t c = record { fits = (u_fits (told c.args.runs.now) (c.decreases, c.requires) c.even_half-e.ensures).to_c }

pub walk_u-walk-requires : goal.walk_u-walk-requires
walk_u-walk-requires t c = a_call (told c.args.runs.now) (c.decreases, c.requires) c.in_a.ensures

pub walk_u-in_b-requires : goal.walk_u-in_b-requires
walk_u-in_b-requires t c = ((u_two (told c.args.runs.now) (c.decreases, c.requires)).1, c.requires.0.b_limit)

pub walk_u-walk-requires-2 : goal.walk_u-walk-requires-2
walk_u-walk-requires-2 t c =
    b_call (told c.args.runs.now) (c.decreases, c.requires) c.even_half-e.ensures c.in_a.ensures c.in_b.ensures refl c.walk.ensures.told

pub walk_u-walk-requires-3 : goal.walk_u-walk-requires-3
walk_u-walk-requires-3 t c =
    c_call (told c.args.runs.now) (c.decreases, c.requires) c.even_half-e.ensures c.in_a.ensures c.in_b.ensures c.in_c.ensures c.walk.ensures.told
    c.walk-2.ensures.told

pub walk_u-returns-clause-told : goal.walk_u-returns-clause-told
walk_u-returns-clause-told t c =
    c_told (told c.args.runs.now) (c.decreases, c.requires) c.even_half-e.ensures c.in_a.ensures c.in_b.ensures c.in_c.ensures c.walk.ensures.told
    c.walk-2.ensures.told c.walk-3.ensures.told
