-- `searches::Sought::in_u` meets its contract: the tests on v and u name the part, and the numbers before it are those of the parts before.
use mathlib.Core.Path.{subst}
use Prim.Native.Nat.{ℕ, ◌≤◌}
use Rattle.searches.proofs.PartWithSquare.{u_two, u_sums, a_leads, b_leads, c_leads}
use Rattle.searches.proofs.Sought.in_u.Goals as goal

pub overflow_mul-to_b : goal.overflow_mul-to_b
overflow_mul-to_b c = record { fits = (u_sums c.requires c.even_half-e.ensures).in_a }

pub in_b-requires : goal.in_b-requires
in_b-requires c =
    let from = subst (λ (n : ℕ). n ≤ c.args.self.spot.v) c.even_half-e.ensures c.if-e-v.true in ((u_two c.requires).1, from, c.requires.0.b_limit)

pub returns-then-e-v : goal.returns-then-e-v
returns-then-e-v c = b_leads c.requires c.even_half-e.ensures c.in_b.ensures c.if-e-v.true

pub returns-then-u-a : goal.returns-then-u-a
returns-then-u-a c = a_leads c.requires c.even_half-e.ensures c.in_a.ensures c.if-e-v.false c.if-u-a.true

pub overflow_add-result-2 : goal.overflow_add-result-2
overflow_add-result-2 c = record { fits = (u_sums c.requires c.even_half-e.ensures).to_b }

pub overflow_sub-result : goal.overflow_sub-result
overflow_sub-result c = (u_sums c.requires c.even_half-e.ensures).half

pub overflow_add-result-3 : goal.overflow_add-result-3
overflow_add-result-3 c = record { fits = (u_sums c.requires c.even_half-e.ensures).to_c }

pub returns : goal.returns
returns c = c_leads c.requires c.even_half-e.ensures c.in_c.ensures c.if-e-v.false c.if-u-a.false
