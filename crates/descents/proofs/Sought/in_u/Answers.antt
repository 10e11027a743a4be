-- `descents::Sought::in_u` meets its contract: each part has the numbers from the sum of those before it up to its own sum.
use native.Mathlib.Omega.{arith}
use Rattle.descents.proofs.PartWithNumber.{u_sums, a_enters, b_enters, c_enters}
use Rattle.descents.proofs.Sought.in_u.Goals as goal

pub overflow_mul-to_b : goal.overflow_mul-to_b
overflow_mul-to_b c = record { fits = (u_sums c.requires c.even_half-e.ensures).in_a }

pub overflow_sub-to_c : goal.overflow_sub-to_c
overflow_sub-to_c c = (u_sums c.requires c.even_half-e.ensures).half

pub overflow_add-to_c : goal.overflow_add-to_c
overflow_add-to_c c = let to = (u_sums c.requires c.even_half-e.ensures).to_c in omega arith

pub returns-then-i-to_b : goal.returns-then-i-to_b
returns-then-i-to_b c = a_enters c.requires c.even_half-e.ensures c.part_a.ensures c.if-i-to_b.true

pub returns-then-i-to_c : goal.returns-then-i-to_c
returns-then-i-to_c c = b_enters c.requires c.even_half-e.ensures c.part_b.ensures c.if-i-to_b.false c.if-i-to_c.true

pub returns : goal.returns
returns c = c_enters c.requires c.even_half-e.ensures c.part_c.ensures c.if-i-to_c.false
