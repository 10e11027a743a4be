-- `searches::number_at` meets its contract: an area is a block to search from, above which there is none.
use Prim.Native.Nat.{◌+◌}
use native.Mathlib.Omega.{arith}
use mathlib.Core.Path.{◌≡◌, ap₂, ◌∙◌}
use Rattle.division.specs.Division.{square, whole, number_of, blocks_holding}
use Rattle.searches.specs.Searches.{numbered}
use Rattle.searches.proofs.PartWithSquare.{searches_whole}
use Rattle.searches.proofs.number_at.Goals as goal

pub search-requires : goal.search-requires
search-requires c = searches_whole c.args.w c.args.h c.args.x c.args.y c.requires

pub returns : goal.returns
returns c =
    let all = whole c.args.w c.args.h in
    let s = square c.args.x c.args.y in
    let first : 0 + number_of all s ≡ number_of all s = omega arith in
    let none : 0 + blocks_holding all s ≡ blocks_holding all s = omega arith in
    c.search.ensures ∙ ap₂ numbered first none
