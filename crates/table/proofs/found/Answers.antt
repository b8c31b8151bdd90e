use Prim.Native.Nat.{◌+◌}
use mathlib.Core.Path.{◌≡◌}
use mathlib.Core.Bool.{not}
use lib.Dec.{eqb}
use lib.ListN.{get_or}
use Rattle.table.specs.Table.{found_in}
use Rattle.table.proofs.Verdict.{found_match}
use borrow.Author.Rules.{rules}
use Rattle.table.proofs.found.Goals as goal

pub returns-then-size-le-SLOTS-clause-history : goal.returns-then-size-le-SLOTS-clause-history
unfolding found_in
returns-then-size-le-SLOTS-clause-history c =
    let e : not (eqb (get_or c.args.table.now (c.last_row.result + 15) 0) 0) ≡ found_in c.args.table.now c.args.size = search rules in
    λ fits ss log h q. rw (e, q) (found_match fits ss log c.args.table.now h)
