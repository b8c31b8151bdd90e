use mathlib.Core.Path.{◌≡◌}
use lib.ListN.{length}
use Rattle.enumeration.specs.Computed.{straight}
use Rattle.order_rows.specs.Rows.{dependent_in}
use Rattle.order_rows.proofs.straight.Given as goal

abbrev pub invariant-loop-x : goal.invariant-loop-x
invariant-loop-x l = straight (dependent_in l.events) l.order ≡ straight (dependent_in l.events) l.rest

abbrev pub decreases-loop-x : goal.decreases-loop-x
decreases-loop-x l = length l.rest
