use mathlib.Core.Path.{◌≡◌}
use mathlib.Core.Option.{none}
use lib.ListN.{length, drop}
use Rattle.enumeration.specs.Computed.{next_order}
use Rattle.order_rows.specs.Rows.{dependent_in}
use Rattle.order_rows.proofs.next.Given as goal

abbrev pub invariant-loop-p : goal.invariant-loop-p
invariant-loop-p l = next_order (length l.order) (dependent_in l.events) (drop l.p l.order) ≡ none
