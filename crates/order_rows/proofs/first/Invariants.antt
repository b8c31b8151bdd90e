use mathlib.Core.Path.{◌≡◌}
use Rattle.trace.proofs.Runs.{run}
use Rattle.order_rows.specs.Rows.{order_row}
use Rattle.order_rows.proofs.first.Given as goal

abbrev pub invariant-loop-i : goal.invariant-loop-i
invariant-loop-i l = l.row ≡ order_row (run 1 l.i)
