-- The entries of the events before the place are made.
use mathlib.Core.Path.{◌≡◌}
use Rattle.plain.specs.Chains.{column_to}
use Rattle.plain.proofs.column.Given as goal

abbrev pub invariant-loop-i : goal.invariant-loop-i
invariant-loop-i l = l.before ≡ column_to l.i l.events l.j l.initial.before
