-- The columns of the events before the place are made.
use mathlib.Core.Path.{◌≡◌}
use Rattle.plain.specs.Chains.{columns_to}
use Rattle.plain.proofs.all_before.Given as goal

abbrev pub invariant-loop-j : goal.invariant-loop-j
invariant-loop-j l = l.before ≡ columns_to l.j l.events
