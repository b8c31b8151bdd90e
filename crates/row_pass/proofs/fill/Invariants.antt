use Prim.Native.Nat.{◌-◌, ◌≤◌}
use mathlib.Core.Path.{◌≡◌}
use mathlib.Core.List.{List}
use lib.ListN.{length}
use Rattle.event.specs.declared.Event.{Event}
use Rattle.rules.specs.State.{StateOf}
use Rattle.row_batch.specs.Batch.{batch}
use Rattle.row_pass.proofs.Filling.{Reading-on}
use Rattle.row_pass.proofs.fill.Given as goal

abbrev pub invariant-loop-k : goal.invariant-loop-k
invariant-loop-k l = (l.k ≤ batch) × (length l.events ≡ batch) × ((past : List Event) → StateOf past l.initial.state → l.before ≡ length past → Reading-on l.log l.from past l.events l.state l.at l.k)

abbrev pub decreases-loop-k : goal.decreases-loop-k
decreases-loop-k l = batch - l.k
