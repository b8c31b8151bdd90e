use Prim.Native.Nat.{◌-◌, ◌≤◌}
use mathlib.Core.List.{List}
use Rattle.event.specs.declared.Event.{Event}
use Rattle.passes.specs.Passes.{Leads}
use Rattle.passes.proofs.Passes.{PassedOver}
use Rattle.passes.proofs.first_above.Given as goal

abbrev pub invariant-loop-i : goal.invariant-loop-i
invariant-loop-i l = (l.i ≤ l.n) × ((es : List Event) → Leads l.log es l.n → PassedOver l.log es l.slot l.barred l.place l.at l.i)

abbrev pub decreases-loop-i : goal.decreases-loop-i
decreases-loop-i l = l.n - l.i
