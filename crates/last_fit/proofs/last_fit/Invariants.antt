use Prim.Native.Nat.{◌-◌, ◌≤◌}
use mathlib.Core.List.{List}
use Rattle.event.specs.declared.Event.{Event}
use Rattle.passes.specs.Passes.{Leads}
use Rattle.last_fit.proofs.Fitting.{Passed}
use Rattle.last_fit.proofs.last_fit.Given as goal

abbrev pub invariant-loop-i : goal.invariant-loop-i
invariant-loop-i l = (l.i ≤ l.n) × ((es : List Event) → Leads l.log es l.n → Passed l.log es l.slot l.last l.place l.at l.i)

abbrev pub decreases-loop-i : goal.decreases-loop-i
decreases-loop-i l = l.n - l.i
