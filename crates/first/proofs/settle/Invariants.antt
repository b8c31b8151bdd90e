use Prim.Native.Nat.{◌-◌, ◌≤◌, ◌<◌}
use mathlib.Core.List.{List}
use Rattle.event.specs.declared.Event.{Event}
use Rattle.passes.specs.Passes.{Leads, SlotsOf, LastsOf}
use Rattle.first.specs.Holding.{Underway}
use Rattle.first.proofs.settle.Given as goal

abbrev pub invariant-loop-s : goal.invariant-loop-s
invariant-loop-s l = (l.s.found < l.sought.size)
    × ((l.initial.s.found ≤ l.s.found)
    × ((es : List Event) → Leads l.log es l.n → SlotsOf l.sought → Underway es l.sought.slots l.sought.size l.initial.s → LastsOf es l.sought l.last → Underway es l.sought.slots l.sought.size l.s))

abbrev pub decreases-loop-s : goal.decreases-loop-s
decreases-loop-s l = l.sought.size - l.s.found
