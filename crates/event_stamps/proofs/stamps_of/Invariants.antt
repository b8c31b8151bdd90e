use Prim.Native.Nat.{ℕ, ◌-◌, ◌≤◌}
use mathlib.Core.List.{List}
use lib.ListN.{length}
use Rattle.event.specs.declared.Event.{Event}
use Rattle.passes.specs.Passes.{Leads}
use Rattle.event_stamps.proofs.Stamping.{Stamping}
use Rattle.event_stamps.proofs.stamps_of.Given as goal

abbrev pub invariant-loop-i : goal.invariant-loop-i
invariant-loop-i l = (l.i ≤ l.n) × ((es : List Event) (m : ℕ) → Leads l.log es m → l.n ≤ length es → Stamping l.log es l.numbers l.clocks l.stamps l.at l.i)

abbrev pub decreases-loop-i : goal.decreases-loop-i
decreases-loop-i l = l.n - l.i
