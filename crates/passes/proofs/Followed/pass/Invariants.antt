use Prim.Native.Nat.{ℕ, ◌-◌, ◌≤◌}
use mathlib.Core.List.{List, []}
use lib.ListN.{length}
use Rattle.event.specs.declared.Event.{Event}
use Rattle.clock.specs.Arrivals.{ClocksOf}
use Rattle.passes.specs.Passes.{Leads}
use Rattle.passes.proofs.Passes.{FollowedTo}
use Rattle.passes.proofs.Followed.pass.Given as goal

abbrev pub invariant-loop-i : goal.invariant-loop-i
invariant-loop-i l = (l.i ≤ l.n) × ((es : List Event) (m : ℕ) → Leads l.log es m → l.n ≤ length es → ClocksOf [] l.initial.self.clocks → FollowedTo l.log es l.keys l.initial.self l.self l.stamp l.at l.i)

abbrev pub decreases-loop-i : goal.decreases-loop-i
decreases-loop-i l = l.n - l.i
