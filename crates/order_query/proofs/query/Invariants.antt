use Prim.Native.Nat.{◌-◌}
use mathlib.Core.List.{List, reverse}
use lib.ListN.{length}
use Rattle.event.specs.declared.Event.{Event}
use Rattle.event_log.proofs.LogWalk.{Going}
use Rattle.clock.specs.Arrivals.{ClocksOf}
use Rattle.order_query.proofs.Waiting.{Waits}
use Rattle.order_query.proofs.query.Given as goal

abbrev pub invariant-loop-event : goal.invariant-loop-event
invariant-loop-event l = (past : List Event) × Going l.log l.state l.taken l.at past × ClocksOf (reverse past) l.clocks × Waits (reverse past) l.first l.one × Waits (reverse past) l.second l.other

abbrev pub decreases-loop-event : goal.decreases-loop-event
decreases-loop-event l = length l.log - l.at
