use Prim.Native.Nat.{◌-◌}
use lib.ListN.{length}
use Rattle.slot_search.proofs.Running.{Running}
use Rattle.slot_search.proofs.search.Given as goal

abbrev pub invariant-loop-event : goal.invariant-loop-event
invariant-loop-event l = Running l.log l.sought l.state l.followed l.s l.taken l.at

abbrev pub decreases-loop-event : goal.decreases-loop-event
decreases-loop-event l = length l.log - l.at
