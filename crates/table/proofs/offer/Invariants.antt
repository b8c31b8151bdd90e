use Prim.Native.Nat.{◌≤◌}
use mathlib.Core.Path.{◌≡◌}
use Rattle.table.specs.Table.{offered_down}
use Rattle.table.proofs.offer.Given as goal

abbrev pub invariant-loop-k : goal.invariant-loop-k
invariant-loop-k l = (l.k ≤ l.size) × (offered_down l.k l.table l.acting l.fit l.size l.thread l.stamp l.number ≡ offered_down l.size l.initial.table l.acting l.fit l.size l.thread l.stamp l.number)

abbrev pub decreases-loop-k : goal.decreases-loop-k
decreases-loop-k l = l.k
