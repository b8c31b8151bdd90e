use Rattle.event.specs.Limits.{slots as slot_limit}
use Rattle.table.specs.Table.{limits_to}
use Prim.Native.Nat.{◌-◌, ◌≤◌}
use mathlib.Core.Path.{◌≡◌}
use Rattle.table.proofs.limits_after.Given as goal

abbrev pub invariant-loop-j : goal.invariant-loop-j
invariant-loop-j l = (l.j ≤ slot_limit) × (l.r.at ≡ limits_to l.j l.acting l.k l.stamp)

abbrev pub decreases-loop-j : goal.decreases-loop-j
decreases-loop-j l = slot_limit - l.j
