use Prim.Native.Nat.{◌-◌, ◌≤◌}
use mathlib.Core.Path.{◌≡◌}
use Rattle.table.specs.Sets.{lanes}
use Rattle.table.specs.Table.{room_to}
use Rattle.table.proofs.room.Given as goal

abbrev pub invariant-loop-j : goal.invariant-loop-j
invariant-loop-j l = (l.j ≤ lanes) × (l.ok ≡ room_to l.j l.r.at l.limits.at)

abbrev pub decreases-loop-j : goal.decreases-loop-j
decreases-loop-j l = lanes - l.j
