use Prim.Native.Nat.{◌+◌, ◌-◌, ◌≤◌}
use mathlib.Core.Path.{◌≡◌}
use Rattle.event.specs.Limits.{slots as slot_limit}
use Rattle.table.specs.Sets.{lanes, width, size as table_size}
use Rattle.table.specs.Table.{pasted}
use Rattle.table.proofs.numbers.Given as goal

abbrev pub invariant-loop-j : goal.invariant-loop-j
invariant-loop-j l = (l.j ≤ l.size) × (l.size ≤ slot_limit) × (l.last + width ≤ table_size) × (l.r ≡ pasted l.j l.initial.r 0 l.table (l.last + lanes))

abbrev pub decreases-loop-j : goal.decreases-loop-j
decreases-loop-j l = l.size - l.j
