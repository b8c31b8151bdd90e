use Prim.Native.Nat.{◌-◌, ◌≤◌}
use mathlib.Core.Path.{◌≡◌}
use Rattle.table.specs.Sets.{width}
use Rattle.table.specs.Table.{pasted}
use Rattle.table.proofs.row_at.Given as goal

abbrev pub invariant-loop-j : goal.invariant-loop-j
invariant-loop-j l = (l.j ≤ width) × (l.r.at ≡ pasted l.j l.initial.r.at 0 l.table l.from)

abbrev pub decreases-loop-j : goal.decreases-loop-j
decreases-loop-j l = width - l.j
