use Prim.Native.Nat.{◌-◌, ◌≤◌}
use mathlib.Core.Path.{◌≡◌}
use mathlib.Core.List.{List, reverse}
use lib.ListN.{length}
use Rattle.event.specs.declared.Event.{Event}
use Rattle.event.specs.Limits.{events}
use Rattle.event_log.proofs.LogWalk.{Going}
use Rattle.session_row.specs.Row.{places}
use Rattle.row_pass.specs.Passing.{PassedBy}
use Rattle.row_pass.proofs.pass.Given as goal

abbrev pub invariant-loop-next : goal.invariant-loop-next
invariant-loop-next l = (past : List Event) × Going l.log l.state l.taken l.at past × PassedBy l.n l.initial.held (reverse past) l.held × (length l.held ≡ places) × (l.taken ≤ events)

abbrev pub decreases-loop-next : goal.decreases-loop-next
decreases-loop-next l = length l.log - l.at
