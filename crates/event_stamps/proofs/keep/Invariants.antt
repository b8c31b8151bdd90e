use Prim.Native.Nat.{◌-◌, ◌≤◌}
use mathlib.Core.Path.{◌≡◌}
use Rattle.event.specs.Limits.{slots as slot_limit}
use mathlib.Core.Bool.{cond}
use lib.Dec.{eqb}
use lib.ListN.{get_or}
use Rattle.event.specs.Updated.{updated}
use Rattle.event_stamps.specs.EventStamps.{no_entry}
use Rattle.event_stamps.proofs.keep.Given as goal

abbrev pub invariant-loop-j : goal.invariant-loop-j
invariant-loop-j l = (l.j ≤ slot_limit) × (l.stamps ≡ updated no_entry (λ k x. cond (eqb (get_or l.numbers k 0) l.i) l.stamp x) l.j l.initial.stamps 0)

abbrev pub decreases-loop-j : goal.decreases-loop-j
decreases-loop-j l = slot_limit - l.j
