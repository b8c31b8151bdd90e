use Prim.Native.Nat.{◌-◌, ◌≤◌}
use mathlib.Core.Path.{◌≡◌}
use Rattle.event.specs.Limits.{slots as slot_limit}
use mathlib.Core.Bool.{cond}
use lib.Dec.{eqb}
use lib.ListN.{get_or}
use Rattle.event.specs.Updated.{updated}
use Rattle.passes.proofs.note.Given as goal

abbrev pub invariant-loop-j : goal.invariant-loop-j
invariant-loop-j l = (l.j ≤ slot_limit) × (l.last ≡ updated 0 (λ i x. cond (eqb (get_or l.keys i 0) l.key) l.place x) l.j l.initial.last 0)

abbrev pub decreases-loop-j : goal.decreases-loop-j
decreases-loop-j l = slot_limit - l.j
