use Prim.Native.Nat.{◌≤◌, ◌-◌}
use mathlib.Core.Path.{◌≡◌}
use mathlib.Core.Bool.{cond}
use lib.Dec.{eqb}
use Rattle.event.specs.Limits.{threads}
use Rattle.event.specs.Updated.{updated}
use Rattle.clock.specs.Clocks.{up}
use Rattle.clock.proofs.tick.Given as goal

abbrev pub invariant-loop-i : goal.invariant-loop-i
invariant-loop-i l = (l.i ≤ threads) × (l.r.at ≡ updated 0 (λ u x. cond (eqb l.t u) (up x) x) l.i l.initial.r.at 0)

abbrev pub decreases-loop-i : goal.decreases-loop-i
decreases-loop-i l = threads - l.i
