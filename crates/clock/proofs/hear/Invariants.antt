use Prim.Native.Nat.{◌≤◌, ◌-◌}
use mathlib.Core.Path.{◌≡◌}
use Rattle.event.specs.Limits.{threads}
use Rattle.clock.specs.Clocks.{raised}
use Rattle.clock.proofs.hear.Given as goal

abbrev pub invariant-loop-i : goal.invariant-loop-i
invariant-loop-i l = (l.i ≤ threads) × (l.r.at ≡ raised l.i l.initial.r.at 0 l.counts l.from)

abbrev pub decreases-loop-i : goal.decreases-loop-i
decreases-loop-i l = threads - l.i
