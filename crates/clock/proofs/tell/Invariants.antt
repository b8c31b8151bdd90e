use Prim.Native.Nat.{◌≤◌, ◌-◌}
use mathlib.Core.Path.{◌≡◌}
use Rattle.event.specs.Limits.{threads}
use Rattle.clock.specs.Clocks.{raised}
use Rattle.clock.proofs.tell.Given as goal

abbrev pub invariant-loop-i : goal.invariant-loop-i
invariant-loop-i l = (l.i ≤ threads) × (l.clocks ≡ raised l.i l.initial.clocks l.to l.s.at 0)

abbrev pub decreases-loop-i : goal.decreases-loop-i
decreases-loop-i l = threads - l.i
