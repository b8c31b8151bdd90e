use Prim.Native.Nat.{◌-◌, ◌≤◌}
use mathlib.Core.Path.{◌≡◌}
use Rattle.event.specs.Limits.{slots as slot_limit}
use Rattle.run.specs.Answers.{greatest_of}
use Rattle.run.proofs.greatest.Given as goal

abbrev pub invariant-loop-j : goal.invariant-loop-j
invariant-loop-j l = (l.j ≤ slot_limit) × (l.most ≡ greatest_of l.j l.numbers)

abbrev pub decreases-loop-j : goal.decreases-loop-j
decreases-loop-j l = slot_limit - l.j
