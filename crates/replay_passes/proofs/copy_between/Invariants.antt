use Prim.Native.Nat.{ℕ, ◌+◌, ◌-◌, ◌≤◌, min}
use mathlib.Core.Path.{◌≡◌}
use mathlib.Core.Bool.{Bool}
use mathlib.Core.List.{List}
use lib.ListN.{length}
use Rattle.event.specs.declared.Event.{Event}
use Rattle.replay_passes.specs.Copies.{ReadAs, Tells, commands, copied}
use Rattle.replay_passes.proofs.Copying.{Copying}
use Rattle.replay_passes.proofs.copy_between.Given as goal

abbrev pub invariant-loop-i : goal.invariant-loop-i
invariant-loop-i l = (l.i ≤ l.n) × ((length l.buffer ≡ length l.initial.buffer)
    × ((es : List Event) (test : ℕ → ℕ → Bool) → ReadAs l.log es → Tells test es l.above l.within
    → l.start + length (commands (copied test es (min l.n (length es)))) ≤ length l.initial.buffer → Copying l.log es test l.initial.buffer l.start l.seen l.buffer l.to l.at l.i))

abbrev pub decreases-loop-i : goal.decreases-loop-i
decreases-loop-i l = l.n - l.i
