use Prim.Native.Nat.{◌≤◌}
use mathlib.Core.Path.{◌≡◌}
use mathlib.Core.List.{List}
use lib.ListN.{length}
use Rattle.event.specs.declared.Event.{Event}
use Rattle.replay_passes.specs.Copies.{ReadAs, NamedAmong}
use Rattle.replay_passes.proofs.Groups.{Grouping}
use Rattle.replay_passes.proofs.write.Given as goal

abbrev pub invariant-loop-j : goal.invariant-loop-j
invariant-loop-j l = (l.j ≤ l.size) × ((length l.buffer ≡ length l.initial.buffer)
    × ((es : List Event) → ReadAs l.log es → NamedAmong es l.numbers l.size l.n → length l.log ≤ length l.initial.buffer → Grouping es l.numbers l.stamps l.size l.initial.buffer l.written l.buffer l.at l.j))
