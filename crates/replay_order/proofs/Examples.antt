-- The replay order of two examples, computed: document 01's trial 2, and the panel that fetches a sign and then its figures.
-- Assumes nothing.
use mathlib.Core.List.{[], ◌∷◌}
use Prim.Native.Nat.{ℕ}
use lib.IntN.{ℤ}
use Rattle.event.specs.declared.Event.{Event}
use Rattle.event.specs.declared.Operation.TheVariants.{Write, Mark}
use Rattle.trace.proofs.Before.{before}
use Rattle.dependence.specs.Dependence.{dependent}
use Rattle.replay_order.specs.Replay.{IsReplay}
use Rattle.replay_order.proofs.Order.{replay_is}

abbrev mark : ℕ → ℕ → Event
mark t m = record { thread = t; operation = Mark m }

-- "T1 mark 10, T1 mark 11, T0 mark 20, T0 mark 21; pattern T1 10, T0 20, T0 21, T1 11: match at 4, events 1, 3, 4, 2."
pub trial_2 : IsReplay (mark 1 10 ∷ mark 1 11 ∷ mark 0 20 ∷ mark 0 21 ∷ []) (1 ∷ 3 ∷ 4 ∷ 2 ∷ []) (mark 1 10 ∷ mark 0 20 ∷ mark 0 21 ∷ mark 1 11 ∷ [])
unfolding dependent before
trial_2 = replay_is (mark 1 10 ∷ mark 1 11 ∷ mark 0 20 ∷ mark 0 21 ∷ []) (1 ∷ 3 ∷ 4 ∷ 2 ∷ [])

-- T1 mark 10, T1 mark 11, T0 writes a height; pattern T1 10, T0 write, T1 11: events 1, 3, 2
pub panel : (height : ℤ) → let write : Event = record { thread = 0; operation = Write 0 height } in
    IsReplay (mark 1 10 ∷ mark 1 11 ∷ write ∷ []) (1 ∷ 3 ∷ 2 ∷ []) (mark 1 10 ∷ write ∷ mark 1 11 ∷ [])
unfolding dependent before
panel height = replay_is (mark 1 10 ∷ mark 1 11 ∷ record { thread = 0; operation = Write 0 height } ∷ []) (1 ∷ 3 ∷ 2 ∷ [])
