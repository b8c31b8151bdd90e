-- What the steps of the call go by: the slot that can't be filled, and how the stamps of the events before it tell why.
use Rattle.std.specs.Prelude.{ℕ, zero, suc, ◌+◌, ◌≤◌, ◌<◌, ◌≡◌, Bool, true, false, leb, length, get_or, take}
use mathlib.Core.List.{List, Memᴰ as Mem}
use Rattle.event.specs.declared.Event.{Event}
use Rattle.event.specs.declared.Slot.{Slot}
use Rattle.event.specs.Limits.{threads, slots as slot_limit}
use Rattle.event.specs.Slots.{fits}
use Rattle.trace.specs.Before.{Numbered}
use Rattle.trace.specs.Reason.{Obstacle, InTheWay}
use Rattle.trace.specs.Tuples.{Among}
use Rattle.dependence.specs.Dependence.{dependent}
use Rattle.dependence.specs.Order.{ComesBefore}
use Rattle.clock.specs.declared.Stamp.{Stamp}
use Rattle.clock.specs.Clocks.{count_of}
use Rattle.event_stamps.specs.EventStamps.{no_entry}
use Rattle.verdict_reason.specs.declared.Cause.{Cause}
use Rattle.verdict_reason.specs.Reasons.{cause_of}

-- the events of the k slots before it are among those of the log, and each event that fits the slot comes before one of them or is it
pub record Stopped (es : List Event) (slot : Slot) (k : ℕ) (numbers : List ℕ) : Type 0 where
  pub low : slot.thread < threads
  pub whole : length numbers ≡ slot_limit
  pub beyond : (j : ℕ) → k ≤ j → get_or numbers j 0 ≡ 0
  pub listed : (j : ℕ) → j < k → Among (length es) (get_or numbers j 0)
  pub barred : {i : ℕ} {e : Event} → Numbered es i e → fits slot e ≡ true → (c : ℕ) × Mem c (take k numbers) × ComesBefore es i c

-- the cause is what stands in its way
pub record Causes (es : List Event) (slot : Slot) (k : ℕ) (numbers : List ℕ) (c : Cause) : Type 0 where
  pub obstacle : Obstacle
  pub is : c ≡ cause_of (k + 1) obstacle
  pub stands : InTheWay dependent fits es slot (take k numbers) obstacle

-- whether the stamp of slot i, from 1, counts so many events of the thread
abbrev pub counts_at : List Stamp → ℕ → ℕ → ℕ → Bool
counts_at stamps t place zero = false
counts_at stamps t place (suc j) = leb place (count_of t (get_or stamps j no_entry))
