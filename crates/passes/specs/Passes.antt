-- What a pass over the leading events of a log, from its start, gives.
-- Assumes nothing.
use Rattle.std.specs.Prelude.{ℕ, ◌≤◌, ◌<◌, ◌≡◌, Bool, List, [], length, get_or, take, Option, Some, None}
use Rattle.event.specs.declared.Event.{Event}
use Rattle.event.specs.declared.Slot.{Slot}
use Rattle.event.specs.Limits.{threads, slots as slot_limit, events}
use Rattle.event.specs.Slots.{fits, no_event, no_slot}
use Rattle.event.specs.Keys.{slot_keys}
use Rattle.dependence.specs.Dependence.{dependent}
use Rattle.dependence.specs.Order.{thread_of}
use Rattle.trace.proofs.FirstChoice.{FirstOf, NoneOf}
use Rattle.trace.proofs.FirstArrivals.{above_of, BoundOf}
use Rattle.clock.specs.declared.Stamp.{Stamp}
use Rattle.clock.specs.Arrivals.{StampOf, ClocksOf}
use Rattle.command.specs.Reading.{read_event}
use Rattle.event_log.specs.Leading.{Leading}
use Rattle.passes.specs.declared.Sought.{Sought}
use Rattle.passes.specs.declared.Followed.{Followed}

-- the leading events of a log, n of them
pub record Leads (bytes : List ℕ) (es : List Event) (n : ℕ) : Type 0 where
  pub to : ℕ
  pub read : Leading (read_event bytes) to 0 es
  pub count : length es ≡ n
  pub few : n ≤ events

-- the slots of a pattern, so many of them, their threads within the limit; and their keys
pub record SlotsOf (k : Sought) : Type 0 where
  pub few : k.size ≤ slot_limit
  pub whole : length k.slots ≡ slot_limit
  pub keyed : k.keys ≡ slot_keys k.slots
  pub low : (j : ℕ) → j < k.size → (get_or k.slots j no_slot).thread < threads

-- for each slot a place that no event that fits it is above, in its thread
pub record LastsOf (es : List Event) (k : Sought) (last : List ℕ) : Type 0 where
  pub whole : length last ≡ slot_limit
  pub each : (j : ℕ) → j < k.size → BoundOf no_event dependent thread_of fits es (get_or k.slots j no_slot) (get_or last j 0)

-- whether the event of a number fits the slot and has a place in its thread above j
abbrev pub fills_at : List Event → Slot → ℕ → ℕ → Bool
fills_at = above_of no_event dependent thread_of fits

-- the number of the first event that does; none where none does
abbrev pub FirstAbove : List Event → Slot → ℕ → Option ℕ → Type 0
FirstAbove es slot j (Some r) = FirstOf (fills_at es slot j) (length es) r
FirstAbove es slot j None = NoneOf (fills_at es slot j) (length es)

-- the stamp of event number n, and what is kept once it has arrived; before any event the clocks were those of no events
pub record StampedTo (es : List Event) (keys : List ℕ) (n : ℕ) (before : Followed) (stamp : Stamp) (after : Followed) : Type 0 where
  pub stamp_is : StampOf es n stamp
  pub held : ClocksOf (take n es) after.clocks
  pub lasts : (k : Sought) → k.keys ≡ keys → SlotsOf k → LastsOf [] k before.last → LastsOf (take n es) k after.last

abbrev pub Stamped : List Event → List ℕ → ℕ → Followed → Stamp → Followed → Type 0
Stamped es keys n before stamp after = 0 < n → n ≤ length es → ClocksOf [] before.clocks → StampedTo es keys n before stamp after
