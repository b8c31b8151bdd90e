-- The last event that fits a slot, by its number and its place in its thread.
-- Assumes nothing.
use Rattle.std.specs.Prelude.{ℕ, ◌≤◌, ◌≡◌, true, false, List, Option, Some, None}
use Rattle.event.specs.declared.Event.{Event}
use Rattle.event.specs.declared.Slot.{Slot}
use Rattle.event.specs.Slots.{fits, no_event}
use Rattle.trace.specs.Before.{Numbered}
use Rattle.trace.specs.Tuples.{thread_at, place}
use Rattle.dependence.specs.Order.{thread_of}
use Rattle.last_fit.specs.declared.PlacedEvent.{PlacedEvent}

pub data LastFit (es : List Event) (slot : Slot) : Option PlacedEvent → Type 0 where
  -- no event fits it
  never : ((i : ℕ) (e : Event) → Numbered es i e → fits slot e ≡ false) → LastFit es slot None
  -- an event does, and none that does is later
  last : {l : ℕ} {e : Event} → Numbered es l e → fits slot e ≡ true → ((m : ℕ) (a : Event) → Numbered es m a → fits slot a ≡ true → m ≤ l)
      → LastFit es slot (Some (record { number = l; place = place (thread_at no_event thread_of es) l }))
