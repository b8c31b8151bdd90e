-- Rows of event numbers, and what is computed for them: `enumeration` at the events of a log.
use Rattle.std.specs.Prelude.{ℕ, zero, suc, Bool, cond, List, [], ◌∷◌, ltb, get_or, Option, Some, None}
use Rattle.std.proofs.Math.Option as math
use Rattle.event.specs.declared.Event.{Event}
use Rattle.event.specs.declared.Operation.TheVariants.{Read}
use Rattle.event.specs.Slots.{no_event}
use Rattle.event.specs.Places.{in_places}
use Rattle.dependence.specs.Dependence.{dependent}

-- "a log of 0 to 8 events"
abbrev pub order_places : ℕ
order_places = 8

-- "places beyond the log's events are 0"
abbrev pub order_row : List ℕ → List ℕ
order_row o = in_places 0 order_places o

-- the order after a given one, or none
abbrev pub next_row : math.Option (List ℕ) → Option (List ℕ)
next_row (math.some o) = Some (order_row o)
next_row math.none = None

-- past the end of the list, for `get_or`
abbrev pub past_event : Event
past_event = record { thread = 0; operation = Read 0 }

-- the event of a number, by eight places of events; thread 0, mark 0 where there is none
abbrev pub event_numbered : List Event → ℕ → Event
event_numbered events zero = no_event
event_numbered events (suc i) = cond (ltb i order_places) (get_or events i past_event) no_event

-- whether the events of two numbers are dependent
abbrev pub dependent_in : List Event → ℕ → ℕ → Bool
dependent_in events i j = dependent (event_numbered events i) (event_numbered events j)

-- the first of the list
abbrev pub least_of : List ℕ → Option ℕ
least_of [] = None
least_of (z ∷ zs) = Some z
