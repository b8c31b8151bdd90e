-- What each step makes of a search, for every search.
-- Assumes nothing.
use Rattle.std.specs.Prelude.{ℕ, ◌+◌, Bool, false, not, ◌&&◌, List, eqb, ltb, get_or, set, replicate}
use Rattle.event.specs.declared.Event.{Event}
use Rattle.event.specs.declared.Slot.{Slot}
use Rattle.event.specs.Limits.{slots as slot_limit}
use Rattle.event.specs.Slots.{fits, no_slot}
use Rattle.clock.specs.declared.Stamp.{Stamp}
use Rattle.clock.specs.Clocks.{no_stamp, higher_of}
use Rattle.first.specs.declared.Search.{Search}

-- the key of no slot: it names a thread that no event has
abbrev pub no_key : ℕ
no_key = 255

-- nothing is found yet
abbrev pub none_found : List ℕ → Search
none_found keys = record { found = 0; want = get_or keys 0 0; running = false; numbers = replicate slot_limit 0; stamps = no_stamp }

-- the slot looked for has found event number n, and none is looked for
abbrev pub filled : Search → ℕ → Search
filled s n = record { found = s.found + 1; want = no_key; running = false; numbers = set s.numbers s.found n; stamps = s.stamps }

-- the stamp of the event found is joined with the others, and the next slot is looked for
abbrev pub looking_on : List ℕ → ℕ → Search → Stamp → Search
looking_on keys size s stamp =
    record {
      found = s.found;
      want = get_or keys s.found 0;
      running = ltb (s.found + 1) size;
      numbers = s.numbers;
      stamps = higher_of s.stamps stamp;
    }

-- so many slots found, of so many: the clocks run from the first slot found to the last but one
abbrev pub is_running : ℕ → ℕ → Bool
is_running found size = not (eqb found 0) && ltb (found + 1) size

-- an event fits slot k, counted from 0
abbrev pub fills_slot : List Slot → ℕ → Event → Bool
fills_slot slots k e = ltb k slot_limit && fits (get_or slots k no_slot) e

-- an event of this key fits the slot looked for
abbrev pub fills_next : List Slot → Search → ℕ → Event → Bool
fills_next slots s key e = eqb s.want key && fills_slot slots s.found e
