-- The stamps of the events that have given numbers, a place for each slot.
-- Assumes nothing.
use Rattle.std.specs.Prelude.{ℕ, zero, suc, ◌≤◌, ◌<◌, Bool, false, cond, ◌||◌, List, [], eqb, get_or}
use Rattle.event.specs.declared.Event.{Event}
use Rattle.event.specs.Limits.{slots as slot_limit}
use Rattle.event.specs.Updated.{updated}
use Rattle.clock.specs.declared.Stamp.{Stamp}
use Rattle.clock.specs.Arrivals.{StampOf}

-- what is read beyond the end of a row of stamps
abbrev pub no_entry : Stamp
no_entry = record { at = [] }

-- whether one of the first n numbers is i
unfoldable pub is_one_of : ℕ → List ℕ → ℕ → Bool
is_one_of zero numbers i = false
is_one_of (suc n) numbers i = eqb (get_or numbers n 0) i || is_one_of n numbers i

-- the stamps, with that of event number i for each slot that has this number
abbrev pub with_stamp : ℕ → Stamp → List ℕ → List Stamp → List Stamp
with_stamp i stamp numbers stamps = updated no_entry (λ j x. cond (eqb (get_or numbers j 0) i) stamp x) slot_limit stamps 0

-- the stamps of the events of these numbers, where they are among the first n
abbrev pub StampsTo : List Event → List ℕ → ℕ → List Stamp → Type 0
StampsTo es numbers n stamps = (j : ℕ) → j < slot_limit → 0 < get_or numbers j 0 → get_or numbers j 0 ≤ n → StampOf es (get_or numbers j 0) (get_or stamps j no_entry)
