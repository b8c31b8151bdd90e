-- The last places of events, kept for each slot by its key.
-- Assumes nothing.
use Rattle.std.specs.Prelude.{ℕ, cond, List, eqb, get_or}
use Rattle.event.specs.declared.Event.{Event}
use Rattle.event.specs.Limits.{slots as slot_limit}
use Rattle.event.specs.Updated.{updated}
use Rattle.clock.specs.Clocks.{stamp_by, clocks_after, count_of}
use Rattle.passes.specs.declared.Followed.{Followed}

-- the last places, once an event of this key has come, its place p: it stands for each slot that has the key
abbrev pub noted : ℕ → ℕ → List ℕ → List ℕ → List ℕ
noted key p keys last = updated 0 (λ j x. cond (eqb (get_or keys j 0) key) p x) slot_limit last 0

-- the same where the clocks give the event its place
abbrev pub last_by : List ℕ → List ℕ → ℕ → Event → List ℕ → List ℕ
last_by clocks keys key e last = noted key (count_of e.thread (stamp_by clocks e)) keys last

-- and what is kept once an event of this key has come
abbrev pub followed_on : List ℕ → ℕ → Event → Followed → Followed
followed_on keys key e f = record { clocks = clocks_after f.clocks e; last = last_by f.clocks keys key e f.last }
