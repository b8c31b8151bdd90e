-- The stamp that the clocks give an event, and what they are once it has arrived, for every list of entries and every event.
-- Assumes nothing.
use Rattle.std.specs.Prelude.{ℕ, ◌+◌, max, Bool, cond, List, eqb, ltb, get_or, replicate}
use Rattle.event.specs.declared.Event.{Event}
use Rattle.event.specs.Limits.{threads}
use Rattle.event.specs.Slots.{slot_of}
use Rattle.event.specs.Range.{range_refusal}
use Rattle.event.specs.Updated.{updated}
use Rattle.dependence.specs.Channels.{thread}
use Rattle.clock.specs.declared.Rows.{Rows}
use Rattle.clock.specs.declared.Stamp.{Stamp}
use Rattle.clock.specs.Rows.{row_of, beside, rows_for}

-- ---- raising entries

-- the list xs, its n entries from f on raised to those of ys from g on
unfoldable pub raised : ℕ → List ℕ → ℕ → List ℕ → ℕ → List ℕ
raised n xs f ys g = updated 0 (λ i x. max x (get_or ys (g + i) 0)) n xs f

-- the stamp raised to the row of the clocks that starts at f
abbrev pub heard_from : Stamp → List ℕ → ℕ → Stamp
heard_from s clocks f = record { at = raised threads s.at 0 clocks f }

-- the clocks, their row that starts at f raised to the stamp
abbrev pub told_to : List ℕ → ℕ → Stamp → List ℕ
told_to clocks f s = raised threads clocks f s.at 0

-- ---- counts

-- the highest count that an entry holds
abbrev pub highest_count : ℕ
highest_count = 65535

-- one more, up to the highest count
abbrev pub up : ℕ → ℕ
up x = cond (ltb x highest_count) (x + 1) x

-- the stamp with one more of the thread t
abbrev pub ticked_at : Stamp → ℕ → Stamp
ticked_at s t = record { at = updated 0 (λ u x. cond (eqb t u) (up x) x) threads s.at 0 }

-- no counts
abbrev pub no_stamp : Stamp
no_stamp = record { at = replicate threads 0 }

-- ---- an event arrives

-- the highest counts in its own row and in two more, with one more of its own thread t
unfoldable pub heard : List ℕ → ℕ → Rows → Stamp
heard clocks t r = ticked_at (heard_from (heard_from (heard_from no_stamp clocks (row_of (thread t))) clocks r.first) clocks r.second) t

-- the clocks, its own row and one more raised to its stamp
unfoldable pub told : List ℕ → ℕ → Rows → Stamp → List ℕ
told clocks t r s = told_to (told_to clocks r.told s) (row_of (thread t)) s

-- where the rows of the event start, beside its own
abbrev pub rows_of : Event → Rows
rows_of e = rows_for (beside e)

-- each number of the event is within its limit
abbrev pub within_limits : Event → Bool
within_limits e = eqb (range_refusal (slot_of e)) 0

-- the stamp that the clocks give the event: no counts where a number is outside its limit
unfoldable pub stamp_by : List ℕ → Event → Stamp
stamp_by clocks e = cond (within_limits e) (heard clocks e.thread (rows_of e)) no_stamp

-- the clocks once the event has arrived: as they were where a number is outside its limit
unfoldable pub clocks_after : List ℕ → Event → List ℕ
clocks_after clocks e = cond (within_limits e) (told clocks e.thread (rows_of e) (stamp_by clocks e)) clocks

-- ---- stamps

-- the higher count of each thread in two of them
abbrev pub higher_of : Stamp → Stamp → Stamp
higher_of a b = heard_from a b.at 0

-- how many events of the thread t a stamp counts; 0 where there is no such thread
abbrev pub count_of : ℕ → Stamp → ℕ
count_of t s = cond (ltb t threads) (get_or s.at t 0) 0
