-- Note 11's load of a seed and a count: its events, its bytes, and what writing it into a lent buffer answers and leaves there.
use Rattle.std.specs.Prelude.{ℕ, zero, suc, ◌<◌, ◌≡◌, cond, List, [], ◌∷◌, leb, length, get_or}
use Rattle.event.specs.declared.Event.{Event}
use Rattle.event.specs.Limits.{events}
use Rattle.event.specs.Slots.{no_event}
use Rattle.writer.specs.Writing.{Writing, writing, buffer_after}
use Rattle.event_log.specs.Whole.{log_bytes, accepted, read_log}
use Rattle.generator.specs.Rule.{next_state, state_at, event_in}

-- what makes bytes a load, by reading them: "The log is always accepted, and equals this rule event by event." Event number n + 1 stands at place n.
-- One byte string is so, which is `load_bytes seed count`: proofs/Load `load_iff`.
pub record IsLoad (seed count : ℕ) (bytes : List ℕ) : Type 0 where
  pub log : List Event
  pub read : read_log bytes ≡ accepted log
  pub many : length log ≡ count
  pub each : (n : ℕ) → n < count → get_or log n no_event ≡ event_in (state_at seed (suc n))

-- so many events from a state on: "Each event takes one step"
unfoldable pub events_from : ℕ → ℕ → List Event
events_from state zero = []
events_from state (suc left) = event_in (next_state state) ∷ events_from (next_state state) left

-- "From a 32-bit seed and a count 0 to 65,535, write a log"
abbrev pub load_bytes : ℕ → ℕ → List ℕ
load_bytes seed count = log_bytes (events_from seed count)

-- "22, a count above 65,535", or 0
abbrev pub count_refusal : ℕ → ℕ
count_refusal count = cond (leb count events) 0 22

-- 22 is "checked first; offset 0", and "Refusal 15 is given where the whole log does not fit, .. the offset 0": as for one command written at place 0.
-- Else the log's length
abbrev pub loading : ℕ → ℕ → List ℕ → Writing
loading seed count buffer = writing (count_refusal count) (load_bytes seed count) buffer 0

-- the log at the buffer's start and every other byte as it was; on a refusal "the buffer untouched"
abbrev pub loaded : ℕ → ℕ → List ℕ → List ℕ
loaded seed count buffer = buffer_after (count_refusal count) (load_bytes seed count) buffer 0
