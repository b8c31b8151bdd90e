-- A log gone through once, a batch of events at a time: what is read of it, how it ends, and what its events make of the first sessions.
use Rattle.std.specs.Prelude.{ℕ, ◌<◌, ◌≡◌, List, [], ◌∷◌, ◌++◌, reverse, get_or, length, Option, Some, None, Result, Ok, Err}
use Rattle.event.specs.declared.Event.{Event}
use Rattle.event.specs.declared.refusal.Refused.{Refused}
use Rattle.event.specs.Refusals.{refusal_number}
use Rattle.rules.specs.Accepted.{Accepted}
use Rattle.rules.specs.State.{StateOf}
use Rattle.command.specs.Reading.{command, closed, refused as refused_at}
use Rattle.event_log.specs.Whole.{accepted, refused, step_after, read_log}
use Rattle.session.specs.declared.Session.{Session}
use Rattle.session.specs.Model.{fresh_on, handed_all}
use Rattle.row_batch.specs.Batch.{events_of}
use Rattle.row_pass.specs.declared.Filled.{Filled}
use Rattle.row_pass.specs.declared.FileFault.{FileFault}
use Rattle.row_pass.specs.declared.FileFault.TheVariants as fault

-- ---- some events of a log

-- where some reading stops: at the next place of a full batch, at the end of the log, or at a refusal
abbrev pub Stop : Type 0
Stop = Result (Option ℕ) Refused

-- so many of these events, and what the reading stopped at
abbrev pub filled_of : List Event → ℕ → Stop → Filled
filled_of events size stops = record { batch = record { events = events; size = size }; stop = stops }

-- the steps of a log from a place on, the events of past taken, the newest first: up to another place, and the events taken then
pub data Steps (bytes : List ℕ) (from : ℕ) (past : List Event) : ℕ → List Event → Type 0 where
  no_step : Steps bytes from past from past
  one_step : {at next : ℕ} {taken : List Event} {e : Event} → Steps bytes from past at taken → step_after bytes taken at ≡ command e next
      → Steps bytes from past next (e ∷ taken)

-- where the reading stopped
pub data StopsAt (bytes : List ℕ) (at : ℕ) (taken : List Event) : Stop → Type 0 where
  full : StopsAt bytes at taken (Ok (Some at))
  at_end : step_after bytes taken at ≡ closed → StopsAt bytes at taken (Ok None)
  at_refusal : {r : Refused} → step_after bytes taken at ≡ refused_at (refusal_number r.reason) r.offset → StopsAt bytes at taken (Err r)

-- what is read from a place on: the events of the batch, and the state of the rules afterwards; a full batch is not empty
pub record FilledFrom (bytes : List ℕ) (from : ℕ) (past : List Event) (r : Filled) (after : List ℕ) : Type 0 where
  pub to : ℕ
  pub taken : List Event
  pub steps : Steps bytes from past to taken
  pub events : taken ≡ reverse (events_of r.batch) ++ past
  pub many : length (events_of r.batch) ≡ r.batch.size
  pub state : StateOf taken after
  pub stops : StopsAt bytes to taken r.stop
  pub some : r.stop ≡ Ok (Some to) → 0 < r.batch.size

-- ---- the whole log

-- how a log ends
pub data EndsAs (log : List ℕ) : Result Unit FileFault → Type 0 where
  broken : {r : Refused} → read_log log ≡ refused (refusal_number r.reason) r.offset → EndsAs log (Err (fault.Refused r))
  whole : {es : List Event} → Accepted es → read_log log ≡ accepted es → EndsAs log (Ok tt)

-- past the end of the list, for `get_or`
abbrev pub past_session : Session
past_session = fresh_on (record { slots = []; size = 0 })

-- the first n sessions once the events have been handed over
abbrev pub PassedBy : ℕ → List Session → List Event → List Session → Type 0
PassedBy n before es after = (k : ℕ) → k < n → get_or after k past_session ≡ handed_all (get_or before k past_session) es
