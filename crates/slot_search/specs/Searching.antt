-- What a search through a whole log gives.
use Rattle.std.specs.Prelude.{ℕ, ◌≤◌, ◌≡◌, List, length, Result, Ok, Err}
use Rattle.event.specs.declared.Event.{Event}
use Rattle.event.specs.declared.Slot.{Slot}
use Rattle.event.specs.declared.refusal.Refused.{Refused}
use Rattle.event.specs.Refusals.{refusal_number}
use Rattle.event_log.specs.Whole.{accepted, refused, read_log}
use Rattle.first.specs.Holding.{Settled}
use Rattle.slot_search.specs.declared.LogSearch.{LogSearch}

-- the refusal that reading the log gives; or how many events it holds, and the choice slot by slot as far as they take it
pub data SearchedIn (slots : List Slot) (size : ℕ) (bytes : List ℕ) : Result LogSearch Refused → Type 0 where
  log_refused : {r : Refused} → read_log bytes ≡ refused (refusal_number r.reason) r.offset → SearchedIn slots size bytes (Err r)
  searched : {s : LogSearch} {es : List Event} → read_log bytes ≡ accepted es → s.events ≡ length es → s.search.found ≤ size
      → Settled es slots size s.search → SearchedIn slots size bytes (Ok s)
