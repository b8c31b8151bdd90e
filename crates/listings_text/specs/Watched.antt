-- What is kept of some pattern files before the log.
use Rattle.std.specs.Prelude.{ℕ, ◌<◌, ◌≤◌, ◌≡◌, List, [], length, get_or, Some, None, Ok, Err}
use Rattle.event.specs.declared.Slot.{Slot}
use Rattle.event.specs.declared.refusal.Refused as event
use Rattle.event.specs.Refusals.{refusal_number}
use Rattle.event_log.specs.Whole.{accepted, refused, read_pattern}
use Rattle.page.specs.Lines.{longest}
use Rattle.session.specs.declared.Session.{Session}
use Rattle.session.specs.Meaning.{Describes}
use Rattle.session_row.specs.Row.{most, places}
use Rattle.row_pass.specs.declared.FileFault.TheVariants.{TooLong, Refused}
use Rattle.row_pass.specs.Passing.{past_session}
use Rattle.listings_text.specs.declared.Watched.{Watched}
use Rattle.listings_text.specs.Listings.{File, absent, holds}
use Rattle.listings_text.specs.Lines.{Finding, past_entry}

-- what is found of one file, and the session on its pattern, with no event taken
pub data FoundOf : File → Finding → Session → Type 0 where
  no_file : {s : Session} → FoundOf absent None s
  long : {bytes : List ℕ} {s : Session} → longest < length bytes → FoundOf (holds bytes) (Some (Err TooLong)) s
  not_read : {bytes : List ℕ} {r : event.Refused} {s : Session} → length bytes ≤ longest → read_pattern bytes ≡ refused (refusal_number r.reason) r.offset
      → FoundOf (holds bytes) (Some (Err (Refused r))) s
  looked_for : {bytes : List ℕ} {ss : List Slot} {s : Session} → length bytes ≤ longest → read_pattern bytes ≡ accepted ss → Describes ss [] s
      → FoundOf (holds bytes) (Some (Ok tt)) s

-- what is kept of each file; the sessions that look for a pattern are among the first `used`
pub record WatchedOf (files : List File) (w : Watched) : Type 0 where
  pub each : (k : ℕ) → k < most → FoundOf (get_or files k absent) (get_or w.entries k past_entry) (get_or w.sessions k past_session)
  pub entries : length w.entries ≡ most
  pub sessions : length w.sessions ≡ places
  pub few : w.used ≤ most
  pub among : (k : ℕ) → k < most → get_or w.entries k past_entry ≡ Some (Ok tt) → k < w.used
