-- Note 4: what an event that is taken and fits no slot leaves as it was.
use Rattle.std.specs.Prelude.{ℕ, ◌<◌, ◌≡◌, false, List, [], ◌∷◌, ◌++◌, length, get_or}
use Rattle.event.specs.declared.Event.{Event}
use Rattle.event.specs.declared.Slot.{Slot}
use Rattle.event.specs.Slots.{fits, no_slot}
use Rattle.event_log.specs.Whole.{read_pattern}
use Rattle.session.specs.declared.Session.{Session}
use Rattle.session.specs.declared.Opened.{Opened}
use Rattle.session.specs.Model.{slots_used, handed, handed_all, verdict_of}
use Rattle.session.specs.Meaning.{Describes}
use Rattle.session.specs.History.{taken_of, said_after}

-- "fits no slot"
abbrev pub FitsNone : List Slot → Event → Type 0
FitsNone ss e = (j : ℕ) → j < length ss → fits (get_or ss j no_slot) e ≡ false

-- "an event that is taken and fits no slot leaves the verdict, and what is kept of partial matches, as they were": the table is all that is kept of them;
-- and "the event's stamp must still reach later ones": what is left is a session that has taken this event too, and as long as it looks for a match its
-- clocks are those of all these events
pub record Unmoved (ss : List Slot) (es : List Event) (s : Session) (e : Event) : Type 0 where
  pub verdict_stays : verdict_of (handed s e).session ≡ verdict_of s
  pub partial_matches_stay : (handed s e).session.table ≡ s.table
  pub taken_too : Describes ss (es ++ (e ∷ [])) (handed s e).session

-- the same from the bytes of an opening, after every list of events
pub record EveryUnmoved (bytes : List ℕ) (opened : Opened) (events : List Event) (e : Event) : Type 0 where
  pub verdict_stays : said_after opened.session (events ++ (e ∷ [])) ≡ said_after opened.session events
  pub partial_matches_stay : (handed_all opened.session (events ++ (e ∷ []))).table ≡ (handed_all opened.session events).table
  pub taken_too : Describes (slots_used (read_pattern bytes)) (taken_of events ++ (e ∷ [])) (handed_all opened.session (events ++ (e ∷ [])))
