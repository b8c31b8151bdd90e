-- A batch of events handed to a session one after another: what it makes of the session, and its first refusal.
use Rattle.std.specs.Prelude.{ℕ, cond, List, [], ◌∷◌, eqb, take}
use Rattle.event.specs.declared.Event.{Event}
use Rattle.session.specs.declared.Session.{Session}
use Rattle.session.specs.Model.{handed_all}
use Rattle.session_row.specs.Row.{Alone, alone_with}
use Rattle.row_batch.specs.declared.Batch.{Batch}

-- how many a batch holds
abbrev pub batch : ℕ
batch = 64

-- the events of a batch
abbrev pub events_of : Batch → List Event
events_of b = take b.size b.events

-- the number of the first refusal among some events, handed over one after another; 0 with none
unfoldable pub first_refusal : Session → List Event → ℕ
first_refusal s [] = 0
first_refusal s (e ∷ es) = cond (eqb (alone_with e s).number 0) (first_refusal (alone_with e s).after es) (alone_with e s).number

-- what taking them makes of a session
abbrev pub alone_through : List Event → Session → Alone Session
alone_through es s = record { number = first_refusal s es; after = handed_all s es }
