-- What is so of a replay log, whichever events it goes by. Document 02, Note 1.
use Rattle.std.specs.Prelude.{ℕ, ◌≡◌, true, List, length}
use Rattle.event.specs.declared.Event.{Event}
use Rattle.event.specs.declared.Slot.{Slot}
use Rattle.event.specs.Slots.{fits}
use Rattle.event_log.specs.Whole.{read_log, accepted, log_bytes}
use Rattle.trace.specs.Match.{Holds}
use Rattle.dependence.specs.Order.{Reaches}
use Rattle.session.specs.Answers.{nothing, Given}
use Rattle.session.specs.Meaning.{RunOf}
use Rattle.replay_order.specs.Replay.{IsReplay}

-- the bytes are the replay log of a list of events, by the slots' event numbers
pub record IsReplayLog (es : List Event) (numbers written : List ℕ) : Type 0 where
  pub order : List Event
  pub replay : IsReplay es numbers order
  pub bytes : written ≡ log_bytes order

-- "The outcome is reachable by swaps and holds the slots in sequence." It is a log that is accepted, as long as the one that was read, and a run over it with
-- the same pattern says match.
pub record Shows (pattern : List ℕ) (ss : List Slot) (es : List Event) (read written : List ℕ) : Type 0 where
  pub order : List Event
  pub reads : read_log written ≡ accepted order
  pub reached : Reaches es order
  pub holds : Holds fits ss order
  pub as_long : length written ≡ length read
  pub again : (g : Given) → RunOf pattern written g → (g.refused ≡ nothing) × (g.ruling.matches ≡ true)
