-- Demand 3: what is so of a session and of a run for every list of events, the whole list and not each call.
use Rattle.std.specs.Prelude.{ℕ, ◌≡◌, List, [], ◌∷◌, reverse, length, replicate}
use Rattle.event.specs.declared.Event.{Event}
use Rattle.event.specs.declared.Slot.{Slot}
use Rattle.event.specs.Limits.{threads}
use Rattle.rules.specs.Accepted.{Accepted, refusal_under, taken_under, taken_from_under}
use Rattle.event_log.specs.Whole.{Heights, accepted, log_bytes, read_log, read_pattern}
use Rattle.dependence.specs.Order.{Reaches}
use Rattle.session.specs.declared.Session.{Session}
use Rattle.session.specs.declared.Opened.{Opened}
use Rattle.session.specs.Answers.{refusal, Refusal, answer_is, Ruling, verdict_is, nothing, Given}
use Rattle.session.specs.Model.{slots_used, handed, handed_all, verdict_of}
use Rattle.session.specs.Meaning.{VerdictOf, RunOf}

-- what is answered to each event of a list, handed over one after another: "Each call gets the session that the last one returned"
unfoldable pub answers : Session → List Event → List Refusal
answers s [] = []
answers s (e ∷ es) = answer_is (handed s e).answer ∷ answers (handed s e).session es

-- The limit of threads is a parameter, so that two limits can be compared; the names without it are the instances at `threads`.

-- what the rules answer, by the events taken before, the newest first: "its offset is 0 for a session"
unfoldable pub refusals_under : ℕ → List Event → List Event → List Refusal
refusals_under limit past [] = []
refusals_under limit past (e ∷ es) = refusal (refusal_under limit past e) 0 ∷ refusals_under limit (taken_under limit past e) es

abbrev pub refusals : List Event → List Event → List Refusal
refusals past events = refusals_under threads past events

-- the events taken of a list, in order
abbrev pub taken_of_under : ℕ → List Event → List Event
taken_of_under limit events = reverse (taken_from_under limit [] events)

abbrev pub taken_of : List Event → List Event
taken_of events = taken_of_under threads events

-- what the session says once the events of a list have been handed over
abbrev pub said_after : Session → List Event → Ruling
said_after s events = verdict_is (verdict_of (handed_all s events))

-- "All orders so reached are accepted and get the same answer, match or none.": "The answer of an order is that of a session opened afresh on the same
-- pattern and handed the order's events, each of which it takes, and that of a run over the log that holds them."
pub record SameAnswer (ss : List Slot) (s : Session) (events order : List Event) : Type 0 where
  pub accepted_too : Accepted order
  pub each_taken : answers s order ≡ replicate (length order) (refusal 0 0)
  pub all_taken : taken_of order ≡ order
  pub same : (said_after s order).matches ≡ (said_after s events).matches
  pub run_same : Heights order → (pattern : List ℕ) → read_pattern pattern ≡ accepted ss → (g : Given) → RunOf pattern (log_bytes order) g
      → (g.refused ≡ nothing) × VerdictOf ss order g.ruling × (g.ruling.matches ≡ (said_after s events).matches)

-- "Demand 3 is a single claim about the whole list of events": a pattern's bytes, what opening gave for them, and every list of events, good or bad.
-- What each event is answered; the events taken; the verdict, after the opening (no events) and after every call (each list is the leading part of
-- longer ones); and every order reached from the events taken
pub record EveryHistory (bytes : List ℕ) (opened : Opened) (events : List Event) : Type 0 where
  pub each_answer : answers opened.session events ≡ refusals [] events
  pub taken : Accepted (taken_of events)
  pub verdict : VerdictOf (slots_used (read_pattern bytes)) (taken_of events) (said_after opened.session events)
  pub orders : (order : List Event) → Reaches (taken_of events) order → SameAnswer (slots_used (read_pattern bytes)) opened.session events order

-- the same of the orders for runs, whose verdict `RunOf` says: g is what a run gave that refused nothing; a run with the same pattern over the log
-- of an order reached
pub record SameRun (pattern : List ℕ) (g : Given) (order : List Event) : Type 0 where
  pub reads_too : read_log (log_bytes order) ≡ accepted order
  pub same : (h : Given) → RunOf pattern (log_bytes order) h → (h.refused ≡ nothing) × (h.ruling.matches ≡ g.ruling.matches)

pub record EveryRun (pattern log : List ℕ) (g : Given) : Type 0 where
  pub events : List Event
  pub reads : read_log log ≡ accepted events
  pub orders : (order : List Event) → Reaches events order → SameRun pattern g order
