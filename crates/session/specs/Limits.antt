-- Note 7: "Where neither log nor pattern names a thread above 7, verdict and count stay", for any limit in the place of 8: what a session gives is
-- what is promised under that limit. Of a run `Meaning.RunOfUnder` says it.
use Rattle.std.specs.Prelude.{ℕ, ◌≡◌, List, []}
use Rattle.event.specs.declared.Event.{Event}
use Rattle.event_log.specs.Whole.{outcome_of, passing_is, read_pattern_under}
use Rattle.session.specs.declared.Opened.{Opened}
use Rattle.session.specs.Model.{slots_used}
use Rattle.session.specs.Meaning.{VerdictOf}
use Rattle.session.specs.History.{answers, refusals_under, taken_of_under, said_after}

-- a pattern's bytes, what opening gave for them, and every list of events: what is answered to the pattern and to each
-- event, and the verdict on the events taken
pub record HistoryUnder (limit : ℕ) (bytes : List ℕ) (opened : Opened) (events : List Event) : Type 0 where
  pub opening : passing_is opened.answer ≡ outcome_of (read_pattern_under limit bytes)
  pub each_answer : answers opened.session events ≡ refusals_under limit [] events
  pub verdict : VerdictOf (slots_used (read_pattern_under limit bytes)) (taken_of_under limit events) (said_after opened.session events)
