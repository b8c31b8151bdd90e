-- What the call for a reason gives: what a run says, and where that is no match, why.
use Rattle.std.specs.Prelude.{ℕ, suc, ◌≡◌, true, List, length, replicate, Option, Some, None, Result, Ok, Err}
use Rattle.event.specs.declared.Event.{Event}
use Rattle.event.specs.declared.Slot.{Slot}
use Rattle.event.specs.Limits.{slots}
use Rattle.event.specs.Places.{in_places}
use Rattle.event_log.specs.Whole.{accepted, refused, read_log, read_pattern}
use Rattle.trace.specs.Reason.{Obstacle, no_fit, last_fit}
use Rattle.dependence.specs.Order.{Reason}
use Rattle.session.specs.Answers.{nothing, pattern, refusal, no_ruling, Given}
use Rattle.session.specs.Meaning.{RunOn}
use Rattle.verdict_reason.specs.declared.Cause.{Cause}
use Rattle.verdict_reason.specs.declared.Cause.TheVariants.{NoFit, TooEarly}
use Rattle.verdict_reason.specs.declared.Reasoned.{Reasoned}
use Rattle.session.specs.declared.Verdict.{Verdict}
use Rattle.run.specs.declared.RunRefusal.{RunRefusal}

-- "the number k of the first slot that can't be filled", "the number of the LAST event that fits slot k and the lowest slot i below k"
pub record Stated : Type 0 where
  pub slot : ℕ
  pub last : ℕ
  pub earlier : ℕ

abbrev pub stated : ℕ → ℕ → ℕ → Stated
stated k l i = record { slot = k; last = l; earlier = i }

-- what each case of a cause, or that there is none, stands for, in numbers; "other fields 0"
abbrev pub cause_is : Option Cause → Stated
cause_is None = stated 0 0 0
cause_is (Some (NoFit k)) = stated k 0 0
cause_is (Some (TooEarly k l i)) = stated k l i

-- the cause that slot k has by what stands in its way
abbrev pub cause_of : ℕ → Obstacle → Cause
cause_of k no_fit = NoFit k
cause_of k (last_fit l i) = TooEarly k l i

-- of an accepted pattern and a log
pub data ReasonOn (ss : List Slot) (bytes : List ℕ) : Given → Option Cause → List ℕ → Type 0 where
  -- "The same refusals, in the same order, as a run."
  log_refused : {g : Given} → RunOn ss bytes g → ¬ (g.refused ≡ nothing) → ReasonOn ss bytes g None (replicate slots 0)
  -- "With a match the answer is the run's own."
  match : {g : Given} → RunOn ss bytes g → g.ruling.matches ≡ true → ReasonOn ss bytes g None (replicate slots 0)
  -- "Where there is no match: the number k of the first slot that can't be filled, the first events for slots 1 to k-1 .., and one of two cases"; the
  -- places beyond those events are 0
  no_match : {g : Given} {es : List Event} {events : List ℕ} {o : Obstacle} → RunOn ss bytes g → read_log bytes ≡ accepted es → Reason ss es events o
      → ReasonOn ss bytes g (Some (cause_of (suc (length events)) o)) (in_places 0 slots events)

-- of any pattern and log: "the pattern is read before the log"
pub data ReasonOf (pattern_bytes bytes : List ℕ) : Given → Option Cause → List ℕ → Type 0 where
  pattern_refused : {k o : ℕ} → read_pattern pattern_bytes ≡ refused k o
      → ReasonOf pattern_bytes bytes (record { refused = pattern; refusal = refusal k o; ruling = no_ruling }) None (replicate slots 0)
  over_log : {ss : List Slot} {g : Given} {c : Option Cause} {events : List ℕ} → read_pattern pattern_bytes ≡ accepted ss → ReasonOn ss bytes g c events
      → ReasonOf pattern_bytes bytes g c events

-- what an answer says: the run's part of it, the cause, and the events of the slots before it; "other fields 0"
abbrev pub run_part : Result Reasoned RunRefusal → Result Verdict RunRefusal
run_part (Ok r) = Ok r.verdict
run_part (Err e) = Err e

abbrev pub cause_part : Result Reasoned RunRefusal → Option Cause
cause_part (Ok r) = r.cause
cause_part (Err e) = None

abbrev pub events_part : Result Reasoned RunRefusal → List ℕ
events_part (Ok r) = r.events
events_part (Err e) = replicate slots 0
