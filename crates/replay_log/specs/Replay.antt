-- What the replay call gives: its answer, how many bytes it wrote, and the buffer afterwards. Document 02, Note 1, "The log that shows it".
use Rattle.std.specs.Prelude.{ℕ, ◌≤◌, ◌<◌, ◌≡◌, true, false, List, ◌++◌, length, take, drop, Result, Ok, Err}
use Rattle.event.specs.declared.Event.{Event}
use Rattle.event.specs.declared.Slot.{Slot}
use Rattle.event_log.specs.Whole.{accepted, read_log, read_pattern, log_bytes}
use Rattle.session.specs.Answers.{refusal, no_ruling, nothing, log, Given}
use Rattle.session.specs.Meaning.{RunOf}
use Rattle.session.specs.declared.Verdict.{Verdict}
use Rattle.run.specs.declared.RunRefusal.{RunRefusal}
use Rattle.replay_order.specs.Replay.{IsReplay}
use Rattle.replay_log.specs.declared.Replayed.{Replayed}

pub data ReplayOf (pattern bytes buffer : List ℕ) : Given → ℕ → List ℕ → Type 0 where
  -- what a run refuses, pattern or log
  refused : {g : Given} → RunOf pattern bytes g → ¬ (g.refused ≡ nothing) → ReplayOf pattern bytes buffer g 0 buffer
  -- "Refusal 15 is also given, match or none, where the buffer has fewer bytes than the log; checked after the log passes, offset 0."
  too_short : {g : Given} → RunOf pattern bytes g → g.refused ≡ nothing → length buffer < length bytes
      → ReplayOf pattern bytes buffer (record { refused = log; refusal = refusal 15 0; ruling = no_ruling }) 0 buffer
  -- "With no match nothing is written and the length given is 0."
  none : {g : Given} → RunOf pattern bytes g → g.refused ≡ nothing → length bytes ≤ length buffer → g.ruling.matches ≡ false
      → ReplayOf pattern bytes buffer g 0 buffer
  -- "On a match, write into a lent buffer a whole log holding the same events in an order that shows the pattern." By Note 5, "a replay log goes by" the first
  -- example: the events that a run names. The bytes behind it stay as they were.
  shown : {g : Given} {ss : List Slot} {es order : List Event} → RunOf pattern bytes g → g.refused ≡ nothing → length bytes ≤ length buffer
      → g.ruling.matches ≡ true → read_pattern pattern ≡ accepted ss → read_log bytes ≡ accepted es
      → IsReplay es (take (length ss) g.ruling.events) order
      → ReplayOf pattern bytes buffer g (length (log_bytes order)) (log_bytes order ++ drop (length (log_bytes order)) buffer)

-- what an answer says: the run's part of it, and how many bytes were written, none for a refusal
abbrev pub run_part : Result Replayed RunRefusal → Result Verdict RunRefusal
run_part (Ok r) = Ok r.verdict
run_part (Err e) = Err e

abbrev pub length_part : Result Replayed RunRefusal → ℕ
length_part (Ok r) = r.length
length_part (Err e) = 0
