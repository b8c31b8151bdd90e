-- What the passes over a log copy: which events, by their places in their threads, and the bytes of their commands.
-- Assumes nothing.
use Rattle.std.specs.Prelude.{ℕ, zero, suc, ◌+◌, ◌≤◌, ◌<◌, ◌≡◌, Bool, cond, ◌&&◌, List, [], ◌∷◌, ◌++◌, leb, ltb, length, get_or}
use Rattle.event.specs.declared.Event.{Event}
use Rattle.event.specs.Limits.{threads, events}
use Rattle.event.specs.Slots.{no_event}
use Rattle.trace.specs.Tuples.{event_at, thread_at, place, keep}
use Rattle.dependence.specs.Order.{thread_of}
use Rattle.command.specs.Commands.{event_bytes}
use Rattle.writer.specs.Writing.{has_room, put}
use Rattle.command.specs.Bytes.{Bytes}
use Rattle.command.specs.Reading.{read_event}
use Rattle.event_log.specs.Calls.{ReadCalls}
use Rattle.event_log.specs.Whole.{log_bytes}
use Rattle.clock.specs.declared.Stamp.{Stamp}
use Rattle.replay_order.specs.Replay.{IsReplay}

-- the commands of events, one behind the other
abbrev pub commands : List Event → List ℕ
commands [] = []
commands (e ∷ es) = event_bytes e ++ commands es

-- whether the event of a number passes a test of its thread and its place in it
abbrev pub passing : (ℕ → ℕ → Bool) → List Event → ℕ → Bool
passing test es i = test (thread_at no_event thread_of es i) (place (thread_at no_event thread_of es) i)

-- the events of the numbers 1 to n that pass, in the recorded order
abbrev pub copied : (ℕ → ℕ → Bool) → List Event → ℕ → List Event
copied test es zero = []
copied test es (suc n) = copied test es n ++ keep (passing test es (suc n)) (event_at no_event es (suc n)) []

-- a place above the one count and within the other
abbrev pub between : ℕ → ℕ → ℕ → Bool
between low high p = ltb low p && leb p high

-- what a stamp counts of a thread
abbrev pub count_in : Stamp → ℕ → ℕ
count_in s t = get_or s.at t 0

-- a test that says of each thread's places, so far as the log has any, whether they are above one stamp's count and within the other's
abbrev pub Tells : (ℕ → ℕ → Bool) → List Event → Stamp → Stamp → Type 0
Tells test es above within = (t p : ℕ) → t < threads → p ≤ length es → test t p ≡ between (count_in above t) (count_in within t) p

-- bytes copied to a place of a buffer where they are wanted and there is room for them, and the place after them; else the buffer stays as it was
abbrev pub copied_if : Bool → List ℕ → List ℕ → ℕ → Bool
copied_if wanted bytes buffer at = wanted && has_room bytes buffer at

pub record CopiedIf (wanted : Bool) (bytes before : List ℕ) (at to : ℕ) (after : List ℕ) : Type 0 where
  pub place : to ≡ cond (copied_if wanted bytes before at) (at + length bytes) at
  pub is : after ≡ cond (copied_if wanted bytes before at) (put bytes before at) before

-- the commands of events copied to a place of a buffer: the place after them, and the buffer then, every other byte as it was
pub record Copies (es : List Event) (before : List ℕ) (start to : ℕ) (after : List ℕ) : Type 0 where
  pub at : to ≡ start + length (commands es)
  pub is : after ≡ put (commands es) before start

-- the events of a log, read from its start to its end: no more than the limit
pub record ReadAs (bytes : List ℕ) (es : List Event) : Type 0 where
  pub bytes_are : Bytes bytes
  pub calls : ReadCalls (read_event bytes) 0 es
  pub few : length es ≤ events

-- the numbers of the slots' events, so many of them, are among the first n
pub record NamedAmong (es : List Event) (numbers : List ℕ) (size n : ℕ) : Type 0 where
  pub few : n ≤ length es
  pub each : (j : ℕ) → j < size → (0 < get_or numbers j 0) × (get_or numbers j 0 ≤ n)

-- what is written: the replay order as a log, at the start of the buffer
pub record Replays (es : List Event) (numbers before : List ℕ) (long : ℕ) (after : List ℕ) : Type 0 where
  pub order : List Event
  pub replay : IsReplay es numbers order
  pub bytes : long ≡ length (log_bytes order)
  pub is : after ≡ put (log_bytes order) before 0
