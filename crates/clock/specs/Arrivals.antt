-- What the clocks hold of the events that arrived, and when a stamp is that of an event.
-- Assumes nothing.
use Rattle.std.specs.Prelude.{ℕ, ◌+◌, ◌≤◌, ◌<◌, ◌≡◌, ◌⊎◌, true, List, [], ◌∷◌, ◌++◌, length, get_or}
use Rattle.event.specs.declared.Event.{Event}
use Rattle.event.specs.Limits.{threads}
use Rattle.trace.specs.Before.{Numbered}
use Rattle.dependence.specs.Order.{IsStamp}
use Rattle.dependence.specs.Channels.{Channel, tells}
use Rattle.clock.specs.declared.Stamp.{Stamp}
use Rattle.clock.specs.Rows.{size, row_of, Known}

-- "a stamp gives for each thread how many of its events come before or are this one": s is the stamp of event number j
abbrev pub StampOf : List Event → ℕ → Stamp → Type 0
StampOf log j s = (t : ℕ) → t < threads → IsStamp log j t (get_or s.at t 0)

-- an event that told the channel c has the count n of the thread t in its stamp
abbrev pub Told : List Event → Channel → ℕ → ℕ → Type 0
Told log c t n = (j : ℕ) × (e : Event) × Numbered log j e × (tells e c ≡ true) × IsStamp log j t n

-- the highest count of the thread t in the stamps of the events that told the channel c; 0 where none did
pub record IsClock (log : List Event) (c : Channel) (t n : ℕ) : Type 0 where
  pub reached : (n ≡ 0) ⊎ Told log c t n
  pub highest : (k : ℕ) → Told log c t k → k ≤ n

-- the clocks are those of the events that arrived
pub record ClocksOf (log : List Event) (clocks : List ℕ) : Type 0 where
  pub whole : length clocks ≡ size
  pub entry : (c : Channel) → Known c → (t : ℕ) → t < threads → IsClock log c t (get_or clocks (row_of c + t) 0)

-- an event has arrived after those of the log: s is its stamp, and the clocks hold it too
pub record Arrived (log : List Event) (e : Event) (s : Stamp) (clocks : List ℕ) : Type 0 where
  pub stamp : StampOf (log ++ (e ∷ [])) (length log + 1) s
  pub holds : ClocksOf (log ++ (e ∷ [])) clocks
