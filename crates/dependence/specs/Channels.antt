-- What vector clocks go by: an event tells some channels and hears some, and depends on those before it that tell one which
-- it hears (proofs/ByChannels.antt).
-- Assumes nothing.
use Rattle.std.specs.Prelude.{ℕ, Bool, not, ◌&&◌, ◌||◌, List, [], ◌∷◌, eqb, Some}
use Rattle.event.specs.declared.Event.{Event}
use Rattle.event.specs.declared.Touch.{Touch}
use Rattle.event.specs.declared.Touch.TheVariants.{Reads, Writes, Locks, Names, Nothing}
use Rattle.event.specs.Effects.{touched}
use Rattle.dependence.specs.Dependence.{variable, lock, named, is_write, same}

-- a thread, the reads of a variable, its writes, and a lock
pub data Channel : Type 0 where
  thread reads_of writes_of lock_of : ℕ → Channel

-- an event tells its own thread and one that it forks or joins, the reads or the writes of its variable, and its lock
abbrev pub tells : Event → Channel → Bool
tells e (thread t) = same (named (touched e)) (Some t) || eqb e.thread t
tells e (reads_of v) = not (is_write (touched e)) && same (variable (touched e)) (Some v)
tells e (writes_of v) = is_write (touched e) && same (variable (touched e)) (Some v)
tells e (lock_of l) = same (lock (touched e)) (Some l)

abbrev pub heard_at : Touch → List Channel
heard_at (Reads v) = writes_of v ∷ []
heard_at (Writes v) = writes_of v ∷ reads_of v ∷ []
heard_at (Locks l) = lock_of l ∷ []
heard_at (Names t) = thread t ∷ []
heard_at Nothing = []

-- an event hears its own thread, and what it touches: a read only the writes of its variable
abbrev pub hears : Event → List Channel
hears e = thread e.thread ∷ heard_at (touched e)
