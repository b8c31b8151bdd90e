-- Where the clocks have the row of each channel, and which rows an event hears and tells.
-- Assumes nothing.
use Rattle.std.specs.Prelude.{ℕ, ◌+◌, ◌*◌, ◌<◌}
use Rattle.event.specs.declared.Event.{Event}
use Rattle.event.specs.Limits.{threads, variables, locks}
use Rattle.event.specs.declared.Touch.{Touch}
use Rattle.event.specs.declared.Touch.TheVariants.{Reads, Writes, Locks, Names, Nothing}
use Rattle.event.specs.Effects.{touched}
use Rattle.dependence.specs.Channels.{Channel, thread, reads_of, writes_of, lock_of}
use Rattle.clock.specs.declared.Rows.{Rows}

-- the number of a channel's row: the threads, then the reads and the writes of each variable, then the locks
abbrev pub number_of : Channel → ℕ
number_of (thread t) = t
number_of (reads_of v) = threads + v
number_of (writes_of v) = threads + variables + v
number_of (lock_of l) = threads + variables + variables + l

-- how many rows there are
abbrev pub rows : ℕ
rows = threads + variables + variables + locks

-- a row has an entry for each thread: how many entries there are
abbrev pub size : ℕ
size = rows * threads

-- where the row of a channel starts
abbrev pub row_of : Channel → ℕ
row_of c = number_of c * threads

-- the channel's thread, variable or lock is below its limit
abbrev pub Known : Channel → Type 0
Known (thread t) = t < threads
Known (reads_of v) = v < variables
Known (writes_of v) = v < variables
Known (lock_of l) = l < locks

-- the channels of an event beside its own thread: it hears two, and tells one
pub record Beside : Type 0 where
  pub first : Channel
  pub second : Channel
  pub told : Channel

-- one channel, heard and told
abbrev pub one : Channel → Beside
one c = record { first = c; second = c; told = c }

-- those of an event that acts as thread t, by what it touches; its own thread again where there is none
abbrev pub beside_of : ℕ → Touch → Beside
beside_of t (Reads v) = record { first = writes_of v; second = writes_of v; told = reads_of v }
beside_of t (Writes v) = record { first = writes_of v; second = reads_of v; told = writes_of v }
beside_of t (Locks l) = one (lock_of l)
beside_of t (Names c) = one (thread c)
beside_of t Nothing = one (thread t)

-- those of an event
abbrev pub beside : Event → Beside
beside e = beside_of e.thread (touched e)

-- where their rows start
abbrev pub rows_for : Beside → Rows
rows_for b = record { first = row_of b.first; second = row_of b.second; told = row_of b.told }
