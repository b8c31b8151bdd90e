-- Document 02, Note 2: how two events of a log stand to each other, by "comes before or is".
-- Assumes nothing.
use Rattle.std.specs.Prelude.{ℕ, ◌<◌, ◌≡◌, List}
use Rattle.event.specs.declared.Event.{Event}
use Rattle.event.specs.Limits.{threads}
use Rattle.trace.specs.Before.{Numbered}
use Rattle.dependence.specs.Order.{ComesBefore, IsStamp}
use Rattle.clock.specs.Arrivals.{StampOf}
use Rattle.relation.specs.declared.StampedEvent.{StampedEvent}
use Rattle.relation.specs.declared.Relation.{Relation}
use Rattle.relation.specs.declared.Relation.TheVariants.{Same, Before, After, Free}

-- one event comes before another: it comes before it or is it, and is not it
abbrev pub Precedes : List Event → ℕ → ℕ → Type 0
Precedes log i j = ComesBefore log i j × ¬ (i ≡ j)

-- "same for one event asked twice, before where the first comes before the second, after where the second comes before the first, else free":
-- a log, the numbers of two of its events, and the answer
abbrev pub Relates : List Event → ℕ → ℕ → Relation → Type 0
Relates log i j Same = i ≡ j
Relates log i j Before = Precedes log i j
Relates log i j After = Precedes log j i
Relates log i j Free = ¬ (i ≡ j) × ¬ Precedes log i j × ¬ Precedes log j i

-- the answer where the two are asked the other way round
abbrev pub mirrored : Relation → Relation
mirrored Same = Same
mirrored Before = After
mirrored After = Before
mirrored Free = Free

-- "two stamped events": s is what is known of event number i of the log. Its place in its thread is the count of its own thread in its stamp
-- (trace/proofs/Stamps `place_stamp`: how many events up to it are of that thread); a stamp counts threads below the limit alone.
pub record IsStamped (log : List Event) (i : ℕ) (s : StampedEvent) : Type 0 where
  pub event : Event
  pub numbered : Numbered log i event
  pub thread : s.thread ≡ event.thread
  pub known : event.thread < threads
  pub place : IsStamp log i event.thread s.place
  pub stamp : StampOf log i s.stamp
