-- What a comparison gives, for every two stamped events, those of no log too.
-- Assumes nothing.
use Rattle.std.specs.Prelude.{ℕ, Bool, cond, ◌&&◌, eqb, leb, ltb, get_or}
use Rattle.event.specs.Limits.{threads}
use Rattle.clock.specs.declared.Stamp.{Stamp}
use Rattle.relation.specs.declared.StampedEvent.{StampedEvent}
use Rattle.relation.specs.declared.Relation.{Relation}
use Rattle.relation.specs.declared.Relation.TheVariants.{Same, Before, After, Free}

-- they have one thread, and one place in it
abbrev pub one_event : StampedEvent → StampedEvent → Bool
one_event a b = eqb a.thread b.thread && eqb a.place b.place

-- the event that was number `place` of the thread t, counted from 1, comes before the one stamped `later` or is it
abbrev pub comes_before : ℕ → ℕ → Stamp → Bool
comes_before t place later = ltb t threads && leb place (get_or later.at t 0)

-- the first of the three tests that is met tells the answer, and free is without any
abbrev pub compared : StampedEvent → StampedEvent → Relation
compared a b =
    cond (one_event a b) Same
    (cond (comes_before a.thread a.place b.stamp) Before
    (cond (comes_before b.thread b.place a.stamp) After Free))
