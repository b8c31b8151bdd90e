-- What a query keeps of an event asked for, once it has come: its thread, its place there and its stamp.
use Rattle.std.specs.Prelude.{ℕ}
use Rattle.clock.specs.declared.Stamp.{Stamp}
use Rattle.clock.specs.Clocks.{count_of}
use Rattle.relation.specs.declared.StampedEvent.{StampedEvent}

abbrev pub stamped : ℕ → Stamp → StampedEvent
stamped t s = record { thread = t; place = count_of t s; stamp = s }
