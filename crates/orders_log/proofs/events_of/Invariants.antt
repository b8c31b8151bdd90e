use mathlib.Core.Path.{◌≡◌}
use mathlib.Core.List.{List}
use lib.ListN.{length, take}
use Rattle.event.specs.declared.Event.{Event}
use Rattle.event.specs.Slots.{no_event}
use Rattle.event.specs.Places.{in_places}
use Rattle.event_log.specs.Whole.{read_log, accepted}
use Rattle.order_rows.specs.Rows.{order_places}
use Rattle.orders_log.proofs.events_of.Given as goal

abbrev pub invariant-loop-n : goal.invariant-loop-n
invariant-loop-n l = (es : List Event) → read_log l.log ≡ accepted es → l.count ≡ length es → l.events ≡ in_places no_event order_places (take l.n es)
