-- Every order reached from an accepted list is accepted, and has a match exactly when the list has.
-- Assumes nothing.
use mathlib.Core.Logic.{◌↔◌}
use mathlib.Core.List.{List}
use Rattle.event.specs.declared.Event.{Event}
use Rattle.event.specs.declared.Slot.{Slot}
use Rattle.event.specs.Slots.{fits}
use Rattle.rules.specs.Accepted.{Accepted}
use Rattle.trace.proofs.Matches as matches
use Rattle.dependence.specs.Dependence.{dependent}
use Rattle.dependence.specs.Order.{Reaches, HasMatch}
use Rattle.dependence.proofs.Dependent.{symmetric}
use Rattle.dependence.proofs.Acceptance.{accepted_reached}

pub match_reached : (pattern : List Slot) {log order : List Event} → Reaches log order
    → HasMatch pattern log ↔ HasMatch pattern order
match_reached pattern r = matches.match_reached dependent fits symmetric pattern r

pub order_reached : (pattern : List Slot) {log order : List Event} → Accepted log → Reaches log order
    → Accepted order × (HasMatch pattern log ↔ HasMatch pattern order)
order_reached pattern c r = (accepted_reached r c, match_reached pattern r)
