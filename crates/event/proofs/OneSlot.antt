-- Laws of fitting: an event fits one slot, and two events that fit one slot have one thread.
use mathlib.Core.Path.{◌≡◌}
use mathlib.Core.Bool.{true, and-eq-true_iff}
use lib.Dec.{eqb}
use borrow.Author.Tests.{eqb-true}
use Rattle.event.specs.declared.Event.{Event}
use Rattle.event.specs.declared.Slot.{Slot}
use Rattle.event.specs.Slots.{fits, same_operation}

-- an event that fits a slot acts as the slot's thread
pub fits_thread : (s : Slot) (e : Event) → fits s e ≡ true → s.thread ≡ e.thread
fits_thread s e h = eqb-true _ _ ((and-eq-true_iff (eqb s.thread e.thread) (same_operation s.operation e.operation)).0 h).0
