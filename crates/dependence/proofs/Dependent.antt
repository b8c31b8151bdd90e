-- Dependence is mutual, holds within a thread, and so between events that fit one slot.
-- Assumes nothing.
use mathlib.Core.Path.{◌≡◌, sym, ◌∙◌}
use mathlib.Core.Bool.{true, or_comm}
use borrow.Author.Tests.{eq-eqb}
use Rattle.event.specs.declared.Event.{Event}
use Rattle.event.specs.Slots.{fits}
use Rattle.event.proofs.OneSlot.{fits_thread}
use Rattle.trace.proofs.Greatest.{LawL}
use Rattle.event.specs.Effects.{touched}
use Rattle.dependence.specs.Dependence.{variable, lock, is_write, names_thread_of, dependent}
use Rattle.dependence.proofs.Sameness.{eqb_comm, same_comm}

pub symmetric : (a b : Event) → dependent a b ≡ dependent b a
unfolding dependent
symmetric a b =
    rw (
      eqb_comm a.thread b.thread,
      same_comm (variable (touched a)) (variable (touched b)),
      or_comm (is_write (touched a)) (is_write (touched b)),
      same_comm (lock (touched a)) (lock (touched b)),
      or_comm (names_thread_of a b) (names_thread_of b a),
    )

pub one_thread : (a b : Event) → a.thread ≡ b.thread → dependent a b ≡ true
unfolding dependent
one_thread a b h = rw (eq-eqb a.thread b.thread h)

-- two events that fit one slot have its thread
pub fit_one_slot : LawL dependent fits
fit_one_slot s a b f g = one_thread a b (sym (fits_thread s a f) ∙ fits_thread s b g)
