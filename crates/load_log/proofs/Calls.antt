-- The writing calls that a load still needs, from a place on: the first of them, one made, and the last.
use Prim.Native.Nat.{ℕ, zero, suc, ◌+◌, ◌-◌, ◌<◌, ◌≤◌}
use native.Mathlib.Omega.{arith}
use native.Mathlib.Nat.{zero-add}
use mathlib.Core.Path.{◌≡◌, refl, sym, ap, subst, ◌∙◌}
use mathlib.Core.List.{List}
use lib.ListN.{length}
use Rattle.std.specs.Prelude.{Result, Ok, Err}
use Rattle.event.specs.declared.Event.{Event}
use Rattle.event.specs.Limits.{events}
use Rattle.event.specs.Slots.{slot_of}
use Rattle.event.specs.Range.{range_refusal}
use Rattle.command.specs.Commands.{event_bytes, closing}
use Rattle.event.specs.declared.refusal.Refused.{Refused}
use Rattle.writer.specs.Writing.{Writing, written, refused, writing, written_is, put, buffer_after}
use Rattle.event_log.specs.Calls.{WriteCalls, end, more}
use Rattle.event_log.proofs.RowBytes.{same_place}
use Rattle.event_log.proofs.Writes.{log_written}
use Rattle.generator.specs.Rule.{next_state, event_in}
use Rattle.load_log.specs.Load.{events_from, load_bytes}
use Rattle.load_log.proofs.Events.{load_heights}
use Rattle.load_log.proofs.Load.{load_accepted}
use Rattle.load_log.proofs.Answers.{not_written}

-- so many events are still to be written from this state on, at this place of the buffer; then the last place is `last` and the buffer `after`
abbrev pub ToWrite : ℕ → ℕ → ℕ → List ℕ → ℕ → List ℕ → Type 0
ToWrite state left at buffer last after = WriteCalls (λ e. range_refusal (slot_of e)) event_bytes at buffer (events_from state left) last after

-- all of them, in a buffer with room for the load
pub all_to_write : (seed count : ℕ) (buffer : List ℕ) → count ≤ events → length (load_bytes seed count) ≤ length buffer
    → ToWrite seed count 0 buffer (length (load_bytes seed count)) (put (load_bytes seed count) buffer 0)
all_to_write seed count buffer most room =
    let whole = length (load_bytes seed count) in
    subst (λ (n : ℕ). ToWrite seed count 0 buffer n (put (load_bytes seed count) buffer 0)) (zero-add whole)
    (log_written (events_from seed count) buffer 0 (load_accepted seed count most) (load_heights seed count) (omega arith)).0

-- the call that writes the event after a state: its answer, and the buffer afterwards
abbrev answer_then : ℕ → List ℕ → ℕ → Writing
answer_then state buffer at = writing (range_refusal (slot_of (event_in (next_state state)))) (event_bytes (event_in (next_state state))) buffer at

abbrev buffer_then : ℕ → List ℕ → ℕ → List ℕ
buffer_then state buffer at = buffer_after (range_refusal (slot_of (event_in (next_state state)))) (event_bytes (event_in (next_state state))) buffer at

-- where an event is left, it is not refused,
first_not_refused : (state left at : ℕ) (buffer : List ℕ) {last : ℕ} {after : List ℕ} → 0 < left → ToWrite state left at buffer last after
    → {k o : ℕ} → answer_then state buffer at ≡ refused k o → ⊥
unfolding events_from
first_not_refused state zero at buffer l w q = omega arith
first_not_refused state (suc left) at buffer l (more p w) q = not_written p q

-- and the place that it returns is where the next one writes
first_written : (state left at : ℕ) (buffer : List ℕ) {last : ℕ} {after : List ℕ} → 0 < left → ToWrite state left at buffer last after
    → {next : ℕ} → answer_then state buffer at ≡ written next → ToWrite (next_state state) (left - 1) next (buffer_then state buffer at) last after
unfolding events_from
first_written state zero at buffer l w q = absurd (omega arith)
first_written state (suc left) at buffer {last} {after} l (more p w) q =
    let fewer : suc left - 1 ≡ left = omega arith in
    rw fewer (subst (λ (n : ℕ). ToWrite (next_state state) left n (buffer_then state buffer at) last after) (same_place p q) w)

-- the same of what the program has, before event number i + 1: the next state, its event, the answer and the buffer afterwards
module _ (state count i at : ℕ) (buffer : List ℕ) {last : ℕ} {after : List ℕ} (l : i < count) (w : ToWrite state (count - i) at buffer last after)
    (next : ℕ) (p : next ≡ next_state state) (e : Event) (q : e ≡ event_in next)
    (r : Result ℕ Refused) (a : written_is r ≡ writing (range_refusal (slot_of e)) (event_bytes e) buffer at) where
  pub never_refused : (f : Refused) → r ≡ Err f → ⊥
  never_refused f h = first_not_refused state (count - i) at buffer (omega arith) w (rw (q, p) at (sym a ∙ ap written_is h))

  pub one_call : (then : List ℕ) → then ≡ buffer_after (range_refusal (slot_of e)) (event_bytes e) buffer at
      → (behind : ℕ) → r ≡ Ok behind → ToWrite next (count - (i + 1)) behind then last after
  one_call then b behind h =
      let fewer : count - (i + 1) ≡ count - i - 1 = omega arith in
      rw (fewer, b, q, p) (first_written state (count - i) at buffer (omega arith) w (rw (q, p) at (sym a ∙ ap written_is h)))

-- the closing 00 is left
pub all_written : (state left : ℕ) → left ≡ 0 → {at last : ℕ} {buffer after : List ℕ} → ToWrite state left at buffer last after
    → (writing 0 closing buffer at ≡ written last) × (after ≡ buffer_after 0 closing buffer at)
unfolding events_from
all_written state zero z (end p) = (p, refl)
all_written state (suc left) z w = absurd (omega arith)
