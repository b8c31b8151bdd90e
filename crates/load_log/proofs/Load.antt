-- A load is accepted, its events are those of the rule, and no other bytes are so; and how long it is.
use Prim.Native.Nat.{ℕ, zero, suc, ◌+◌, ◌*◌, ◌-◌, ◌<◌, ◌≤◌}
use native.Mathlib.Omega.{arith}
use mathlib.Core.Path.{◌≡◌, refl, sym, ap, ◌∙◌}
use mathlib.Core.Logic.{◌↔◌}
use mathlib.Core.List.{List, []}
use lib.ListN.{length, get_or, length-append}
use lib.Seq.{ext_get_or}
use Rattle.event.specs.declared.Operation.{Operation}
use Rattle.event.specs.declared.Operation.TheVariants.{Read, Write, Acquire, Release, Fork, Join, Mark}
use Rattle.event.specs.declared.Event.{Event}
use Rattle.event.specs.Limits.{events}
use Rattle.event.specs.Slots.{no_event}
use Rattle.rules.specs.Accepted.{Accepted}
use Rattle.command.specs.Bytes.{Bytes}
use Rattle.command.specs.Commands.{event_bytes}
use Rattle.event_log.specs.Whole.{row_bytes, log_bytes, accepted, read_log}
use Rattle.event_log.proofs.RowBytes.{none}
use Rattle.event_log.proofs.LogRoundTrip.{log_iff, log_read}
use Rattle.generator.specs.Rule.{next_state, state_at, event_in}
use Rattle.load_log.specs.Load.{IsLoad, events_from, load_bytes}
use Rattle.load_log.proofs.Events.{accepted_after, load_heights}

-- ---- the events, one by one

pub load_count : (state left : ℕ) → length (events_from state left) ≡ left
unfolding events_from
load_count state zero = refl
load_count state (suc left) = ap suc (load_count (next_state state) left)

-- the steps from the next state on are those from this one, but for the first
later : (state n : ℕ) → state_at (next_state state) n ≡ state_at state (suc n)
unfolding state_at
later state zero = refl
later state (suc n) = ap next_state (later state n)

pub event_by_event : (state left n : ℕ) → n < left → get_or (events_from state left) n no_event ≡ event_in (state_at state (suc n))
unfolding events_from state_at
event_by_event state zero n l = absurd (omega arith)
event_by_event state (suc left) zero l = refl
event_by_event state (suc left) (suc n) l = event_by_event (next_state state) left n (omega arith) ∙ ap event_in (later state (suc n))

-- ---- "The log is always accepted, and equals this rule event by event."

module _ (seed count : ℕ) (most : count ≤ events) where
  pub load_accepted : Accepted (events_from seed count)
  load_accepted = accepted_after seed count [] none (omega arith)

  pub load_read : read_log (load_bytes seed count) ≡ accepted (events_from seed count)
  load_read = log_read (events_from seed count) load_accepted (load_heights seed count)

  pub load_is : IsLoad seed count (load_bytes seed count)
  load_is = record { log = events_from seed count; read = load_read; many = load_count seed count; each = event_by_event seed count }

-- the events of a load by reading are those of the rule
load_events : {seed count : ℕ} {bytes : List ℕ} (h : IsLoad seed count bytes) → h.log ≡ events_from seed count
load_events {seed} {count} h =
    ext_get_or no_event h.log (events_from seed count) (h.many ∙ sym (load_count seed count))
    (λ i l. let m : length h.log ≡ count = h.many in h.each i (omega arith) ∙ sym (event_by_event seed count i (omega arith)))

-- "any machine must make" it "afresh": one byte string is the load
pub load_iff : (seed count : ℕ) → count ≤ events → (bytes : List ℕ) → Bytes bytes → IsLoad seed count bytes ↔ (bytes ≡ load_bytes seed count)
load_iff seed count most bytes b = (
  λ h. ((log_iff bytes b h.log).0 h.read).2 ∙ ap log_bytes (load_events h),
  λ q. rw q (load_is seed count most),
)

-- ---- how long it is

event_length : (op : Operation) (t : ℕ) → length (event_bytes (record { thread = t; operation = op })) ≤ 7
event_length (Read v) t = omega arith
event_length (Write v h) t = omega arith
event_length (Acquire l) t = omega arith
event_length (Release l) t = omega arith
event_length (Fork c) t = omega arith
event_length (Join c) t = omega arith
event_length (Mark m) t = omega arith

-- one event more
pub one_longer : (state left : ℕ) → 0 < left
    → length (load_bytes state left) ≡ length (event_bytes (event_in (next_state state))) + length (load_bytes (next_state state) (left - 1))
unfolding events_from row_bytes
one_longer state zero l = absurd (omega arith)
one_longer state (suc left) l =
    let fewer : suc left - 1 ≡ left = omega arith in
    rw fewer (length-append (event_bytes (event_in (next_state state))) (load_bytes (next_state state) left))

-- of a load's events, some counted: one more is
pub counted : (state count i size total next bytes : ℕ) (e : Event) → size + length (load_bytes state (count - i)) ≡ total + 1 → i < count
    → next ≡ next_state state → e ≡ event_in next → bytes ≡ length (event_bytes e) → size + bytes + length (load_bytes next (count - (i + 1))) ≡ total + 1
counted state count i size total next bytes e h l p q r =
    let fewer : count - (i + 1) ≡ count - i - 1 = omega arith in
    rw (fewer, r, q, p) (omega (arith, one_longer state (count - i) (omega arith)))

-- the closing 00 alone
pub none_longer : (state left : ℕ) → left ≡ 0 → length (load_bytes state left) ≡ 1
unfolding events_from row_bytes
none_longer state zero z = refl
none_longer state (suc left) z = absurd (omega arith)

pub load_length : (state left : ℕ) → length (load_bytes state left) ≤ 7 * left + 1
load_length state zero = omega (arith, none_longer state 0 refl)
load_length state (suc left) =
    let e = event_in (next_state state) in
    let one : length (event_bytes e) ≤ 7 = event_length e.operation e.thread in
    let fewer : suc left - 1 ≡ left = omega arith in
    let more : length (load_bytes (next_state state) (suc left - 1)) ≤ 7 * left + 1 = rw fewer (load_length (next_state state) left) in
    omega (arith, one_longer state (suc left) (omega arith))
