-- The event of any state is within its limits and does nothing to locks and tasks; so many such events as a log may have are accepted.
-- Assumes nothing.
use Prim.Native.Nat.{ℕ, zero, suc, ◌+◌, ◌^◌, ◌<◌, ◌≤◌}
use native.Mathlib.Omega.{arith}
use mathlib.Core.Path.{◌≡◌, refl, ◌∙◌}
use mathlib.Core.Bool.{false}
use mathlib.Core.List.{List, [], ◌∷◌}
use lib.IntN.{ℤ}
use lib.Signed.{mag}
use lib.ListN.{length}
use borrow.Author.Tests.{lt-leb}
use Rattle.event.specs.declared.Event.{Event}
use Rattle.event.specs.declared.Effect.TheVariants.{Nothing}
use Rattle.event.specs.Limits.{events}
use Rattle.event.specs.Slots.{slot_of}
use Rattle.event.specs.Effects.{effects, effect_of}
use Rattle.event.proofs.InRange.{InRange, from_range, range_passes}
use Rattle.rules.specs.Accepted.{some, joined, event_rows, refusal_after, refusal_under, AcceptedAfter, whole, one_more}
use Rattle.command.specs.Commands.{Height}
use Rattle.event_log.specs.Whole.{Heights}
use Rattle.event_log.proofs.RowBytes.{Every, none, also}
use Rattle.generator.specs.Rule.{next_state, thread_in, kind_in, object_in, height_in, of_kind, event_in}
use Rattle.generator.proofs.Heights.{height_small}
use Rattle.load_log.specs.Load.{events_from}

-- ---- one event

kind_in_range : (k t o : ℕ) (h : ℤ) → t < 4 → o < 8 → InRange (slot_of (record { thread = t; operation = of_kind k o h }))
kind_in_range zero t o h l m = record { thread = omega arith; object = omega arith; other = refl }
kind_in_range (suc zero) t o h l m = record { thread = omega arith; object = omega arith; other = refl }
kind_in_range (suc (suc k)) t o h l m = record { thread = omega arith; object = omega arith; other = refl }

each_in_range : (s : ℕ) → InRange (slot_of (event_in s))
unfolding event_in
each_in_range s = kind_in_range (kind_in s) (thread_in s) (object_in s) (height_in s) (omega arith) (omega arith)

-- an event that does nothing to locks and tasks
abbrev Idle : Event → Type 0
Idle e = effect_of e ≡ Nothing

kind_idle : (k o : ℕ) (h : ℤ) → effects (of_kind k o h) ≡ Nothing
kind_idle zero o h = refl
kind_idle (suc zero) o h = refl
kind_idle (suc (suc k)) o h = refl

each_idle : (s : ℕ) → Idle (event_in s)
unfolding event_in
each_idle s = kind_idle (kind_in s) (object_in s) (height_in s)

kind_height : (k o : ℕ) (h : ℤ) → mag h < 2 ^ 31 → Height (of_kind k o h)
kind_height zero o h l = tt
kind_height (suc zero) o h l = l
kind_height (suc (suc k)) o h l = tt

each_height : (s : ℕ) → Height (event_in s).operation
unfolding event_in
each_height s = kind_height (kind_in s) (object_in s) (height_in s) (height_small s)

-- ---- after idle events an idle one in range is taken

none_joined : (past : List Event) (t : ℕ) → Every Idle past → joined past t ≡ false
unfolding some
none_joined [] t none = refl
none_joined (e ∷ past) t (also q more) = rw q (none_joined past t more)

idle_taken : (past : List Event) (e : Event) → Every Idle past → Idle e → InRange (slot_of e) → length past < events → refusal_after past e ≡ 0
unfolding refusal_under
idle_taken past e before q r l =
    range_passes (slot_of e) (event_rows past e) (from_range (slot_of e) r) ∙ rw (lt-leb events (length past) l, none_joined past e.thread before, q)

-- ---- all of them

pub accepted_after : (state left : ℕ) (past : List Event) → Every Idle past → length past + left ≤ events → AcceptedAfter past (events_from state left)
unfolding events_from
accepted_after state zero past before h = whole
accepted_after state (suc left) past before h =
    let e = event_in (next_state state) in
    one_more (idle_taken past e before (each_idle (next_state state)) (each_in_range (next_state state)) (omega arith))
    (accepted_after (next_state state) left (e ∷ past) (also (each_idle (next_state state)) before) (omega arith))

pub load_heights : (state left : ℕ) → Heights (events_from state left)
unfolding events_from Heights
load_heights state zero = tt
load_heights state (suc left) = (each_height (next_state state), load_heights (next_state state) left)
