-- The rows that an event hears and tells lie within the clocks.
-- Assumes nothing.
use Prim.Native.Nat.{ℕ, ◌+◌, ◌≤◌, ◌<◌}
use mathlib.Core.Path.{◌≡◌}
use native.Mathlib.Omega.{arith}
use Rattle.event.specs.declared.Operation.TheVariants.{Read, Write, Acquire, Release, Fork, Join, Mark}
use Rattle.event.specs.declared.Operation.{Operation}
use Rattle.event.specs.declared.Event.{Event}
use Rattle.event.specs.Limits.{threads}
use Rattle.event.specs.Slots.{slot_of, without_height, object_of}
use Rattle.event.specs.Range.{limit_of, range_refusal}
use Rattle.event.proofs.InRange.{in_range}
use Rattle.event.specs.Effects.{touches}
use Rattle.dependence.specs.Channels.{Channel, thread, reads_of, writes_of, lock_of}
use Rattle.clock.specs.declared.Rows.{Rows}
use Rattle.clock.specs.Rows.{size, row_of, Known, Beside, beside_of, beside}
use Rattle.clock.specs.Clocks.{rows_of}

-- a channel within its limits has its row within the clocks
pub row_fits : (c : Channel) → Known c → row_of c + threads ≤ size
row_fits (thread t) k = omega arith
row_fits (reads_of v) k = omega arith
row_fits (writes_of v) k = omega arith
row_fits (lock_of l) k = omega arith

-- the channels of an event within its limits are within theirs
pub record AllKnown (b : Beside) : Type 0 where
  pub first : Known b.first
  pub second : Known b.second
  pub told : Known b.told

pub all_known : (e : Event) → range_refusal (slot_of e) ≡ 0 → AllKnown (beside e)
all_known e h = let r = in_range (slot_of e) h in by_operation e.thread e.operation r.thread r.object
  where
    by_operation : (t : ℕ) (op : Operation) → t < threads → object_of (without_height op) < limit_of (without_height op)
        → AllKnown (beside_of t (touches op))
    by_operation t (Read v) low o = record { first = o; second = o; told = o }
    by_operation t (Write v k) low o = record { first = o; second = o; told = o }
    by_operation t (Acquire l) low o = record { first = o; second = o; told = o }
    by_operation t (Release l) low o = record { first = o; second = o; told = o }
    by_operation t (Fork c) low o = record { first = o; second = o; told = o }
    by_operation t (Join c) low o = record { first = o; second = o; told = o }
    by_operation t (Mark m) low o = record { first = low; second = low; told = low }

-- and their rows within the clocks
pub record Fit (r : Rows) : Type 0 where
  pub first : r.first + threads ≤ size
  pub second : r.second + threads ≤ size
  pub told : r.told + threads ≤ size

pub rows_fit : (e : Event) (r : Rows) → range_refusal (slot_of e) ≡ 0 → r ≡ rows_of e → Fit r
rows_fit e r h p =
    let k = all_known e h in
    let b = beside e in
    rw p (record { first = row_fits b.first k.first; second = row_fits b.second k.second; told = row_fits b.told k.told })

-- rows that start at the same places
pub same_rows : {a b c a' b' c' : ℕ} → a ≡ a' → b ≡ b' → c ≡ c'
    → ◌≡◌ {A = Rows} (record { first = a; second = b; told = c }) (record { first = a'; second = b'; told = c' })
same_rows p q r = rw (p, q, r)
