-- Events that arrive later change no stamp.
-- Assumes nothing.
use Prim.Native.Nat.{ℕ}
use mathlib.Core.Path.{sym, ◌∙◌}
use mathlib.Core.List.{List, ◌++◌}
use Rattle.event.specs.declared.Event.{Event}
use Rattle.trace.specs.Before.{Numbered}
use Rattle.trace.proofs.Numbers.{numbered_among, numbered_append}
use Rattle.trace.proofs.Stamps.{stamp_append, stamp_is, stamp_unique}
use Rattle.dependence.specs.Dependence.{dependent}
use Rattle.dependence.specs.Order.{thread_of, IsStamp}

-- a count in the stamp of an event stays that count as others arrive
pub entry_stays : (log later : List Event) (j t c : ℕ) (e : Event) → Numbered log j e → IsStamp log j t c → IsStamp (log ++ later) j t c
entry_stays log later j t c e n h =
    let u = numbered_among n in
    let p = stamp_append e dependent thread_of log later j t u.1 ∙ stamp_unique e dependent thread_of log j t c u h in
    rw (sym p) (stamp_is e dependent thread_of (log ++ later) j t (numbered_among (numbered_append later n)))
