use Prim.Native.Nat.{◌+◌}
use native.Mathlib.Omega.{arith}
use native.Mathlib.Numerals.{add-one}
use mathlib.Core.Path.{◌∙◌}
use Rattle.event.specs.Slots.{no_event}
use Rattle.trace.specs.Tuples.{event_at}
use Rattle.orders_log.proofs.Answers.{events_step, event_is}
use Rattle.orders_log.proofs.events_of.Goals as goal

pub loop-n-preserved : goal.loop-n-preserved
loop-n-preserved c es p q = let l = c.loop-n in
    let t = c.loop-n-test.true in
    events_step es l.n l.events _ (omega arith) (omega (arith, c.requires)) (l.invariant es p q)
    (c.event_numbered.ensures.accepted es (event_at no_event es (l.n + 1)) p (rw (add-one l.n) (event_is es l.n (omega arith))) ∙ rw (add-one l.n))
