use native.Mathlib.Omega.{arith}
use mathlib.Core.Path.{◌≡◌}
use lib.ListN.{length-replicate}
use Rattle.event.specs.Limits.{slots as slot_limit}
use Rattle.command.specs.Reading.{command, read_event}
use Rattle.event_log.proofs.Leading.{not_absent}
use Rattle.clock.specs.declared.Stamp.{Stamp}
use Rattle.clock.specs.Clocks.{no_stamp}
use Rattle.event_stamps.proofs.Stamping.{begun, ahead, stamped_now, all_stamped}
use borrow.Author.Rules.{rules}
use Rattle.event_stamps.proofs.stamps_of.Goals as goal

pub loop-i-init : goal.loop-i-init
loop-i-init c = (search rules, λ es m r l. begun r _ (length-replicate {A = Stamp} slot_limit no_stamp) c.fresh-clocks.ensures.history)

pub returns-in_default : goal.returns-in_default
returns-in_default c = λ es m r l.
    let s = c.loop-i.invariant.1 es m r l in
    not_absent s.passed (ahead r s (let t = c.loop-i-test.true in omega arith)) c.read_event.result c.read_event.ensures (λ e n q. search rules)

pub returns-in_default-2 : goal.returns-in_default-2
returns-in_default-2 c = λ es m r l.
    let s = c.loop-i.invariant.1 es m r l in
    not_absent s.passed (ahead r s (let t = c.loop-i-test.true in omega arith)) c.read_event.result c.read_event.ensures (λ e n q. search rules)

pub loop-i-preserved : goal.loop-i-preserved
loop-i-preserved c =
    let t = c.loop-i-test.true in
    let q : command c.in-Ok-Some.event c.in-Ok-Some.next ≡ read_event c.args.log.now c.loop-i.at = search rules in
    (omega arith, λ es m r u. rw c.keep.ensures (stamped_now r (c.loop-i.invariant.1 es m r u) (omega arith) _ _ q _ _ c.advance-stamp.ensures.history))

pub returns : goal.returns
returns c = λ es m r l. all_stamped r (c.loop-i.invariant.1 es m r l) (let t = c.loop-i-test.false in let v = c.loop-i.invariant.0 in omega arith)
