use native.Mathlib.Omega.{arith}
use mathlib.Core.Path.{◌≡◌}
use borrow.Author.Rules.{rules}
use Rattle.command.specs.Reading.{command, read_event}
use Rattle.event_log.proofs.Leading.{not_absent}
use Rattle.passes.proofs.Passes.{still_ahead, follows, stamped}
use Rattle.passes.proofs.Followed.pass.Goals as goal

pub returns-in_default : goal.returns-in_default
returns-in_default c = λ es m ls p u h.
    let f = c.loop-i.invariant.1 es m ls u h in
    not_absent f.passed (still_ahead ls f (let t = c.loop-i-test.true in omega arith)) c.read_event.result c.read_event.ensures (λ e n q. search rules)

pub returns-in_default-2 : goal.returns-in_default-2
returns-in_default-2 c = λ es m ls p u h.
    let f = c.loop-i.invariant.1 es m ls u h in
    not_absent f.passed (still_ahead ls f (let t = c.loop-i-test.true in omega arith)) c.read_event.result c.read_event.ensures (λ e n q. search rules)

pub loop-i-preserved : goal.loop-i-preserved
loop-i-preserved c =
    let t = c.loop-i-test.true in
    let q : command c.in-Ok-Some.event c.in-Ok-Some.next ≡ read_event c.args.log.now c.loop-i.at = search rules in (
      omega arith,
      λ es m ls u h.
          rw (c.follow-stamp.ensures.stamp, c.follow-stamp.ensures.after, c.key_of-key.ensures, c.slot_of.ensures)
          (follows ls (c.loop-i.invariant.1 es m ls u h) (omega arith) _ _ q),
    )

pub returns : goal.returns
returns c = λ es m ls p u h. stamped ls (c.loop-i.invariant.1 es m ls u h) _ (let t = c.loop-i-test.false in let v = c.loop-i.invariant.0 in omega arith) p
