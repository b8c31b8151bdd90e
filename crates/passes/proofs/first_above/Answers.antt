use native.Mathlib.Omega.{arith}
use mathlib.Core.Path.{◌≡◌, sym, ◌∙◌}
use borrow.Author.Rules.{rules}
use Rattle.command.specs.Reading.{command, read_event}
use Rattle.event_log.proofs.Leading.{not_absent}
use Rattle.passes.proofs.Passes.{ahead, not_this, this_one, nowhere}
use Rattle.passes.proofs.first_above.Goals as goal

pub returns-in_default-clause-first : goal.returns-in_default-clause-first
returns-in_default-clause-first c = λ es ls.
    let s = c.loop-i.invariant.1 es ls in
    not_absent s.passed (ahead ls s c.loop-i-test.true) c.read_event.result c.read_event.ensures (λ e n q. search rules)

pub returns-in_default-2-clause-first : goal.returns-in_default-2-clause-first
returns-in_default-2-clause-first c = λ es ls.
    let s = c.loop-i.invariant.1 es ls in
    not_absent s.passed (ahead ls s c.loop-i-test.true) c.read_event.result c.read_event.ensures (λ e n q. search rules)

pub returns-then-above-clause-first : goal.returns-then-above-clause-first
returns-then-above-clause-first c = λ es ls.
    let q : command c.in-Ok-Some.event c.in-Ok-Some.next ≡ read_event c.args.log.now c.loop-i.at = search rules in
    this_one ls (c.loop-i.invariant.1 es ls) c.loop-i-test.true _ _ q (rw (sym c.next_count-place.ensures) (sym c.above.ensures ∙ c.if-above.true))

pub loop-i-preserved : goal.loop-i-preserved
loop-i-preserved c =
    let t = c.loop-i-test.true in
    let q : command c.in-Ok-Some.event c.in-Ok-Some.next ≡ read_event c.args.log.now c.loop-i.at = search rules in (
      omega arith,
      λ es ls. rw c.next_count-place.ensures (not_this ls (c.loop-i.invariant.1 es ls) t _ _ q (rw (sym c.next_count-place.ensures) (sym c.above.ensures ∙ c.if-above.false))),
    )

pub returns-clause-first : goal.returns-clause-first
returns-clause-first c = λ es ls. nowhere ls (c.loop-i.invariant.1 es ls) c.loop-i-test.false
