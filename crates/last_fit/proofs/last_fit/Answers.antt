use native.Mathlib.Omega.{arith}
use mathlib.Core.Path.{◌≡◌, sym, ◌∙◌}
use Rattle.command.specs.Reading.{command, read_event}
use Rattle.event_log.proofs.Leading.{not_absent}
use Rattle.last_fit.proofs.Fitting.{begun, ahead, passes_last, passes_by, all_passed}
use borrow.Author.Rules.{rules}
use Rattle.last_fit.proofs.last_fit.Goals as goal
use Rattle.last_fit.proofs.last_fit.Goals.{then-fit, else-fit}

pub loop-i-init : goal.loop-i-init
loop-i-init c = (search rules, λ es ls. begun ls)

pub returns-in_default : goal.returns-in_default
returns-in_default c = λ es ls.
    let s = c.loop-i.invariant.1 es ls in
    not_absent s.passed (ahead ls s c.loop-i-test.true) c.read_event.result c.read_event.ensures (λ e n q. search rules)

pub returns-in_default-2 : goal.returns-in_default-2
returns-in_default-2 c = λ es ls.
    let s = c.loop-i.invariant.1 es ls in
    not_absent s.passed (ahead ls s c.loop-i-test.true) c.read_event.result c.read_event.ensures (λ e n q. search rules)

pub loop-i-preserved : goal.loop-i-preserved
loop-i-preserved c =
    let t = c.loop-i-test.true in
    let q : command c.in-Ok-Some.event c.in-Ok-Some.next ≡ read_event c.args.log.now c.loop-i.at = search rules in (
      omega arith,
      λ es ls.
          let s = c.loop-i.invariant.1 es ls in
          elim c.if-fit.branch [
            | then-fit w ↦ rw (w.last-is, c.next_count-place.ensures) (passes_last ls s t _ _ q (sym c.fit.ensures ∙ w.if-fit.true))
            | else-fit w ↦ rw (w.last-is, c.next_count-place.ensures) (passes_by ls s t _ _ q (sym c.fit.ensures ∙ w.if-fit.false))
          ],
    )

pub returns : goal.returns
returns c = λ es ls. all_passed ls (c.loop-i.invariant.1 es ls) c.loop-i-test.false
