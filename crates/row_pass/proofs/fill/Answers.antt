use native.Mathlib.Omega.{arith}
use mathlib.Core.Path.{◌≡◌, refl, sym, ◌∙◌}
use lib.ListN.{length-set}
use borrow.Author.Rules.{rules}
use Rattle.command.specs.Reading.{command, closed, refused, reading_is}
use Rattle.event.specs.Refusals.{refusal_number}
use Rattle.row_batch.specs.Batch.{batch}
use Rattle.row_pass.proofs.Filling.{started, made, next_event, ends, breaks, is_full}
use Rattle.row_pass.proofs.fill.Goals as goal

pub loop-k-init : goal.loop-k-init
loop-k-init c = (omega arith, refl, λ past h n. started _ _ past _ _ h)

pub returns-in-Ok-None : goal.returns-in-Ok-None
returns-in-Ok-None c past h n = let inv = c.loop-k.invariant in
    let r = inv.2 past h n in
    let end : reading_is c.step.result ≡ closed = search rules in
    rw c.stopped.ensures (ends inv.0 inv.1 r (made inv.0 inv.1 r _ n c.step.ensures.history) end)

pub returns-in-Err : goal.returns-in-Err
returns-in-Err c past h n = let inv = c.loop-k.invariant in
    let r = inv.2 past h n in
    let x = c.in-Err.refused in
    let stop : reading_is c.step.result ≡ refused (refusal_number x.reason) x.offset = search rules in
    rw c.stopped-in-Err.ensures (breaks inv.0 inv.1 r x (made inv.0 inv.1 r _ n c.step.ensures.history) stop)

pub loop-k-preserved : goal.loop-k-preserved
loop-k-preserved c = let l = c.loop-k in
    let below = c.loop-k-test.true in
    let inv = l.invariant in
    let read : reading_is c.step.result ≡ command c.in-Ok-Some.read.0 c.in-Ok-Some.read.1 = search rules in (
      omega (arith, below),
      length-set l.events _ _ ∙ inv.1,
      λ past h n. let r = inv.2 past h n in next_event inv.0 inv.1 r below read (made inv.0 inv.1 r _ n c.step.ensures.history),
    )

pub returns : goal.returns
returns c past h n = let l = c.loop-k in
    let left = c.loop-k-test.false in
    let low = l.invariant.0 in
    let r = l.invariant.2 past h n in
    let k : l.k ≡ batch = omega (arith, left, low) in
    rw (c.stopped-2.ensures, sym k) (is_full low l.invariant.1 r (omega (arith, k)))
