use mathlib.Core.Path.{ap, ◌∙◌}
use borrow.Author.Rules.{rules}
use Rattle.clock.specs.declared.Stamp.{Stamp}
use Rattle.clock.specs.Clocks.{heard_from, ticked_at, no_stamp}
use Rattle.clock.proofs.ClockLaws.{mark_out, mark_in}
use Rattle.clock.proofs.alone.Goals as goal

pub returns-then-t-ge-THREADS : goal.returns-then-t-ge-THREADS
returns-then-t-ge-THREADS c = let a = c.args in
    let r = mark_out a.clocks.now a.t a.mark (search rules) c.if-t-ge-THREADS.true in
    record { stamp = r.0; after = r.1 }

pub returns : goal.returns
returns c = let a = c.args in
    let row = c.thread_row-row.ensures in
    let r = mark_in a.clocks.now a.t a.mark (search rules) c.if-t-ge-THREADS.false _ _
    (c.tick-s.ensures ∙ ap (λ (x : Stamp). ticked_at x a.t) (c.hear-own.ensures ∙ ap (heard_from no_stamp a.clocks.now) row))
    (rw row at c.tell.ensures) in
    record { stamp = r.0; after = r.1 }
