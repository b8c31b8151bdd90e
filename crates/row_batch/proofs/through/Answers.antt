use Rattle.std.proofs.Common.{◌≡◌, rules}
use Rattle.row_batch.proofs.EventByEvent.{not_yet, one_more, earlier}
use Rattle.row_batch.proofs.through.Goals as goal

pub loop-e-init : goal.loop-e-init
loop-e-init c = not_yet c.args.s

pub loop-e-preserved : goal.loop-e-preserved
loop-e-preserved c =
    let h = c.hand-next.ensures in
    let kept : c.and-first.result ≡ earlier c.loop-e.first c.hand-next.result = search rules in
    rw kept
    (one_more c.args.s c.args.events.now c.loop-e.e-index _ c.loop-e.session _ c.loop-e.first c.hand-next.result c.loop-e-test.true c.loop-e.invariant h.number
    (rw (c.threads_of-acting.ensures, c.fitting-fit.ensures) at h.after))
