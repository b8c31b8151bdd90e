use Rattle.load_log.proofs.Load.{counted}
use Rattle.load_log.proofs.load_size.Goals as goal

pub loop-preserved : goal.loop-preserved
loop-preserved c =
    let l = c.loop in
    counted l.state c.args.count l.counter l.size _ _ _ _ l.invariant c.loop-test.true c.step-state.ensures c.event_in.ensures c.event_size-size.ensures
