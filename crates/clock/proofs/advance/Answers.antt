use Rattle.clock.proofs.History.{arrived}
use Rattle.clock.proofs.advance.Goals as goal

pub returns-in-Mark : goal.returns-in-Mark
returns-in-Mark c = let a = c.args in
    let e = c.in-Mark.is in
    let r = arrived a.clocks.now a.e _ _ (rw e c.alone.ensures.stamp) (rw e c.alone.ensures.after) in
    record { stamp = r.0; after = r.1.0; history = r.1.1 }

pub returns-in_default : goal.returns-in_default
returns-in_default c = let a = c.args in
    let r = arrived a.clocks.now a.e _ _ c.arrive.ensures.stamp c.arrive.ensures.after in
    record { stamp = r.0; after = r.1.0; history = r.1.1 }
