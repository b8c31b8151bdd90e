use Rattle.clock.proofs.rows_of.Goals as goal

pub returns : goal.returns
returns c = rw c.touch_of.ensures at c.rows_beside.ensures
