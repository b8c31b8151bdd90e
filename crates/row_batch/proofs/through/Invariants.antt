-- Before each turn the session is what the events before it make of it.
use Rattle.std.proofs.Common.{take}
use Rattle.row_batch.proofs.EventByEvent.{Gone}
use Rattle.row_batch.proofs.through.Given as goal

abbrev pub invariant-loop-e : goal.invariant-loop-e
invariant-loop-e l = Gone l.fn.s (take l.e-index l.fn.events) l.session l.first
