-- The walk over the row; what falls is the number of turns left.
use Rattle.std.proofs.Common.{◌-◌}
use Rattle.session_row.proofs.Walk.{Walking}
use Rattle.session_row.proofs.each_in_turn.Given as goal

abbrev pub invariant-loop-i : goal.invariant-loop-i
invariant-loop-i g l = Walking (goal.F-post g l.hand) l.initial.row l.row l.refused l.i

abbrev pub decreases-loop-i : goal.decreases-loop-i
decreases-loop-i g l = l.i-end - l.i
