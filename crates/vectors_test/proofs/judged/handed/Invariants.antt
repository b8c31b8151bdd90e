-- `vectors_test::judged::handed` is safe and ends. What falls is the number of bytes left of the log.
use Rattle.std.proofs.Common.{◌-◌, length}
use Rattle.vectors_test.proofs.judged.handed.Given as goal

abbrev pub decreases-loop-event : goal.decreases-loop-event
decreases-loop-event l = length l.log - l.at
