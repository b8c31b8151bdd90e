-- The writing calls that are left lead to the whole load in the buffer.
use Rattle.std.proofs.Common.{◌-◌, length}
use Rattle.writer.specs.Writing.{put}
use Rattle.load_log.specs.Load.{load_bytes}
use Rattle.load_log.proofs.Calls.{ToWrite}
use Rattle.load_log.proofs.put_all.Given as goal

abbrev pub invariant-loop : goal.invariant-loop
invariant-loop l = ToWrite l.state (l.count - l.counter) l.at l.buffer (length (load_bytes l.seed l.count)) (put (load_bytes l.seed l.count) l.fn.buffer 0)
