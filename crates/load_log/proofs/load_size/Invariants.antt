-- What is counted and what is left are the whole load, the closing 00 counted in both.
use Rattle.std.proofs.Common.{◌≡◌, ◌+◌, ◌-◌, length}
use Rattle.load_log.specs.Load.{load_bytes}
use Rattle.load_log.proofs.load_size.Given as goal

abbrev pub invariant-loop : goal.invariant-loop
invariant-loop l = l.size + length (load_bytes l.state (l.count - l.counter)) ≡ length (load_bytes l.seed l.count) + 1
