use Rattle.pattern_files.specs.SomeFiles.{Watching}
use Rattle.pattern_files.proofs.watch.Given as goal

abbrev pub invariant-loop-k : goal.invariant-loop-k
invariant-loop-k g l = Watching l.k l.w
