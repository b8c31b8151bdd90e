use native.Mathlib.Omega.{arith}
use mathlib.Core.Path.{◌≡◌}
use Rattle.event.specs.Limits.{threads}
use Rattle.clock.proofs.tell.Goals as goal

pub returns : goal.returns
returns c = let k : c.loop-i.i ≡ threads = omega arith in rw k at c.loop-i.invariant.1
