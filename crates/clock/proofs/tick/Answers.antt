use Prim.Native.Nat.{ℕ}
use native.Mathlib.Omega.{arith}
use mathlib.Core.Path.{◌≡◌, ap}
use mathlib.Core.List.{List}
use Rattle.event.specs.Limits.{threads}
use Rattle.clock.proofs.tick.Goals as goal

pub returns : goal.returns
returns c = let k : c.loop-i.i ≡ threads = omega arith in ap (λ (xs : List ℕ). record { at = xs }) (rw k at c.loop-i.invariant.1)
