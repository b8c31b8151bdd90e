use Prim.Native.Nat.{ℕ, ◌≤◌, ◌^◌}
use mathlib.Core.Path.{◌≡◌}
use native.Mathlib.Omega.{arith}
use Rattle.event.specs.Limits.{slots as slot_limit}
use native.Mathlib.Omega.{arith}
use Rattle.table.proofs.SetLaws.{powers}
use Rattle.table.specs.Sets.{sets}
use Rattle.table.proofs.last_row.Goals as goal

bounds : (n p : ℕ) → n ≤ slot_limit → p ≡ 2 ^ n → (1 ≤ p) × (p ≤ sets)
bounds n p h e = rw e (powers n h)

pub overflow_sub-result : goal.overflow_sub-result
overflow_sub-result c = omega (arith, bounds _ _ c.requires c.power.ensures)

pub overflow_mul-result : goal.overflow_mul-result
overflow_mul-result c = let h = bounds _ _ c.requires c.power.ensures in omega arith

pub returns : goal.returns
returns c = let h = bounds _ _ c.requires c.power.ensures in (rw c.power.ensures, omega arith)
