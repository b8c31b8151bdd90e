-- A number as a 32-bit register holds it; and that a height, once it is rounded, still fits one.
use Prim.Native.Nat.{ℕ, zero, suc, ◌-◌, ◌^◌, ◌<◌, ◌≤◌}
use native.Mathlib.Omega.{arith}
use mathlib.Core.Path.{◌≡◌}
use lib.IntN.{ℤ, pos, negsuc, neg_ℤ}
use lib.Signed.{mag}
use mir.Syntax.{w32}
use mir.Val.{to_z, of_z}
use mir.Facts.{to_z-of_z}
use Rattle.height.specs.Rounding.{half_to_even, tenths_of}
use Rattle.height.proofs.Halves.{at_most}

abbrev pub held : ℤ → ℤ
held z = to_z w32 (of_z w32 z)

pub held_is : (z : ℤ) → mag z < 2 ^ 31 → held z ≡ z
held_is z h = to_z-of_z {w = w32} (record { sfits = h })

mag_negated : (r : ℕ) → mag (neg_ℤ (pos r)) ≤ r
mag_negated zero = omega arith
mag_negated (suc r) = omega arith

pub rounded_fits : (z : ℤ) → mag z < 2 ^ 31 → mag (tenths_of z) < 2 ^ 31 - 1
rounded_fits (pos n) h = let m : n < 2 ^ 31 = h in omega (arith, at_most n)
rounded_fits (negsuc n) h =
    let m : n < 2 ^ 31 = h in
    let l : mag (neg_ℤ (pos (half_to_even (suc n)))) ≤ half_to_even (suc n) = mag_negated (half_to_even (suc n)) in
    omega (arith, at_most (suc n))
