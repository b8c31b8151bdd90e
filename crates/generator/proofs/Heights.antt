-- The height in a state's bits is a 32-bit number.
use Rattle.std.proofs.Common.{ℕ, ◌^◌, ◌<◌, ltb, pos, ◌-ℤ◌, arith}
use lib.Signed.{mag}
use Rattle.event.proofs.Tests.{by_test}
use Rattle.generator.specs.Rule.{bits, height_in}

pub lowered : (b : ℕ) → b < 4096 → mag (pos b -ℤ pos 2048) < 2 ^ 31
lowered b l = by_test (ltb b 2048) (λ q. rw q (omega arith)) (λ q. rw q (omega arith))

pub height_small : (s : ℕ) → mag (height_in s) < 2 ^ 31
height_small s = lowered (bits 11 0 s) (omega arith)
