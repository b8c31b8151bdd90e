-- Three arguments, their values computed: leading zeros, the highest number, and the number behind it.
-- Assumes nothing.
use native.Mathlib.Omega.{arith}
use mathlib.Core.List.{[], ◌∷◌}
use Rattle.std.specs.Prelude.{Some, None}
use Rattle.io.specs.Digits.{last_digits}
use Rattle.arguments.specs.Numerals.{NumberGiven, numeral, no_numeral, value_of}
use Rattle.arguments.proofs.ReadBack.{read_back}

-- `007`
pub leading_zeros : NumberGiven (48 ∷ 48 ∷ 55 ∷ []) (Some 7)
leading_zeros = numeral (read_back 3 7 (omega arith) (omega arith) (omega arith) (omega arith))

-- `18446744073709551615`
pub highest : NumberGiven (last_digits 10 20 18446744073709551615) (Some 18446744073709551615)
highest = numeral (read_back 20 18446744073709551615 (omega arith) (omega arith) (omega arith) (omega arith))

-- `18446744073709551616`
pub behind_the_highest : NumberGiven (last_digits 10 20 18446744073709551616) None
unfolding value_of
behind_the_highest = no_numeral (λ n h. omega (arith, h.value, h.below))
