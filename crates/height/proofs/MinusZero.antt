-- "`-0.0` never occurs": where a minus sign stands, a figure is not 0.
use Prim.Native.Nat.{◌+◌, ◌<◌}
use native.Mathlib.Omega.{arith}
use mathlib.Core.Path.{◌≡◌}
use mathlib.Core.Bool.{true, false≢true}
use lib.IntN.{ℤ, pos, negsuc}
use Rattle.height.specs.Rounding.{tenths_of, figures_of, metres_of}

of_tenths : (t : ℤ) → (figures_of t).below ≡ true → 0 < (figures_of t).whole + (figures_of t).tenth
of_tenths (pos t) b = absurd (false≢true b)
of_tenths (negsuc t) b = omega arith

pub no_minus_zero : (mm : ℤ) → (metres_of mm).below ≡ true → 0 < (metres_of mm).whole + (metres_of mm).tenth
unfolding metres_of
no_minus_zero mm b = of_tenths (tenths_of mm) b
