-- "Heights are metres to one decimal": millimetres rounded to tenths of a metre, and the figures that are printed.
use Rattle.std.specs.Prelude.{ℕ, suc, ◌+◌, ◌*◌, ◌-◌, ◌/◌, ◌%◌, ◌≤◌, ◌≡◌, Bool, true, false, cond, eqb, ℤ, pos, negsuc, neg_ℤ}
use Rattle.height.specs.declared.Metres.{Metres}

-- "exact halves", of a magnitude in millimetres: its remainder by a hundred is fifty
abbrev pub is_half : ℕ → Bool
is_half n = eqb (n % 100) 50

-- of a tenth and the next one, "the even tenth"
abbrev pub even_tenth : ℕ → ℕ
even_tenth t = t + t % 2

-- what document 01 had, of a magnitude: "millimetres are rounded to the nearest hundred, a half away from zero"
abbrev pub away_from_zero : ℕ → ℕ
away_from_zero n = (n + 50) / 100

-- "Halves to the even tenth" (Note 8); every other magnitude as document 01 had it
abbrev pub half_to_even : ℕ → ℕ
half_to_even n = cond (is_half n) (even_tenth (n / 100)) (away_from_zero n)

-- how far two numbers are from each other
abbrev pub distance : ℕ → ℕ → ℕ
distance m n = (m - n) + (n - m)

-- the same words without a formula: no hundred is nearer to the magnitude than t tenths are, and at a half t is even. One number is so, which
-- is `half_to_even n`: proofs/Halves `nearest_iff`.
pub record IsNearest (n t : ℕ) : Type 0 where
  pub near : (u : ℕ) → distance n (100 * t) ≤ distance n (100 * u)
  pub even : is_half n ≡ true → t % 2 ≡ 0

-- a height's magnitude rounded, the sign apart. negsuc n is the number -(n + 1).
abbrev pub signed : (ℕ → ℕ) → ℤ → ℤ
signed rounding (pos n) = pos (rounding n)
signed rounding (negsuc n) = neg_ℤ (pos (rounding (suc n)))

-- the tenths of a metre that are printed: "rounded to the nearest hundred", "Halves to the even tenth"
abbrev pub tenths_of : ℤ → ℤ
tenths_of = signed half_to_even

-- the same by document 01's rounding, which Note 8 compares with
abbrev pub former_tenths_of : ℤ → ℤ
former_tenths_of = signed away_from_zero

-- "A minus sign stands when the rounded height is below zero"; then whole metres and one decimal
abbrev pub figures_of : ℤ → Metres
figures_of (pos t) = record { below = false; whole = t / 10; tenth = t % 10 }
figures_of (negsuc t) = record { below = true; whole = suc t / 10; tenth = suc t % 10 }

unfoldable pub metres_of : ℤ → Metres
metres_of mm = figures_of (tenths_of mm)
