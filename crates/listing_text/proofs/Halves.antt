-- "Of the printed heights that the mission keeps equal, only exact halves may now print otherwise." (Note 8)
-- Assumes nothing.
use mathlib.Core.Path.{◌≡◌, ap}
use mathlib.Core.Bool.{false}
use lib.IntN.{ℤ, nat_abs}
use Rattle.height.specs.Rounding.{is_half, figures_of, metres_of}
use Rattle.height.proofs.Halves.{as_before}
use Rattle.listing_text.specs.Text.{metres_text, height_text, former_height_text}

pub only_halves : (mm : ℤ) → is_half (nat_abs mm) ≡ false → height_text mm ≡ former_height_text mm
unfolding height_text former_height_text metres_of
only_halves mm h = ap (λ (t : ℤ). metres_text (figures_of t)) (as_before mm h)
