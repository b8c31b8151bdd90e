-- Halves to the even tenth: that is to the nearest, and which heights are rounded as document 01 had it.
-- Assumes nothing.
use Prim.Native.Nat.{ℕ, suc, ◌+◌, ◌*◌, ◌-◌, ◌/◌, ◌%◌, ◌≤◌, ◌<◌}
use native.Mathlib.Omega.{arith}
use mathlib.Core.Path.{◌≡◌, refl, sym, ap, subst, ◌∙◌}
use mathlib.Core.Logic.{◌↔◌}
use mathlib.Core.Bool.{Bool, true, false, cond, false≢true}
use lib.Dec.{ltb}
use lib.IntN.{ℤ, pos, negsuc, neg_ℤ, nat_abs}
use lib.Signed.{quot_z}
use borrow.Author.Tests.{eqb-true, eqb-false, ltb-true, ltb-false}
use Rattle.height.specs.Rounding.{is_half, even_tenth, away_from_zero, half_to_even, distance, IsNearest, signed, tenths_of, former_tenths_of}

-- ---- to the nearest

-- no hundred is nearer exactly where the number is at most fifty from it, either way
module _ (n t : ℕ) where
  abbrev Within : Type 0
  Within = (n ≤ 100 * t + 50) × (100 * t ≤ n + 50)

  within_near : Within → (u : ℕ) → distance n (100 * t) ≤ distance n (100 * u)
  within_near w u = go (ltb t u) refl (ltb u t) refl
    where
      go : (x : Bool) → ltb t u ≡ x → (y : Bool) → ltb u t ≡ y → distance n (100 * t) ≤ distance n (100 * u)
      go true h y k = let l : t < u = ltb-true t u h in omega arith
      go false h true k = let l : u < t = ltb-true u t k in omega arith
      go false h false k = let l : u ≤ t = ltb-false t u h in let m : t ≤ u = ltb-false u t k in omega arith

  near_within : ((u : ℕ) → distance n (100 * t) ≤ distance n (100 * u)) → Within
  near_within near = (above (near (t + 1)), below (near (t - 1)))
    where
      above : distance n (100 * t) ≤ distance n (100 * (t + 1)) → n ≤ 100 * t + 50
      above h = omega arith

      below : distance n (100 * t) ≤ distance n (100 * (t - 1)) → 100 * t ≤ n + 50
      below h = omega arith

-- of a tenth and the next one, one is even
even_one : (q t : ℕ) → q ≤ t → t ≤ q + 1 → t % 2 ≡ 0 → t ≡ even_tenth q
even_one q t low high even = go (ltb q t) refl
  where
    go : (b : Bool) → ltb q t ≡ b → t ≡ even_tenth q
    go true h = let l : q < t = ltb-true q t h in omega arith
    go false h = let l : t ≤ q = ltb-false q t h in omega arith

module _ (n : ℕ) where
  -- what is so of both cases is so of the rounding
  by_half : (P : ℕ → Type 0) → (is_half n ≡ true → P (even_tenth (n / 100))) → (is_half n ≡ false → P (away_from_zero n)) → P (half_to_even n)
  by_half P f g = go (is_half n) f g
    where
      go : (b : Bool) → (b ≡ true → P (even_tenth (n / 100))) → (b ≡ false → P (away_from_zero n)) → P (cond b (even_tenth (n / 100)) (away_from_zero n))
      go true f g = f refl
      go false f g = g refl

  is_nearest : IsNearest n (half_to_even n)
  is_nearest =
      by_half (IsNearest n)
      (λ h. record { near = within_near n (even_tenth (n / 100)) (omega (arith, eqb-true)); even = λ q. omega arith })
      (λ h. record { near = within_near n (away_from_zero n) (omega arith); even = λ q. absurd (false≢true (sym h ∙ q)) })

  one_nearest : (t : ℕ) → IsNearest n t → t ≡ half_to_even n
  one_nearest t k =
      let w : Within n t = near_within n t k.near in
      by_half (λ u. t ≡ u)
      (λ h. even_one (n / 100) t (omega (arith, eqb-true)) (omega (arith, eqb-true)) (k.even h))
      (λ h. omega (arith, eqb-false))

  -- "to the nearest hundred", halves "to the even tenth": so is one number of tenths alone
  pub nearest_iff : (t : ℕ) → IsNearest n t ↔ (t ≡ half_to_even n)
  nearest_iff t = (one_nearest t, λ e. subst (IsNearest n) (sym e) is_nearest)

  -- ---- beside document 01's rounding, of magnitudes

  elsewhere : is_half n ≡ false → half_to_even n ≡ away_from_zero n
  elsewhere h = rw h refl

  over_odd : n / 100 % 2 ≡ 1 → half_to_even n ≡ away_from_zero n
  over_odd o = by_half (λ u. u ≡ away_from_zero n) (λ h. omega (arith, eqb-true)) (λ h. refl)

  over_even : is_half n ≡ true → n / 100 % 2 ≡ 0 → n / 100 ≡ half_to_even n
  over_even h o = rw h (omega arith)

  pub at_most : half_to_even n ≤ away_from_zero n
  at_most = by_half (λ u. u ≤ away_from_zero n) (λ h. omega (arith, eqb-true)) (λ h. omega arith)

-- ---- the same of heights

-- two roundings that agree on the magnitude agree on the height
by_magnitude : (f g : ℕ → ℕ) (mm : ℤ) → f (nat_abs mm) ≡ g (nat_abs mm) → signed f mm ≡ signed g mm
by_magnitude f g (pos n) e = ap pos e
by_magnitude f g (negsuc n) e = ap (λ (t : ℕ). neg_ℤ (pos t)) e

-- "only exact halves may now print otherwise"
pub as_before : (mm : ℤ) → is_half (nat_abs mm) ≡ false → tenths_of mm ≡ former_tenths_of mm
as_before mm h = by_magnitude half_to_even away_from_zero mm (elsewhere (nat_abs mm) h)

-- a half goes on from an odd tenth as it did
pub odd_as_before : (mm : ℤ) → nat_abs mm / 100 % 2 ≡ 1 → tenths_of mm ≡ former_tenths_of mm
odd_as_before mm o = by_magnitude half_to_even away_from_zero mm (over_odd (nat_abs mm) o)

-- and at an even one it stays
pub even_stays : (mm : ℤ) → is_half (nat_abs mm) ≡ true → nat_abs mm / 100 % 2 ≡ 0 → quot_z mm (pos 100) ≡ tenths_of mm
even_stays (pos n) h o = by_magnitude (λ n. n / 100) half_to_even (pos n) (over_even n h o)
even_stays (negsuc n) h o = by_magnitude (λ n. n / 100) half_to_even (negsuc n) (over_even (suc n) h o)
