-- The numbers from k up to n, one by one: those that pass a test.
use Prim.Native.Nat.{ℕ, suc, ◌+◌, ◌-◌, ◌≤◌, ◌<◌}
use mathlib.Core.Path.{◌≡◌}
use mathlib.Core.Bool.{Bool, true, false}
use mathlib.Core.List.{List, [], ◌∷◌}
use native.Mathlib.Numerals.{add-one}
use native.Mathlib.Omega.{arith}
use Rattle.trace.proofs.Lists.{filter}
use Rattle.trace.proofs.Runs.{run}

-- those of them that pass the test
unfoldable pub passing : (ℕ → Bool) → ℕ → ℕ → List ℕ
passing p k n = filter p (run k (suc n - k))

module _ (p : ℕ → Bool) (k n : ℕ) where
  step : k ≤ n → suc n - k ≡ suc (suc n - (k + 1))
  step l = omega arith

  pub one_passes : k ≤ n → p k ≡ true → passing p k n ≡ k ∷ passing p (k + 1) n
  unfolding passing
  one_passes l h = rw (step l, add-one, h)

  pub one_fails : k ≤ n → p k ≡ false → passing p k n ≡ passing p (k + 1) n
  unfolding passing
  one_fails l h = rw (step l, add-one, h)

  over : n < k → suc n - k ≡ 0
  over l = omega arith

  pub none_left : n < k → passing p k n ≡ []
  unfolding passing
  none_left l = rw (over l)

all : (n : ℕ) → suc n - 1 ≡ n
all n = omega arith

pub from_one : (p : ℕ → Bool) (n : ℕ) → filter p (run 1 n) ≡ passing p 1 n
unfolding passing
from_one p n = rw (all n)
