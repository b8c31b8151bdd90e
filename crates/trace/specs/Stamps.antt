-- What an event's stamp is.
-- Assumes nothing.
use Rattle.std.specs.Prelude.{◌≡◌, Bool, List, ℕ, zero, suc, length}
use Rattle.trace.specs.Before.{Numbered, ComesBefore}

-- how many of the numbers 1 to n have the property
pub data HowMany (P : ℕ → Type 0) : ℕ → ℕ → Type 0 where
  none : HowMany P zero zero
  one : {n k : ℕ} → P (suc n) → HowMany P n k → HowMany P (suc n) (suc k)
  not_one : {n k : ℕ} → ¬ P (suc n) → HowMany P n k → HowMany P (suc n) k

module _ {E : Type 0} (dep : E → E → Bool) (thread : E → ℕ) where
  -- event number i is of the thread t, and comes before event number j or is it
  abbrev pub OfThreadBefore : List E → ℕ → ℕ → ℕ → Type 0
  OfThreadBefore log j t i = (e : E) × Numbered log i e × (thread e ≡ t) × ComesBefore dep log i j

  -- "a stamp gives for each thread how many of its events come before or are this one":
  -- that of event number j gives k for the thread t
  abbrev pub IsStamp : List E → ℕ → ℕ → ℕ → Type 0
  IsStamp log j t k = HowMany (OfThreadBefore log j t) (length log) k
