-- Events by their numbers, and which comes before which.
-- Assumes nothing.
use Rattle.std.specs.Prelude.{◌≡◌, Bool, true, List, ◌∷◌, ℕ, zero, suc, ◌<◌}

module _ {E : Type 0} where
  -- "Events are numbered from 1": the event of this number is e.
  pub data Numbered : List E → ℕ → E → Type 0 where
    first : {e : E} {log : List E} → Numbered (e ∷ log) (suc zero) e
    next : {a e : E} {log : List E} {i : ℕ} → Numbered log i e → Numbered (a ∷ log) (suc i) e

module _ {E : Type 0} (dep : E → E → Bool) where
  -- ""Comes before or is" means: the same event, or a chain of events rising in the log, each dependent on the next."
  -- Of two events of the log, by their numbers.
  pub data ComesBefore (log : List E) : ℕ → ℕ → Type 0 where
    same : {i : ℕ} {e : E} → Numbered log i e → ComesBefore log i i
    chain : {i k j : ℕ} {a b : E} → ComesBefore log i k → k < j → Numbered log k a → Numbered log j b → dep a b ≡ true
        → ComesBefore log i j
