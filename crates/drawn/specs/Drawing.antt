-- What the helpers of drawing small logs answer.
use Rattle.std.specs.Prelude.{ℕ, Bool, true, false, Result, Ok, Err}

abbrev pub is_accepted : {E : Type 0} → Result ℕ E → Bool
is_accepted (Ok n) = true
is_accepted (Err r) = false

-- the next write place; after a refusal the old one
abbrev pub place_after : {E : Type 0} → Result ℕ E → ℕ → ℕ
place_after (Ok next) at = next
place_after (Err r) at = at
