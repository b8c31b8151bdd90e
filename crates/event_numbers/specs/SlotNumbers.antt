-- Slots in numbers, one number each: the thread in each, and which of them have an event's number.
use Rattle.std.specs.Prelude.{ℕ, ◌/◌, ◌%◌, Bool, List, map, eqb}

-- the thread in the number of each slot, and which of them an event fits whose own slot has the number n
unfoldable pub acting_in : List ℕ → List ℕ
acting_in slots = map (λ m. m / 256 % 256) slots

unfoldable pub fitting_in : List ℕ → ℕ → List Bool
fitting_in slots n = map (λ m. eqb m n) slots
