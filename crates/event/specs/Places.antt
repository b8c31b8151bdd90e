-- A row of so many places: entries, and a blank at every place beyond them.
-- Assumes nothing.
use Rattle.std.specs.Prelude.{ℕ, ◌-◌, List, ◌++◌, length, replicate}

abbrev pub in_places : {A : Type 0} → A → ℕ → List A → List A
in_places blank places xs = xs ++ replicate (places - length xs) blank
