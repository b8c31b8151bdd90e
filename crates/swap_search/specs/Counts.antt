-- Counts at places, each held to what its number can hold.
use Rattle.std.specs.Prelude.{ℕ, ◌+◌, ◌-◌, ◌^◌, List, cond, ltb, length, get_or, set, min}

-- n more at place i; a place that there is not is left out
abbrev pub more : ℕ → ℕ → List ℕ → List ℕ
more i n counts = cond (ltb i (length counts)) (set counts i (min (get_or counts i 0 + n) (2 ^ 64 - 1))) counts
