-- The sets of slots by their numbers, and where the table has the row of each.
-- Assumes nothing.
use Rattle.std.specs.Prelude.{ℕ, ◌+◌, ◌*◌, ◌-◌, ◌/◌, ◌^◌}
use Rattle.event.specs.Limits.{slots}

-- a row has the places of the slots, then their event numbers, and last whether there is a row
abbrev pub lanes : ℕ
lanes = 8

abbrev pub width : ℕ
width = 2 * lanes

abbrev pub held : ℕ
held = width - 1

-- how many sets of slots there are
abbrev pub sets : ℕ
sets = 2 ^ slots

abbrev pub size : ℕ
size = sets * width

-- where the row of the set number m starts
abbrev pub row_of : ℕ → ℕ
row_of m = m * width

-- the sets without the slot k in rising order, from the empty one on: the bits of i, with a 0 pasted in at k
unfoldable pub spread : ℕ → ℕ → ℕ
spread k i = i + i / 2 ^ k * 2 ^ k

-- the place that stands where a row has no event
abbrev pub absent : ℕ
absent = 65535
