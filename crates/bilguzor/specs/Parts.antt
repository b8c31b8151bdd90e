-- A session in parts, as a program in C holds it: a number for each slot, how many slots there are, and what is kept of the events taken.
use Rattle.std.specs.Prelude.{ℕ, List}
use Rattle.event.specs.Keys.{slot_numbers}
use Rattle.session.specs.declared.Session.{Session}
use Rattle.session.specs.Model.{Kept}
use Rattle.bilguzor.specs.declared.Parts.{Parts}

-- the parts that a caller lends
abbrev pub lent : List ℕ → ℕ → List ℕ → List ℕ → List ℕ → ℕ → ℕ → Parts
lent slots size state clocks table taken count =
    record { slots = slots; size = size; state = state; clocks = clocks; table = table; taken = taken; count = count }

-- what is kept in the parts, and the parts with something else kept
abbrev pub kept_in : Parts → Kept
kept_in p = record { state = p.state; clocks = p.clocks; table = p.table; taken = p.taken; count = p.count }

abbrev pub parts_with : Parts → Kept → Parts
parts_with p k = lent p.slots p.size k.state k.clocks k.table k.taken k.count

-- the parts of a session
abbrev pub parts_of : Session → Parts
parts_of s = lent (slot_numbers s.pattern.slots) s.pattern.size s.state s.clocks s.table s.taken s.count
