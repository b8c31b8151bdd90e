-- Which patterns can be looked for, and how a search holds one.
use Rattle.std.specs.Prelude.{ℕ, ◌≤◌, ◌<◌, ◌≡◌, length, get_or}
use Rattle.event.specs.Limits.{threads, slots as slot_limit}
use Rattle.event.specs.Slots.{no_slot}
use Rattle.event.specs.Keys.{slot_keys}
use Rattle.event_log.specs.declared.Pattern.{Pattern}
use Rattle.passes.specs.declared.Sought.{Sought}

-- as reading a pattern gives it: at least one slot, the threads of all within their limit
pub record Usable (p : Pattern) : Type 0 where
  pub some : 0 < p.size
  pub few : p.size ≤ slot_limit
  pub whole : length p.slots ≡ slot_limit
  pub low : (j : ℕ) → j < p.size → (get_or p.slots j no_slot).thread < threads

-- the slots of a pattern with their keys
abbrev pub sought_of : Pattern → Sought
sought_of p = record { slots = p.slots; keys = slot_keys p.slots; size = p.size }
