-- Note 11's rule: a state of 32 bits, the step to the next one, and the event in a state's bits.
use Rattle.std.specs.Prelude.{ℕ, zero, suc, ◌+◌, ◌-◌, ◌*◌, ◌/◌, ◌%◌, ◌^◌, ℤ, pos, ◌-ℤ◌}
use Rattle.event.specs.declared.Event.{Event}
use Rattle.event.specs.declared.Operation.{Operation}
use Rattle.event.specs.declared.Operation.TheVariants.{Read, Write, Mark}

-- "the state becomes 1664525 times the state plus 1013904223, keeping the low 32 bits"
unfoldable pub next_state : ℕ → ℕ
next_state s = (1664525 * s + 1013904223) % 2 ^ 32

-- "Each event takes one step": the state of the event of this number, the first being 1; that of number 0 is the seed
unfoldable pub state_at : ℕ → ℕ → ℕ
state_at seed zero = seed
state_at seed (suc n) = next_state (state_at seed n)

-- the bits from a high one down to a low one, as a number; bit 0 is the lowest of all
abbrev pub bits : ℕ → ℕ → ℕ → ℕ
bits high low s = s / 2 ^ low % 2 ^ (suc high - low)

-- "Bits 31 and 30 are the thread"
abbrev pub thread_in : ℕ → ℕ
thread_in s = bits 31 30 s

-- "bits 29 and 28 the kind"
abbrev pub kind_in : ℕ → ℕ
kind_in s = bits 29 28 s

-- "bits 27 to 25 the object"
abbrev pub object_in : ℕ → ℕ
object_in s = bits 27 25 s

-- "bits 11 to 0 minus 2,048 the height of a write in millimetres"
abbrev pub height_in : ℕ → ℤ
height_in s = pos (bits 11 0 s) -ℤ pos 2048

-- by the kind: "0 read, 1 write, 2 or 3 mark"
abbrev pub of_kind : ℕ → ℕ → ℤ → Operation
of_kind zero object height = Read object
of_kind (suc zero) object height = Write object height
of_kind (suc (suc k)) object height = Mark object

-- the event of a state
unfoldable pub event_in : ℕ → Event
event_in s = record { thread = thread_in s; operation = of_kind (kind_in s) (object_in s) (height_in s) }
