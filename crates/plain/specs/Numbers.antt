-- An event as one number: the byte of its command, its thread in eight bits and its object in sixteen.
use Rattle.std.specs.Prelude.{ℕ, ◌+◌, ◌*◌, ◌/◌, ◌%◌}
use Rattle.event.specs.declared.Event.{Event}
use Rattle.event.specs.Slots.{byte_of, object_of, without_height}

abbrev pub kind_in : ℕ → ℕ
kind_in a = a / 16777216

abbrev pub thread_in : ℕ → ℕ
thread_in a = a / 65536 % 256

abbrev pub object_in : ℕ → ℕ
object_in a = a % 65536

-- the number of an event; a height plays no part
abbrev pub number_of : Event → ℕ
number_of e = byte_of (without_height e.operation) * 16777216 + e.thread * 65536 + object_of (without_height e.operation)
