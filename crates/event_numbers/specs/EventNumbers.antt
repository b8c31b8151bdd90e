-- An event in plain numbers, as a program in C hands it over: the event of the numbers, and the refusal of numbers that no event can have.
use Rattle.std.specs.Prelude.{ℕ, ◌<◌, ◌≡◌, Bool, cond, ◌||◌, eqb, leb, ltb, ℤ}
use Rattle.event.specs.declared.Event.{Event}
use Rattle.event.specs.Limits.{threads, marks}
use Rattle.command.specs.Reading.{operation_of}

-- an event as it is handed over, whatever its numbers
pub record Numbers : Type 0 where
  pub thread : ℕ
  pub operation : ℕ
  pub object : ℕ
  pub height : ℤ

abbrev pub handed_over : ℕ → ℕ → ℕ → ℤ → Numbers
handed_over t b object height = record { thread = t; operation = b; object = object; height = height }

-- "byte | event": a number that is the byte of no event, which "3 | byte above 07" refuses; so is 0, which closes a log and is none
abbrev pub no_operation : ℕ → Bool
no_operation b = eqb b 0 || ltb 7 b

-- the event of the numbers, whether or not they are within their limits
abbrev pub event_from : Numbers → Event
event_from n = record { thread = n.thread; operation = operation_of n.operation n.object n.height }

-- the object fits the one byte that every event but a mark gives it
abbrev pub Narrow : ℕ → ℕ → Type 0
Narrow b object = (b ≡ 7 → ⊥) → object < 256

-- the refusal of numbers that no event of a log can have: 3, then 5, then 6; 0 where there is such an event
abbrev pub unfit_by : ℕ → ℕ → ℕ → ℕ
unfit_by t b object =
    cond (eqb b 0) 3
    (cond (ltb 7 b) 3
    (cond (leb threads t) 5
    (cond (leb marks object) 6
    (cond (eqb b 7) 0
    (cond (leb 256 object) 6 0)))))
