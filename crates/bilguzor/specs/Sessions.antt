-- What opening, an event in numbers and the verdict answer of a session in parts.
use Rattle.std.specs.Prelude.{ℕ, ◌≡◌, cond, List, reverse}
use Rattle.event.specs.declared.Event.{Event}
use Rattle.event.specs.declared.Slot.{Slot}
use Rattle.event.specs.Slots.{slot_of}
use Rattle.event.specs.Keys.{slot_number}
use Rattle.rules.specs.Accepted.{refusal_after}
use Rattle.rules.specs.State.{refusal_by}
use Rattle.event_log.specs.Whole.{Passing, passed, refused, outcome_of, pattern_of, read_pattern}
use Rattle.table.specs.Table.{numbers_in}
use Rattle.session.specs.declared.Session.{Session}
use Rattle.session.specs.Answers.{Ruling, found_is}
use Rattle.session.specs.Model.{slots_used, fresh_on, kept_after, found_at}
use Rattle.session.specs.Meaning.{Describes, taken_by}
use Rattle.event_numbers.specs.EventNumbers.{Numbers, no_operation, event_from}
use Rattle.event_numbers.specs.SlotNumbers.{acting_in, fitting_in}
use Rattle.bilguzor.specs.declared.Answer.{Answer}
use Rattle.bilguzor.specs.declared.Opening.{Opening}
use Rattle.bilguzor.specs.declared.Parts.{Parts}
use Rattle.bilguzor.specs.Parts.{parts_of, kept_in, parts_with}

-- the parts are those of a session that has this pattern and has taken these events: "A session comes only from opening or from an earlier event"
pub record InParts (ss : List Slot) (es : List Event) (p : Parts) : Type 0 where
  pub session : Session
  pub is : p ≡ parts_of session
  pub describes : Describes ss es session

-- ---- opening

-- "A refusal returns its number and the offset .., other fields 0."
abbrev pub opening_from : Passing → Parts → Opening
opening_from (passed n) p = record { number = 0; offset = 0; slots = n; session = p }
opening_from (refused k o) p = record { number = k; offset = o; slots = 0; session = p }

-- "A refused opening hands back, beside the refusal, the session opened on the lone slot thread 0, mark 0, with no event taken."
abbrev pub opened_parts : List ℕ → Parts
opened_parts bytes = parts_of (fresh_on (pattern_of (slots_used (read_pattern bytes))))

abbrev pub opening_of : List ℕ → Opening
opening_of bytes = opening_from (outcome_of (read_pattern bytes)) (opened_parts bytes)

-- ---- an event in numbers

-- "A single event handed to a session .. passes 5 to 7 first; its offset is 0": 3 goes before. The number, and the parts afterwards
unfoldable pub number_in : Parts → Numbers → ℕ
number_in p n = cond (no_operation n.operation) 3 (refusal_by p.state p.taken (event_from n))

unfoldable pub parts_after : Parts → Numbers → Parts
parts_after p n =
    cond (no_operation n.operation) p
    (parts_with p (kept_after (acting_in p.slots) (fitting_in p.slots (slot_number (slot_of (event_from n)))) p.size (kept_in p) (event_from n)))

-- the same by the rules alone: the number by the events taken before, the newest first; and the events taken after it, in order
unfoldable pub refusal_of : List Event → Numbers → ℕ
refusal_of past n = cond (no_operation n.operation) 3 (refusal_after past (event_from n))

unfoldable pub taken_with : List Event → Numbers → List Event
taken_with es n = cond (no_operation n.operation) es (taken_by es (event_from n))

-- what is answered to an event in numbers, and what is left of the parts, for any parts and for those of a session
pub record Takes (before : Parts) (n : Numbers) (r : Answer) (after : Parts) : Type 0 where
  pub answer : r ≡ record { number = number_in before n; offset = 0 }
  pub parts : after ≡ parts_after before n
  pub history : (ss : List Slot) (es : List Event) → InParts ss es before → (r.number ≡ refusal_of (reverse es) n) × InParts ss (taken_with es n) after

-- ---- the verdict

abbrev pub ruling_in : List ℕ → ℕ → ℕ → Ruling
ruling_in table count size = found_is (found_at count) (numbers_in table size)

abbrev pub said_in : Parts → Ruling
said_in p = ruling_in p.table p.count p.size
