-- Demand 3 for sessions in parts and for exported runs: what is so for every list of events in numbers, the whole list and not each call.
-- Beside it, what an event that fits no slot leaves as it was, what every exported reason says, and what every exported replay shows.
use Rattle.std.specs.Prelude.{ℕ, suc, ◌≡◌, List, [], ◌∷◌, ◌++◌, reverse, map, ℤ, pos, length, replicate, take, Some}
use Rattle.event.specs.declared.Operation.{Operation}
use Rattle.event.specs.declared.Operation.TheVariants.{Read, Write, Acquire, Release, Fork, Join, Mark}
use Rattle.event.specs.declared.Event.{Event}
use Rattle.event.specs.declared.Slot.{Slot}
use Rattle.event.specs.Limits.{slots as slot_limit}
use Rattle.event.specs.Places.{in_places}
use Rattle.event.specs.Slots.{byte_of, object_of, without_height}
use Rattle.rules.specs.Accepted.{Accepted}
use Rattle.event_log.specs.Whole.{Heights, accepted, log_bytes, read_log, read_pattern}
use Rattle.trace.specs.Reason.{Obstacle}
use Rattle.dependence.specs.Order.{Reaches, HasMatch, Reason}
use Rattle.session.specs.Answers.{nothing}
use Rattle.session.specs.Model.{slots_used}
use Rattle.session.specs.Meaning.{VerdictOf}
use Rattle.verdict_reason.specs.Reasons.{cause_is, cause_of}
use Rattle.replay_log.specs.Shows.{Shows}
use Rattle.event_numbers.specs.EventNumbers.{Numbers, handed_over, event_from}
use Rattle.bilguzor.specs.declared.Judgement.{Judgement}
use Rattle.bilguzor.specs.declared.Parts.{Parts}
use Rattle.bilguzor.specs.declared.Reasoned.{Reasoned}
use Rattle.bilguzor.specs.Numbers.{kind_of, RunNumbers, reasoned_of, ReasonNumbers}
use Rattle.bilguzor.specs.Sessions.{InParts, opened_parts, number_in, parts_after, refusal_of, taken_with, said_in}

-- the parts, and the number that each event gets, handed over one after another
unfoldable pub parts_all : Parts → List Numbers → Parts
parts_all p [] = p
parts_all p (n ∷ ns) = parts_all (parts_after p n) ns

unfoldable pub answers_all : Parts → List Numbers → List ℕ
answers_all p [] = []
answers_all p (n ∷ ns) = number_in p n ∷ answers_all (parts_after p n) ns

-- the same by the rules alone: the events taken, in order, and the numbers
unfoldable pub taken_all : List Event → List Numbers → List Event
taken_all es [] = es
taken_all es (n ∷ ns) = taken_all (taken_with es n) ns

unfoldable pub refusals_all : List Event → List Numbers → List ℕ
refusals_all es [] = []
refusals_all es (n ∷ ns) = refusal_of (reverse es) n ∷ refusals_all (taken_with es n) ns

-- the height of a write, and 0 where there is none
abbrev pub height_in : Operation → ℤ
height_in (Read v) = pos 0
height_in (Write v h) = h
height_in (Acquire l) = pos 0
height_in (Release l) = pos 0
height_in (Fork c) = pos 0
height_in (Join c) = pos 0
height_in (Mark m) = pos 0

-- an event in numbers
abbrev pub in_numbers : Event → Numbers
in_numbers e = handed_over e.thread (byte_of (without_height e.operation)) (object_of (without_height e.operation)) (height_in e.operation)

-- "All orders so reached are accepted and get the same answer, match or none.": "The answer of an order is that of a session opened afresh on the same
-- pattern and handed the order's events, each of which it takes, and that of a run over the log that holds them.": an order of the events taken,
-- handed over in numbers, and the kind of a run on a pattern with the session's slots
pub record SameAnswer (bytes : List ℕ) (numbers : List Numbers) (order : List Event) : Type 0 where
  pub accepted_too : Accepted order
  pub each_taken : answers_all (opened_parts bytes) (map in_numbers order) ≡ replicate (length order) 0
  pub all_taken : taken_all [] (map in_numbers order) ≡ order
  pub same : (said_in (parts_all (opened_parts bytes) (map in_numbers order))).matches ≡ (said_in (parts_all (opened_parts bytes) numbers)).matches
  pub run_same : Heights order → (pattern : List ℕ) → read_pattern pattern ≡ accepted (slots_used (read_pattern bytes)) → (r : Judgement)
      → RunNumbers pattern (log_bytes order) r → r.kind ≡ kind_of nothing (said_in (parts_all (opened_parts bytes) numbers)).matches

-- "For every list of events, good or bad, handed one after another to a session fresh from its opening": the number of each, the events taken,
-- "after each event", each list being the leading part of longer ones, the verdict; and every order reached from the events taken
pub record EveryHistory (bytes : List ℕ) (numbers : List Numbers) : Type 0 where
  pub answers : answers_all (opened_parts bytes) numbers ≡ refusals_all [] numbers
  pub taken : Accepted (taken_all [] numbers)
  pub verdict : VerdictOf (slots_used (read_pattern bytes)) (taken_all [] numbers) (said_in (parts_all (opened_parts bytes) numbers))
  pub orders : (order : List Event) → Reaches (taken_all [] numbers) order → SameAnswer bytes numbers order

-- the same for runs: where one refuses nothing, a run over the log of every order reached has the same kind, a match or none
pub record EveryRun (pattern log : List ℕ) (r : Judgement) : Type 0 where
  pub events : List Event
  pub reads : read_log log ≡ accepted events
  pub orders : (order : List Event) → Reaches events order → (s : Judgement) → RunNumbers pattern (log_bytes order) s → s.kind ≡ r.kind

-- Note 4: "an event that is taken and fits no slot leaves the verdict, and what is kept of partial matches, as they were", after every list of events in
-- numbers; the parts are then those of a session that has taken it too
pub record EveryUnmoved (bytes : List ℕ) (numbers : List Numbers) (n : Numbers) : Type 0 where
  pub verdict_stays : said_in (parts_all (opened_parts bytes) (numbers ++ (n ∷ []))) ≡ said_in (parts_all (opened_parts bytes) numbers)
  pub partial_matches_stay : (parts_all (opened_parts bytes) (numbers ++ (n ∷ []))).table ≡ (parts_all (opened_parts bytes) numbers).table
  pub taken_too : InParts (slots_used (read_pattern bytes)) (taken_all [] numbers ++ (event_from n ∷ [])) (parts_all (opened_parts bytes) (numbers ++ (n ∷ [])))

-- what is so where the call for a reason says no match: the log's events have the reason with these numbers, and so no match; and its contract allows no
-- other answer
pub record EveryReason (pattern log : List ℕ) (r : Reasoned) : Type 0 where
  pub slots : List Slot
  pub events : List Event
  pub slots_are : read_pattern pattern ≡ accepted slots
  pub reads : read_log log ≡ accepted events
  pub first : List ℕ
  pub obstacle : Obstacle
  pub why : Reason slots events first obstacle
  pub numbers : r ≡ reasoned_of r.judgement (cause_is (Some (cause_of (suc (length first)) obstacle))) (in_places 0 slot_limit first)
  pub without : ¬ HasMatch slots events
  pub only : (s : Reasoned) → ReasonNumbers pattern log s → s ≡ r

-- what is so where a replay says match and gives the length n: the first n bytes of the buffer afterwards are a log that shows the pattern, and a run
-- over them with the same pattern says match
pub record EveryReplay (pattern log : List ℕ) (n : ℕ) (after : List ℕ) : Type 0 where
  pub slots : List Slot
  pub events : List Event
  pub slots_are : read_pattern pattern ≡ accepted slots
  pub reads : read_log log ≡ accepted events
  pub as_long : n ≡ length log
  pub shows : Shows pattern slots events log (take n after)
  pub again : (s : Judgement) → RunNumbers pattern (take n after) s → s.kind ≡ 1
