-- What a session is described by, and what its verdict means.
use Rattle.std.specs.Prelude.{ℕ, suc, ◌≤◌, ◌≡◌, ◌↔◌, true, List, [], ◌++◌, reverse, length, get_or, take, replicate}
use Rattle.event.specs.declared.Event.{Event}
use Rattle.event.specs.declared.Slot.{Slot}
use Rattle.event.specs.Limits.{threads, slots}
use Rattle.event.specs.Slots.{fits}
use Rattle.rules.specs.Accepted.{Accepted, taken_after}
use Rattle.rules.specs.State as rules
use Rattle.event_log.specs.Whole.{GoodPattern, pattern_of, accepted, refused, read_log_under, read_pattern, read_pattern_under, outcome_of, passing_is}
use Rattle.clock.specs.Arrivals as clock
use Rattle.table.specs.Keeps.{Keeps}
use Rattle.dependence.specs.Order.{HasMatch, IsCount, Named, IsFirst}
use Rattle.session.specs.declared.Session.{Session}
use Rattle.session.specs.declared.Opened.{Opened}
use Rattle.session.specs.Answers.{refusal, Ruling, no_ruling, Refused, nothing, log, Given}
use Rattle.session.specs.Model.{slots_used, fresh_on}

-- the events taken, in order, once e has been handed over
abbrev pub taken_by : List Event → Event → List Event
taken_by es e = reverse (taken_after (reverse es) e)

-- what is kept for the verdict: no match yet, and all is kept of the events; or the count, and what the table kept of the leading events
pub data Searched (ss : List Slot) (es : List Event) (clocks table : List ℕ) : ℕ → Type 0 where
  searching : clock.ClocksOf es clocks → Keeps fits ss es table → ¬ HasMatch ss es → Searched ss es clocks table 0
  matched : {n : ℕ} (lead later : List Event) → es ≡ lead ++ later → length lead ≡ suc n → IsCount ss lead (suc n) → Keeps fits ss lead table
      → Searched ss es clocks table (suc n)

-- "A session is described by its pattern and the events it has taken."
pub record Describes (ss : List Slot) (es : List Event) (s : Session) : Type 0 where
  pub good : GoodPattern ss
  pub pattern : s.pattern ≡ pattern_of ss
  pub taken : s.taken ≡ length es
  pub accepted : Accepted es
  pub state : rules.StateOf (reverse es) s.state
  pub search : Searched ss es s.clocks s.table s.count

-- "A session's verdict covers the events taken so far: match with the smallest count of leading events that suffices and one event number per slot,
-- or none with count 0 and all slot numbers 0." "Numbers beyond the pattern's length are 0."
pub record VerdictOf (ss : List Slot) (es : List Event) (r : Ruling) : Type 0 where
  pub matches : (r.matches ≡ true) ↔ HasMatch ss es
  pub count : IsCount ss es r.count
  pub named : HasMatch ss es → Named ss es r.count (take (length ss) r.events)
  pub without : ¬ HasMatch ss es → r.events ≡ replicate slots 0
  pub beyond : (j : ℕ) → length ss ≤ j → get_or r.events j 0 ≡ 0

-- what an opening gives: the pattern's own answer, and a session on its slots, or on the lone slot, with no event taken
pub record OpenedOn (bytes : List ℕ) (r : Opened) : Type 0 where
  pub answer : passing_is r.answer ≡ outcome_of (read_pattern bytes)
  pub session : r.session ≡ fresh_on (pattern_of (slots_used (read_pattern bytes)))
  pub described : Describes (slots_used (read_pattern bytes)) [] r.session

-- what a run over a log gives, its pattern accepted: "A refusal anywhere in the log wins over a match before it."
-- "From now on a run names the first": "For runs the freedom in choosing slot events is gone."
-- The limit of threads is a parameter of what is read, so that two limits can be compared; the names without it are the instances at `threads`.
pub data RunOnUnder (limit : ℕ) (ss : List Slot) (bytes : List ℕ) : Given → Type 0 where
  log_refused : {k o : ℕ} → read_log_under limit bytes ≡ refused k o
      → RunOnUnder limit ss bytes (record { refused = log; refusal = refusal k o; ruling = no_ruling })
  judged : {es : List Event} {r : Ruling} → read_log_under limit bytes ≡ accepted es → VerdictOf ss es r
      → (HasMatch ss es → IsFirst ss es r.count (take (length ss) r.events))
      → RunOnUnder limit ss bytes (record { refused = nothing; refusal = refusal 0 0; ruling = r })

abbrev pub RunOn : List Slot → List ℕ → Given → Type 0
RunOn ss bytes g = RunOnUnder threads ss bytes g

-- "the pattern is read before the log"
pub data RunOfUnder (limit : ℕ) (pattern bytes : List ℕ) : Given → Type 0 where
  pattern_refused : {k o : ℕ} → read_pattern_under limit pattern ≡ refused k o
      → RunOfUnder limit pattern bytes (record { refused = Refused.pattern; refusal = refusal k o; ruling = no_ruling })
  over_log : {ss : List Slot} {g : Given} → read_pattern_under limit pattern ≡ accepted ss → RunOnUnder limit ss bytes g
      → RunOfUnder limit pattern bytes g

abbrev pub RunOf : List ℕ → List ℕ → Given → Type 0
RunOf pattern bytes g = RunOfUnder threads pattern bytes g
