-- The numbers that a run, a reason, a replay and an order query answer.
use Rattle.std.specs.Prelude.{ℕ, ◌≡◌, Bool, cond, List, Option}
use Rattle.session.specs.Answers.{Refused, nothing, Given}
use Rattle.session.specs.Meaning.{RunOf}
use Rattle.verdict_reason.specs.declared.Cause.{Cause}
use Rattle.verdict_reason.specs.Reasons.{Stated, cause_is, ReasonOf}
use Rattle.replay_log.specs.Replay.{ReplayOf}
use Rattle.relation.specs.declared.Relation.{Relation}
use Rattle.relation.specs.declared.Relation.TheVariants.{Same, Before, After, Free}
use Rattle.order_query.specs.Query.{OrderAnswer, related, log_refused, query_refused, Answers}
use Rattle.bilguzor.specs.declared.Judgement.{Judgement}
use Rattle.bilguzor.specs.declared.Reasoned.{Reasoned}
use Rattle.bilguzor.specs.declared.Replayed.{Replayed}
use Rattle.bilguzor.specs.declared.Ordering.{Ordering}

-- the header's number of this library's answers and layouts
abbrev pub version : ℕ
version = 6

-- The kinds: 0 none, 1 a match, 2 the pattern is refused, 3 the log is refused.
abbrev pub kind_of : Refused → Bool → ℕ
kind_of nothing matches = cond matches 1 0
kind_of Refused.pattern matches = 2
kind_of Refused.log matches = 3

-- what a run gives, in numbers: "A refusal returns its number and the offset of the first byte of the command concerned, other fields 0."
abbrev pub judgement_of : Given → Judgement
judgement_of g =
    record {
      kind = kind_of g.refused g.ruling.matches;
      number = g.refusal.number;
      events = g.ruling.events;
      count = g.ruling.count;
      offset = g.refusal.offset;
    }

-- "A run takes a pattern and a log, both lent.": what it gives, in numbers
pub record RunNumbers (pattern log : List ℕ) (r : Judgement) : Type 0 where
  pub given : Given
  pub run : RunOf pattern log given
  pub numbers : r ≡ judgement_of given

-- a reason's numbers
abbrev pub reasoned_of : Judgement → Stated → List ℕ → Reasoned
reasoned_of j t events = record { judgement = j; slot = t.slot; last = t.last; earlier = t.earlier; events = events }

-- "Where there is no match: the number k of the first slot that can't be filled, the first events for slots 1 to k-1 .., and one of two cases: no event of
-- the log fits slot k; or the number of the LAST event that fits slot k and the lowest slot i below k whose event it comes before or is.": what the call
-- gives, in numbers
pub record ReasonNumbers (pattern log : List ℕ) (r : Reasoned) : Type 0 where
  pub given : Given
  pub cause : Option Cause
  pub events : List ℕ
  pub reason : ReasonOf pattern log given cause events
  pub numbers : r ≡ reasoned_of (judgement_of given) (cause_is cause) events

-- "On a match, write into a lent buffer a whole log holding the same events in an order that shows the pattern.": what the call gives, in numbers, the
-- length given, and the buffer afterwards
pub record ReplayNumbers (pattern log before : List ℕ) (r : Replayed) (after : List ℕ) : Type 0 where
  pub given : Given
  pub replay : ReplayOf pattern log before given r.length after
  pub numbers : r.judgement ≡ judgement_of given

-- The kinds: 5 same, 6 before, 7 after, 8 free.
abbrev pub relation_kind : Relation → ℕ
relation_kind Same = 5
relation_kind Before = 6
relation_kind After = 7
relation_kind Free = 8

-- The kinds: those, 3 the log is refused, 4 the query is refused.
abbrev pub ordering_of : OrderAnswer → Ordering
ordering_of (related r) = record { kind = relation_kind r; number = 0; offset = 0 }
ordering_of (log_refused k o) = record { kind = 3; number = k; offset = o }
ordering_of (query_refused k o) = record { kind = 4; number = k; offset = o }

-- "An order query takes a log and two event numbers": its outcome, in numbers
pub record OrderNumbers (log : List ℕ) (first second : ℕ) (r : Ordering) : Type 0 where
  pub outcome : OrderAnswer
  pub answers : Answers log first second outcome
  pub numbers : r ≡ ordering_of outcome
