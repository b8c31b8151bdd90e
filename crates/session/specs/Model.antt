-- What opening, an event and the verdict make of a session, for every session.
use Rattle.std.specs.Prelude.{ℕ, ◌+◌, Bool, cond, List, [], ◌∷◌, eqb, replicate, Option, Some, None, Result, Ok, Err}
use Rattle.event.specs.declared.Event.{Event}
use Rattle.event.specs.declared.Slot.{Slot}
use Rattle.event.specs.declared.refusal.Refused.{Refused}
use Rattle.event.specs.Refusals.{reason_of}
use Rattle.event.specs.Slots.{fitting, threads_of}
use Rattle.rules.specs.State.{state_size, refusal_by, state_after}
use Rattle.event_log.specs.declared.Pattern.{Pattern}
use Rattle.event_log.specs.Whole.{Whole, accepted, refused, blank}
use Rattle.clock.specs.Rows.{size as clock_size}
use Rattle.clock.specs.Clocks.{stamp_by, clocks_after}
use Rattle.table.specs.Table.{offered, fresh_table, found_in, numbers_in}
use Rattle.session.specs.declared.Session.{Session}
use Rattle.session.specs.declared.Handed.{Handed}
use Rattle.session.specs.declared.Verdict.{Verdict}

-- ---- opening

-- the slots that a session looks for: those of the pattern, or, "A refused opening hands back .. the session opened on the lone slot thread 0, mark 0"
abbrev pub slots_used : Whole Slot → List Slot
slots_used (accepted ss) = ss
slots_used (refused k o) = blank ∷ []

-- what a session keeps of the events taken, beside its pattern
pub record Kept : Type 0 where
  pub state : List ℕ
  pub clocks : List ℕ
  pub table : List ℕ
  pub taken : ℕ
  pub count : ℕ

abbrev pub kept_of : Session → Kept
kept_of s = record { state = s.state; clocks = s.clocks; table = s.table; taken = s.taken; count = s.count }

abbrev pub session_on : Pattern → Kept → Session
session_on p k = record { pattern = p; state = k.state; clocks = k.clocks; table = k.table; taken = k.taken; count = k.count }

-- "with no event taken"
abbrev pub fresh_kept : Kept
fresh_kept = record { state = replicate state_size 0; clocks = replicate clock_size 0; table = fresh_table; taken = 0; count = 0 }

abbrev pub fresh_on : Pattern → Session
fresh_on p = session_on p fresh_kept

-- ---- an event; of the pattern it takes the thread of each slot, which slots the event fits, and how many slots there are

-- the table once the event has been offered
abbrev pub table_after : List ℕ → List Bool → ℕ → Kept → Event → List ℕ
table_after acting fit size k e = offered k.table acting fit size e.thread (stamp_by k.clocks e) (k.taken + 1)

-- what is kept once the event is taken: with a match, only the rules go on
unfoldable pub kept_advanced : List ℕ → List Bool → ℕ → Kept → Event → Kept
kept_advanced acting fit size k e =
    cond (eqb k.count 0)
    (record {
      state = state_after k.state k.taken e;
      clocks = clocks_after k.clocks e;
      table = table_after acting fit size k e;
      taken = k.taken + 1;
      count = cond (found_in (table_after acting fit size k e) size) (k.taken + 1) 0;
    })
    (record { state = state_after k.state k.taken e; clocks = k.clocks; table = k.table; taken = k.taken + 1; count = k.count })

-- what is kept once the event has been handed over: a refused one leaves it as it was
unfoldable pub kept_after : List ℕ → List Bool → ℕ → Kept → Event → Kept
kept_after acting fit size k e = cond (eqb (refusal_by k.state k.taken e) 0) (kept_advanced acting fit size k e) k

-- the same of a session
unfoldable pub advanced : Session → Event → Session
advanced s e =
    session_on s.pattern (kept_advanced (threads_of s.pattern.slots) (fitting s.pattern.slots e) s.pattern.size (kept_of s) e)

-- the answer that gives a number: "its offset is 0 for a session"
abbrev pub answer_by : ℕ → Result Unit Refused
answer_by k = cond (eqb k 0) (Ok tt) (Err (record { reason = reason_of k; offset = 0 }))

unfoldable pub handed : Session → Event → Handed
handed s e =
    record {
      answer = answer_by (refusal_by s.state s.taken e);
      session = session_on s.pattern (kept_after (threads_of s.pattern.slots) (fitting s.pattern.slots e) s.pattern.size (kept_of s) e);
    }

-- the session after each event of a list in turn
unfoldable pub handed_all : Session → List Event → Session
handed_all s [] = s
handed_all s (e ∷ es) = handed_all (handed s e).session es

-- ---- the verdict

abbrev pub found_at : ℕ → Option ℕ
found_at n = cond (eqb n 0) None (Some n)

-- what a session has found: the count, and the numbers in the table
abbrev pub verdict_of : Session → Verdict
verdict_of s = record { found = found_at s.count; numbers = numbers_in s.table s.pattern.size }
