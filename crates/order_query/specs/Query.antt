-- "An order query takes a log and two event numbers"; it "now answers same for one event asked twice, before where the first comes before the second,
-- after where the second comes before the first, else free" (document 02, Note 2).
use Rattle.std.specs.Prelude.{ℕ, ◌<◌, ◌≤◌, ◌≡◌, List, length, Result, Ok, Err}
use Rattle.event.specs.declared.Event.{Event}
use Rattle.event.specs.Refusals.{refusal_number}
use Rattle.event_log.specs.Whole.{read_log, accepted, refused}
use Rattle.relation.specs.declared.Relation.{Relation}
use Rattle.relation.specs.Relation.{Relates}
use Rattle.order_query.specs.declared.QueryRefusal.{QueryRefusal}
use Rattle.order_query.specs.declared.QueryRefusal.TheVariants.{Log, Query}

-- the outcome: how the first event stands to the second, a refusal of the log, or one of the query; each refusal with its number and offset
pub data OrderAnswer : Type 0 where
  related : Relation → OrderAnswer
  log_refused query_refused : ℕ → ℕ → OrderAnswer

-- which outcome each case of the program's answer stands for
abbrev pub order_is : Result Relation QueryRefusal → OrderAnswer
order_is (Ok r) = related r
order_is (Err (Log r)) = log_refused (refusal_number r.reason) r.offset
order_is (Err (Query r)) = query_refused (refusal_number r.reason) r.offset

-- the number of an event of the list: "Events are numbered from 1"
abbrev pub IsNumber : List Event → ℕ → Type 0
IsNumber es i = (0 < i) × (i ≤ length es)

-- what is answered for a log's bytes and two event numbers: the log's refusal; then
-- "16 | after the log passes: an event number of 0 or above its count; offset 0"; then how the first event stands to the second
pub data Answers (bytes : List ℕ) (i j : ℕ) : OrderAnswer → Type 0 where
  refused_log : {k o : ℕ} → read_log bytes ≡ refused k o → Answers bytes i j (log_refused k o)
  no_number : {es : List Event} → read_log bytes ≡ accepted es → ¬ (IsNumber es i × IsNumber es j) → Answers bytes i j (query_refused 16 0)
  relates : {es : List Event} {r : Relation} → read_log bytes ≡ accepted es → IsNumber es i → IsNumber es j → Relates es i j r → Answers bytes i j (related r)
