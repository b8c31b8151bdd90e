-- Document 01's order query: "An order query takes a log and two event numbers and answers yes or no." Since Note 2 no program answers so; what
-- it was stays here, so that "The old yes is exactly "same or before"" can be said of it (proofs/OldAnswers.antt).
use Rattle.std.specs.Prelude.{ℕ, ◌≡◌, List}
use Rattle.event.specs.declared.Event.{Event}
use Rattle.event_log.specs.Whole.{read_log, accepted, refused}
use Rattle.dependence.specs.Order.{ComesBefore}
use Rattle.relation.specs.declared.Relation.TheVariants.{Same, Before, After, Free}
use Rattle.order_query.specs.Query.{OrderAnswer, related, IsNumber}
use Rattle.order_query.specs.Query as now

-- the outcome: yes, no, a refusal of the log, or one of the query; each refusal with its number and offset
pub data YesOrNo : Type 0 where
  yes no : YesOrNo
  log_refused query_refused : ℕ → ℕ → YesOrNo

-- what was answered for a log's bytes and two event numbers: the log's refusal; then
-- "16 | after the log passes: an event number of 0 or above its count; offset 0"; then whether the first event comes before the second or is it
pub data AnswersYesOrNo (bytes : List ℕ) (i j : ℕ) : YesOrNo → Type 0 where
  refused_log : {k o : ℕ} → read_log bytes ≡ refused k o → AnswersYesOrNo bytes i j (log_refused k o)
  no_number : {es : List Event} → read_log bytes ≡ accepted es → ¬ (IsNumber es i × IsNumber es j) → AnswersYesOrNo bytes i j (query_refused 16 0)
  before : {es : List Event} → read_log bytes ≡ accepted es → IsNumber es i → IsNumber es j → ComesBefore es i j → AnswersYesOrNo bytes i j yes
  not_before : {es : List Event} → read_log bytes ≡ accepted es → IsNumber es i → IsNumber es j → ¬ ComesBefore es i j → AnswersYesOrNo bytes i j no

-- the old answer for each new one
abbrev pub old_answer : OrderAnswer → YesOrNo
old_answer (related Same) = yes
old_answer (related Before) = yes
old_answer (related After) = no
old_answer (related Free) = no
old_answer (now.log_refused k o) = log_refused k o
old_answer (now.query_refused k o) = query_refused k o
