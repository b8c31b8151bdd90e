-- What a call for an order gives, in numbers; and what a row of such calls gives.
use Rattle.std.specs.Prelude.{ℕ, zero, suc, ◌<◌, ◌≡◌, List, replicate}
use Rattle.event.specs.declared.Event.{Event}
use Rattle.trace.specs.First.{Smaller}
use Rattle.order_rows.specs.Rows.{order_places, order_row}
use Rattle.orders_log.specs.OrderCalls.{IsOrder, Giving, order, last, log_refused, orders_refused, IsRow, FirstGives, NextGives, SaysSo}
use Rattle.bilguzor_orders.specs.declared.OrderRow.{OrderRow}

-- "places beyond the log's events are 0, and all are 0 after the last"; a kind of its own says which; after a refusal "other fields 0"
abbrev pub order_numbers : Giving → OrderRow
order_numbers (order o) = record { kind = 9; number = 0; events = order_row o; offset = 0 }
order_numbers last = record { kind = 10; number = 0; events = replicate order_places 0; offset = 0 }
order_numbers (log_refused k o) = record { kind = 3; number = k; events = replicate order_places 0; offset = o }
order_numbers (orders_refused k o) = record { kind = 4; number = k; events = replicate order_places 0; offset = o }

-- the same of what an answer gives, an order by its row
abbrev pub numbers_given : Giving → OrderRow
numbers_given (order row) = record { kind = 9; number = 0; events = row; offset = 0 }
numbers_given last = record { kind = 10; number = 0; events = replicate order_places 0; offset = 0 }
numbers_given (log_refused k o) = record { kind = 3; number = k; events = replicate order_places 0; offset = o }
numbers_given (orders_refused k o) = record { kind = 4; number = k; events = replicate order_places 0; offset = o }

-- ---- all of them

-- "Starting from the first": the answer of call k; each call after the first is handed the events of the answer before it, which had the kind of an order
pub data Answered (bytes : List ℕ) : ℕ → OrderRow → Type 0 where
  first_answer : {r : OrderRow} → SaysSo order_numbers (FirstGives bytes) r → Answered bytes zero r
  next_answer : {k : ℕ} {r s : OrderRow} → Answered bytes k r → r.kind ≡ 9 → SaysSo order_numbers (NextGives bytes r.events) s → Answered bytes (suc k) s

-- "every order reachable by swaps is given, each exactly once", smaller ones first, and then that it was the last
pub record AnswersEveryOrder (bytes : List ℕ) (es : List Event) : Type 0 where
  pub only : {k : ℕ} {r : OrderRow} → Answered bytes k r → r.kind ≡ 9 → IsRow es r.events
  pub every : (o : List ℕ) → IsOrder es o → (k : ℕ) × Answered bytes k (order_numbers (order o))
  pub once : {j k : ℕ} {r s : OrderRow} → Answered bytes j r → Answered bytes k s → r.kind ≡ 9 → s.kind ≡ 9 → r.events ≡ s.events → j ≡ k
  pub rising : {j k : ℕ} {r s : OrderRow} → j < k → Answered bytes j r → Answered bytes k s → r.kind ≡ 9 → s.kind ≡ 9 → Smaller r.events s.events
  pub ending : (k : ℕ) × Answered bytes k (order_numbers last)
