-- "For a log of 0 to 8 events, a call gives the first order, and another the one after a given order, or says that it was the last." (document 02, Note 13)
use Rattle.std.specs.Prelude.{ℕ, zero, suc, ◌<◌, ◌≤◌, ◌≡◌, List, length, Option as Maybe, Some, None, Result, Ok, Err}
use Rattle.std.proofs.Math.Option.{Option, some, none}
use Rattle.event.specs.declared.Event.{Event}
use Rattle.event.specs.Refusals.{refusal_number}
use Rattle.event_log.specs.Whole.{read_log, accepted, refused}
use Rattle.dependence.specs.Dependence.{dependent}
use Rattle.enumeration.specs.Orders as orders
use Rattle.order_rows.specs.Rows.{order_places, order_row}
use Rattle.orders_log.specs.declared.OrdersRefusal.{OrdersRefusal}
use Rattle.orders_log.specs.declared.OrdersRefusal.TheVariants as case

-- "every order reachable by swaps", "lists of event numbers": a log's events, and the numbers
abbrev pub IsOrder : List Event → List ℕ → Type 0
IsOrder es o = orders.IsOrder dependent es o

-- what a call gives: an order; that the given one was the last; or a refusal, of the log or of what is asked, with its number and offset
pub data Giving : Type 0 where
  order : List ℕ → Giving
  last : Giving
  log_refused orders_refused : ℕ → ℕ → Giving

-- the one after a given order, or that there is none
abbrev pub afterwards : Option (List ℕ) → Giving
afterwards (some o) = order o
afterwards none = last

-- a list that is given stands for an order of the events: "places beyond the log's events are 0"
abbrev pub IsRow : List Event → List ℕ → Type 0
IsRow es row = (o : List ℕ) × IsOrder es o × (row ≡ order_row o)

-- "25, a log of more than 8 events"; "Both are checked after the log, in that order, with offset 0."
pub data Unlisted (bytes : List ℕ) : Giving → Type 0 where
  refused_log : {k o : ℕ} → read_log bytes ≡ refused k o → Unlisted bytes (log_refused k o)
  long_log : {es : List Event} → read_log bytes ≡ accepted es → order_places < length es → Unlisted bytes (orders_refused 25 0)

-- "a call gives the first order": a log's bytes, and what is given
pub data FirstGives (bytes : List ℕ) : Giving → Type 0 where
  unlisted : {a : Giving} → Unlisted bytes a → FirstGives bytes a
  first : {es : List Event} {o : List ℕ} → read_log bytes ≡ accepted es → length es ≤ order_places → orders.FirstAmong (IsOrder es) o
      → FirstGives bytes (order o)

-- "the one after a given order, or says that it was the last"; "26, a given list that is no reachable order": at most eight events, the list, and what is given
pub data NextAmongEvents (es : List Event) (row : List ℕ) : Giving → Type 0 where
  no_order : ¬ IsRow es row → NextAmongEvents es row (orders_refused 26 0)
  after : {o : List ℕ} {r : Option (List ℕ)} → IsOrder es o → row ≡ order_row o → orders.NextAmong (IsOrder es) o r
      → NextAmongEvents es row (afterwards r)

-- "and another the one after a given order": a log's bytes, the list, and what is given
pub data NextGives (bytes row : List ℕ) : Giving → Type 0 where
  unlisted : {a : Giving} → Unlisted bytes a → NextGives bytes row a
  short_log : {es : List Event} {a : Giving} → read_log bytes ≡ accepted es → length es ≤ order_places → NextAmongEvents es row a → NextGives bytes row a

-- ---- how the answers say it

-- a log of so many events, at most eight
pub record ShortLog (bytes : List ℕ) (count : ℕ) : Type 0 where
  pub events : List Event
  pub accepts : read_log bytes ≡ accepted events
  pub sized : count ≡ length events
  pub few : count ≤ order_places

-- why no order is given
abbrev pub refusal_is : OrdersRefusal → Giving
refusal_is (case.Log r) = log_refused (refusal_number r.reason) r.offset
refusal_is (case.Orders r) = orders_refused (refusal_number r.reason) r.offset

-- what an answer gives, an order by its row
abbrev pub given_is : Result (Maybe (List ℕ)) OrdersRefusal → Giving
given_is (Ok (Some row)) = order row
given_is (Ok None) = last
given_is (Err r) = refusal_is r

-- "places beyond the log's events are 0": an order by its row
abbrev pub by_row : Giving → Giving
by_row (order o) = order (order_row o)
by_row last = last
by_row (log_refused k o) = log_refused k o
by_row (orders_refused k o) = orders_refused k o

-- an answer says, in its own form, something that is so
pub record SaysSo {A : Type 0} (form : Giving → A) (So : Giving → Type 0) (r : A) : Type 0 where
  pub what : Giving
  pub so : So what
  pub answer : r ≡ form what

abbrev pub GivesSo : (Giving → Type 0) → Result (Maybe (List ℕ)) OrdersRefusal → Type 0
GivesSo So r = SaysSo by_row So (given_is r)

-- ---- all of them

-- "Starting from the first": call k gives this; each call after the first is handed the row that the one before it gave
pub data Called (bytes : List ℕ) : ℕ → Giving → Type 0 where
  first_call : {a : Giving} → FirstGives bytes a → Called bytes zero a
  next_call : {k : ℕ} {o : List ℕ} {a : Giving} → Called bytes k (order o) → NextGives bytes (order_row o) a → Called bytes (suc k) a

-- "every order reachable by swaps is given, each exactly once"
abbrev pub GivesEveryOrder : List ℕ → List Event → Type 0
GivesEveryOrder bytes es = orders.GivesAll (IsOrder es) (λ k r. Called bytes k (afterwards r))
