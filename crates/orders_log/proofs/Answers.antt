-- What the calls answer is so by the definitions.
use Prim.Native.Nat.{ℕ, suc, ◌+◌, ◌≤◌, ◌<◌}
use native.Mathlib.Omega.{arith}
use native.Mathlib.Numerals.{add-one}
use mathlib.Core.Path.{◌≡◌, refl, sym, ap, ◌∙◌}
use mathlib.Core.Option.{Option, some, none}
use mathlib.Core.List.{List, [], ◌∷◌, ◌++◌}
use lib.ListN.{length, take, set}
use lib.Seq.{take-suc, length-take-le}
use Rattle.std.specs.Prelude.{Option as Maybe, Some, Result, Ok, Err}
use Rattle.event.specs.declared.Event.{Event}
use Rattle.event.specs.declared.refusal.Refused.{Refused}
use Rattle.event.specs.declared.refusal.Refusal.TheVariants.{NoOrder, TooManyToOrder}
use Rattle.event.specs.Slots.{no_event}
use Rattle.event.specs.Places.{in_places}
use Rattle.event.specs.Refusals.{refusal_number}
use Rattle.event.proofs.Places.{next_place, places_first}
use Rattle.trace.specs.Before.{Numbered}
use Rattle.trace.specs.Tuples.{event_at, dep_at}
use Rattle.trace.proofs.Numbers.{at_numbered}
use Rattle.trace.proofs.Runs.{run}
use Rattle.event_log.specs.Whole.{Whole, accepted, refused, read_log, Passing, passed, outcome_of, passing_is}
use Rattle.dependence.specs.Dependence.{dependent}
use Rattle.enumeration.specs.Computed.{next_order}
use Rattle.enumeration.proofs.OrderLists.{first_is, next_is, order_sized}
use Rattle.order_rows.specs.Rows.{order_places, order_row, next_row, dependent_in}
use Rattle.order_rows.proofs.Events.{dependent_in_lem}
use Rattle.orders_log.specs.declared.OrdersRefusal.{OrdersRefusal}
use Rattle.orders_log.specs.OrderCalls.{IsRow, Giving, order, afterwards, orders_refused, ShortLog, Unlisted, refused_log, long_log, FirstGives, first, no_order, after, NextGives, short_log, refusal_is, given_is, by_row, GivesSo}

-- ---- a log's first events

pub events_step : (es : List Event) (n : ℕ) (events : List Event) (e : Event) → n < length es → length es ≤ order_places → events ≡ in_places no_event order_places (take n es)
    → e ≡ event_at no_event es (suc n) → set events n e ≡ in_places no_event order_places (take (n + 1) es)
events_step es n events e l few p q =
    let m : length (take n es) ≡ n = length-take-le n es (omega arith) in
    let s : set (in_places no_event order_places (take n es)) (length (take n es)) e ≡ in_places no_event order_places (take n es ++ (e ∷ [])) =
    next_place no_event order_places (take n es) e (omega arith) in
    rw (p, add-one n, take-suc es n no_event l, sym q) (ap (λ k. set (in_places no_event order_places (take n es)) k e) (sym m) ∙ s)

pub event_is : (es : List Event) (n : ℕ) → n < length es → Numbered es (suc n) (event_at no_event es (suc n))
event_is es n l = at_numbered no_event es (suc n) (omega arith)

-- ---- what reading the log says

abbrev CaseOf : Whole Event → Passing → Type 0
CaseOf w (passed n) = (es : List Event) × (w ≡ accepted es) × (n ≡ length es)
CaseOf w (Passing.refused k o) = w ≡ refused k o

log_case : (w : Whole Event) (p : Passing) → p ≡ outcome_of w → CaseOf w p
log_case (accepted es) p e = rw e (es, refl, refl)
log_case (refused k o) p e = rw e refl

module _ (bytes : List ℕ) {read : Result ℕ Refused} (e : passing_is read ≡ outcome_of (read_log bytes)) where
  pub log_broken : {r : Refused} → read ≡ Err r → Unlisted bytes (refusal_is (OrdersRefusal.Log r))
  log_broken q = refused_log (rw q at (log_case (read_log bytes) (passing_is read) e))

  log_passed : {n : ℕ} → read ≡ Ok n → (es : List Event) × (read_log bytes ≡ accepted es) × (n ≡ length es)
  log_passed q = rw q at (log_case (read_log bytes) (passing_is read) e)

  pub log_long : {n : ℕ} → read ≡ Ok n → order_places < n → (r : Refused) → r ≡ record { reason = TooManyToOrder; offset = 0 }
      → Unlisted bytes (orders_refused (refusal_number r.reason) r.offset)
  log_long q l r z = let p = log_passed q in rw z (long_log p.1 (let m = p.2 in omega arith))

-- ---- what the calls give

module _ {bytes : List ℕ} where
  -- an answer without an order is of both forms
  stays : {a : Giving} → Unlisted bytes a → by_row a ≡ a
  stays (refused_log p) = refl
  stays (long_log p l) = refl

  pub first_refused : (r : OrdersRefusal) → Unlisted bytes (refusal_is r) → GivesSo (FirstGives bytes) (Err r)
  first_refused r u = record { what = refusal_is r; so = FirstGives.unlisted u; answer = sym (stays u) }

  pub next_refused : {row : List ℕ} (r : OrdersRefusal) → Unlisted bytes (refusal_is r) → GivesSo (NextGives bytes row) (Err r)
  next_refused {row} r u = record { what = refusal_is r; so = NextGives.unlisted u; answer = sym (stays u) }

  module _ {n : ℕ} (s : ShortLog bytes n) where
    few_events : length s.events ≤ order_places
    few_events = let h = s.sized in let l = s.few in omega arith

    pub first_given : {row : List ℕ} → row ≡ order_row (run 1 n) → GivesSo (FirstGives bytes) (Ok (Some row))
    first_given e =
        record {
          what = order (run 1 (length s.events));
          so = first s.accepts few_events (first_is no_event dependent s.events);
          answer = ap (λ r. order r) (rw s.sized at e);
        }

    pub no_row_given : {row : List ℕ} {r : Refused} → ¬ IsRow s.events row → r ≡ record { reason = NoOrder; offset = 0 } → GivesSo (NextGives bytes row) (Err (OrdersRefusal.Orders r))
    no_row_given d e = rw e (record { what = orders_refused 26 0; so = short_log s.accepts few_events (no_order d); answer = refl })

    -- what is given after an order among the events
    pub next_given : {row : List ℕ} {events : List Event} {r : Maybe (List ℕ)} → IsRow s.events row → length row ≡ order_places → events ≡ in_places no_event order_places s.events
        → r ≡ next_row (next_order (length (take n row)) (dependent_in events) (take n row)) → GivesSo (NextGives bytes row) (Ok r)
    next_given {row} {events} {r} (o, h, e) l p f =
        let m : length o ≡ length s.events = (order_sized no_event dependent s.events o h).0 in
        let t : take n row ≡ o = rw (s.sized, sym m, e) (places_first 0 order_places o) in
        let g : next_order (length (take n row)) (dependent_in events) (take n row) ≡ next_order (length s.events) (dep_at no_event dependent s.events) o =
        rw (t, p, dependent_in_lem s.events few_events, m) in
        record {
          what = afterwards (next_order (length s.events) (dep_at no_event dependent s.events) o);
          so = short_log s.accepts few_events (after h e (next_is no_event dependent s.events o h));
          answer = rw (f, g) (row_after (next_order (length s.events) (dep_at no_event dependent s.events) o));
        }
      where
        row_after : (q : Option (List ℕ)) → given_is (Ok (next_row q)) ≡ by_row (afterwards q)
        row_after (some q) = refl
        row_after none = refl
