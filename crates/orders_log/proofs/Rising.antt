-- Calls one after another come to an end: what each gives is larger than what it was handed, and rows of eight numbers up to eight are not without end.
use Prim.Native.Nat.{ℕ, zero, suc, ◌-◌, ◌^◌, ◌≤◌, ◌<◌}
use native.Mathlib.Omega.{arith}
use mathlib.Core.Path.{◌≡◌, refl, sym, ap, subst, ◌∙◌}
use mathlib.Core.Option.{some}
use mathlib.Core.List.Memᴰ.{head}
use mathlib.Core.List.Memᴰ.{tail}
use mathlib.Core.List.{List, [], ◌∷◌, ◌++◌, Memᴰ as Mem}
use lib.ListN.{length, replicate}
use Rattle.std.specs.Prelude.{Option as Maybe, Some, Result, Ok}
use Rattle.event.specs.declared.Event.{Event}
use Rattle.event.specs.Slots.{no_event}
use Rattle.event.proofs.Places.{places_length}
use Rattle.trace.specs.First.{Smaller, here, later}
use Rattle.trace.proofs.Lists.{both_ways}
use Rattle.dependence.specs.Dependence.{dependent}
use Rattle.enumeration.specs.Orders.{NextAmong, next}
use Rattle.enumeration.proofs.Enumeration.{rank, rank_bound, rank_smaller}
use Rattle.enumeration.proofs.OrderLists.{order_sized}
use Rattle.order_rows.specs.Rows.{order_places, order_row}
use Rattle.orders_log.specs.declared.OrdersRefusal.{OrdersRefusal}
use Rattle.orders_log.specs.OrderCalls.{IsOrder, Giving, order, last, log_refused, orders_refused, no_order, after, NextAmongEvents, NextGives, short_log, refused_log, long_log, given_is, by_row, GivesSo}
use Rattle.orders_log.proofs.EveryOrder.{is_order, afterwards_one}

-- ---- rows as numbers in base 9

in_row : (o : List ℕ) (m : ℕ) → ((k : ℕ) → Mem k o → k < 9) → (k : ℕ) → Mem k (o ++ replicate m 0) → k < 9
in_row [] zero h k i = elim i [ ]
in_row [] (suc m) h k (head e) = omega arith
in_row [] (suc m) h k (tail i) = in_row [] m h k i
in_row (x ∷ o) m h k (head e) = h k (head e)
in_row (x ∷ o) m h k (tail i) = in_row o m (λ j i. h j (tail i)) k i

smaller_on : {xs ys : List ℕ} (us vs : List ℕ) → Smaller xs ys → Smaller (xs ++ us) (ys ++ vs)
smaller_on us vs (here l) = here l
smaller_on us vs (later s) = later (smaller_on us vs s)

-- a smaller order has a smaller row
pub row_rises : (o q : List ℕ) → Smaller o q → Smaller (order_row o) (order_row q)
row_rises o q s = smaller_on (replicate (order_places - length o) 0) (replicate (order_places - length q) 0) s

-- the second is larger, and below the number of all rows
abbrev Ranked : List ℕ → List ℕ → Type 0
Ranked row larger = (rank 9 row < rank 9 larger) × (rank 9 larger < 9 ^ order_places)

module _ (es : List Event) (few : length es ≤ order_places) where
  numbered : (o : List ℕ) → IsOrder es o → (k : ℕ) → Mem k (order_row o) → k < 9
  numbered o h = in_row o (order_places - length o) (λ k m. let a = ((order_sized no_event dependent es o h).1 k m).1 in omega arith)

  eight : (o : List ℕ) → IsOrder es o → length (order_row o) ≡ order_places
  eight o h = places_length 0 order_places o (let n = (order_sized no_event dependent es o h).0 in omega arith)

  ranked : {o q : List ℕ} → IsOrder es o → NextAmong (IsOrder es) o (some q) → Ranked (order_row o) (order_row q)
  ranked {o} {q} h (next g s least) = (
    rank_smaller 9 (numbered o h) (eight o h ∙ sym (eight q g)) (row_rises o q s),
    subst (λ n. rank 9 (order_row q) < 9 ^ n) (eight q g) (rank_bound 9 (order_row q) (numbered q g)),
  )

  among_rises : {row : List ℕ} {a : Giving} → NextAmongEvents es row a → (q : List ℕ) → a ≡ order q → Ranked row (order_row q)
  among_rises (no_order d) q e = absurd (both_ways refl (ap is_order (sym e)))
  among_rises (after {o = o} {r = r} h f m) q e =
      subst (λ x. Ranked x (order_row q)) (sym f) (ranked h (subst (NextAmong (IsOrder es) o) (afterwards_one r (some q) e) m))

next_rises : {bytes row : List ℕ} {a : Giving} → NextGives bytes row a → (q : List ℕ) → a ≡ order q → Ranked row (order_row q)
next_rises (NextGives.unlisted (refused_log p)) q e = absurd (both_ways refl (ap is_order (sym e)))
next_rises (NextGives.unlisted (long_log p l)) q e = absurd (both_ways refl (ap is_order (sym e)))
next_rises (short_log {es = es} p l m) q e = among_rises es l m q e

-- ---- how far it is to the end

-- how many rows are larger than an order's, and one
distance_to : Giving → ℕ
distance_to (order row) = suc (9 ^ order_places - rank 9 row)
distance_to last = 0
distance_to (log_refused k o) = 0
distance_to (orders_refused k o) = 0

pub distance : Result (Maybe (List ℕ)) OrdersRefusal → ℕ
distance r = distance_to (given_is r)

pub nearer : (bytes row : List ℕ) (r : Result (Maybe (List ℕ)) OrdersRefusal) → GivesSo (NextGives bytes row) r → distance r < distance (Ok (Some row))
unfolding distance distance_to
nearer bytes row r g = subst (λ x. distance_to x < distance_to (order row)) (sym g.answer) (by g.what g.so)
  where
    by : (a : Giving) → NextGives bytes row a → distance_to (by_row a) < distance_to (order row)
    by (order q) n = let h = next_rises n q refl in let a = h.0 in let b = h.1 in omega arith
    by last n = omega arith
    by (log_refused k o) n = omega arith
    by (orders_refused k o) n = omega arith
