-- The orders of a list as lists of event numbers: which they are, the first, the one after a given one, and all of them in turn.
-- Assumes nothing.
use mathlib.Core.Path.{◌≡◌, refl, sym, ap, ap₂, ◌∙◌}
use mathlib.Core.Logic.{◌↔◌}
use mathlib.Core.Bool.{Bool, true}
use mathlib.Core.Option.{some}
use mathlib.Core.List.Permᴰ.{nil as perm-nil}
use mathlib.Core.List.{List, [], ◌∷◌, map, Memᴰ as Mem, Permᴰ as Perm}
use mathlib.Core.List.Permᴰ.{cons as perm-cons}
use mathlib.Core.List.Permᴰ.{swap as perm-swap}
use mathlib.Core.List.Permᴰ.{trans as perm-trans}
use Prim.Native.Nat.{ℕ, zero, suc}
use lib.ListN.{length}
use Rattle.trace.specs.Swaps.{Reaches}
use Rattle.trace.specs.Match.{Holds, HasMatch}
use Rattle.trace.specs.Tuples.{event_at, dep_at, Among}
use Rattle.trace.proofs.Swaps.{reaches_perm, map_reaches, lift_reaches}
use Rattle.trace.proofs.Runs.{run, among_of}
use Rattle.trace.proofs.Orders.{reaches_iff, straight_iff}
use Rattle.trace.proofs.Numbers.{run_events}
use Rattle.trace.proofs.EventOrders.{Order, map_numbered, numbers_order, order_numbers_lem, order_iff}
use Rattle.enumeration.specs.Orders.{with_numbers, the_numbers, IsOrder, FirstAmong, NextAmong, InTurn, GivesAll}
use Rattle.enumeration.specs.Computed.{next_order, ordered}
use Rattle.enumeration.proofs.Successor.{OrderOf, first_carry, next_carry, first_order, next_run}
use Rattle.enumeration.proofs.OrderTest.{ordered_iff}
use Rattle.enumeration.proofs.Enumeration.{gives_all}

perm_length : {A : Type 0} {xs ys : List A} → Perm xs ys → length xs ≡ length ys
perm_length perm-nil = refl
perm_length (perm-cons e p) = ap suc (perm_length p)
perm_length (perm-swap e f) = refl
perm_length (perm-trans p q) = perm_length p ∙ perm_length q

pub run_length : (a n : ℕ) → length (run a n) ≡ n
run_length a zero = refl
run_length a (suc n) = ap suc (run_length (suc a) n)

-- an order of the numbers 1 to n has n of them
pub order_length : (n : ℕ) (dep : ℕ → ℕ → Bool) (o : List ℕ) → OrderOf dep (run 1 n) o → length o ≡ n
order_length n dep o h = sym (perm_length (reaches_perm dep ((straight_iff dep n o).1 h))) ∙ run_length 1 n

-- the events with their numbers, by their numbers
number_events : {E : Type 0} (i : ℕ) (es : List E) (f : ℕ → E) → map f (run i (length es)) ≡ es
    → with_numbers i es ≡ map (λ k. (k, f k)) (run i (length es))
number_events i [] f e = refl
number_events i (x ∷ es) f e =
    let p : f i ≡ x = cc in
    let q : map f (run (suc i) (length es)) ≡ es = cc in
    ap₂ (λ a l. (i, a) ∷ l) (sym p) (number_events (suc i) es f q)

numbers_back : {E : Type 0} (f : ℕ → E) (is : List ℕ) → the_numbers (map (λ k. (k, f k)) is) ≡ is
numbers_back f [] = refl
numbers_back f (i ∷ is) = ap (λ l. i ∷ l) (numbers_back f is)

module _ {E : Type 0} (other : E) (dep : E → E → Bool) (log : List E) where
  -- ---- which they are

  -- those that swaps of the numbers reach
  is_order_iff : (is : List ℕ) → IsOrder dep log is ↔ Reaches (dep_at other dep log) (run 1 (length log)) is
  is_order_iff is = (there, back)
    where
      with_number : ℕ → ℕ × E
      with_number k = (k, event_at other log k)

      numbered : with_numbers 1 log ≡ map with_number (run 1 (length log))
      numbered = number_events 1 log (event_at other log) (run_events other log)

      there : IsOrder dep log is → Reaches (dep_at other dep log) (run 1 (length log)) is
      there h =
          let r = lift_reaches (λ a b. dep a.1 b.1) with_number h.1 (run 1 (length log)) numbered in
          let e : is ≡ r.0 = sym h.2 ∙ ap the_numbers r.2 ∙ numbers_back (event_at other log) r.0 in
          rw e r.1

      back : Reaches (dep_at other dep log) (run 1 (length log)) is → IsOrder dep log is
      back r = (
        map with_number is,
        rw numbered (map_reaches (λ a b. dep a.1 b.1) with_number r),
        numbers_back (event_at other log) is,
      )

  -- the numbers of the orders that swaps of the events reach (`order_iff`)
  pub order_events : (is : List ℕ) → IsOrder dep log is ↔ ((ys : List E) × Order dep log is ys)
  order_events is =
      let r = reaches_iff (dep_at other dep log) (length log) is in (
        λ h. (map (event_at other log) is, numbers_order other dep log (r.0 ((is_order_iff is).0 h))),
        λ h. (is_order_iff is).1 (r.1 (order_numbers_lem other dep log h.1)),
      )

  -- the rearrangements of the numbers 1 to n in which none stands behind a larger one that depends on it
  pub order_straight : (is : List ℕ) → IsOrder dep log is ↔ OrderOf (dep_at other dep log) (run 1 (length log)) is
  order_straight is =
      let r = straight_iff (dep_at other dep log) (length log) is in
      (λ h. r.0 ((is_order_iff is).0 h), λ h. (is_order_iff is).1 (r.1 h))

  -- the same, computed
  pub is_order : (is : List ℕ) → (ordered (dep_at other dep log) (length log) is ≡ true) ↔ IsOrder dep log is
  is_order is =
      let r = ordered_iff (dep_at other dep log) (length log) is in
      (λ h. (order_straight is).1 (r.0 h), λ h. r.1 ((order_straight is).0 h))

  -- ---- the first, the one after, and all

  pub first_is : FirstAmong (IsOrder dep log) (run 1 (length log))
  first_is = first_carry (λ q. let h = order_straight q in (h.1, h.0)) (first_order (dep_at other dep log) (length log))

  pub next_is : (o : List ℕ) → IsOrder dep log o → NextAmong (IsOrder dep log) o (next_order (length log) (dep_at other dep log) o)
  next_is o h =
      next_carry (λ q. let g = order_straight q in (g.1, g.0))
      (next_run (length log) (dep_at other dep log) o ((order_straight o).0 h))

  -- an order has as many numbers as the list has events, each of them from 1 to their count
  pub order_sized : (o : List ℕ) → IsOrder dep log o → (length o ≡ length log) × ((k : ℕ) → Mem k o → Among (length log) k)
  order_sized o h =
      let s = (order_straight o).0 h in
      (order_length (length log) (dep_at other dep log) o s, λ k m. among_of (length log) ((s.1 k).1 m))

  pub orders_given : GivesAll (IsOrder dep log) (InTurn (IsOrder dep log))
  orders_given =
      gives_all first_is (λ o h. (next_order (length log) (dep_at other dep log) o, next_is o h)) (length log)
      (λ o h. let s = order_sized o h in (s.0, λ k m. (s.1 k m).1))

  -- A list has a match exactly where one of the orders given holds the pattern.
  pub match_given : {S : Type 0} (fits : S → E → Bool) (ss : List S) → HasMatch dep fits ss log
      ↔ ((k : ℕ) × (is : List ℕ) × InTurn (IsOrder dep log) k (some is) × Holds fits ss (map (event_at other log) is))
  match_given fits ss = (
    λ h.
        let r = (order_iff dep log h.0).0 h.1 in
        let g = orders_given.every r.0 ((order_events r.0).1 (h.0, r.1)) in
        (g.0, r.0, g.1, rw (map_numbered other log r.1.numbers) at h.2),
    λ h.
        let r = (order_events h.1).0 (orders_given.only h.2) in
        (r.0, (order_iff dep log r.0).1 (h.1, r.1), rw (map_numbered other log r.1.numbers) h.3),
  )
