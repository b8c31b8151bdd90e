-- "Starting from the first, every order reachable by swaps is given, each exactly once." And "The empty log has one order."
use Prim.Native.Nat.{ℕ, suc, ◌≤◌, ◌<◌}
use native.Mathlib.Omega.{arith}
use mathlib.Core.Path.{◌≡◌, refl, sym, ap, ap₂, subst, ◌∙◌}
use mathlib.Core.Logic.{◌↔◌}
use mathlib.Core.Bool.{Bool, true, false}
use mathlib.Core.Option.{Option, some, none}
use mathlib.Core.List.{List, [], ◌∷◌, map}
use lib.ListN.{length, take}
use Rattle.event.specs.declared.Event.{Event}
use Rattle.event.specs.declared.Slot.{Slot}
use Rattle.event.specs.Slots.{fits, no_event}
use Rattle.event.proofs.Places.{places_first}
use Rattle.trace.specs.Swaps.{stay}
use Rattle.trace.specs.Match.{Holds}
use Rattle.trace.specs.Tuples.{event_at, dep_at}
use Rattle.trace.proofs.Lists.{both_ways}
use Rattle.trace.proofs.Runs.{run}
use Rattle.event_log.specs.Whole.{Whole, accepted, refused, read_log}
use Rattle.dependence.specs.Dependence.{dependent}
use Rattle.dependence.specs.Order.{HasMatch}
use Rattle.enumeration.specs.Orders.{NextAmong, InTurn}
use Rattle.enumeration.specs.Computed.{next_order}
use Rattle.enumeration.proofs.OrderLists.{first_is, next_is, orders_given, match_given, order_sized}
use Rattle.order_rows.specs.Rows.{order_places, order_row}
use Rattle.orders_log.specs.OrderCalls.{IsOrder, Giving, order, last, log_refused, orders_refused, afterwards, refused_log, long_log, FirstGives, first, NextAmongEvents, no_order, after, NextGives, short_log, Called, first_call, next_call, GivesEveryOrder}

-- ---- what is given says what it says

abbrev pub is_order : Giving → Bool
is_order (order o) = true
is_order last = false
is_order (log_refused k o) = false
is_order (orders_refused k o) = false

pub afterwards_one : (r s : Option (List ℕ)) → afterwards r ≡ afterwards s → r ≡ s
afterwards_one (some o) (some q) e = ap some (let h : o ≡ q = cc in h)
afterwards_one (some o) none e = absurd (both_ways refl (ap is_order e))
afterwards_one none (some q) e = absurd (both_ways refl (ap is_order (sym e)))
afterwards_one none none e = refl

abbrev is_accepted : Whole Event → Bool
is_accepted (accepted es) = true
is_accepted (refused k o) = false

accepted_one : (es fs : List Event) {w : Whole Event} → w ≡ accepted es → w ≡ accepted fs → es ≡ fs
accepted_one es fs p q = let e : ◌≡◌ {A = Whole Event} (accepted es) (accepted fs) = sym p ∙ q in let h : es ≡ fs = cc in h

accepted_refused : {es : List Event} {k o : ℕ} {w : Whole Event} → w ≡ accepted es → w ≡ refused k o → ⊥
accepted_refused p q = both_ways refl (ap is_accepted (sym p ∙ q))

-- ---- the calls over an accepted log of at most eight events

module _ (bytes : List ℕ) (es : List Event) (acc : read_log bytes ≡ accepted es) (few : length es ≤ order_places) where
  -- one row stands for one order
  pub row_one : {o q : List ℕ} → IsOrder es o → IsOrder es q → order_row o ≡ order_row q → o ≡ q
  row_one {o} {q} h g e =
      let m = (order_sized no_event dependent es o h).0 in
      let n = (order_sized no_event dependent es q g).0 in
      sym (places_first 0 order_places o) ∙ ap₂ take (m ∙ sym n) e ∙ places_first 0 order_places q

  too_long : {fs : List Event} → read_log bytes ≡ accepted fs → order_places < length fs → ⊥
  too_long {fs} p l = let e : es ≡ fs = accepted_one es fs acc p in let h : ⊥ = omega (arith, rw (sym e) at l) in h

  -- a call that gives this is the k-th of those that start from the first order
  abbrev Told : ℕ → Giving → Type 0
  Told k a = (r : Option (List ℕ)) × (a ≡ afterwards r) × InTurn (IsOrder es) k r

  first_told : {a : Giving} → FirstGives bytes a → Told 0 a
  first_told (FirstGives.unlisted (refused_log p)) = absurd (accepted_refused acc p)
  first_told (FirstGives.unlisted (long_log p l)) = absurd (too_long p l)
  first_told (first {es = fs} {o = o} p l f) = (some o, refl, InTurn.starting {o = o} (rw (accepted_one es fs acc p) f))

  after_told : {k : ℕ} {o : List ℕ} {a : Giving} → InTurn (IsOrder es) k (some o) → NextAmongEvents es (order_row o) a → Told (suc k) a
  after_told {o = o} g (no_order d) = absurd (d (o, (orders_given no_event dependent es).only g, refl))
  after_told {o = o} g (after {o = q} {r = s} h e m) =
      let same : o ≡ q = row_one ((orders_given no_event dependent es).only g) h e in
      (s, refl, InTurn.going_on g (subst (λ x. NextAmong (IsOrder es) x s) (sym same) m))

  next_told : {k : ℕ} {o : List ℕ} {a : Giving} → Told k (order o) → NextGives bytes (order_row o) a → Told (suc k) a
  next_told h (NextGives.unlisted (refused_log p)) = absurd (accepted_refused acc p)
  next_told h (NextGives.unlisted (long_log p l)) = absurd (too_long p l)
  next_told {k} {o} {a} (r, e, g) (short_log {es = fs} p l m) =
      after_told (subst (InTurn (IsOrder es) k) (sym (afterwards_one (some o) r e)) g)
      (subst (λ xs. NextAmongEvents xs (order_row o) a) (sym (accepted_one es fs acc p)) m)

  call_given : {k : ℕ} {a : Giving} → Called bytes k a → Told k a
  call_given (first_call f) = first_told f
  call_given (next_call c n) = next_told (call_given c) n

  given_call : {k : ℕ} {r : Option (List ℕ)} → InTurn (IsOrder es) k r → Called bytes k (afterwards r)
  given_call (InTurn.starting f) = first_call (first acc few f)
  given_call (InTurn.going_on g m) = next_call (given_call g) (short_log acc few (after ((orders_given no_event dependent es).only g) refl m))

  told : {k : ℕ} {r : Option (List ℕ)} → Called bytes k (afterwards r) → InTurn (IsOrder es) k r
  told {k} {r} c = let h = call_given c in subst (InTurn (IsOrder es) k) (sym (afterwards_one r h.0 h.1)) h.2

  pub every_order : GivesEveryOrder bytes es
  every_order =
      let all = orders_given no_event dependent es in
      record {
        only = λ c. all.only (told c);
        every = λ o h. let g = all.every o h in (g.0, given_call g.1);
        once = λ c d. all.once (told c) (told d);
        rising = λ l c d. all.rising l (told c) (told d);
        ending = let g = all.ending in (g.0, given_call g.1);
      }

  -- the log has a match exactly where one of the orders given holds the pattern
  pub match_called : (pattern : List Slot) → HasMatch pattern es
      ↔ ((k : ℕ) × (o : List ℕ) × Called bytes k (order o) × Holds fits pattern (map (event_at no_event es) o))
  match_called pattern =
      let m = match_given no_event dependent es fits pattern in (
        λ h. let g = m.0 h in (g.0, g.1, given_call g.2, g.3),
        λ h. m.1 (h.0, h.1, told {r = some h.1} h.2, h.3),
      )

  -- what each call gives, computed
  pub first_computed : Called bytes 0 (order (run 1 (length es)))
  first_computed = first_call (first acc few (first_is no_event dependent es))

  pub next_computed : {k : ℕ} (o : List ℕ) → Called bytes k (order o) → Called bytes (suc k) (afterwards (next_order (length es) (dep_at no_event dependent es) o))
  next_computed o c =
      let h = (orders_given no_event dependent es).only (told {r = some o} c) in
      next_call c (short_log acc few (after h refl (next_is no_event dependent es o h)))

-- ---- no events

no_numbers : (o : List ℕ) → length o ≡ 0 → o ≡ []
no_numbers [] e = refl
no_numbers (x ∷ o) e = absurd (let f : ⊥ = omega arith in f)

-- "The empty log has one order."
pub empty_log : (o : List ℕ) → IsOrder [] o ↔ (o ≡ [])
empty_log o = (λ h. no_numbers o (order_sized no_event dependent [] o h).0, λ e. ([], stay, sym e))
