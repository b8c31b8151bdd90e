-- The last event that fits a slot comes before the event of an earlier one, or is it, exactly where that one's stamp counts as far as its place.
use Prim.Native.Nat.{ℕ, zero, suc, ◌+◌, ◌≤◌, ◌<◌, max}
use native.Mathlib.Decide.{dec_lt}
use native.Mathlib.Omega.{arith}
use mathlib.Core.Path.{◌≡◌, refl, sym, ap, ◌∙◌}
use mathlib.Core.Logic.{◌↔◌}
use mathlib.Core.Bool.{true}
use mathlib.Core.List.{List, [], ◌∷◌}
use lib.ListN.{length, get_or, take, length-take}
use borrow.Author.Tests.{leb-true, le-leb, lt-ltb}
use Rattle.event.specs.declared.Event.{Event}
use Rattle.event.specs.declared.Slot.{Slot}
use Rattle.event.specs.Limits.{slots as slot_limit}
use Rattle.event.specs.Slots.{fits, no_event}
use Rattle.event.proofs.SlotNumbers.{fits_alike}
use Rattle.trace.specs.Before.{Numbered}
use Rattle.trace.specs.Reason.{no_fit, last_fit, none_fits, too_early, InTheWay}
use Rattle.trace.specs.Tuples.{dep_at, thread_at, place}
use Rattle.trace.proofs.Lists.{both_ways}
use Rattle.trace.proofs.Counts.{Lowest, at, nowhere}
use Rattle.trace.proofs.Numbers.{mem_numbered, numbered_among, numbered_at, comes_iff}
use Rattle.trace.proofs.Stamps.{stamp_iff, stamp_of, stamp_unique}
use Rattle.dependence.specs.Dependence.{dependent}
use Rattle.dependence.specs.Order.{ComesBefore, thread_of}
use Rattle.dependence.proofs.Dependent.{one_thread}
use Rattle.clock.specs.declared.Stamp.{Stamp}
use Rattle.clock.specs.Clocks.{count_of}
use Rattle.event_stamps.specs.EventStamps.{no_entry, StampsTo}
use Rattle.std.specs.Prelude.{Some, None}
use Rattle.last_fit.specs.declared.PlacedEvent.{PlacedEvent}
use Rattle.last_fit.specs.LastFit.{LastFit, never, last}
use Rattle.run.specs.Answers.{greatest_of}
use Rattle.verdict_reason.specs.declared.Cause.TheVariants.{NoFit, TooEarly}
use Rattle.verdict_reason.specs.Causes.{Stopped, Causes, counts_at}

-- ---- the greatest of the numbers

le_greatest : (numbers : List ℕ) (n j : ℕ) → j < n → get_or numbers j 0 ≤ greatest_of n numbers
unfolding greatest_of
le_greatest numbers zero j l = absurd (omega arith)
le_greatest numbers (suc n) j l = go (dec_lt j n) (λ u. le_greatest numbers n j u)
  where
    go : Dec (j < n) → (j < n → get_or numbers j 0 ≤ greatest_of n numbers) → get_or numbers j 0 ≤ max (get_or numbers n 0) (greatest_of n numbers)
    go (yes u) ih = let h = ih u in omega arith
    go (no d) ih = let q : j ≡ n = omega arith in rw q (omega arith)

greatest_le : (numbers : List ℕ) (b n : ℕ) → ((j : ℕ) → get_or numbers j 0 ≤ b) → greatest_of n numbers ≤ b
unfolding greatest_of
greatest_le numbers b zero h = omega arith
greatest_le numbers b (suc n) h = let u = h n in let v = greatest_le numbers b n h in omega arith

pub greatest_listed : {es : List Event} {slot : Slot} {k : ℕ} {numbers : List ℕ} → Stopped es slot k numbers → greatest_of slot_limit numbers ≤ length es
greatest_listed {es} {k = k} {numbers = numbers} s = greatest_le numbers (length es) slot_limit (λ j. each j (dec_lt j k))
  where
    each : (j : ℕ) → Dec (j < k) → get_or numbers j 0 ≤ length es
    each j (yes l) = (s.listed j l).1
    each j (no d) = rw (s.beyond j (omega arith)) (omega arith)

-- ---- a list's first elements by their places

pub numbered_take : (xs : List ℕ) (k j : ℕ) → j < k → k ≤ length xs → Numbered (take k xs) (suc j) (get_or xs j 0)
numbered_take [] k j l u = absurd (omega arith)
numbered_take (x ∷ xs) zero j l u = elim l [ ]
numbered_take (x ∷ xs) (suc k) zero l u = Numbered.first
numbered_take (x ∷ xs) (suc k) (suc j) l u = Numbered.next (numbered_take xs k j (omega arith) (omega arith))

take_numbered : (xs : List ℕ) (k : ℕ) {i d : ℕ} → Numbered (take k xs) i d → (j : ℕ) × (i ≡ suc j) × (j < k) × (d ≡ get_or xs j 0)
take_numbered [] k n = let u = numbered_among n in absurd (let z : ⊥ = omega (arith, length-take {A = ℕ} k []) in z)
take_numbered (x ∷ xs) zero n = elim n [ ]
take_numbered (x ∷ xs) (suc k) Numbered.first = (0, refl, omega arith, refl)
take_numbered (x ∷ xs) (suc k) (Numbered.next n) = let r = take_numbered xs k n in (suc r.0, ap suc r.1, let l = r.2 in omega arith, r.3)

-- ---- by stamps

module _ {es : List Event} {slot : Slot} {k : ℕ} {numbers : List ℕ} (s : Stopped es slot k numbers) (few : k ≤ slot_limit) (stamps : List Stamp)
    (are : StampsTo es numbers (greatest_of slot_limit numbers) stamps) where
  module _ {l : ℕ} {e : Event} (n : Numbered es l e) (f : fits slot e ≡ true) where
    abbrev placed : ℕ
    placed = place (thread_at no_event thread_of es) l

    -- what the stamp of slot j + 1 counts
    counted : (j : ℕ) → j < k → count_of slot.thread (get_or stamps j no_entry) ≡ stamp_of no_event dependent thread_of es (get_or numbers j 0) (thread_at no_event thread_of es l)
    counted j v =
        let u = s.listed j v in
        let g = le_greatest numbers slot_limit j (omega arith) in
        let t : thread_at no_event thread_of es l ≡ slot.thread = ap thread_of (numbered_at no_event n) ∙ sym (fits_alike slot e f).thread in
        rw (lt-ltb _ _ s.low, t) (sym (stamp_unique no_event dependent thread_of es (get_or numbers j 0) slot.thread _ u (are j (omega arith) u.0 g slot.thread s.low)))

    comes_by_place : (j : ℕ) → j < k → (counts_at stamps slot.thread placed (suc j) ≡ true) ↔ ComesBefore es l (get_or numbers j 0)
    comes_by_place j v =
        let c = comes_iff no_event dependent es l (get_or numbers j 0) (numbered_among n) (s.listed j v) in
        let b = stamp_iff (dep_at no_event dependent es) (thread_at no_event thread_of es) (λ x y. one_thread _ _) l (get_or numbers j 0) (numbered_among n).0 in
        (λ t. c.1 (b.1 (rw (counted j v) at (leb-true placed (count_of slot.thread (get_or stamps j no_entry)) t))), λ h. le-leb placed _ (rw (counted j v) (b.0 (c.0 h))))

    -- the lowest slot whose event it comes before or is
    in_the_way : {i : ℕ} → ((m : ℕ) (a : Event) → Numbered es m a → fits slot a ≡ true → m ≤ l) → Lowest (counts_at stamps slot.thread placed) k i
        → InTheWay dependent fits es slot (take k numbers) (last_fit l i)
    in_the_way h (at {k = j} v t lower) =
        too_early n f h (numbered_take numbers k j v (rw s.whole few)) ((comes_by_place j v).0 t) (λ m d w x b. below w (take_numbered numbers k x) b)
      where
        below : {m d : ℕ} → m < suc j → (i : ℕ) × (m ≡ suc i) × (i < k) × (d ≡ get_or numbers i 0) → ¬ ComesBefore es l d
        below {m} {d} w r b =
            both_ways ((comes_by_place r.0 r.2).1 (rw r.3 at b)) (lower (suc r.0) (omega arith) (let q = r.1 in omega arith))
    in_the_way h (nowhere none) =
        let c = s.barred n f in
        let i = mem_numbered c.1 in
        let r = take_numbered numbers k i.1 in
        absurd (both_ways ((comes_by_place r.0 r.2).1 (rw r.3 at c.2)) (none (suc r.0) (omega arith) (let v = r.2 in omega arith)))

  -- what the last event that fits the slot says
  pub too_soon : {l : PlacedEvent} {i : ℕ} → LastFit es slot (Some l) → Lowest (counts_at stamps slot.thread l.place) k i → Causes es slot k numbers (TooEarly (k + 1) l.number i)
  too_soon {i = i} (last {l = l} n f h) low = record { obstacle = last_fit l i; is = refl; stands = in_the_way n f h low }

pub none_fit : {es : List Event} {slot : Slot} {k : ℕ} {numbers : List ℕ} → LastFit es slot None → Causes es slot k numbers (NoFit (k + 1))
none_fit (never d) = record { obstacle = no_fit; is = refl; stands = none_fits d }
