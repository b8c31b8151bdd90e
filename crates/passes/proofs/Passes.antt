-- A pass over the leading events of a log: which of them fill a slot, told by counting the events of its thread, and stamps, which later events leave.
-- Assumes nothing.
use Prim.Native.Nat.{ℕ, zero, suc, ◌+◌, ◌≤◌, ◌<◌}
use native.Mathlib.Nat.{le_refl}
use native.Mathlib.Numerals.{add-one}
use native.Mathlib.Omega.{arith}
use mathlib.Core.Path.{◌≡◌, refl, sym, ap, ap₂, subst, ◌∙◌}
use mathlib.Core.Bool.{Bool, true, false, cond}
use mathlib.Core.List.{List, [], ◌∷◌, ◌++◌}
use lib.Dec.{eqb}
use lib.ListN.{length, length-append}
use lib.Seq.{take_at}
use borrow.Author.Tests.{eq-eqb, lt-ltb}
use Rattle.std.specs.Prelude.{Some, None}
use Rattle.event.proofs.Tests.{by_test}
use Rattle.event.specs.declared.Event.{Event}
use Rattle.event.specs.declared.Slot.{Slot}
use Rattle.event.specs.Limits.{events}
use Rattle.event.specs.Slots.{fits, slot_of, no_event}
use Rattle.event.specs.Keys.{slot_key}
use Rattle.event.proofs.SlotNumbers.{fits_alike}
use Rattle.dependence.specs.Order.{thread_of}
use Rattle.trace.specs.Tuples.{one_more, tally, thread_at, event_at, place}
use Rattle.trace.proofs.Numbers.{at_numbered, event_append, event_new}
use Rattle.trace.proofs.Stamps.{place_append}
use Rattle.trace.proofs.FirstChoice.{NoneOf, none_up}
use Rattle.trace.proofs.FirstScan.{exceeds}
use Rattle.trace.proofs.FirstArrivals.{seen, seen_snoc, place_seen}
use Rattle.clock.specs.declared.Stamp.{Stamp}
use Rattle.clock.specs.Clocks.{highest_count, up, stamp_by}
use Rattle.clock.specs.Arrivals.{StampOf, ClocksOf}
use Rattle.clock.proofs.Later.{entry_stays}
use Rattle.command.specs.Reading.{command, read_event}
use Rattle.event_log.proofs.Leading.{Midway, at_start, past_it, within_limits_lem}
use Rattle.passes.specs.declared.Sought.{Sought}
use Rattle.passes.specs.declared.Followed.{Followed}
use Rattle.passes.specs.LastPlaces.{followed_on}
use Rattle.passes.specs.Passes.{Leads, SlotsOf, LastsOf, fills_at, FirstAbove, StampedTo}
use Rattle.passes.proofs.Noting.{followed_by}

-- how many events of a thread have passed
abbrev pub seen_of : List Event → ℕ → ℕ
seen_of = seen no_event thread_of

tally_le : (p : ℕ → Bool) (n : ℕ) → tally p n ≤ n
tally_le p zero = le_refl 0
tally_le p (suc n) = go (p (suc n)) (tally_le p n)
  where
    go : (b : Bool) {m : ℕ} → m ≤ n → one_more b m ≤ suc n
    go true l = omega arith
    go false l = omega arith

pub seen_le : (es : List Event) (t : ℕ) → seen_of es t ≤ length es
seen_le es t = tally_le (λ k. eqb (thread_at no_event thread_of es k) t) (length es)

-- one more of its thread is counted
pub counts_up : (es : List Event) (e : Event) (t n : ℕ) → n ≡ seen_of es t → length es < events → cond (eqb e.thread t) (up n) n ≡ seen_of (es ++ (e ∷ [])) t
counts_up es e t n q l =
    go (eqb e.thread t) ∙ sym (seen_snoc no_event thread_of es e t)
  where
    go : (b : Bool) → cond b (up n) n ≡ one_more b (seen_of es t)
    go true = let h = seen_le es t in rw (lt-ltb n highest_count (omega arith)) (omega arith)
    go false = q

-- ---- the next event fills a slot, or not

fills_next_lem : (gone rest : List Event) (e : Event) (slot : Slot) (barred : ℕ)
    → fills_at ((gone ++ (e ∷ [])) ++ rest) slot barred (suc (length gone)) ≡ exceeds (fits slot e) (seen_of (gone ++ (e ∷ [])) slot.thread) barred
fills_next_lem gone rest e slot barred =
    ap₂ (λ (a : Event) (p : ℕ). exceeds (fits slot a) p barred) event placed ∙ by_test (fits slot e) fitting (λ q. rw q refl)
  where
    low : suc (length gone) ≤ length (gone ++ (e ∷ []))
    low = rw (length-append gone (e ∷ [])) (omega arith)

    event : event_at no_event ((gone ++ (e ∷ [])) ++ rest) (suc (length gone)) ≡ e
    event = event_append no_event (gone ++ (e ∷ [])) rest (suc (length gone)) low ∙ event_new no_event gone e

    placed : place (thread_at no_event thread_of ((gone ++ (e ∷ [])) ++ rest)) (suc (length gone)) ≡ suc (seen_of gone e.thread)
    placed = place_append no_event thread_of (gone ++ (e ∷ [])) rest (suc (length gone)) low ∙ place_seen no_event thread_of gone e

    fitting : fits slot e ≡ true
        → exceeds (fits slot e) (suc (seen_of gone e.thread)) barred ≡ exceeds (fits slot e) (seen_of (gone ++ (e ∷ [])) slot.thread) barred
    fitting q =
        let t : slot.thread ≡ e.thread = (fits_alike slot e q).thread in
        ap (λ (p : ℕ). exceeds (fits slot e) p barred)
        (rw t (sym (seen_snoc no_event thread_of gone e e.thread ∙ ap (λ (b : Bool). one_more b (seen_of gone e.thread)) (eq-eqb e.thread e.thread refl))))

-- ---- looking for the first event that fills a slot

-- i events gone past, so many of them of the slot's thread, and none of them fills it
pub record PassedOver (bytes : List ℕ) (es : List Event) (slot : Slot) (barred place at i : ℕ) : Type 0 where
  pub gone : List Event
  pub passed : Midway bytes es gone at
  pub count : length gone ≡ i
  pub counted : place ≡ seen_of gone slot.thread
  pub none : NoneOf (fills_at es slot barred) i

module _ {bytes : List ℕ} {es : List Event} {n : ℕ} (ls : Leads bytes es n) {slot : Slot} {barred : ℕ} where
  pub passed_over : PassedOver bytes es slot barred 0 0 0
  passed_over = record { gone = []; passed = at_start bytes ls.read; count = refl; counted = refl; none = λ m u. absurd (let z : ⊥ = omega arith in z) }

  module _ {place at i : ℕ} (s : PassedOver bytes es slot barred place at i) (l : i < n) where
    pub ahead : length s.gone < length es
    ahead = let c = ls.count in let g = s.count in omega arith

    module _ (e : Event) (next : ℕ) (q : command e next ≡ read_event bytes at) where
      later : Midway bytes es (s.gone ++ (e ∷ [])) next
      later = past_it s.passed ahead e next q

      abbrev counted_up : ℕ
      counted_up = cond (eqb e.thread slot.thread) (up place) place

      up_is : counted_up ≡ seen_of (s.gone ++ (e ∷ [])) slot.thread
      up_is =
          let few = ls.few in
          let g = s.count in
          counts_up s.gone e slot.thread place s.counted (omega arith)

      this : fills_at es slot barred (suc i) ≡ exceeds (fits slot e) counted_up barred
      this =
          ap₂ (λ (xs : List Event) (k : ℕ). fills_at xs slot barred (suc k)) later.whole (sym s.count)
          ∙ fills_next_lem s.gone later.rest e slot barred
          ∙ ap (λ (p : ℕ). exceeds (fits slot e) p barred) (sym up_is)

      pub not_this : exceeds (fits slot e) counted_up barred ≡ false → PassedOver bytes es slot barred counted_up next (i + 1)
      not_this f =
          record {
            gone = s.gone ++ (e ∷ []);
            passed = later;
            count = length-append s.gone (e ∷ []) ∙ ap (λ (k : ℕ). k + 1) s.count;
            counted = up_is;
            none = rw (add-one i) (none_up s.none (this ∙ f));
          }

      pub this_one : exceeds (fits slot e) counted_up barred ≡ true → FirstAbove es slot barred (Some (i + 1))
      this_one t = let c = ls.count in rw (add-one i) (omega arith, this ∙ t, λ m u v. s.none m (u, omega arith))

  pub nowhere : {place at i : ℕ} → PassedOver bytes es slot barred place at i → n ≤ i → FirstAbove es slot barred None
  nowhere s l = let c = ls.count in λ m u. s.none m (u.0, let v = u.1 in omega arith)

-- ---- the stamp of an event

pub stamp_stays : (es later : List Event) (n : ℕ) (s : Stamp) → 0 < n → n ≤ length es → StampOf es n s → StampOf (es ++ later) n s
stamp_stays es later n s p l h t low = entry_stays es later n t _ (event_at no_event es n) (at_numbered no_event es n (p, l)) (h t low)

-- i events gone past, which the clocks hold, with the last places; and the stamp of the last of them
pub record FollowedTo (bytes : List ℕ) (es : List Event) (keys : List ℕ) (before after : Followed) (stamp : Stamp) (at i : ℕ) : Type 0 where
  pub gone : List Event
  pub passed : Midway bytes es gone at
  pub count : length gone ≡ i
  pub held : ClocksOf gone after.clocks
  pub lasts : (k : Sought) → k.keys ≡ keys → SlotsOf k → LastsOf [] k before.last → LastsOf gone k after.last
  pub newest : 0 < i → StampOf gone i stamp

module _ {bytes : List ℕ} {es : List Event} {m : ℕ} (ls : Leads bytes es m) {keys : List ℕ} {before : Followed} where
  pub followed : (stamp : Stamp) → ClocksOf [] before.clocks → FollowedTo bytes es keys before before stamp 0 0
  followed stamp h =
      record { gone = []; passed = at_start bytes ls.read; count = refl; held = h; lasts = λ k w so h. h; newest = λ l. absurd (let z : ⊥ = omega arith in z) }

  module _ {after : Followed} {stamp : Stamp} {at i : ℕ} (f : FollowedTo bytes es keys before after stamp at i) where
    pub still_ahead : i < length es → length f.gone < length es
    still_ahead l = let g = f.count in omega arith

    pub follows : (l : i < length es) (e : Event) (next : ℕ) → command e next ≡ read_event bytes at
        → FollowedTo bytes es keys before (followed_on keys (slot_key (slot_of e)) e after) (stamp_by after.clocks e) next (i + 1)
    follows l e next q =
        let c = ls.count in
        let few = ls.few in
        let u = still_ahead l in
        let a = followed_by f.gone after.clocks e f.held (omega arith) (within_limits_lem f.passed u e next q) in
        record {
          gone = f.gone ++ (e ∷ []);
          passed = past_it f.passed u e next q;
          count = length-append f.gone (e ∷ []) ∙ ap (λ (k : ℕ). k + 1) f.count;
          held = a.0.holds;
          lasts = λ k w so h. rw (sym w) (a.1 k after.last so (f.lasts k w so h));
          newest = λ u. subst (λ (k : ℕ). StampOf (f.gone ++ (e ∷ [])) (k + 1) (stamp_by after.clocks e)) f.count a.0.stamp;
        }

    pub stamped : (n : ℕ) → i ≡ n → 0 < n → StampedTo es keys n before stamp after
    stamped n q p =
        let c : length f.gone ≡ n = f.count ∙ q in
        let s : StampOf f.gone n stamp = subst (λ (k : ℕ). StampOf f.gone k stamp) q (f.newest (omega arith)) in
        subst (λ (xs : List Event). StampedTo xs keys n before stamp after) (sym f.passed.whole)
        (record {
          stamp_is = stamp_stays f.gone f.passed.rest n stamp p (omega arith) s;
          held = rw (take_at f.gone f.passed.rest n c) f.held;
          lasts = rw (take_at f.gone f.passed.rest n c) f.lasts;
        })
