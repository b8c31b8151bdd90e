-- The last places, kept by the keys of the slots: an event that arrives gives its place to each slot that has its key, and so to each that it fits.
-- Assumes nothing.
use Prim.Native.Nat.{ℕ, suc, ◌+◌, ◌<◌}
use native.Mathlib.Numerals.{add-one}
use native.Mathlib.Omega.{arith}
use mathlib.Core.Path.{◌≡◌, refl, sym, ap, ◌∙◌}
use mathlib.Core.Bool.{not, cond}
use mathlib.Core.List.{List, [], ◌∷◌, ◌++◌}
use lib.Dec.{eqb, leb, ltb}
use lib.ListN.{length, get_or}
use borrow.Author.Tests.{eq-eqb, eqb-true, le-leb, lt-leb, lt-ltb, ltb-true, ltb-false}
use Rattle.event.proofs.Tests.{by_test}
use Rattle.event.specs.declared.Event.{Event}
use Rattle.event.specs.Limits.{threads, slots as slot_limit, events}
use Rattle.event.specs.Slots.{fits, slot_of, no_event, no_slot}
use Rattle.event.specs.Range.{range_refusal}
use Rattle.event.specs.Keys.{slot_key, slot_keys}
use Rattle.event.proofs.Filled.{map_at}
use Rattle.event.proofs.InRange.{in_range}
use Rattle.event.proofs.SlotNumbers.{fits_alike, fits_key, key_thread}
use Rattle.event.proofs.Updated.{updated_length, updated_first}
use Rattle.dependence.specs.Dependence.{dependent}
use Rattle.dependence.specs.Order.{thread_of, IsStamp}
use Rattle.dependence.proofs.Dependent.{one_thread}
use Rattle.trace.specs.Tuples.{dep_at, thread_at, place}
use Rattle.trace.proofs.Lists.{length_snoc}
use Rattle.trace.proofs.Numbers.{event_new}
use Rattle.trace.proofs.Stamps.{place_stamp, stamp_unique, stamp_of}
use Rattle.trace.proofs.FirstArrivals.{BoundOf, bound_begins, bound_arrives}
use Rattle.clock.specs.declared.Stamp.{Stamp}
use Rattle.clock.specs.Clocks.{stamp_by, clocks_after, count_of}
use Rattle.clock.specs.Arrivals.{StampOf, ClocksOf, Arrived}
use Rattle.clock.proofs.History.{arrived}
use Rattle.passes.specs.declared.Sought.{Sought}
use Rattle.passes.specs.LastPlaces.{noted, last_by}
use Rattle.passes.specs.Passes.{SlotsOf, LastsOf}

-- above is not at most
pub above_is : (x y : ℕ) → ltb x y ≡ not (leb y x)
above_is x y = by_test (ltb x y) (λ q. rw (q, lt-leb y x (ltb-true x y q))) (λ q. rw (q, le-leb y x (ltb-false x y q)))

-- ---- an event arrives

-- an event's place is what its own stamp counts of its thread
newest_place : (es : List Event) (e : Event) (s : Stamp) → e.thread < threads → StampOf (es ++ (e ∷ [])) (length es + 1) s
    → place (thread_at no_event thread_of (es ++ (e ∷ []))) (suc (length es)) ≡ count_of e.thread s
newest_place es e s low h =
    place_stamp (dep_at no_event dependent longer) (thread_at no_event thread_of longer) (λ i j. one_thread _ _) (suc (length es))
    ∙ ap (stamp_of no_event dependent thread_of longer (suc (length es))) (ap thread_of (event_new no_event es e))
    ∙ stamp_unique no_event dependent thread_of longer (suc (length es)) e.thread (get_or s.at e.thread 0) (rw (length_snoc es e) (omega arith)) own
    ∙ sym counted
  where
    longer : List Event
    longer = es ++ (e ∷ [])

    own : IsStamp longer (suc (length es)) e.thread (get_or s.at e.thread 0)
    own = rw (sym (add-one (length es))) (h e.thread low)

    counted : count_of e.thread s ≡ get_or s.at e.thread 0
    counted = rw (lt-ltb e.thread threads low) refl

module _ {k : Sought} (so : SlotsOf k) where
  -- the key of a slot
  pub keyed_at : (j : ℕ) → j < k.size → get_or k.keys j 0 ≡ slot_key (get_or k.slots j no_slot)
  unfolding slot_keys
  keyed_at j l =
      let few = so.few in
      let n : length k.slots ≡ slot_limit = so.whole in
      rw so.keyed (map_at slot_key k.slots no_slot 0 j (omega arith))

  -- before any event
  pub none_last : (last : List ℕ) → length last ≡ slot_limit → ((j : ℕ) → j < slot_limit → get_or last j 0 ≡ 0) → LastsOf [] k last
  none_last last w z =
      record { whole = w; each = λ j l. let few = so.few in rw (z j (omega arith)) (bound_begins no_event dependent thread_of fits (get_or k.slots j no_slot)) }

  module _ (e : Event) (low : e.thread < threads) where
    pub lasts_arrive : (es : List Event) (last : List ℕ) (p : ℕ) → LastsOf es k last
        → place (thread_at no_event thread_of (es ++ (e ∷ []))) (suc (length es)) ≡ p
        → LastsOf (es ++ (e ∷ [])) k (noted (slot_key (slot_of e)) p k.keys last)
    lasts_arrive es last p h q = record { whole = updated_length 0 _ last 0 slot_limit ∙ h.whole; each = one }
      where
        one : (j : ℕ) → j < k.size → BoundOf no_event dependent thread_of fits (es ++ (e ∷ [])) (get_or k.slots j no_slot) (get_or (noted (slot_key (slot_of e)) p k.keys last) j 0)
        one j l =
            let few = so.few in
            let w : length last ≡ slot_limit = h.whole in
            let t : (get_or k.slots j no_slot).thread < threads = so.low j l in
            rw (updated_first 0 (λ i x. cond (eqb (get_or k.keys i 0) (slot_key (slot_of e))) p x) last slot_limit j (omega arith) (omega arith), keyed_at j l, ← q)
            (bound_arrives no_event dependent thread_of fits one_thread (λ s. s.thread) (λ s a f. sym (fits_alike s a f).thread) es e
            (eqb (slot_key (get_or k.slots j no_slot)) (slot_key (slot_of e)))
            (λ f. eq-eqb _ _ (fits_key (get_or k.slots j no_slot) e f))
            (λ w. key_thread (get_or k.slots j no_slot) e (omega arith) (omega arith) (eqb-true _ _ w))
            (h.each j l))

-- the clocks take an event, and its place is noted
pub followed_by : (es : List Event) (clocks : List ℕ) (e : Event) → ClocksOf es clocks → length es < events → range_refusal (slot_of e) ≡ 0
    → Arrived es e (stamp_by clocks e) (clocks_after clocks e)
    × ((k : Sought) (last : List ℕ) → SlotsOf k → LastsOf es k last → LastsOf (es ++ (e ∷ [])) k (last_by clocks k.keys (slot_key (slot_of e)) e last))
followed_by es clocks e h l r =
    let a = (arrived clocks e (stamp_by clocks e) (clocks_after clocks e) refl refl).1.1 es h l r in
    let low = (in_range (slot_of e) r).thread in
    (a, λ k last so h. lasts_arrive so e low es last _ h (newest_place es e (stamp_by clocks e) low a.stamp))
