-- One event more: it is the last that fits, or the last one so far stays so.
-- Assumes nothing.
use Prim.Native.Nat.{ℕ, suc, ◌+◌, ◌≤◌, ◌<◌}
use native.Mathlib.Decide.{dec_le}
use native.Mathlib.Omega.{arith}
use native.Mathlib.Numerals.{add-one}
use mathlib.Core.Path.{◌≡◌, refl, sym, ap, subst, ◌∙◌}
use mathlib.Core.Logic.{◌⊎◌, inl, inr}
use mathlib.Core.Bool.{Bool, true, false, cond}
use mathlib.Core.List.{List, [], ◌∷◌, ◌++◌, append-nil}
use lib.Dec.{eqb}
use lib.ListN.{length, length-append}
use borrow.Author.Tests.{eq-eqb}
use Rattle.std.specs.Prelude.{Option, Some, None}
use Rattle.event.specs.declared.Event.{Event}
use Rattle.event.specs.declared.Slot.{Slot}
use Rattle.event.specs.Slots.{fits, no_event}
use Rattle.event.proofs.SlotNumbers.{fits_alike}
use Rattle.trace.specs.Before.{Numbered}
use Rattle.trace.specs.Tuples.{one_more, thread_at, place}
use Rattle.trace.proofs.Lists.{both_ways}
use Rattle.trace.proofs.Numbers.{numbered_among, numbered_append, numbered_shrink, numbered_at, at_numbered, event_new}
use Rattle.trace.proofs.Stamps.{place_append}
use Rattle.trace.proofs.FirstArrivals.{seen_snoc, place_seen}
use Rattle.dependence.specs.Order.{thread_of}
use Rattle.command.specs.Reading.{command, read_event}
use Rattle.clock.specs.Clocks.{up}
use Rattle.event_log.proofs.Leading.{Midway, at_start, past_it}
use Rattle.passes.specs.Passes.{Leads}
use Rattle.passes.proofs.Passes.{seen_of, counts_up}
use Rattle.last_fit.specs.declared.PlacedEvent.{PlacedEvent}
use Rattle.last_fit.specs.LastFit.{LastFit, never, last}

-- ---- one event more

module _ (es : List Event) (slot : Slot) (e : Event) where
  abbrev longer : List Event
  longer = es ++ (e ∷ [])

  one_longer : length longer ≡ suc (length es)
  one_longer = let w = length-append es (e ∷ []) in omega arith

  newest : Numbered longer (suc (length es)) e
  newest =
      let w = one_longer in
      subst (Numbered longer (suc (length es))) (event_new no_event es e) (at_numbered no_event longer (suc (length es)) (omega arith))

  -- an event of the longer list is one of the others, or it is the newest
  old_or_new : {i : ℕ} {a : Event} → Numbered longer i a → Numbered es i a ⊎ (a ≡ e)
  old_or_new {i} {a} n = go (dec_le i (length es))
    where
      go : Dec (i ≤ length es) → Numbered es i a ⊎ (a ≡ e)
      go (yes l) = inl (numbered_shrink es (e ∷ []) l n)
      go (no d) =
          let u = numbered_among n in
          let w = one_longer in
          let q : i ≡ suc (length es) = omega arith in
          inr (sym (numbered_at no_event (rw q at n)) ∙ numbered_at no_event newest)

  place_is : fits slot e ≡ true → place (thread_at no_event thread_of longer) (suc (length es)) ≡ seen_of longer slot.thread
  place_is f =
      place_seen no_event thread_of es e
      ∙ sym (seen_snoc no_event thread_of es e e.thread ∙ ap (λ (b : Bool). one_more b (seen_of es e.thread)) (eq-eqb e.thread e.thread refl))
      ∙ ap (seen_of longer) (sym (fits_alike slot e f).thread)

  -- it fits, and is the last that does
  is_last : fits slot e ≡ true → LastFit longer slot (Some (record { number = suc (length es); place = seen_of longer slot.thread }))
  is_last f = rw (sym (place_is f)) (last newest f (λ m a n g. let u = numbered_among n in let w = one_longer in omega arith))

  -- it does not, and nothing changes
  stays_last : {kept : Option PlacedEvent} → fits slot e ≡ false → LastFit es slot kept → LastFit longer slot kept
  stays_last f (never d) = never (λ i a n. none i a (old_or_new n))
    where
      none : (i : ℕ) (a : Event) → Numbered es i a ⊎ (a ≡ e) → fits slot a ≡ false
      none i a (inl n) = d i a n
      none i a (inr q) = rw q f
  stays_last f (last {l = l} {e = b} n g h) =
      rw (sym (place_append no_event thread_of es (e ∷ []) l (numbered_among n).1)) (last (numbered_append (e ∷ []) n) g (λ m a k u. none m a u (old_or_new k)))
    where
      none : (m : ℕ) (a : Event) → fits slot a ≡ true → Numbered es m a ⊎ (a ≡ e) → m ≤ l
      none m a u (inl k) = h m a k u
      none m a u (inr q) = absurd (both_ways (rw q at u) f)

-- ---- the pass

-- i events gone past, so many of them of the slot's thread, and the last of them that fits
pub record Passed (bytes : List ℕ) (es : List Event) (slot : Slot) (kept : Option PlacedEvent) (place at i : ℕ) : Type 0 where
  pub gone : List Event
  pub passed : Midway bytes es gone at
  pub count : length gone ≡ i
  pub counted : place ≡ seen_of gone slot.thread
  pub fit : LastFit gone slot kept

module _ {bytes : List ℕ} {es : List Event} {n : ℕ} (ls : Leads bytes es n) {slot : Slot} where
  pub begun : Passed bytes es slot None 0 0 0
  begun = record { gone = []; passed = at_start bytes ls.read; count = refl; counted = refl; fit = never none }
    where
      none : (i : ℕ) (e : Event) → Numbered [] i e → fits slot e ≡ false
      none i e m = let u = numbered_among m in absurd (let z : ⊥ = omega arith in z)

  module _ {kept : Option PlacedEvent} {place at i : ℕ} (s : Passed bytes es slot kept place at i) where
    pub ahead : i < n → length s.gone < length es
    ahead l = let c = ls.count in let g = s.count in omega arith

    module _ (l : i < n) (e : Event) (next : ℕ) (q : command e next ≡ read_event bytes at) where
      abbrev counted_up : ℕ
      counted_up = cond (eqb e.thread slot.thread) (up place) place

      up_is : counted_up ≡ seen_of (s.gone ++ (e ∷ [])) slot.thread
      up_is =
          let few = ls.few in
          let c = ls.count in
          let g = s.count in
          counts_up s.gone e slot.thread place s.counted (omega arith)

      with_last : (now : Option PlacedEvent) → LastFit (s.gone ++ (e ∷ [])) slot now → Passed bytes es slot now counted_up next (i + 1)
      with_last now f =
          record {
            gone = s.gone ++ (e ∷ []);
            passed = past_it s.passed (ahead l) e next q;
            count = length-append s.gone (e ∷ []) ∙ ap (λ (k : ℕ). k + 1) s.count;
            counted = up_is;
            fit = f;
          }

      -- it fits, or it does not
      pub passes_last : fits slot e ≡ true → Passed bytes es slot (Some (record { number = i + 1; place = counted_up })) counted_up next (i + 1)
      passes_last f = with_last _ (rw (up_is, sym s.count, add-one) (is_last s.gone slot e f))

      pub passes_by : fits slot e ≡ false → Passed bytes es slot kept counted_up next (i + 1)
      passes_by f = with_last kept (stays_last s.gone slot e f s.fit)

    -- all events have passed
    pub all_passed : n ≤ i → LastFit es slot kept
    all_passed l = subst (λ (xs : List Event). LastFit xs slot kept) (whole s.passed.rest s.passed.whole) s.fit
      where
        whole : (rest : List Event) → es ≡ s.gone ++ rest → s.gone ≡ es
        whole [] q = sym (q ∙ append-nil s.gone)
        whole (x ∷ rest) q =
            let w : length es ≡ length s.gone + length (x ∷ rest) = ap length q ∙ length-append s.gone (x ∷ rest) in
            let c = ls.count in
            let g = s.count in
            absurd (let z : ⊥ = omega arith in z)
