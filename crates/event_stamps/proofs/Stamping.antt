-- One pass that keeps the stamps of the events of given numbers.
-- Assumes nothing.
use Prim.Native.Nat.{ℕ, zero, suc, ◌+◌, ◌≤◌, ◌<◌}
use native.Mathlib.Decide.{ℕ_discrete}
use native.Mathlib.Omega.{arith}
use mathlib.Core.Path.{◌≡◌, refl, sym, ap, subst, ◌∙◌}
use mathlib.Core.Bool.{Bool, true, false, cond, ◌||◌, true≢false}
use mathlib.Core.List.{List, [], ◌∷◌, ◌++◌}
use lib.Dec.{eqb}
use lib.ListN.{length, get_or, length-append}
use borrow.Author.Tests.{eq-eqb, ne_eqb}
use Rattle.event.specs.declared.Event.{Event}
use Rattle.event.specs.Limits.{slots as slot_limit, events}
use Rattle.event.specs.Slots.{slot_of}
use Rattle.event.specs.Range.{range_refusal}
use Rattle.event.proofs.Updated.{updated_length, updated_first}
use Rattle.command.specs.Reading.{command, read_event}
use Rattle.clock.specs.declared.Stamp.{Stamp}
use Rattle.clock.specs.Arrivals.{StampOf, ClocksOf, Arrived}
use Rattle.passes.proofs.Passes.{stamp_stays}
use Rattle.event_log.proofs.Leading.{Midway, at_start, past_it, within_limits_lem}
use Rattle.passes.specs.Passes.{Leads}
use Rattle.event_stamps.specs.EventStamps.{no_entry, is_one_of, with_stamp, StampsTo}

none_of : (numbers : List ℕ) (i n : ℕ) → is_one_of n numbers i ≡ false → (j : ℕ) → j < n → eqb (get_or numbers j 0) i ≡ false
unfolding is_one_of
none_of numbers i zero h j l = absurd (omega arith)
none_of numbers i (suc n) h j l = go (eqb (get_or numbers n 0) i) refl h (ℕ_discrete j n) (λ u v. none_of numbers i n u j v)
  where
    go : (b : Bool) → eqb (get_or numbers n 0) i ≡ b → b || is_one_of n numbers i ≡ false → Dec (j ≡ n)
        → (is_one_of n numbers i ≡ false → j < n → eqb (get_or numbers j 0) i ≡ false) → eqb (get_or numbers j 0) i ≡ false
    go true e h d ih = absurd (true≢false h)
    go false e h (yes z) ih = rw z e
    go false e h (no d) ih = ih h (omega arith)

-- i events gone past, which the clocks hold, and the stamps of those of them that have one of the numbers
pub record Stamping (bytes : List ℕ) (es : List Event) (numbers clocks : List ℕ) (stamps : List Stamp) (at i : ℕ) : Type 0 where
  pub gone : List Event
  pub passed : Midway bytes es gone at
  pub count : length gone ≡ i
  pub held : ClocksOf gone clocks
  pub whole : length stamps ≡ slot_limit
  pub kept : StampsTo gone numbers i stamps

module _ {bytes : List ℕ} {es : List Event} {m : ℕ} (ls : Leads bytes es m) {numbers : List ℕ} where
  pub begun : {clocks : List ℕ} (stamps : List Stamp) → length stamps ≡ slot_limit → ClocksOf [] clocks → Stamping bytes es numbers clocks stamps 0 0
  begun stamps w h =
      record { gone = []; passed = at_start bytes ls.read; count = refl; held = h; whole = w; kept = λ j l u v. absurd (let z : ⊥ = omega arith in z) }

  module _ {clocks : List ℕ} {stamps : List Stamp} {at i : ℕ} (s : Stamping bytes es numbers clocks stamps at i) where
    pub ahead : i < length es → length s.gone < length es
    ahead l = let g = s.count in omega arith

    module _ (l : i < length es) (e : Event) (next : ℕ) (q : command e next ≡ read_event bytes at) where
      -- there is room for it
      room : length s.gone < events
      room = let g = s.count in let c = ls.count in let few = ls.few in omega arith

      stamped_on : (stamp : Stamp) (after : List ℕ) → ((log : List Event) → ClocksOf log clocks → length log < events → range_refusal (slot_of e) ≡ 0 → Arrived log e stamp after)
          → (now : List Stamp) → length now ≡ slot_limit
          → ((j : ℕ) → j < slot_limit → get_or now j no_entry ≡ cond (eqb (get_or numbers j 0) (i + 1)) stamp (get_or stamps j no_entry))
          → Stamping bytes es numbers after now next (i + 1)
      stamped_on stamp after arrives now whole entry =
          let a = arrives s.gone s.held room (within_limits_lem s.passed (ahead l) e next q) in
          record {
            gone = longer;
            passed = past_it s.passed (ahead l) e next q;
            count = length-append s.gone (e ∷ []) ∙ ap (λ (k : ℕ). k + 1) s.count;
            held = a.holds;
            whole = whole;
            kept = λ j l u v. subst (StampOf longer (get_or numbers j 0)) (sym (entry j l)) (go j l u v a (ℕ_discrete (get_or numbers j 0) (i + 1)));
          }
        where
          longer : List Event
          longer = s.gone ++ (e ∷ [])

          go : (j : ℕ) → j < slot_limit → 0 < get_or numbers j 0 → get_or numbers j 0 ≤ i + 1 → Arrived s.gone e stamp after → Dec (get_or numbers j 0 ≡ i + 1)
              → StampOf longer (get_or numbers j 0) (cond (eqb (get_or numbers j 0) (i + 1)) stamp (get_or stamps j no_entry))
          go j l u v a (yes z) = rw (eq-eqb _ _ z, z) (subst (λ (k : ℕ). StampOf longer (k + 1) stamp) s.count a.stamp)
          go j l u v a (no d) =
              let m : get_or numbers j 0 ≤ i = omega arith in
              let c = s.count in
              rw (ne_eqb _ _ d) (stamp_stays s.gone (e ∷ []) (get_or numbers j 0) (get_or stamps j no_entry) u (omega arith) (s.kept j l u m))

      pub stamped_now : (stamp : Stamp) (after : List ℕ) → ((log : List Event) → ClocksOf log clocks → length log < events → range_refusal (slot_of e) ≡ 0 → Arrived log e stamp after)
          → Stamping bytes es numbers after (with_stamp (i + 1) stamp numbers stamps) next (i + 1)
      stamped_now stamp after arrives =
          stamped_on stamp after arrives (with_stamp (i + 1) stamp numbers stamps) (updated_length no_entry _ stamps 0 slot_limit ∙ s.whole)
          (λ j l. updated_first no_entry _ stamps slot_limit j l (let w = s.whole in omega arith))

      -- an event that has none of the numbers leaves the stamps as they are
      pub passed_now : (stamp : Stamp) (after : List ℕ) → ((log : List Event) → ClocksOf log clocks → length log < events → range_refusal (slot_of e) ≡ 0 → Arrived log e stamp after)
          → is_one_of slot_limit numbers (i + 1) ≡ false → Stamping bytes es numbers after stamps next (i + 1)
      passed_now stamp after arrives f = stamped_on stamp after arrives stamps s.whole (λ j l. rw (none_of numbers (i + 1) slot_limit f j l))

    -- the pass has come to event number n
    pub all_stamped : {n : ℕ} → n ≤ i → StampsTo es numbers n stamps
    all_stamped {n} l j m u v =
        subst (λ (xs : List Event). StampOf xs (get_or numbers j 0) (get_or stamps j no_entry)) (sym s.passed.whole)
        (stamp_stays s.gone s.passed.rest (get_or numbers j 0) (get_or stamps j no_entry) u (let c = s.count in omega arith) (s.kept j m u (omega arith)))
