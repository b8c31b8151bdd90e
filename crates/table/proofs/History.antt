-- For every pattern and every list of events that the table keeps: once the event that follows was offered, the table keeps that too;
-- and what is found in it is the list's match.
-- Assumes nothing.
use Prim.Native.Nat.{ℕ, zero, suc, ◌+◌, ◌/◌, ◌%◌, ◌^◌, ◌≤◌, ◌<◌}
use mathlib.Core.Path.{◌≡◌, sym, ap, ap₂, subst, ◌∙◌}
use mathlib.Core.Bool.{Bool, true, false, cond}
use mathlib.Core.List.{List, [], ◌∷◌, ◌++◌}
use native.Mathlib.Decide.{ℕ_discrete}
use native.Mathlib.Omega.{arith}
use lib.ListN.{length, get_or, set, take, drop, length-set}
use lib.Seq.{split_at, set_split, get_or-set_other, length-take-le}
use lib.Pow.{pow_mono}
use borrow.Author.Tests.{lt-ltb, le-leb}
use Rattle.event.specs.declared.Event.{Event}
use Rattle.event.specs.declared.Slot.{Slot}
use Rattle.event.specs.Limits.{threads, slots}
use Rattle.event.specs.Slots.{no_slot, no_event}
use Rattle.event.proofs.Tests.{by_test}
use Rattle.trace.proofs.Lists.{length_snoc, both_ways}
use Rattle.trace.proofs.Numbers.{numbered_among, numbered_at}
use Rattle.clock.specs.declared.Stamp.{Stamp}
use Rattle.table.specs.declared.Entry.{Entry}
use Rattle.table.specs.Sets.{width, sets, size, spread}
use Rattle.table.specs.Table.{limits_to, limits_after, place_by, swept_to, slot_offered, offered_down, offered}
use Rattle.table.specs.Keeps.{Fits, ByThread, set_number, row_in, Keeping, Keeps, Follows}
use Rattle.table.proofs.SetLaws.{with_slot, all_spread}
use Rattle.table.proofs.RowLaws.{Step}
use Rattle.table.proofs.SweepLaws.{swept_length, swept_still, swept_step}
use Rattle.table.proofs.BitLaws.{number_below, number_bit, number_with, bit_within}
use Rattle.table.proofs.Lanes.{Ready, low_longer}
use Rattle.table.proofs.RowHistory.{keeping_same, unfit, stays, newly}

-- the number of a set with the slot k, and without it
module _ (bs : List Bool) (k : ℕ) (low : k < length bs) where
  front : length (take k bs) ≡ k
  front = length-take-le k bs (omega arith)

  bit_number : (b : Bool) → get_or bs k false ≡ b → set_number bs / 2 ^ k % 2 ≡ cond b 1 0
  bit_number b h =
      let s : bs ≡ take k bs ++ (b ∷ drop (suc k) bs) = split_at bs k false low ∙ ap (λ (b : Bool). take k bs ++ (b ∷ drop (suc k) bs)) h in
      ap₂ (λ (m j : ℕ). m / 2 ^ j % 2) (ap set_number s) (sym front) ∙ number_bit (take k bs) b (drop (suc k) bs)

  less_number : get_or bs k false ≡ true → set_number bs ≡ set_number (set bs k false) + 2 ^ k
  less_number h =
      let s : bs ≡ take k bs ++ (true ∷ drop (suc k) bs) = split_at bs k false low ∙ ap (λ (b : Bool). take k bs ++ (b ∷ drop (suc k) bs)) h in
      ap set_number s
      ∙ number_with (take k bs) (drop (suc k) bs)
      ∙ ap₂ (λ (m j : ℕ). m + 2 ^ j) (ap set_number (sym (set_split bs k false low))) front

  less_bit_number : set_number (set bs k false) / 2 ^ k % 2 ≡ 0
  less_bit_number =
      ap₂ (λ (m j : ℕ). m / 2 ^ j % 2) (ap set_number (set_split bs k false low)) (sym front)
      ∙ number_bit (take k bs) false (drop (suc k) bs)

module _ {fits : Fits} {ss : List Slot} {log : List Event} {acting : List ℕ} {marked : List Bool} {n : ℕ} {e : Event} {stamp : Stamp} {number : ℕ}
    (ready : Ready fits ss log acting marked n e stamp number) where
  abbrev longer : List Event
  longer = log ++ (e ∷ [])

  -- The slots from k on were offered the new event. A set one of whose slots it fits has its row with the new event; any other has its
  -- row without.
  data Mid (k : ℕ) (bs : List Bool) (r : ℕ → ℕ) : Type 0 where
    met : (j : ℕ) → k ≤ j → get_or bs j false ≡ true → fits (get_or ss j no_slot) e ≡ true → Keeping fits ss longer bs r → Mid k bs r
    unmet : ((j : ℕ) → k ≤ j → get_or bs j false ≡ true → fits (get_or ss j no_slot) e ≡ false) → Keeping fits ss log bs r → Mid k bs r

  record State (k : ℕ) (table : List ℕ) : Type 0 where
    whole : length table ≡ size
    rows : (bs : List Bool) → length bs ≡ length ss → Mid k bs (row_in table (set_number bs))

  mid_same : {k : ℕ} {bs : List Bool} {r r' : ℕ → ℕ} → ((j : ℕ) → j < width → r j ≡ r' j) → Mid k bs r → Mid k bs r'
  mid_same {bs = bs} s (met j l t f h) = met j l t f (keeping_same ss ready.short longer bs s h)
  mid_same {bs = bs} s (unmet d h) = unmet d (keeping_same ss ready.short log bs s h)

  -- a slot that is not in the set, or that the event does not fit
  mid_over : {k : ℕ} {bs : List Bool} {r : ℕ → ℕ} → (get_or bs k false ≡ true → fits (get_or ss k no_slot) e ≡ false) → Mid (suc k) bs r → Mid k bs r
  mid_over d (met j l t f h) = met j (omega arith) t f h
  mid_over {k} {bs} d (unmet g h) = unmet (λ j l t. go j l t (ℕ_discrete j k)) h
    where
      go : (j : ℕ) → k ≤ j → get_or bs j false ≡ true → Dec (j ≡ k) → fits (get_or ss j no_slot) e ≡ false
      go j l t (yes p) = rw p (d (rw p at t))
      go j l t (no q) = g j (omega arith) t

  -- ---- one slot

  module _ (k : ℕ) (k-low : k < length ss) where
    abbrev entry : Entry
    entry = record { slot = k; place = place_by e.thread stamp; number = number }

    module _ (new-fits : fits (get_or ss k no_slot) e ≡ true) (table : List ℕ) (h : State (suc k) table) where
      abbrev after : List ℕ
      after = swept_to (2 ^ n / 2) table (limits_after acting k stamp) entry

      k_slot : k < slots
      k_slot = let s = ready.short in omega arith

      module _ (bs : List Bool) (len : length bs ≡ length ss) where
        k_bit : k < length bs
        k_bit = omega arith

        outside : get_or bs k false ≡ false → Mid k bs (row_in after (set_number bs))
        outside t =
            mid_same
            (λ j l. sym (swept_still table (limits_after acting k stamp) entry h.whole k_slot (2 ^ n / 2) (set_number bs) j l (not_there (bit_number bs k k_bit false t))))
            (mid_over (λ u. absurd (both_ways u t)) (h.rows bs len))
          where
            not_there : set_number bs / 2 ^ k % 2 ≡ 0 → set_number bs / 2 ^ k % 2 ≡ 1 → ⊥
            not_there p q = omega arith

        inside : get_or bs k false ≡ true → Mid k bs (row_in after (set_number bs))
        inside t = go (h.rows bs len) (h.rows less less_length)
          where
            less : List Bool
            less = set bs k false

            less_length : length less ≡ length ss
            less_length = length-set bs k false ∙ len

            few : set_number less < 2 ^ n
            few = let l = number_below less in rw (ready.follows.size_is, sym less_length) l

            not_there : set_number less / 2 ^ k % 2 ≡ 0 → set_number less / 2 ^ k % 2 ≡ 1 → ⊥
            not_there p q = omega arith

            turn : (i : ℕ) × (i < 2 ^ n / 2) × (set_number less ≡ spread k i)
            turn = all_spread k n (set_number less) k_slot (rw ready.follows.size_is k-low) few (not_there (less_bit_number bs k k_bit))

            in_sets : (i : ℕ) → i < 2 ^ n / 2 → spread k i + 2 ^ k < sets
            in_sets i l =
                let s = ready.short in
                let p : n ≤ slots = rw ready.follows.size_is s in
                let q : 2 ^ n ≤ sets = pow_mono p in
                with_slot k i k_slot (omega arith)

            step : Step (limits_to slots acting k stamp) entry (row_in table (set_number less)) (row_in table (set_number bs)) (row_in after (set_number bs))
            step =
                rw (less_number bs k k_bit t, turn.2)
                (swept_step table (limits_after acting k stamp) entry h.whole k_slot (2 ^ n / 2) turn.0 turn.1 (in_sets turn.0 turn.1))

            bit : (j : ℕ) → suc k ≤ j → get_or less j false ≡ get_or bs j false
            bit j l = get_or-set_other bs k j false false (λ p. let z : ⊥ = omega arith in z)

            go : Mid (suc k) bs (row_in table (set_number bs)) → Mid (suc k) less (row_in table (set_number less)) → Mid k bs (row_in after (set_number bs))
            go (met j l u f tgt) (met i v w g src) =
                met j (omega arith) u f (stays ready k k-low new-fits bs len t _ _ _ step j l u f src tgt)
            go (met j l u f tgt) (unmet d src) = absurd (both_ways f (d j l (bit j l ∙ u)))
            go (unmet d tgt) (met i v w g src) = absurd (both_ways g (d i v (sym (bit i v) ∙ w)))
            go (unmet d tgt) (unmet c src) = met k (omega arith) t new-fits (newly ready k k-low new-fits bs len t _ _ _ step d src tgt)

      swept_state : State k after
      swept_state =
          record {
            whole = swept_length table (limits_after acting k stamp) entry h.whole k_slot (2 ^ n / 2);
            rows = λ bs len. by_test (get_or bs k false) (inside bs len) (outside bs len);
          }

    -- whether the event fits the slot or not
    slot_state : (table : List ℕ) → State (suc k) table → State k (slot_offered table acting marked (2 ^ n / 2) stamp entry)
    unfolding slot_offered
    slot_state table h =
        rw (ready.follows.fit_is k k-low)
        (by_test (fits (get_or ss k no_slot) e)
        (λ q. rw q (swept_state q table h))
        (λ q. rw q (record { whole = h.whole; rows = λ bs len. mid_over (λ t. q) (h.rows bs len) })))

  -- ---- every slot

  down_state : (k : ℕ) (table : List ℕ) → k ≤ length ss → State k table → State 0 (offered_down k table acting marked n e.thread stamp number)
  unfolding offered_down
  down_state zero table l h = h
  down_state (suc k) table l h =
      down_state k (slot_offered table acting marked (2 ^ n / 2) stamp (entry k l)) (omega arith) (slot_state k l table h)

  pub follows_kept : (table : List ℕ) → Keeps fits ss log table → Keeps fits ss longer (offered table acting marked n e.thread stamp number)
  unfolding offered
  follows_kept table h =
      let p = ready.follows.size_is in
      rw (lt-ltb e.thread threads ready.follows.thread_low, le-leb n slots (rw p ready.short))
      (subst (λ (m : ℕ). Keeps fits ss longer (offered_down m table acting marked n e.thread stamp number)) (sym p) all)
    where
      start : State (length ss) table
      start =
          record {
            whole = h.whole;
            rows = λ bs len. unmet (λ j l t. absurd (let u = bit_within bs j t in let z : ⊥ = omega arith in z)) (h.rows bs len);
          }

      over : State 0 (offered_down (length ss) table acting marked n e.thread stamp number)
      over = down_state (length ss) table (omega arith) start

      last : (bs : List Bool) (r : ℕ → ℕ) → length bs ≡ length ss → Mid 0 bs r → Keeping fits ss longer bs r
      last bs r len (met j l t f k) = k
      last bs r len (unmet d k) = unfit ready bs r len (λ j t. d j (omega arith) t) k

      all : Keeps fits ss longer (offered_down (length ss) table acting marked n e.thread stamp number)
      all =
          record {
            whole = over.whole;
            short = ready.short;
            low = λ i a x.
                rw (numbered_at no_event x) at (low_longer ready i (rw (length_snoc log e) at (numbered_among x)));
            rows = λ bs len. last bs _ len (over.rows bs len);
          }

-- the event that follows is offered
pub offer_kept : (fits : Fits) → ByThread fits → (ss : List Slot) (log : List Event) (acting : List ℕ) (marked : List Bool) (n : ℕ) (e : Event) (stamp : Stamp) (number : ℕ) (table : List ℕ)
    → Keeps fits ss log table → Follows fits ss log acting marked n e stamp number → Keeps fits ss (log ++ (e ∷ [])) (offered table acting marked n e.thread stamp number)
offer_kept fits by ss log acting marked n e stamp number table h f = follows_kept (record { follows = f; by_thread = by; short = h.short; low = h.low }) table h
