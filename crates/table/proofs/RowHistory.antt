-- What becomes of one row as an event is offered at one slot: it stays that of its set, or becomes that of its set with the event.
-- Assumes nothing.
use Prim.Native.Nat.{ℕ, suc, ◌+◌, ◌-◌, ◌≤◌, ◌<◌}
use mathlib.Core.Path.{◌≡◌, sym, ap, ap₂, subst, ◌∙◌}
use mathlib.Core.Bool.{Bool, true, false}
use mathlib.Core.List.{List, [], ◌∷◌, ◌++◌, Memᴰ as Mem}
use mathlib.Core.Option.{Option, some, none}
use native.Mathlib.Decide.{ℕ_discrete}
use native.Mathlib.Omega.{arith}
use lib.Dec.{leb}
use lib.ListN.{length, get_or, set, take, drop, length-set, length-drop}
use lib.Seq.{split_at, set_split, get_or-set_same, get_or-set_other, get_or-drop, length-take-le, ext_get_or}
use borrow.Author.Tests.{le-leb, lt-leb}
use Rattle.event.specs.declared.Event.{Event}
use Rattle.event.specs.declared.Slot.{Slot}
use Rattle.event.specs.Limits.{slots}
use Rattle.event.specs.Slots.{no_slot, no_event}
use Rattle.event.proofs.Tests.{by_test}
use Rattle.trace.specs.Tuples.{Among, pick}
use Rattle.trace.proofs.Lists.{length_snoc, both_ways}
use Rattle.trace.proofs.Before.{before}
use Rattle.trace.proofs.Greatest.{best_append}
use Rattle.trace.proofs.Stamps.{place_append}
use Rattle.trace.proofs.Arrivals.{arrives_unfit, arrives_none, arrives_joins, arrives_barred}
use Rattle.dependence.specs.Dependence.{dependent}
use Rattle.dependence.specs.Order.{thread_of}
use Rattle.clock.specs.declared.Stamp.{Stamp}
use Rattle.table.specs.declared.Entry.{Entry}
use Rattle.table.specs.Sets.{lanes, width, held}
use Rattle.table.specs.Table.{limits_to, place_by}
use Rattle.table.specs.Keeps.{Fits, Greatest, place_in, numbers_of, Filled, Keeping, kept, missing}
use Rattle.table.proofs.RowLaws.{Step, no_row, no_room, joins}
use Rattle.table.proofs.BitLaws.{bit_within, pick_mem, mem_pick, listed_length, listed_at, listed_same}
use Rattle.table.proofs.Lanes as lanes-of
use Rattle.table.proofs.Lanes.{Ready, good_of, lane_among, lane_fits, InLane}

-- a place, counted from 0, beside a limit
not_far : (x y : ℕ) → y ≤ x → leb (x + 1) y ≡ false
not_far x y l = lt-leb (x + 1) y (omega arith)

as_far : (x y : ℕ) → x < y → leb (x + 1) y ≡ true
as_far x y l = le-leb (x + 1) y (omega arith)

-- ---- rows with the same entries

module _ (ss : List Slot) (short : length ss ≤ slots) (log : List Event) (bs : List Bool) {r r' : ℕ → ℕ}
    (same : (j : ℕ) → j < width → r j ≡ r' j) where
  same_numbers : numbers_of (length ss) r ≡ numbers_of (length ss) r'
  same_numbers = listed_same (length ss) (λ j. r (lanes + j)) (λ j. r' (lanes + j)) (λ j l. same (lanes + j) (omega arith))

  pub keeping_same : {fits : Fits} → Keeping fits ss log bs r → Keeping fits ss log bs r'
  keeping_same (missing h b) = missing (sym (same held (omega arith)) ∙ h) b
  keeping_same {fits} (kept h b f) =
      kept (sym (same held (omega arith)) ∙ h) (subst (λ (l : List ℕ). Greatest fits log (pick bs ss) (some (pick bs l))) same_numbers b)
      (record {
        filled = λ j l t. let p = same j (omega arith) in let q = same (lanes + j) (omega arith) in rw (sym p, sym q) (f.filled j l t);
        no_place = λ j l t. sym (same j (omega arith)) ∙ f.no_place j l t;
        no_number = λ j l t. sym (same (lanes + j) (omega arith)) ∙ f.no_number j l t;
      })

module _ {fits : Fits} {ss : List Slot} {log : List Event} {acting : List ℕ} {marked : List Bool} {n : ℕ} {e : Event} {stamp : Stamp} {number : ℕ}
    (ready : Ready fits ss log acting marked n e stamp number) where
  abbrev longer : List Event
  longer = lanes-of.longer ready

  abbrev next : ℕ
  next = lanes-of.next ready

  -- ---- the event at a slot of a row

  abbrev Lane : (ℕ → ℕ) → ℕ → Type 0
  Lane = InLane ready

  -- of the events before
  old_among : (bs : List Bool) (r : ℕ → ℕ) → length bs ≡ length ss → Greatest fits log (pick bs ss) (some (pick bs (numbers_of (length ss) r)))
      → (j : ℕ) → get_or bs j false ≡ true → Among (length log) (r (lanes + j))
  old_among bs r len b j t = lane_among _ _ ss (length log) bs r (good_of b) len j t

  place_stays : (x : ℕ) → x ≤ length log → place_in log x ≡ place_in longer x
  place_stays x l = sym (place_append no_event thread_of log (e ∷ []) x l)

  lane_old : (bs : List Bool) (r : ℕ → ℕ) → length bs ≡ length ss → Greatest fits log (pick bs ss) (some (pick bs (numbers_of (length ss) r)))
      → Filled log bs r → (j : ℕ) → j < lanes → get_or bs j false ≡ true → Lane r j
  lane_old bs r len b f j l t =
      let u = old_among bs r len b j t in
      let s = bit_within bs j t in
      record {
        inside = omega arith;
        among = omega arith;
        fit = lane_fits _ _ ss (length log) bs r (good_of (best_append no_event dependent fits log (e ∷ []) b)) len j t;
        at_place = f.filled j l t ∙ place_stays (r (lanes + j)) u.1;
      }

  -- and of those with the new one
  lane_new : (bs : List Bool) (r : ℕ → ℕ) → length bs ≡ length ss → Greatest fits longer (pick bs ss) (some (pick bs (numbers_of (length ss) r)))
      → Filled longer bs r → (j : ℕ) → j < lanes → get_or bs j false ≡ true → Lane r j
  lane_new bs r len b f j l t =
      let u : Among (length longer) (r (lanes + j)) = lane_among _ _ ss (length longer) bs r (good_of b) len j t in
      let s = bit_within bs j t in
      record {
        inside = omega arith;
        among = rw (length_snoc log e) at u;
        fit = lane_fits _ _ ss (length longer) bs r (good_of b) len j t;
        at_place = f.filled j l t;
      }

  -- ---- a row that stays

  carry : (bs : List Bool) (r : ℕ → ℕ) → length bs ≡ length ss
      → ((o : Option (List ℕ)) → Greatest fits log (pick bs ss) o → Greatest fits longer (pick bs ss) o)
      → Keeping fits ss log bs r → Keeping fits ss longer bs r
  carry bs r len up (missing h b) = missing h (up none b)
  carry bs r len up (kept h b f) =
      kept h (up _ b)
      (record {
        filled = λ j l t. f.filled j l t ∙ place_stays (r (lanes + j)) (old_among bs r len b j t).1;
        no_place = f.no_place;
        no_number = f.no_number;
      })

  -- the new event fits no slot of the set
  pub unfit : (bs : List Bool) (r : ℕ → ℕ) → length bs ≡ length ss
      → ((j : ℕ) → get_or bs j false ≡ true → fits (get_or ss j no_slot) e ≡ false) → Keeping fits ss log bs r → Keeping fits ss longer bs r
  unfit bs r len d k = carry bs r len (λ o b. arrives_unfit no_event dependent fits log e not_one b) k
    where
      not_one : (s : Slot) → Mem s (pick bs ss) → fits s e ≡ false
      not_one s m = let x = pick_mem bs ss no_slot m in rw x.3 (d x.0 x.1)

  -- ---- the new event fits slot k

  module _ (k : ℕ) (k-low : k < length ss) (new-fits : fits (get_or ss k no_slot) e ≡ true) where
    abbrev entry : Entry
    entry = record { slot = k; place = place_by e.thread stamp; number = number }

    abbrev limits : List ℕ
    limits = limits_to slots acting k stamp

    -- a set with the slot k, the row of the set without it, and what becomes of its own row
    module _ (bs : List Bool) (len : length bs ≡ length ss) (has-k : get_or bs k false ≡ true) (from to new : ℕ → ℕ)
        (step : Step limits entry from to new) where
      abbrev less : List Bool
      less = set bs k false

      less_length : length less ≡ length ss
      less_length = length-set bs k false ∙ len

      less_bit : (j : ℕ) → (j ≡ k → ⊥) → get_or less j false ≡ get_or bs j false
      less_bit j d = get_or-set_other bs k j false false d

      -- where a later slot of the set was met, the row stays
      pub stays : (j : ℕ) → k < j → get_or bs j false ≡ true → fits (get_or ss j no_slot) e ≡ true → Keeping fits ss longer less from
          → Keeping fits ss longer bs to → Keeping fits ss longer bs new
      stays j l t f src tgt = go step
        where
          j_lane : j < lanes
          j_lane = let u = bit_within bs j t in let s = ready.short in omega arith

          t' : get_or less j false ≡ true
          t' = less_bit j (λ p. let z : ⊥ = omega arith in z) ∙ t

          blocked : Keeping fits ss longer less from → (from held ≡ 0 → ⊥) → lanes-of.limit ready k j ≤ from j → ⊥
          blocked (missing h b) d u = d h
          blocked (kept h b g) d u =
              let x = lane_new less from less_length b g j j_lane t' in
              let q = lanes-of.limit_is ready k j l x.inside (lanes-of.slot_low ready x) in
              both_ways (lanes-of.before_fitting ready x f) (lanes-of.before_lane ready x ∙ ap (leb (from j + 1)) (sym q) ∙ not_far (from j) (lanes-of.limit ready k j) u)

          go : Step limits entry from to new → Keeping fits ss longer bs new
          go (no_row h s) = keeping_same ss ready.short longer bs (λ i u. sym (s i u)) tgt
          go (no_room i u r s) = keeping_same ss ready.short longer bs (λ i u. sym (s i u)) tgt
          go (joins d r a b s) = absurd (blocked src d (r j j_lane))

      -- otherwise k is the last slot of the set that the new event fits
      module _ (last : (j : ℕ) → k < j → get_or bs j false ≡ true → fits (get_or ss j no_slot) e ≡ false) where
        abbrev b1 : List Bool
        b1 = take k bs

        abbrev b2 : List Bool
        b2 = drop (suc k) bs

        abbrev p1 : List Slot
        p1 = take k ss

        abbrev slot : Slot
        slot = get_or ss k no_slot

        abbrev p2 : List Slot
        p2 = drop (suc k) ss

        k_bits : k < length bs
        k_bits = omega arith

        bs_is : bs ≡ b1 ++ (true ∷ b2)
        bs_is = split_at bs k false k_bits ∙ ap (λ (b : Bool). b1 ++ (b ∷ b2)) has-k

        less_is : less ≡ b1 ++ (false ∷ b2)
        less_is = set_split bs k false k_bits

        ss_is : ss ≡ p1 ++ (slot ∷ p2)
        ss_is = split_at ss k no_slot k-low

        eb : length b1 ≡ length p1
        eb = length-take-le k bs (omega arith) ∙ sym (length-take-le k ss (omega arith))

        no_later : (q : Slot) → Mem q (pick b2 p2) → fits q e ≡ false
        no_later q m =
            let x = pick_mem b2 p2 no_slot m in
            rw (x.3 ∙ get_or-drop (suc k) ss x.0 no_slot)
            (last (suc k + x.0) (omega arith) (sym (get_or-drop (suc k) bs x.0 false) ∙ x.1))

        -- the slots of the set, with k and without it
        abbrev picked : Bool → List Slot
        picked b = pick (b1 ++ (b ∷ b2)) (p1 ++ (slot ∷ p2))

        with_k : pick bs ss ≡ picked true
        with_k = ap₂ pick bs_is ss_is

        without_k : pick less ss ≡ picked false
        without_k = ap₂ pick less_is ss_is

        -- no row for the set without k
        none_there : Greatest fits log (pick less ss) none → Keeping fits ss log bs to → Keeping fits ss longer bs to
        none_there b tgt =
            carry bs to len
            (λ o d.
            subst (λ (l : List Slot). Greatest fits longer l o) (sym with_k)
            (arrives_none no_event dependent fits log e (lanes-of.law ready) b1 b2 p1 slot p2 eb new-fits no_later
            (subst (λ (l : List Slot). Greatest fits log l none) without_k b)
            (subst (λ (l : List Slot). Greatest fits log l o) with_k d)))
            tgt

        -- a row for it
        module _ (there : from held ≡ 1) (b : Greatest fits log (pick less ss) (some (pick less (numbers_of (length ss) from))))
            (f : Filled log less from) where
          abbrev ns : List ℕ
          ns = numbers_of (length ss) from

          ns_length : length ns ≡ length ss
          ns_length = listed_length (length ss) (λ j. from (lanes + j))

          abbrev r1 : List ℕ
          r1 = take k ns

          abbrev r2 : List ℕ
          r2 = drop (suc k) ns

          k_numbers : k < length ns
          k_numbers = rw ns_length k-low

          er : length r1 ≡ length p1
          er = length-take-le k ns (rw ns_length (omega arith)) ∙ sym (length-take-le k ss (omega arith))

          kept_less : Greatest fits log (picked false) (some (pick (b1 ++ (false ∷ b2)) (r1 ++ (get_or ns k 0 ∷ r2))))
          kept_less =
              subst (λ (l : List ℕ). Greatest fits log (picked false) (some l)) (ap₂ pick less_is (split_at ns k 0 k_numbers))
              (subst (λ (l : List Slot). Greatest fits log l (some (pick less ns))) without_k b)

          -- the event of a later slot of the set
          later_lane : (j : ℕ) → k < j → get_or bs j false ≡ true → Lane from j
          later_lane j l t =
              let u = bit_within bs j t in
              let s = ready.short in
              lane_old less from less_length b f j (omega arith) (less_bit j (λ p. let z : ⊥ = omega arith in z) ∙ t)

          later_test : (j : ℕ) → k < j → get_or bs j false ≡ true
              → before (lanes-of.depends ready) (from (lanes + j)) next ≡ leb (from j + 1) (lanes-of.limit ready k j)
          later_test j l t =
              let x = later_lane j l t in
              lanes-of.before_lane ready x ∙ ap (leb (from j + 1)) (sym (lanes-of.limit_is ready k j l x.inside (lanes-of.slot_low ready x)))

          -- one comes before the new event: the row stays
          barred : (i : ℕ) → i < lanes → from i < lanes-of.limit ready k i → Keeping fits ss log bs to → Keeping fits ss longer bs to
          barred i l r tgt =
              carry bs to len
              (λ o d.
              subst (λ (l : List Slot). Greatest fits longer l o) (sym with_k)
              (arrives_barred no_event dependent fits log e (lanes-of.law ready) b1 b2 p1 slot p2 eb new-fits no_later r1 (get_or ns k 0) r2 er kept_less
              (from (lanes + i)) in_row (later_test i later bit ∙ as_far (from i) (lanes-of.limit ready k i) r)
              (subst (λ (l : List Slot). Greatest fits log l o) with_k d)))
              tgt
            where
              later : k < i
              later = lanes-of.limit_later ready k i l (omega arith)

              bit : get_or bs i false ≡ true
              bit =
                  by_test (get_or bs i false)
                  (λ q. q)
                  (λ q.
                  let w = later in
                  let a = f.no_place i l (less_bit i (λ p. let z : ⊥ = omega arith in z) ∙ q) in
                  let c = lanes-of.limit_small ready k i l in
                  let g = lanes-of.next_small ready in
                  absurd (let z : ⊥ = omega arith in z))

              i_low : i < length ss
              i_low = let u = bit_within bs i bit in omega arith

              offset : suc k + (i - suc k) ≡ i
              offset = let l = later in omega arith

              in_row : Mem (from (lanes + i)) (pick b2 r2)
              in_row =
                  let d : get_or b2 (i - suc k) false ≡ true = get_or-drop (suc k) bs (i - suc k) false ∙ ap (λ (j : ℕ). get_or bs j false) offset ∙ bit in
                  let g : get_or r2 (i - suc k) 0 ≡ from (lanes + i) =
                  get_or-drop (suc k) ns (i - suc k) 0 ∙ ap (λ (j : ℕ). get_or ns j 0) offset ∙ listed_at (length ss) (λ j. from (lanes + j)) i i_low in
                  let v = i_low in
                  let w = later in
                  let u : i - suc k < length r2 = rw (length-drop (suc k) ns, ns_length) (omega arith) in
                  subst (λ (x : ℕ). Mem x (pick b2 r2)) g (mem_pick b2 r2 0 (i - suc k) d u)

          -- none does: the new event joins the row of the set without k
          module _ (room : (i : ℕ) → i < lanes → lanes-of.limit ready k i ≤ from i) (at-k : new k ≡ place_by e.thread stamp)
              (number-k : new (lanes + k) ≡ number)
              (others : (j : ℕ) → j < width → (j ≡ k → ⊥) → (j ≡ lanes + k → ⊥) → new j ≡ from j) where
            free : (m : ℕ) → Mem m (pick b2 r2) → before (lanes-of.depends ready) m next ≡ false
            free m i =
                let x = pick_mem b2 r2 0 i in
                let j = suc k + x.0 in
                let t : get_or bs j false ≡ true = sym (get_or-drop (suc k) bs x.0 false) ∙ x.1 in
                let u : j < length bs = bit_within bs j t in
                let s = ready.short in
                let g : m ≡ from (lanes + j) =
                x.3 ∙ get_or-drop (suc k) ns x.0 0 ∙ listed_at (length ss) (λ j. from (lanes + j)) j (omega arith) in
                rw g (later_test j (omega arith) t ∙ not_far (from j) (lanes-of.limit ready k j) (room j (omega arith)))

            with_entry : Greatest fits longer (picked true) (some (pick (b1 ++ (true ∷ b2)) (r1 ++ (next ∷ r2))))
            with_entry = arrives_joins no_event dependent fits log e (lanes-of.law ready) b1 b2 p1 slot p2 eb new-fits no_later r1 (get_or ns k 0) r2 er kept_less free

            new_number : (j : ℕ) → j < lanes → (j ≡ k → ⊥) → new (lanes + j) ≡ from (lanes + j)
            new_number j l d =
                let s = ready.short in
                others (lanes + j) (omega arith) (λ p. let z : ⊥ = omega arith in z) (λ p. d (let z : j ≡ k = omega arith in z))

            new_at : (j : ℕ) → j < lanes → (j ≡ k → ⊥) → new j ≡ from j
            new_at j l d = others j (omega arith) d (λ p. let z : ⊥ = omega arith in z)

            numbers_are : numbers_of (length ss) new ≡ r1 ++ (next ∷ r2)
            numbers_are =
                ext_get_or 0 (numbers_of (length ss) new) (set ns k next)
                (listed_length (length ss) (λ j. new (lanes + j)) ∙ sym (length-set ns k next ∙ ns_length))
                each
                ∙ set_split ns k next k_numbers
              where
                go : (i : ℕ) → i < length ss → Dec (i ≡ k) → new (lanes + i) ≡ get_or (set ns k next) i 0
                go i l (yes p) = rw p (number-k ∙ lanes-of.number_next ready ∙ sym (get_or-set_same ns k next 0 k_numbers))
                go i l (no d) =
                    let s = ready.short in
                    new_number i (omega arith) d ∙ sym (get_or-set_other ns k i next 0 d ∙ listed_at (length ss) (λ j. from (lanes + j)) i l)

                each : (i : ℕ) → i < length (numbers_of (length ss) new) → get_or (numbers_of (length ss) new) i 0 ≡ get_or (set ns k next) i 0
                each i l =
                    let u : i < length ss = rw (listed_length (length ss) (λ j. new (lanes + j))) at l in
                    listed_at (length ss) (λ j. new (lanes + j)) i u ∙ go i u (ℕ_discrete i k)

            filled_new : (j : ℕ) → j < lanes → get_or bs j false ≡ true → Dec (j ≡ k) → new j + 1 ≡ place_in longer (new (lanes + j))
            filled_new j l t (yes p) = rw (p, at-k, number-k, lanes-of.number_next ready) (lanes-of.new_place ready)
            filled_new j l t (no d) =
                let u = less_bit j d ∙ t in
                rw (new_at j l d, new_number j l d)
                (f.filled j l u ∙ place_stays (from (lanes + j)) (old_among less from less_length b j u).1)

            not_k : (j : ℕ) → get_or bs j false ≡ false → j ≡ k → ⊥
            not_k j t p = both_ways has-k (rw p at t)

            pub joined_row : Keeping fits ss longer bs new
            joined_row =
                let s = ready.short in
                kept (others held (omega arith) (λ p. let z : ⊥ = omega arith in z) (λ p. let z : ⊥ = omega arith in z) ∙ there)
                (subst (λ (l : List ℕ). Greatest fits longer (pick bs ss) (some (pick bs l))) (sym numbers_are)
                (subst (λ (l : List Bool). Greatest fits longer (pick bs ss) (some (pick l (r1 ++ (next ∷ r2))))) (sym bs_is)
                (subst (λ (l : List Slot). Greatest fits longer l (some (pick (b1 ++ (true ∷ b2)) (r1 ++ (next ∷ r2))))) (sym with_k) with_entry)))
                (record {
                  filled = λ j l t. filled_new j l t (ℕ_discrete j k);
                  no_place = λ j l t. let d = not_k j t in new_at j l d ∙ f.no_place j l (less_bit j d ∙ t);
                  no_number = λ j l t. let d = not_k j t in new_number j (omega arith) d ∙ f.no_number j l (less_bit j d ∙ t);
                })

        -- what becomes of the row
        pub newly : Keeping fits ss log less from → Keeping fits ss log bs to → Keeping fits ss longer bs new
        newly src tgt = go step src
          where
            same : ((j : ℕ) → j < width → new j ≡ to j) → Keeping fits ss longer bs to → Keeping fits ss longer bs new
            same s = keeping_same ss ready.short longer bs (λ i u. sym (s i u))

            clash : from held ≡ 0 → from held ≡ 1 → ⊥
            clash p q = omega arith

            go : Step limits entry from to new → Keeping fits ss log less from → Keeping fits ss longer bs new
            go (no_row h s) (missing g b) = same s (none_there b tgt)
            go (no_row h s) (kept g b f) = absurd (clash h g)
            go (no_room i u r s) (missing g b) = same s (none_there b tgt)
            go (no_room i u r s) (kept g b f) = same s (barred g b f i u r tgt)
            go (joins d r a c s) (missing g b) = absurd (d g)
            go (joins d r a c s) (kept g b f) = joined_row g b f r a c s
