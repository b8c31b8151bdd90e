-- What a row's places tell, beside the stamp of the event that follows: which of the row's events come before it or are it.
-- Assumes nothing.
use Prim.Native.Nat.{ℕ, zero, suc, ◌+◌, ◌≤◌, ◌<◌}
use mathlib.Core.Path.{◌≡◌, refl, sym, ap, ap₂, ◌∙◌}
use mathlib.Core.Logic.{◌⊎◌, inl, inr, ⊎_elim}
use mathlib.Core.Bool.{Bool, true, false, ◌&&◌}
use mathlib.Core.List.{List, [], ◌∷◌, ◌++◌}
use mathlib.Core.Option.{some}
use native.Mathlib.Decide.{ℕ_discrete, dec_lt}
use native.Mathlib.Omega.{arith}
use native.Mathlib.Numerals.{add-one}
use lib.Dec.{eqb, leb, ltb}
use lib.ListN.{length, get_or}
use borrow.Author.Tests.{lt-ltb, ltb-true, eq-eqb}
use Rattle.event.specs.declared.Event.{Event}
use Rattle.event.specs.declared.Slot.{Slot}
use Rattle.event.specs.Limits.{threads, slots, events}
use Rattle.event.specs.Slots.{no_slot, no_event}
use Rattle.event.proofs.Tests.{by_test}
use Rattle.trace.specs.Before.{Numbered}
use Rattle.trace.specs.Tuples.{event_at, dep_at, fits_at, thread_at, Among, Good, Best, best, pick, one_more, tally, place}
use Rattle.trace.proofs.Lists.{length_snoc}
use Rattle.trace.proofs.Before.{before, before_dep, true_before}
use Rattle.trace.proofs.Numbers.{at_numbered, event_append, event_new}
use Rattle.trace.proofs.Greatest.{LawL}
use Rattle.trace.proofs.Stamps.{stamp as counted, place_stamp, before_by_stamp, stamp_of, stamp_unique}
use Rattle.dependence.specs.Dependence.{dependent}
use Rattle.dependence.specs.Order.{thread_of}
use Rattle.dependence.proofs.Dependent.{one_thread}
use Rattle.clock.specs.declared.Stamp.{Stamp}
use Rattle.table.specs.Sets.{lanes}
use Rattle.table.specs.Table.{limit_at, limits_to, place_by}
use Rattle.table.specs.Keeps.{Fits, ByThread, place_in, numbers_of, Follows}
use Rattle.table.proofs.RowLaws.{limits_beyond, limits_at}
use Rattle.table.proofs.BitLaws.{bit_within, mem_pick, fitting_at, listed_length, listed_at}

tally_small : (p : ℕ → Bool) (n : ℕ) → tally p n ≤ n
tally_small p zero = omega arith
tally_small p (suc n) = let h = tally_small p n in over (p (suc n)) (tally p n) n h
  where
    over : (b : Bool) (t n : ℕ) → t ≤ n → one_more b t ≤ suc n
    over true t n l = omega arith
    over false t n l = omega arith

pub good_of : {dep : ℕ → ℕ → Bool} {fit : Slot → ℕ → Bool} {ss : List Slot} {n : ℕ} {ms : List ℕ} → Best dep fit ss n (some ms)
    → Good dep fit ss n ms
good_of (best a g) = a

-- the event at a slot of a row has a number of the list, and fits the slot
module _ (dep : ℕ → ℕ → Bool) (fit : Slot → ℕ → Bool) (ss : List Slot) (n : ℕ) (bs : List Bool) (r : ℕ → ℕ)
    (good : Good dep fit (pick bs ss) n (pick bs (numbers_of (length ss) r))) (len : length bs ≡ length ss) (j : ℕ)
    (there : get_or bs j false ≡ true) where
  j_low : j < length ss
  j_low = let l = bit_within bs j there in omega arith

  is_entry : get_or (numbers_of (length ss) r) j 0 ≡ r (lanes + j)
  is_entry = listed_at (length ss) (λ i. r (lanes + i)) j j_low

  pub lane_among : Among n (r (lanes + j))
  lane_among =
      let l : j < length (numbers_of (length ss) r) = rw (listed_length (length ss) (λ i. r (lanes + i))) j_low in
      rw is_entry at (good.among (get_or (numbers_of (length ss) r) j 0) (mem_pick bs (numbers_of (length ss) r) 0 j there l))

  pub lane_fits : fit (get_or ss j no_slot) (r (lanes + j)) ≡ true
  lane_fits =
      rw is_entry at
      (fitting_at fit bs ss (numbers_of (length ss) r) no_slot 0 (listed_length (length ss) (λ i. r (lanes + i))) good.fit j there j_low)

-- an event follows those of the log, whose threads are within the limit, and so is the pattern's length
pub record Ready (fits : Fits) (ss : List Slot) (log : List Event) (acting : List ℕ) (marked : List Bool) (n : ℕ) (e : Event) (stamp : Stamp) (number : ℕ) : Type 0 where
  pub follows : Follows fits ss log acting marked n e stamp number
  pub by_thread : ByThread fits
  pub short : length ss ≤ slots
  pub low : (i : ℕ) (a : Event) → Numbered log i a → a.thread < threads

module _ {fits : Fits} {ss : List Slot} {log : List Event} {acting : List ℕ} {marked : List Bool} {n : ℕ} {e : Event} {stamp : Stamp} {number : ℕ}
    (ready : Ready fits ss log acting marked n e stamp number) where
  -- the list with the event that follows, and that event's number
  abbrev pub longer : List Event
  longer = log ++ (e ∷ [])

  abbrev pub next : ℕ
  next = suc (length log)

  abbrev pub depends : ℕ → ℕ → Bool
  depends = dep_at no_event dependent longer

  abbrev pub fitting : Slot → ℕ → Bool
  fitting = fits_at no_event fits longer

  abbrev thread : ℕ → ℕ
  thread = thread_at no_event thread_of longer

  pub number_next : number ≡ next
  number_next = ready.follows.number_is ∙ add-one (length log)

  pub next_small : next ≤ events
  next_small = let h = ready.follows.number_fits in let p = number_next in omega arith

  next_among : Among (length longer) next
  next_among = rw (length_snoc log e) (omega arith)

  pub low_longer : (x : ℕ) → Among next x → thread x < threads
  low_longer x u = go (ℕ_discrete x next)
    where
      go : Dec (x ≡ next) → thread x < threads
      go (yes p) = rw (p, event_new no_event log e) ready.follows.thread_low
      go (no d) =
          let l : x ≤ length log = omega arith in
          rw (event_append no_event log (e ∷ []) x l) (ready.low x (event_at no_event log x) (at_numbered no_event log x (omega arith)))

  stamp_at_lem : (t : ℕ) → t < threads → stamp_of no_event dependent thread_of longer next t ≡ get_or stamp.at t 0
  stamp_at_lem t l = stamp_unique no_event dependent thread_of longer next t _ next_among (rw (add-one (length log)) at (ready.follows.stamp_is t l))

  stamp_small : (t : ℕ) → t < threads → get_or stamp.at t 0 ≤ next
  unfolding counted
  stamp_small t l =
      let h : stamp_of no_event dependent thread_of longer next t ≤ next = tally_small (λ k. eqb (thread k) t && before depends k next) next in
      rw (stamp_at_lem t l) at h

  -- the new event's own place
  own_positive : (t : ℕ → ℕ) (i : ℕ) → 1 ≤ place t (suc i)
  unfolding place
  own_positive t i = rw (eq-eqb (t (suc i)) (t (suc i)) refl) (omega arith)

  new_thread : thread next ≡ e.thread
  new_thread = ap thread_of (event_new no_event log e)

  alike : (i j : ℕ) → thread i ≡ thread j → depends i j ≡ true
  alike i j = one_thread (event_at no_event longer i) (event_at no_event longer j)

  own_place : place_in longer next ≡ get_or stamp.at e.thread 0
  own_place =
      place_stamp depends thread alike next
      ∙ ap (λ (t : ℕ). stamp_of no_event dependent thread_of longer next t) new_thread
      ∙ stamp_at_lem e.thread ready.follows.thread_low

  pub new_place : place_by e.thread stamp + 1 ≡ place_in longer next
  new_place = let h = own_positive thread (length log) in let p = own_place in omega arith

  -- ---- an event at a slot of a row

  pub record InLane (r : ℕ → ℕ) (j : ℕ) : Type 0 where
    pub inside : j < length ss
    pub among : Among next (r (lanes + j))
    pub fit : fitting (get_or ss j no_slot) (r (lanes + j)) ≡ true
    pub at_place : r j + 1 ≡ place_in longer (r (lanes + j))

  -- its thread is the slot's
  pub slot_thread : {r : ℕ → ℕ} {j : ℕ} → InLane r j → (get_or ss j no_slot).thread ≡ thread (r (lanes + j))
  slot_thread {r} {j} h = ready.by_thread (get_or ss j no_slot) (event_at no_event longer (r (lanes + j))) h.fit

  pub slot_low : {r : ℕ → ℕ} {j : ℕ} → InLane r j → (get_or ss j no_slot).thread < threads
  slot_low {r} {j} h = rw (slot_thread h) (low_longer (r (lanes + j)) h.among)

  -- it comes before the new event or is it exactly where the stamp counts that far
  pub before_lane : {r : ℕ → ℕ} {j : ℕ} → InLane r j
      → before depends (r (lanes + j)) next ≡ leb (r j + 1) (get_or stamp.at (get_or ss j no_slot).thread 0)
  before_lane {r} {j} h =
      before_by_stamp depends thread alike (r (lanes + j)) next h.among.0
      ∙ ap₂ leb (sym h.at_place)
      (ap (λ (t : ℕ). stamp_of no_event dependent thread_of longer next t) (sym (slot_thread h)) ∙ stamp_at_lem (get_or ss j no_slot).thread (slot_low h))

  -- two events that fit one slot have its thread
  pub law : LawL dependent fits
  law s a b f g = one_thread a b (sym (ready.by_thread s a f) ∙ ready.by_thread s b g)

  -- where the new event fits the slot too, it does
  pub before_fitting : {r : ℕ → ℕ} {j : ℕ} → InLane r j → fits (get_or ss j no_slot) e ≡ true → before depends (r (lanes + j)) next ≡ true
  before_fitting {r} {j} h f =
      true_before depends
      (before_dep depends h.among.1
      (law (get_or ss j no_slot) (event_at no_event longer (r (lanes + j))) (event_at no_event longer next) h.fit
      (ap (fits (get_or ss j no_slot)) (event_new no_event log e) ∙ f)))

  -- ---- limits

  module _ (k : ℕ) where
    abbrev pub limit : ℕ → ℕ
    limit j = get_or (limits_to slots acting k stamp) j 0

    abbrev by_slot : ℕ → ℕ
    by_slot j = limit_at (get_or acting j 0) (ltb k j) stamp

    pub limit_is : (j : ℕ) → k < j → j < length ss → (get_or ss j no_slot).thread < threads
        → limit j ≡ get_or stamp.at (get_or ss j no_slot).thread 0
    limit_is j l u t =
        limits_at acting k stamp slots j (omega arith) (omega arith)
        ∙ (rw (ready.follows.acting_is j u, lt-ltb k j l, lt-ltb (get_or ss j no_slot).thread threads t))

    by_slot_small : (j : ℕ) → by_slot j ≤ next
    by_slot_small j =
        by_test (ltb k j)
        (λ p.
        by_test (ltb (get_or acting j 0) threads)
        (λ q. rw (p, q) (stamp_small (get_or acting j 0) (ltb-true _ _ q)))
        (λ q. rw (p, q) (omega arith)))
        (λ p. rw p (omega arith))

    by_slot_later : (j : ℕ) → 0 < by_slot j → k < j
    by_slot_later j h = by_test (ltb k j) (λ p. ltb-true k j p) (λ p. absurd (let z : 0 < 0 = rw p at h in let f : ⊥ = omega arith in f))

    limit_cases : (j : ℕ) → j < lanes → (limit j ≡ by_slot j) ⊎ (limit j ≡ 0)
    limit_cases j l = go (dec_lt j slots)
      where
        go : Dec (j < slots) → (limit j ≡ by_slot j) ⊎ (limit j ≡ 0)
        go (yes u) = inl (limits_at acting k stamp slots j u (omega arith))
        go (no d) = inr (limits_beyond acting k stamp slots j (omega arith) l)

    pub limit_small : (j : ℕ) → j < lanes → limit j ≤ next
    limit_small j l = ⊎_elim (λ p. rw p (by_slot_small j)) (λ p. rw p (omega arith)) (limit_cases j l)

    pub limit_later : (j : ℕ) → j < lanes → 0 < limit j → k < j
    limit_later j l h =
        ⊎_elim (λ p. by_slot_later j (rw p at h)) (λ p. absurd (let z : 0 < 0 = rw p at h in let f : ⊥ = omega arith in f)) (limit_cases j l)
