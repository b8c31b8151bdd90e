-- Each move of a search is one of the choice slot by slot: an event arrives, it fills the slot looked for, and earlier ones fill the slots after it.
-- Assumes nothing.
use Prim.Native.Nat.{ℕ, suc, ◌+◌, ◌≤◌, ◌<◌, max}
use native.Mathlib.Nat.{zero-add}
use native.Mathlib.Numerals.{add-one}
use native.Mathlib.Decide.{dec_lt}
use native.Mathlib.Omega.{arith}
use mathlib.Core.Path.{◌≡◌, refl, sym, ap, ap₂, subst, ◌∙◌}
use mathlib.Core.Bool.{true, false}
use mathlib.Core.List.{List, [], ◌∷◌, ◌++◌}
use lib.Dec.{ltb}
use lib.ListN.{length, get_or, set, take, drop, replicate, length-set, length-replicate, get_or-replicate, drop_of_length-le, get_or-eq_default}
use lib.Seq.{take_all, length-take-le, drop-cons, get_or-take, take-suc-set, get_or-set_other}
use borrow.Author.Tests.{ne_eqb, lt-ltb, le-ltb, le-leb}
use Rattle.std.specs.Prelude.{Some, None}
use Rattle.event.specs.declared.Event.{Event}
use Rattle.event.specs.declared.Slot.{Slot}
use Rattle.event.specs.Limits.{threads, slots as slot_limit}
use Rattle.event.specs.Slots.{fits, no_event, no_slot}
use Rattle.event.proofs.SlotNumbers.{fits_alike}
use Rattle.dependence.specs.Dependence.{dependent}
use Rattle.dependence.specs.Order.{thread_of}
use Rattle.dependence.proofs.Dependent.{one_thread}
use Rattle.trace.proofs.Lists.{length_snoc}
use Rattle.trace.proofs.Stamps.{stamp_of, stamp_unique}
use Rattle.trace.proofs.FirstChoice.{start}
use Rattle.trace.proofs.First.{ChosenOf, StuckOf}
use Rattle.trace.proofs.FirstArrivals.{join_of, join_one, chosen_append, join_append, arrives_passes, arrives_takes}
use Rattle.trace.proofs.FirstArrivals.{settles_on, settles_none, settles_back}
use Rattle.clock.specs.declared.Stamp.{Stamp}
use Rattle.clock.specs.Clocks.{higher_of, count_of}
use Rattle.clock.specs.Arrivals.{StampOf, ClocksOf}
use Rattle.clock.proofs.Entries.{heard_length, heard_from_lem}
use Rattle.first.specs.declared.Search.{Search}
use Rattle.first.specs.Search.{none_found, filled, looking_on, is_running}
use Rattle.passes.specs.declared.Sought.{Sought}
use Rattle.passes.specs.declared.Followed.{Followed}
use Rattle.passes.specs.Passes.{Leads, SlotsOf, LastsOf, FirstAbove, Stamped}
use Rattle.first.specs.Holding.{chosen_by, Joined, Underway, Settled, NextIs, Following, Newest}
use Rattle.passes.proofs.Noting.{keyed_at}

-- the choice at the events of a log and the slots of a pattern
abbrev ChosenIn : List Slot → List Event → List ℕ → List Slot → Type 0
ChosenIn = ChosenOf no_event dependent fits

abbrev StuckIn : List Event → List Slot → List ℕ → Type 0
StuckIn = StuckOf no_event dependent fits

abbrev join_in : List Event → List ℕ → ℕ → ℕ
join_in = join_of no_event dependent thread_of fits

of_slot : (s : Slot) (e : Event) → fits s e ≡ true → e.thread ≡ s.thread
of_slot s e f = sym (fits_alike s e f).thread

-- no number is named
pub no_numbers : (j : ℕ) → ◌≡◌ {A = ℕ} (get_or (replicate slot_limit 0) j 0) 0
no_numbers j = go (dec_lt j slot_limit)
  where
    go : Dec (j < slot_limit) → ◌≡◌ {A = ℕ} (get_or (replicate slot_limit 0) j 0) 0
    go (yes u) = get_or-replicate {A = ℕ} slot_limit j 0 0 u
    go (no u) = get_or-eq_default (replicate slot_limit 0) 0 {n = j} (rw (length-replicate {A = ℕ} slot_limit 0) (omega arith))

-- a search that has found a slot runs the clocks until one is left
running_on : (k size : ℕ) → is_running (k + 1) size ≡ ltb (k + 1 + 1) size
running_on k size = rw (ne_eqb (k + 1) 0 (λ z. let f : ⊥ = omega arith in f)) refl

joined_append : {es : List Event} {ss left : List Slot} {cs : List ℕ} {stamp : Stamp} (later : List Event) → ChosenIn ss es cs left
    → Joined es cs stamp → Joined (es ++ later) cs stamp
joined_append {es} later k h =
    record { whole = h.whole; counts = λ t l. h.counts t l ∙ sym (join_append no_event dependent thread_of fits es later k t) }

module _ {k : Sought} (so : SlotsOf k) where
  abbrev ss : List Slot
  ss = take k.size k.slots

  pub ss_length : length (take k.size k.slots) ≡ k.size
  ss_length = let few = so.few in let w = so.whole in length-take-le k.size k.slots (omega arith)

  slot_at : (i : ℕ) → i < k.size → drop i ss ≡ get_or k.slots i no_slot ∷ drop (suc i) ss
  slot_at i l = drop-cons ss i no_slot (rw ss_length l) ∙ ap (λ (s : Slot). s ∷ drop (suc i) ss) (get_or-take k.size k.slots i no_slot l)

  no_slot_lem : (i : ℕ) → k.size ≤ i → drop i ss ≡ []
  no_slot_lem i l = drop_of_length-le ss {i = i} (rw ss_length l)

  none_left : (es : List Event) (i : ℕ) (cs : List ℕ) → k.size ≤ i → StuckIn es (drop i ss) cs
  none_left es i cs l = subst (λ (left : List Slot). StuckIn es left cs) (sym (no_slot_lem i l)) tt

  -- ---- nothing is found yet

  pub none_found_lem : 0 < k.size → Settled [] k.slots k.size (none_found k.keys)
  none_found_lem l =
      record {
        found = record {
          shaped = record { running = refl; whole = length-replicate {A = ℕ} slot_limit 0; beyond = λ j u. no_numbers j };
          steps = start;
          stamps = λ u. record { whole = length-replicate {A = ℕ} threads 0; counts = λ t v. get_or-replicate {A = ℕ} threads t 0 0 v };
          want = λ u. keyed_at so 0 l;
          done = λ z. absurd (let f : ⊥ = omega arith in f);
        };
        stuck = no_event_lem (drop 0 ss);
      }
    where
      no_event_lem : (left : List Slot) → StuckIn [] left []
      no_event_lem [] = tt
      no_event_lem (s ∷ left) = λ m u. absurd (let f : ⊥ = omega arith in f)

  -- ---- an event arrives

  module _ {es : List Event} {s : Search} (h : Settled es k.slots k.size s) (e : Event) where
    still_found : Underway (es ++ (e ∷ [])) k.slots k.size s
    still_found =
        let f = h.found in
        record {
          shaped = f.shaped;
          steps = chosen_append no_event dependent thread_of fits es (e ∷ []) f.steps;
          stamps = λ l. joined_append (e ∷ []) f.steps (f.stamps l);
          want = f.want;
          done = f.done;
        }

    -- no slot is left to look for
    pub all_found : k.size ≤ s.found → Settled (es ++ (e ∷ [])) k.slots k.size s
    all_found l = record { found = still_found; stuck = none_left (es ++ (e ∷ [])) s.found (chosen_by s) l }

    module _ (l : s.found < k.size) where
      steps_at : ChosenIn ss es (chosen_by s) (get_or k.slots s.found no_slot ∷ drop (suc s.found) ss)
      steps_at = subst (ChosenIn ss es (chosen_by s)) (slot_at s.found l) h.found.steps

      stuck_at : StuckIn es (get_or k.slots s.found no_slot ∷ drop (suc s.found) ss) (chosen_by s)
      stuck_at = subst (λ (left : List Slot). StuckIn es left (chosen_by s)) (slot_at s.found l) h.stuck

      -- it does not fit the slot looked for
      pub passes : fits (get_or k.slots s.found no_slot) e ≡ false → Settled (es ++ (e ∷ [])) k.slots k.size s
      passes f =
          record {
            found = still_found;
            stuck = subst (λ (left : List Slot). StuckIn (es ++ (e ∷ [])) left (chosen_by s)) (sym (slot_at s.found l))
                (arrives_passes no_event dependent thread_of fits es e steps_at stuck_at f);
          }

      -- it does, and is the next of the choice
      pub takes : fits (get_or k.slots s.found no_slot) e ≡ true → NextIs (es ++ (e ∷ [])) k s (length es + 1)
      takes t =
          record {
            shaped = h.found.shaped;
            stamps = joined_append (e ∷ []) h.found.steps (h.found.stamps l);
            among = rw (length_snoc es e) (omega arith);
            steps = rw (add-one (length es)) (arrives_takes no_event dependent thread_of fits es e steps_at stuck_at t);
          }

  -- ---- an event fills the slot looked for

  module _ {es : List Event} {s : Search} {n : ℕ} (h : NextIs es k s n) (l : s.found < k.size) where
    low : s.found < length s.numbers
    low = let w = h.shaped.whole in let few = so.few in omega arith

    chosen_now : take (s.found + 1) (set s.numbers s.found n) ≡ chosen_by s ++ (n ∷ [])
    chosen_now = rw (add-one s.found) (take-suc-set s.numbers s.found n low)

    steps_now : ChosenIn ss es (take (s.found + 1) (set s.numbers s.found n)) (drop (s.found + 1) ss)
    steps_now = rw (chosen_now, add-one s.found) h.steps

    beyond_now : (j : ℕ) → s.found + 1 ≤ j → get_or (set s.numbers s.found n) j 0 ≡ 0
    beyond_now j u = get_or-set_other s.numbers s.found j n 0 (omega arith) ∙ h.shaped.beyond j (omega arith)

    whole_now : length (set s.numbers s.found n) ≡ slot_limit
    whole_now = length-set s.numbers s.found n ∙ h.shaped.whole

    -- and it was the last
    pub fills_last : s.found + 1 ≡ k.size → Settled es k.slots k.size (filled s n)
    fills_last q =
        record {
          found = record {
            shaped = record {
              running = sym (running_on s.found k.size ∙ le-ltb (s.found + 1 + 1) k.size (omega arith));
              whole = whole_now;
              beyond = beyond_now;
            };
            steps = steps_now;
            stamps = λ u. absurd (let f : ⊥ = omega arith in f);
            want = λ u. absurd (let f : ⊥ = omega arith in f);
            done = λ z. refl;
          };
          stuck = none_left es (s.found + 1) (chosen_by (filled s n)) (omega arith);
        }

    -- or the next is looked for, the stamp joined
    module _ (stamp : Stamp) (of-n : StampOf es n stamp) where
      counts_now : (t : ℕ) → t < threads → get_or (higher_of s.stamps stamp).at t 0 ≡ join_in es (chosen_by s ++ (n ∷ [])) t
      counts_now t u =
          heard_from_lem s.stamps stamp.at 0 t h.stamps.whole u
          ∙ ap₂ max (h.stamps.counts t u) (ap (λ (k : ℕ). get_or stamp.at k 0) (zero-add t) ∙ sym (stamp_unique no_event dependent thread_of es n t _ h.among (of-n t u)))
          ∙ max_turn (join_in es (chosen_by s) t) (stamp_of no_event dependent thread_of es n t)
          ∙ join_one no_event dependent thread_of fits es (chosen_by s) n t
        where
          max_turn : (x y : ℕ) → max x y ≡ max y x
          max_turn x y = omega arith

      pub fills_on : s.found + 1 < k.size → Underway es k.slots k.size (looking_on k.keys k.size (filled s n) stamp)
      fills_on u =
          record {
            shaped = record { running = sym (running_on s.found k.size); whole = whole_now; beyond = beyond_now };
            steps = steps_now;
            stamps = λ v.
                record { whole = heard_length s.stamps stamp.at 0 h.stamps.whole; counts = rw chosen_now counts_now };
            want = λ v. keyed_at so (s.found + 1) u;
            done = λ z. absurd (let f : ⊥ = omega arith in f);
          }

  -- ---- an event already read, for the slot looked for

  module _ {es : List Event} {s : Search} (h : Underway es k.slots k.size s) (l : s.found < k.size) {last : List ℕ} (ls : LastsOf es k last) where
    abbrev slot : Slot
    slot = get_or k.slots s.found no_slot

    abbrev barred : ℕ
    barred = count_of slot.thread s.stamps

    steps_on : ChosenIn ss es (chosen_by s) (slot ∷ drop (suc s.found) ss)
    steps_on = subst (ChosenIn ss es (chosen_by s)) (slot_at s.found l) h.steps

    barred_is : barred ≡ join_in es (chosen_by s) slot.thread
    barred_is = rw (lt-ltb slot.thread threads (so.low s.found l)) ((h.stamps l).counts slot.thread (so.low s.found l))

    settled_by_lem : StuckIn es (slot ∷ drop (suc s.found) ss) (chosen_by s) → Settled es k.slots k.size s
    settled_by_lem d = record { found = h; stuck = subst (λ (left : List Slot). StuckIn es left (chosen_by s)) (sym (slot_at s.found l)) d }

    -- every event that fits comes before one found or is it: the last places tell,
    pub none_earlier : get_or last s.found 0 ≤ barred → Settled es k.slots k.size s
    none_earlier u =
        settled_by_lem (settles_on no_event dependent thread_of fits one_thread (λ s. s.thread) of_slot es steps_on barred_is (ls.each s.found l) (le-leb _ _ u))

    -- or a return to the start;
    pub none_above : FirstAbove es slot barred None → Settled es k.slots k.size s
    none_above f = settled_by_lem (settles_none no_event dependent thread_of fits one_thread (λ s. s.thread) of_slot es steps_on barred_is f)

    -- or the first that does not is the next of the choice
    pub returns_to : (n : ℕ) → FirstAbove es slot barred (Some n) → NextIs es k s n
    returns_to n f =
        record {
          shaped = h.shaped;
          stamps = h.stamps l;
          among = f.0;
          steps = settles_back no_event dependent thread_of fits one_thread (λ s. s.thread) of_slot es steps_on barred_is f;
        }

  -- ---- the clocks when an event is found

  -- the stamp of event number n, with the clocks and the last places of all events
  pub record Own (es : List Event) (n : ℕ) (stamp : Stamp) (f : Followed) : Type 0 where
    pub stamp_is : StampOf es n stamp
    pub held : ClocksOf es f.clocks
    pub lasts : LastsOf es k f.last

  module _ {bytes : List ℕ} {es : List Event} {s : Search} {n : ℕ} (ld : Leads bytes es n) (h : NextIs es k s n)
      {f : Followed} {stamp : Stamp} (nw : Newest es k s f n stamp) where
    -- it comes from a pass over all events, where the first slot is filled,
    pub own_passed : {own : Stamp} {after : Followed} → s.found ≡ 0 → Stamped es k.keys n f own after → Own es n own after
    own_passed q pass =
        let b = nw.following.still q in
        let t = pass h.among.0 h.among.1 b.0 in
        let c = ld.count in
        let all : take n es ≡ es = take_all n es (omega arith) in
        record { stamp_is = t.stamp_is; held = rw all at t.held; lasts = rw all at (t.lasts k refl so b.1) }

    -- and else from the clocks that run
    pub own_given : s.found + 1 < k.size → (s.found ≡ 0 → ⊥) → Own es n stamp f
    own_given u d =
        let r : s.running ≡ true = h.shaped.running ∙ rw (ne_eqb _ _ d, lt-ltb (s.found + 1) k.size u) refl in
        let b = nw.following.held r in
        record { stamp_is = nw.stamped r; held = b.0; lasts = b.1 }

-- once a slot is found the clocks are of all events, or stand still for good
pub follows_on : {es : List Event} {k : Sought} {s : Search} {f : Followed} → 0 < s.found
    → (s.running ≡ true → ClocksOf es f.clocks × LastsOf es k f.last) → Following es k s f
follows_on l h = record { still = λ z. absurd (let f : ⊥ = omega arith in f); held = h }
