-- For every list of events that the clocks hold: the stamp that they give the next event is its stamp, and then they hold it too.
-- Assumes nothing.
use Prim.Native.Nat.{ℕ, suc, ◌+◌, ◌≤◌, ◌<◌, max}
use mathlib.Core.Path.{◌≡◌, refl, sym, ap, ap₂, ◌∙◌}
use mathlib.Core.Logic.{inl}
use mathlib.Core.Bool.{Bool, true, false, cond}
use mathlib.Core.List.{List, [], ◌∷◌, ◌++◌}
use native.Mathlib.Omega.{arith}
use native.Mathlib.Numerals.{add-one}
use lib.Dec.{eqb}
use lib.ListN.{length, get_or, replicate, length-replicate, get_or-replicate}
use borrow.Author.Tests.{lt-ltb}
use Rattle.event.specs.declared.Event.{Event}
use Rattle.event.specs.Limits.{threads, events}
use Rattle.event.specs.Slots.{slot_of}
use Rattle.event.specs.Range.{range_refusal}
use Rattle.event.proofs.InRange.{in_range}
use Rattle.event.proofs.Updated.{updated_length}
use Rattle.trace.specs.Tuples.{one_more}
use Rattle.trace.proofs.Lists.{length_snoc}
use Rattle.trace.proofs.Tallies.{raise, join}
use Rattle.trace.proofs.Numbers.{numbered_among}
use Rattle.trace.proofs.Stamps.{stamp_is}
use Rattle.trace.proofs.Channels.{next_stamp, stamp_snoc, clock_snoc}
use Rattle.event.specs.Effects.{touched}
use Rattle.dependence.specs.Dependence.{dependent}
use Rattle.dependence.specs.Order.{thread_of}
use Rattle.dependence.specs.Channels.{Channel, thread, tells, hears}
use Rattle.dependence.proofs.Dependent.{one_thread}
use Rattle.dependence.proofs.ByChannels.{by_channels}
use Rattle.clock.specs.declared.Stamp.{Stamp}
use Rattle.clock.specs.Rows.{size, number_of, row_of, Known, beside}
use Rattle.clock.specs.Clocks.{raised, highest_count, up, told, rows_of, stamp_by, clocks_after}
use Rattle.clock.specs.Arrivals.{StampOf, ClocksOf, Arrived}
use Rattle.clock.proofs.RowLaws.{row_fits, all_known, AllKnown}
use Rattle.clock.proofs.ClockLaws.{stamp_in_lem, clocks_in}
use Rattle.clock.proofs.Entries.{highest_of, heard_entry, told_entry}
use Rattle.clock.proofs.Channels.{heard_of, told_of}
use Rattle.clock.proofs.Highest.{kept, kept_le, kept_is, kept_unique}

-- no events, and clocks of zeros
pub nothing_yet : ClocksOf [] (replicate size 0)
nothing_yet =
    record {
      whole = length-replicate {A = ℕ} size 0;
      entry = λ c k t low.
          let fits = row_fits c k in
          let l : row_of c + t < size = omega arith in
          let z = get_or-replicate {A = ℕ} size (row_of c + t) 0 0 l in
          rw z (record { reached = inl refl; highest = λ n d. absurd (let u = numbered_among d.2 in omega arith) });
    }

module _ (log : List Event) (clocks : List ℕ) (e : Event) (h : ClocksOf log clocks) (room : length log < events)
    (within : range_refusal (slot_of e) ≡ 0) where
  abbrev longer : List Event
  longer = log ++ (e ∷ [])

  low : e.thread < threads
  low = (in_range (slot_of e) within).thread

  known : AllKnown (beside e)
  known = all_known e within

  -- an entry is the clock of its channel
  entry_is : (c : Channel) → Known c → (t : ℕ) → t < threads → get_or clocks (row_of c + t) 0 ≡ kept e log c t
  entry_is c k t l = kept_unique e log c t _ (h.entry c k t l)

  -- ---- the stamp

  abbrev given : ℕ → ℕ
  given t = next_stamp e dependent thread_of tells hears log e t

  heard_is : (t : ℕ) → t < threads → highest_of clocks e.thread (rows_of e) t ≡ join (λ c. kept e log c t) (hears e)
  heard_is t l =
      ap₂ max (ap₂ max (entry_is (thread e.thread) low t l) (entry_is (beside e).first known.first t l))
      (entry_is (beside e).second known.second t l)
      ∙ heard_of (λ (c : Channel). kept e log c t) e.thread (touched e)

  heard_low : (t : ℕ) → t < threads → highest_of clocks e.thread (rows_of e) t ≤ length log
  heard_low t l =
      max_le (entry_low (thread e.thread) low) (entry_low (beside e).first known.first) (entry_low (beside e).second known.second)
    where
      entry_low : (c : Channel) → Known c → get_or clocks (row_of c + t) 0 ≤ length log
      entry_low c k = rw (entry_is c k t l) (kept_le e log c t)

      max_le : {i j k n : ℕ} → i ≤ n → j ≤ n → k ≤ n → max (max i j) k ≤ n
      max_le a b c = omega arith

  stamp_entry : (t : ℕ) → t < threads → get_or (stamp_by clocks e).at t 0 ≡ given t
  stamp_entry t l =
      ap (λ (s : Stamp). get_or s.at t 0) (stamp_in_lem clocks e within)
      ∙ heard_entry clocks e.thread (rows_of e) t l
      ∙ ticks (eqb e.thread t) (highest_of clocks e.thread (rows_of e) t) _ (heard_is t l) (heard_low t l)
    where
      ticks : (b : Bool) (m n : ℕ) → m ≡ n → m ≤ length log → cond b (up m) m ≡ one_more b n
      ticks true m n p l = rw (lt-ltb m highest_count (omega arith)) (omega arith)
      ticks false m n p l = p

  stamp_given : StampOf longer (length log + 1) (stamp_by clocks e)
  stamp_given t l =
      rw (stamp_entry t l, ← stamp_snoc e dependent thread_of tells hears by_channels one_thread log e t, add-one)
      (stamp_is e dependent thread_of longer (suc (length log)) t (rw (length_snoc log e) (omega arith)))

  -- ---- the clocks

  entry_after : (c : Channel) → Known c → (t : ℕ) → t < threads → get_or (clocks_after clocks e) (row_of c + t) 0 ≡ kept e longer c t
  entry_after c k t l =
      ap (λ (xs : List ℕ). get_or xs (row_of c + t) 0) (clocks_in clocks e within)
      ∙ told_entry clocks e.thread (rows_of e) (stamp_by clocks e) (number_of (beside e).told) (number_of c) t refl l
      (fits (thread e.thread) low) (fits (beside e).told known.told)
      ∙ ap (λ (b : Bool). raise b (get_or (stamp_by clocks e).at t 0) (get_or clocks (row_of c + t) 0)) (told_of e c low known.told k)
      ∙ ap₂ (raise (tells e c)) (stamp_entry t l) (entry_is c k t l)
      ∙ sym (clock_snoc e dependent thread_of tells hears by_channels one_thread log e c t)
    where
      fits : (d : Channel) → Known d → row_of d + threads ≤ length clocks
      fits d u = rw h.whole (row_fits d u)

  still_held : ClocksOf longer (clocks_after clocks e)
  unfolding told raised
  still_held =
      record {
        whole = rw (clocks_in clocks e within, updated_length, updated_length) h.whole;
        entry = λ c k t l. rw (entry_after c k t l) (kept_is e longer c t);
      }

-- what the definitions say of a stamp and of clocks, they say for every list of events that the clocks hold
pub arrived : (clocks : List ℕ) (e : Event) (s : Stamp) (after : List ℕ) → s ≡ stamp_by clocks e → after ≡ clocks_after clocks e
    → (s ≡ stamp_by clocks e)
    × ((after ≡ clocks_after clocks e)
    × ((log : List Event) → ClocksOf log clocks → length log < events → range_refusal (slot_of e) ≡ 0 → Arrived log e s after))
arrived clocks e s after p q =
    (p, (q, λ log h room within. rw (p, q) (record { stamp = stamp_given log clocks e h room within; holds = still_held log clocks e h room within })))
