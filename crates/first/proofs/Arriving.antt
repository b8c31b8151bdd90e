-- An event arrives at a search: the clocks follow it where they run, and it fits the slot looked for or not.
-- Assumes nothing.
use Prim.Native.Nat.{◌+◌, ◌≤◌, ◌<◌}
use native.Mathlib.Decide.{dec_lt}
use native.Mathlib.Omega.{arith}
use mathlib.Core.Path.{◌≡◌, refl, ◌∙◌}
use mathlib.Core.Bool.{true, false, cond, ◌&&◌, and-eq-true_iff}
use mathlib.Core.List.{List, [], ◌∷◌, ◌++◌}
use lib.Dec.{eqb, ltb}
use lib.ListN.{length, get_or}
use borrow.Author.Tests.{eq-eqb, eqb-true, lt-ltb}
use Rattle.event.specs.declared.Event.{Event}
use Rattle.event.specs.Limits.{threads, slots as slot_limit, events}
use Rattle.event.specs.Slots.{fits, slot_of, no_slot}
use Rattle.event.specs.Range.{range_refusal}
use Rattle.event.specs.Keys.{slot_key}
use Rattle.event.proofs.InRange.{in_range}
use Rattle.event.proofs.SlotNumbers.{fits_key}
use Rattle.trace.proofs.Lists.{failed, both_ways}
use Rattle.clock.specs.Clocks.{stamp_by, no_stamp}
use Rattle.first.specs.declared.Search.{Search}
use Rattle.first.specs.Search.{no_key, fills_next}
use Rattle.passes.specs.declared.Sought.{Sought}
use Rattle.passes.specs.declared.Followed.{Followed}
use Rattle.passes.specs.LastPlaces.{followed_on}
use Rattle.passes.specs.Passes.{SlotsOf}
use Rattle.first.specs.Holding.{Settled, NextIs, Following, Newest}
use Rattle.passes.proofs.Noting.{followed_by}
use Rattle.first.proofs.Filling.{all_found, passes, takes}

module _ {k : Sought} (so : SlotsOf k) {es : List Event} {s : Search} (h : Settled es k.slots k.size s)
    (w : s.found ≤ k.size) (e : Event) (range : range_refusal (slot_of e) ≡ 0) where
  -- the clocks take it where they run
  pub newest : {f : Followed} → Following es k s f → length es < events
      → Newest (es ++ (e ∷ [])) k s (cond s.running (followed_on k.keys (slot_key (slot_of e)) e f) f) (length es + 1) (cond s.running (stamp_by f.clocks e) no_stamp)
  newest {f} g room =
      record {
        following = record {
          still = λ z. rw (stands z) (g.still z);
          held = λ r.
              let b = g.held r in
              let a = followed_by es f.clocks e b.0 room range in
              rw r (a.0.holds, a.1 k f.last so b.1);
        };
        stamped = λ r. rw r (followed_by es f.clocks e (g.held r).0 room range).0.stamp;
      }
    where
      stands : s.found ≡ 0 → s.running ≡ false
      stands z = h.found.shaped.running ∙ rw (eq-eqb s.found 0 z) refl

  -- where it fits the slot looked for it has its key
  fits_so : s.found < k.size → fits (get_or k.slots s.found no_slot) e ≡ true → fills_next k.slots s (slot_key (slot_of e)) e ≡ true
  fits_so l f =
      let few = so.few in
      rw (eq-eqb _ _ (h.found.want l ∙ fits_key (get_or k.slots s.found no_slot) e f), lt-ltb s.found slot_limit (omega arith), f)

  -- it does not fit the slot looked for, or none is looked for
  pub goes_by : fills_next k.slots s (slot_key (slot_of e)) e ≡ false → Settled (es ++ (e ∷ [])) k.slots k.size s
  goes_by d = go (dec_lt s.found k.size)
    where
      go : Dec (s.found < k.size) → Settled (es ++ (e ∷ [])) k.slots k.size s
      go (yes l) = passes so h e l (failed (fits (get_or k.slots s.found no_slot) e) (λ t. both_ways (fits_so l t) d))
      go (no n) = all_found so h e (omega arith)

  -- or it does, and one is looked for
  pub hits : fills_next k.slots s (slot_key (slot_of e)) e ≡ true → (s.found < k.size) × NextIs (es ++ (e ∷ [])) k s (length es + 1)
  hits q = go (dec_lt s.found k.size)
    where
      both : (eqb s.want (slot_key (slot_of e)) ≡ true) × (ltb s.found slot_limit && fits (get_or k.slots s.found no_slot) e ≡ true)
      both = (and-eq-true_iff (eqb s.want (slot_key (slot_of e))) (ltb s.found slot_limit && fits (get_or k.slots s.found no_slot) e)).0 q

      go : Dec (s.found < k.size) → (s.found < k.size) × NextIs (es ++ (e ∷ [])) k s (length es + 1)
      go (yes l) = (l, takes so h e l ((and-eq-true_iff (ltb s.found slot_limit) (fits (get_or k.slots s.found no_slot) e)).0 both.1).1)
      go (no n) =
          let v : s.want ≡ slot_key (slot_of e) = eqb-true _ _ both.0 in
          let none : s.want ≡ no_key = h.found.done (omega arith) in
          let low : e.thread < threads = (in_range (slot_of e) range).thread in
          absurd (let z : ⊥ = omega arith in z)
