-- A search keeps the choice slot by slot of the events read so far, and what is left of the log gives the whole.
use Prim.Native.Nat.{ℕ, ◌+◌, ◌≤◌, ◌<◌}
use native.Mathlib.Omega.{arith}
use mathlib.Core.Path.{◌≡◌, sym, ap, ◌∙◌}
use mathlib.Core.Bool.{true, false, cond}
use mathlib.Core.List.{List, [], ◌∷◌, ◌++◌, reverse, reverse-cons}
use lib.ListN.{length, length-reverse}
use Rattle.event.specs.declared.Event.{Event}
use Rattle.event.specs.Limits.{events}
use Rattle.event.specs.Slots.{slot_of}
use Rattle.rules.specs.State.{StateOf}
use Rattle.event.specs.Keys.{slot_key}
use Rattle.command.specs.Reading.{Reading, command, closed, refused as refused_at, read_event}
use Rattle.std.specs.Prelude.{Ok, Err}
use Rattle.event.specs.declared.refusal.Refused.{Refused}
use Rattle.event.specs.Refusals.{refusal_number}
use Rattle.event_log.specs.Leading.{Leading}
use Rattle.event_log.specs.Leading as leading
use Rattle.event_log.proofs.Steps.{History}
use Rattle.event_log.proofs.LogWalk as walk
use Rattle.event_log.proofs.Leading.{in_limits, leads_on}
use Rattle.clock.specs.declared.Stamp.{Stamp}
use Rattle.clock.specs.Clocks.{stamp_by, no_stamp}
use Rattle.clock.specs.Arrivals.{ClocksOf}
use Rattle.first.specs.declared.Search.{Search}
use Rattle.first.specs.Search.{none_found, fills_next}
use Rattle.passes.specs.declared.Sought.{Sought}
use Rattle.passes.specs.declared.Followed.{Followed}
use Rattle.passes.specs.LastPlaces.{followed_on}
use Rattle.passes.specs.Passes.{Leads, SlotsOf, LastsOf}
use Rattle.first.specs.Holding.{Settled, NextIs, Following, Newest}
use Rattle.first.proofs.Filling.{none_found_lem}
use Rattle.first.proofs.Arriving.{newest, goes_by, hits}
use Rattle.slot_search.specs.Searching.{SearchedIn, log_refused, searched}

pub record Running (bytes : List ℕ) (k : Sought) (state : List ℕ) (f : Followed) (s : Search) (taken at : ℕ) : Type 0 where
  pub past : List Event
  pub going : walk.Going bytes state taken at past
  pub leads : Leading (read_event bytes) at 0 (reverse past)
  pub so : SlotsOf k
  pub settled : Settled (reverse past) k.slots k.size s
  pub within : s.found ≤ k.size
  pub following : Following (reverse past) k s f

pub started : {bytes state : List ℕ} {k : Sought} (so : SlotsOf k) → 0 < k.size → StateOf [] state
    → {f : Followed} → ClocksOf [] f.clocks → LastsOf [] k f.last → Running bytes k state f (none_found k.keys) 0 0
started {bytes} {state} so l h c z =
    record {
      past = [];
      going = walk.start bytes state h;
      leads = leading.none;
      so = so;
      settled = none_found_lem so l;
      within = omega arith;
      following = record { still = λ q. (c, z); held = λ q. (c, z) };
    }

-- one step of the log
module _ {bytes state after : List ℕ} {k : Sought} {f : Followed} {s : Search} {taken at : ℕ} {outcome : Reading Event}
    (r : Running bytes k state f s taken at) (h : History bytes at state taken outcome after) where
  pub ended : outcome ≡ closed → SearchedIn k.slots k.size bytes (Ok (record { events = taken; search = s }))
  ended q = searched (sym (walk.at_end r.going h q)) (r.going.count ∙ sym (length-reverse r.past)) r.within r.settled

  pub broke : (m : Refused) → outcome ≡ refused_at (refusal_number m.reason) m.offset → SearchedIn k.slots k.size bytes (Err m)
  broke m q = log_refused (sym (walk.broken r.going h _ _ q))

  -- an event: the clocks take it where they run
  module _ (e : Event) (next : ℕ) (q : outcome ≡ command e next) where
    abbrev followed_then : Followed
    followed_then = cond s.running (followed_on k.keys (slot_key (slot_of e)) e f) f

    abbrev stamp_then : Stamp
    stamp_then = cond s.running (stamp_by f.clocks e) no_stamp

    count_is : length (reverse r.past) + 1 ≡ taken + 1
    count_is = ap (λ (n : ℕ). n + 1) (length-reverse r.past ∙ sym r.going.count)

    few : taken < events
    few = walk.room r.going h e next q

    newest_is : Newest (reverse r.past ++ (e ∷ [])) k s followed_then (length (reverse r.past) + 1) stamp_then
    newest_is =
        let n = few in
        let c = count_is in
        newest r.so r.settled r.within e (in_limits r.going h e next q) r.following (omega arith)

    going_on : walk.Going bytes after (taken + 1) next (e ∷ r.past)
    going_on = walk.one_more r.going h e next q

    -- it does not fill the slot looked for
    pub goes_on : fills_next k.slots s (slot_key (slot_of e)) e ≡ false → Running bytes k after followed_then s (taken + 1) next
    goes_on d =
        record {
          past = e ∷ r.past;
          going = going_on;
          leads = leads_on r.going h e next q r.leads;
          so = r.so;
          settled = rw (reverse-cons e r.past) (goes_by r.so r.settled r.within e (in_limits r.going h e next q) d);
          within = r.within;
          following = rw (reverse-cons e r.past) newest_is.following;
        }

    -- or it does
    pub fills_it : fills_next k.slots s (slot_key (slot_of e)) e ≡ true → s.found < k.size
    fills_it w = (hits r.so r.settled r.within e (in_limits r.going h e next q) w).0

    pub chosen_next : fills_next k.slots s (slot_key (slot_of e)) e ≡ true → (z : Search) (to : Followed) → z.found ≤ k.size
        → ((es : List Event) → Leads bytes es (taken + 1) → SlotsOf k → NextIs es k s (taken + 1)
        → Newest es k s followed_then (taken + 1) stamp_then → Settled es k.slots k.size z × Following es k z to)
        → Running bytes k after to z (taken + 1) next
    chosen_next w z to l chosen =
        let es : List Event = reverse (e ∷ r.past) in
        let c = count_is in
        let n = few in
        let v = leads_on r.going h e next q r.leads in
        let ld : Leads bytes es (taken + 1) =
        record { to = next; read = v; count = length-reverse (e ∷ r.past) ∙ sym going_on.count; few = omega arith } in
        let t = rw c at (hits r.so r.settled r.within e (in_limits r.going h e next q) w).1 in
        let g = chosen es ld r.so (rw (reverse-cons e r.past) t) (rw (reverse-cons e r.past) (rw c at newest_is)) in
        record {
          past = e ∷ r.past;
          going = going_on;
          leads = v;
          so = r.so;
          settled = g.0;
          within = l;
          following = g.1;
        }
