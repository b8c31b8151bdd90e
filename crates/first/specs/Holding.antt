-- What a search holds of the events of a log: the choice slot by slot as far as it got.
-- Assumes nothing.
use Rattle.std.specs.Prelude.{ℕ, suc, ◌≤◌, ◌<◌, ◌≡◌, true, List, [], ◌∷◌, ◌++◌, length, get_or, take, drop}
use Rattle.event.specs.declared.Event.{Event}
use Rattle.event.specs.declared.Slot.{Slot}
use Rattle.event.specs.Limits.{threads, slots as slot_limit}
use Rattle.event.specs.Slots.{fits, no_event, no_slot}
use Rattle.event.specs.Keys.{slot_key}
use Rattle.dependence.specs.Dependence.{dependent}
use Rattle.dependence.specs.Order.{thread_of}
use Rattle.trace.specs.Tuples.{Among}
use Rattle.trace.proofs.First.{ChosenOf, StuckOf}
use Rattle.trace.proofs.FirstArrivals.{join_of}
use Rattle.clock.specs.declared.Stamp.{Stamp}
use Rattle.clock.specs.Arrivals.{StampOf, ClocksOf}
use Rattle.first.specs.declared.Search.{Search}
use Rattle.first.specs.Search.{no_key, is_running}
use Rattle.passes.specs.declared.Sought.{Sought}
use Rattle.passes.specs.declared.Followed.{Followed}
use Rattle.passes.specs.Passes.{LastsOf}

-- the events found so far
abbrev pub chosen_by : Search → List ℕ
chosen_by s = take s.found s.numbers

-- what a search is, whatever it has found
pub record Shaped (size : ℕ) (s : Search) : Type 0 where
  pub running : s.running ≡ is_running s.found size
  pub whole : length s.numbers ≡ slot_limit
  pub beyond : (j : ℕ) → s.found ≤ j → get_or s.numbers j 0 ≡ 0

-- the stamps of the events found, joined
pub record Joined (es : List Event) (cs : List ℕ) (stamp : Stamp) : Type 0 where
  pub whole : length stamp.at ≡ threads
  pub counts : (t : ℕ) → t < threads → get_or stamp.at t 0 ≡ join_of no_event dependent thread_of fits es cs t

-- the events found are those of the choice slot by slot as far as it got; so far as slots are left, their stamps are joined, and the next is looked for
pub record Underway (es : List Event) (slots : List Slot) (size : ℕ) (s : Search) : Type 0 where
  pub shaped : Shaped size s
  pub steps : ChosenOf no_event dependent fits (take size slots) es (chosen_by s) (drop s.found (take size slots))
  pub stamps : s.found < size → Joined es (chosen_by s) s.stamps
  pub want : s.found < size → s.want ≡ slot_key (get_or slots s.found no_slot)
  pub done : s.found ≡ size → s.want ≡ no_key

-- and no event so far can fill the slot looked for
pub record Settled (es : List Event) (slots : List Slot) (size : ℕ) (s : Search) : Type 0 where
  pub found : Underway es slots size s
  pub stuck : StuckOf no_event dependent fits es (drop s.found (take size slots)) (chosen_by s)

-- event number n is the next of the choice: it is the first that can fill the slot looked for
pub record NextIs (es : List Event) (k : Sought) (s : Search) (n : ℕ) : Type 0 where
  pub shaped : Shaped k.size s
  pub stamps : Joined es (chosen_by s) s.stamps
  pub among : Among (length es) n
  pub steps : ChosenOf no_event dependent fits (take k.size k.slots) es (chosen_by s ++ (n ∷ [])) (drop (suc s.found) (take k.size k.slots))

-- the clocks and the last places: of no events before the first slot is found, and of all events while the clocks run
pub record Following (es : List Event) (k : Sought) (s : Search) (f : Followed) : Type 0 where
  pub still : s.found ≡ 0 → ClocksOf [] f.clocks × LastsOf [] k f.last
  pub held : s.running ≡ true → ClocksOf es f.clocks × LastsOf es k f.last

-- the same when the newest event, number n, has come: while the clocks run, its stamp is known
pub record Newest (es : List Event) (k : Sought) (s : Search) (f : Followed) (n : ℕ) (stamp : Stamp) : Type 0 where
  pub following : Following es k s f
  pub stamped : s.running ≡ true → StampOf es n stamp
