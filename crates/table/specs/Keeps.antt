-- What the table keeps of the events that arrived: for every set of a pattern's slots the greatest good tuple, or that there is none.
-- Assumes nothing.
use Rattle.std.specs.Prelude.{ℕ, zero, suc, ◌+◌, ◌*◌, ◌≤◌, ◌<◌, ◌≡◌, Bool, true, false, cond, List, [], ◌∷◌, ◌++◌, length, get_or, take, replicate}
use Rattle.std.proofs.Math.Option.{Option, some, none}
use Rattle.event.specs.declared.Event.{Event}
use Rattle.event.specs.declared.Slot.{Slot}
use Rattle.event.specs.Limits.{threads, slots, events}
use Rattle.event.specs.Slots.{no_slot, no_event}
use Rattle.trace.specs.Before.{Numbered}
use Rattle.trace.specs.Tuples.{thread_at, BestOf, pick, place}
use Rattle.dependence.specs.Dependence.{dependent}
use Rattle.trace.specs.Match.{HasMatch, Named}
use Rattle.dependence.specs.Order.{thread_of}
use Rattle.clock.specs.declared.Stamp.{Stamp}
use Rattle.clock.specs.Arrivals.{StampOf}
use Rattle.table.specs.Sets.{lanes, held, size, row_of, absent}

-- What fits a slot is a parameter: all that the table needs of it is that an event which fits a slot acts as the slot's thread.
abbrev pub Fits : Type 0
Fits = Slot → Event → Bool

abbrev pub ByThread : Fits → Type 0
ByThread fits = (s : Slot) (e : Event) → fits s e ≡ true → s.thread ≡ e.thread

-- the greatest of the good tuples of the slots, slot by slot, over the events of the log; `none` where there is none
abbrev pub Greatest : Fits → List Event → List Slot → Option (List ℕ) → Type 0
Greatest fits = BestOf no_event dependent fits

-- an event's place among those of its thread, counted from 1
abbrev pub place_in : List Event → ℕ → ℕ
place_in log = place (thread_at no_event thread_of log)

-- the number of a set of slots, which is a row of bits, one for each slot
abbrev pub set_number : List Bool → ℕ
set_number [] = 0
set_number (b ∷ bs) = cond b 1 0 + 2 * set_number bs

-- the row of set number m, entry by entry
abbrev pub row_in : List ℕ → ℕ → ℕ → ℕ
row_in table m j = get_or table (row_of m + j) 0

-- the first n values
abbrev pub listed : ℕ → (ℕ → ℕ) → List ℕ
listed zero f = []
listed (suc n) f = f 0 ∷ listed n (λ j. f (suc j))

-- the event numbers of a row, for n slots
abbrev pub numbers_of : ℕ → (ℕ → ℕ) → List ℕ
numbers_of n r = listed n (λ j. r (lanes + j))

-- the row has the place and the number of an event at the slots of the set, and none at the others
pub record Filled (log : List Event) (bs : List Bool) (r : ℕ → ℕ) : Type 0 where
  pub filled : (j : ℕ) → j < lanes → get_or bs j false ≡ true → r j + 1 ≡ place_in log (r (lanes + j))
  pub no_place : (j : ℕ) → j < lanes → get_or bs j false ≡ false → r j ≡ absent
  pub no_number : (j : ℕ) → j < slots → get_or bs j false ≡ false → r (lanes + j) ≡ 0

-- the row is that of the set
pub data Keeping (fits : Fits) (ss : List Slot) (log : List Event) (bs : List Bool) (r : ℕ → ℕ) : Type 0 where
  kept : r held ≡ 1 → Greatest fits log (pick bs ss) (some (pick bs (numbers_of (length ss) r))) → Filled log bs r → Keeping fits ss log bs r
  missing : r held ≡ 0 → Greatest fits log (pick bs ss) none → Keeping fits ss log bs r

-- the table keeps the greatest good tuple of every set of the pattern's slots
pub record Keeps (fits : Fits) (ss : List Slot) (log : List Event) (table : List ℕ) : Type 0 where
  pub whole : length table ≡ size
  pub short : length ss ≤ slots
  pub low : (i : ℕ) (a : Event) → Numbered log i a → a.thread < threads
  pub rows : (bs : List Bool) → length bs ≡ length ss → Keeping fits ss log bs (row_in table (set_number bs))

-- an offer of the event that follows those of the log: the thread of each slot, and which slots the event fits
pub record Follows (fits : Fits) (ss : List Slot) (log : List Event) (acting : List ℕ) (fit : List Bool) (n : ℕ) (e : Event) (stamp : Stamp) (number : ℕ) : Type 0 where
  pub acting_is : (j : ℕ) → j < length ss → get_or acting j 0 ≡ (get_or ss j no_slot).thread
  pub fit_is : (j : ℕ) → j < length ss → get_or fit j false ≡ fits (get_or ss j no_slot) e
  pub size_is : n ≡ length ss
  pub number_is : number ≡ length log + 1
  pub number_fits : number ≤ events
  pub thread_low : e.thread < threads
  pub stamp_is : StampOf (log ++ (e ∷ [])) (length log + 1) stamp

-- "one event number per slot, or none with .. all slot numbers 0"; "Numbers beyond the pattern's length are 0.": the numbers that are found in
-- the table, of events of the list
pub record NumbersFound (fits : Fits) (ss : List Slot) (log : List Event) (numbers : List ℕ) : Type 0 where
  pub named : HasMatch dependent fits ss log → Named dependent fits ss log (length log) (take (length ss) numbers)
  pub without : ¬ HasMatch dependent fits ss log → numbers ≡ replicate slots 0
  pub beyond : (j : ℕ) → length ss ≤ j → get_or numbers j 0 ≡ 0
