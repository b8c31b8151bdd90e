-- The table as a list of numbers: what an event makes of it, and what is found in it. Of a pattern it takes how many slots there are and the
-- thread of each (`acting`), and of an event its thread and which slots it fits (`fit`).
-- Assumes nothing.
use Rattle.std.specs.Prelude.{ℕ, zero, suc, ◌+◌, ◌-◌, ◌/◌, ◌^◌, Bool, true, false, cond, ◌&&◌, not, List, [], ◌∷◌, ◌++◌, eqb, leb, ltb, get_or, set, replicate}
use Rattle.event.specs.Limits.{threads, slots}
use Rattle.event.specs.Updated.{updated}
use Rattle.clock.specs.declared.Stamp.{Stamp}
use Rattle.clock.specs.Clocks.{count_of}
use Rattle.table.specs.declared.Row.{Row}
use Rattle.table.specs.declared.Limits.{Limits}
use Rattle.table.specs.declared.Entry.{Entry}
use Rattle.table.specs.Sets.{lanes, width, held, size, row_of, spread, absent}

-- ---- rows

-- the list xs, its n entries from f on replaced by those of ys from g on
abbrev pub pasted : ℕ → List ℕ → ℕ → List ℕ → ℕ → List ℕ
pasted n xs f ys g = updated 0 (λ i x. get_or ys (g + i) 0) n xs f

-- the row that starts at f
unfoldable pub row_at : List ℕ → ℕ → Row
row_at table f = record { at = pasted width (replicate width 0) 0 table f }

-- each of the first n places is at least its limit
unfoldable pub room_to : ℕ → List ℕ → List ℕ → Bool
room_to zero places limits = true
room_to (suc n) places limits = room_to n places limits && leb (get_or limits n 0) (get_or places n 0)

abbrev pub room_in : Row → Limits → Bool
room_in r limits = room_to lanes r.at limits.at

-- ---- limits

-- the least place that an event of a slot of thread t may have, by the new event's stamp: any where the slot is not a later one
abbrev pub limit_at : ℕ → Bool → Stamp → ℕ
limit_at t later stamp = cond later (count_of t stamp) 0

-- those of the first n slots, the new event being at the slot k
abbrev pub limits_to : ℕ → List ℕ → ℕ → Stamp → List ℕ
limits_to n acting k stamp = updated 0 (λ j x. limit_at (get_or acting j 0) (ltb k j) stamp) n (replicate lanes 0) 0

abbrev pub limits_after : List ℕ → ℕ → Stamp → Limits
limits_after acting k stamp = record { at = limits_to slots acting k stamp }

-- ---- an event is offered

-- the table with the row r and the entry in it stored at f
abbrev pub with_entry : List ℕ → ℕ → Row → Entry → List ℕ
with_entry table f r entry = set (set (pasted width table f r.at 0) (f + entry.slot) entry.place) (f + lanes + entry.slot) entry.number

-- to the set m, which has not the slot: where it has a row with room, it gives the row of the set with the slot
unfoldable pub set_offered : List ℕ → ℕ → Limits → Entry → List ℕ
set_offered table m limits entry =
    cond (eqb (get_or table (row_of m + held) 0) 0) table
    (cond (room_in (row_at table (row_of m)) limits) (with_entry table (row_of (m + 2 ^ entry.slot)) (row_at table (row_of m)) entry) table)

-- to the first n sets without the slot
unfoldable pub swept_to : ℕ → List ℕ → Limits → Entry → List ℕ
swept_to zero table limits entry = table
swept_to (suc n) table limits entry = set_offered (swept_to n table limits entry) (spread entry.slot n) limits entry

-- at the entry's slot, where the event fits it, to the first `count` sets without it
unfoldable pub slot_offered : List ℕ → List ℕ → List Bool → ℕ → Stamp → Entry → List ℕ
slot_offered table acting fit count stamp entry =
    cond (get_or fit entry.slot false) (swept_to count table (limits_after acting entry.slot stamp) entry) table

-- an event's place in its thread t, how many come before it, by its stamp
abbrev pub place_by : ℕ → Stamp → ℕ
place_by t stamp = get_or stamp.at t 0 - 1

-- at the first k slots, the last of them first; half of the sets of n slots are without that slot
unfoldable pub offered_down : ℕ → List ℕ → List ℕ → List Bool → ℕ → ℕ → Stamp → ℕ → List ℕ
offered_down zero table acting fit n t stamp number = table
offered_down (suc k) table acting fit n t stamp number =
    offered_down k (slot_offered table acting fit (2 ^ n / 2) stamp (record { slot = k; place = place_by t stamp; number = number })) acting fit n t stamp number

-- at every slot of a pattern of n: nothing where the event's thread t or n is outside its limit
unfoldable pub offered : List ℕ → List ℕ → List Bool → ℕ → ℕ → Stamp → ℕ → List ℕ
offered table acting fit n t stamp number =
    cond (ltb t threads) (cond (leb n slots) (offered_down n table acting fit n t stamp number) table) table

-- ---- the table of no events, and what is found in a table

-- the row of the empty set
abbrev pub empty_row : List ℕ
empty_row = replicate lanes absent ++ (replicate (lanes - 1) 0 ++ (1 ∷ []))

unfoldable pub fresh_table : List ℕ
fresh_table = pasted width (replicate size 0) 0 empty_row 0

-- where the row of all n slots starts
abbrev pub last_row : ℕ → ℕ
last_row n = row_of (2 ^ n - 1)

-- all n slots have a row
unfoldable pub found_in : List ℕ → ℕ → Bool
found_in table n = cond (leb n slots) (not (eqb (get_or table (last_row n + held) 0) 0)) false

-- the event numbers of that row
unfoldable pub numbers_in : List ℕ → ℕ → List ℕ
numbers_in table n = cond (found_in table n) (pasted n (replicate slots 0) 0 table (last_row n + lanes)) (replicate slots 0)
