-- Document 01's orders, matches, counts, first example and stamps, and why there is no match: what crate `trace` defines for any events and slots, at the events of a log,
-- those of them that are dependent, and those that fit a slot.
-- Assumes nothing.
use Rattle.std.specs.Prelude.{ℕ, List}
use Rattle.event.specs.declared.Event.{Event}
use Rattle.event.specs.declared.Slot.{Slot}
use Rattle.event.specs.Slots.{fits}
use Rattle.trace.specs.Swaps as swaps
use Rattle.trace.specs.Before as numbers
use Rattle.trace.specs.Match as patterns
use Rattle.trace.specs.First as first
use Rattle.trace.specs.Reason as reasons
use Rattle.trace.specs.Stamps as stamps
use Rattle.dependence.specs.Dependence.{dependent}

-- "An order reached from a list is what zero or more swaps make of it": a list, and an order
abbrev pub Reaches : List Event → List Event → Type 0
Reaches = swaps.Reaches dependent

-- ""Comes before or is" means: the same event, or a chain of events rising in the log, each dependent on the next.":
-- a log, and two event numbers
abbrev pub ComesBefore : List Event → ℕ → ℕ → Type 0
ComesBefore = numbers.ComesBefore dependent

-- "A list has a match when some order reached from it holds the pattern, else none.": a pattern, and a list
abbrev pub HasMatch : List Slot → List Event → Type 0
HasMatch = patterns.HasMatch dependent fits

-- "Its count is the smallest n whose leading n events have a match, every smaller number having none;
-- without a match it is 0.": a pattern, a list, and the count
abbrev pub IsCount : List Slot → List Event → ℕ → Type 0
IsCount = patterns.IsCount dependent fits

-- "On a match the numbers are distinct events that fit their slots, lie within the count, and for no earlier and later slot
-- does the later slot's event come before or equal the earlier's.": a pattern, a list, the count, and the numbers
abbrev pub Named : List Slot → List Event → ℕ → List ℕ → Type 0
Named = patterns.Named dependent fits

-- "among all lists of events, in slot order, that satisfy the rule within the reported count, the one smallest at the first place
-- where they differ": a pattern, a list, the count, and the numbers
abbrev pub IsFirst : List Slot → List Event → ℕ → List ℕ → Type 0
IsFirst = first.IsFirst dependent fits

-- "the number k of the first slot that can't be filled, the first events for slots 1 to k-1 .., and one of two cases": a pattern, a list, those events, and
-- the case
abbrev pub Reason : List Slot → List Event → List ℕ → reasons.Obstacle → Type 0
Reason = reasons.Reason dependent fits

abbrev pub thread_of : Event → ℕ
thread_of e = e.thread

-- "a stamp gives for each thread how many of its events come before or are this one":
-- a log, an event number, a thread, and how many
abbrev pub IsStamp : List Event → ℕ → ℕ → ℕ → Type 0
IsStamp = stamps.IsStamp dependent thread_of
