-- What each case of an answer stands for: the document's number and values.
use Rattle.std.specs.Prelude.{ℕ, Bool, true, false, List, replicate, Option, Some, None, Result, Ok, Err}
use Rattle.event.specs.declared.refusal.Refused as event
use Rattle.event.specs.Limits.{slots}
use Rattle.event.specs.Refusals.{refusal_number}
use Rattle.session.specs.declared.Verdict.{Verdict}

-- "A refusal returns its number and the offset of the first byte of the command concerned"; number 0: nothing is refused
pub record Refusal : Type 0 where
  pub number : ℕ
  pub offset : ℕ

abbrev pub refusal : ℕ → ℕ → Refusal
refusal k o = record { number = k; offset = o }

-- what became of an event
abbrev pub answer_is : Result Unit event.Refused → Refusal
answer_is (Ok u) = refusal 0 0
answer_is (Err r) = refusal (refusal_number r.reason) r.offset

-- match or none, the count, one event number per slot
pub record Ruling : Type 0 where
  pub matches : Bool
  pub count : ℕ
  pub events : List ℕ

-- "match with the smallest count of leading events that suffices and one event number per slot, or none with count 0"
abbrev pub found_is : Option ℕ → List ℕ → Ruling
found_is (Some n) events = record { matches = true; count = n; events = events }
found_is None events = record { matches = false; count = 0; events = events }

abbrev pub verdict_is : Verdict → Ruling
verdict_is v = found_is v.found v.numbers

-- "other fields 0"
abbrev pub no_ruling : Ruling
no_ruling = record { matches = false; count = 0; events = replicate slots 0 }

-- what was refused
pub data Refused : Type 0 where
  nothing pattern log : Refused

-- what a run gives: what it refused, by which number and where; its verdict
pub record Given : Type 0 where
  pub refused : Refused
  pub refusal : Refusal
  pub ruling : Ruling
