-- What each case of a run's answer stands for: the document's number and values.
use Rattle.std.specs.Prelude.{ℕ, zero, suc, max, cond, List, eqb, get_or, replicate, Some, None, Result, Ok, Err}
use Rattle.event.specs.declared.refusal.Refused.{Refused}
use Rattle.event.specs.Limits.{slots as slot_limit}
use Rattle.event.specs.Refusals.{refusal_number}
use Rattle.session.specs.declared.Verdict.{Verdict}
use Rattle.session.specs.Answers.{refusal, nothing, pattern, log, no_ruling, verdict_is, Given}
use Rattle.first.specs.declared.Search.{Search}
use Rattle.slot_search.specs.declared.LogSearch.{LogSearch}
use Rattle.run.specs.declared.RunRefusal.{RunRefusal}
use Rattle.run.specs.declared.RunRefusal.TheVariants.{Pattern, Log}

abbrev pub judged_is : Result Verdict RunRefusal → Given
judged_is (Ok v) = record { refused = nothing; refusal = refusal 0 0; ruling = verdict_is v }
judged_is (Err (Pattern r)) = record { refused = pattern; refusal = refusal (refusal_number r.reason) r.offset; ruling = no_ruling }
judged_is (Err (Log r)) = record { refused = log; refusal = refusal (refusal_number r.reason) r.offset; ruling = no_ruling }

-- the greatest of the first n numbers
unfoldable pub greatest_of : ℕ → List ℕ → ℕ
greatest_of zero numbers = 0
greatest_of (suc n) numbers = max (get_or numbers n 0) (greatest_of n numbers)

-- the verdict once the log has passed: the events found and the greatest of their numbers, or none
abbrev pub verdict_after : ℕ → Search → Verdict
verdict_after size s =
    cond (eqb s.found size)
    (record { found = Some (greatest_of slot_limit s.numbers); numbers = s.numbers })
    (record { found = None; numbers = replicate slot_limit 0 })

-- what a run gives once the log has been gone through: its refusal, or the verdict of the search for so many slots
abbrev pub judged_after : ℕ → Result LogSearch Refused → Result Verdict RunRefusal
judged_after size (Ok s) = Ok (verdict_after size s.search)
judged_after size (Err r) = Err (Log r)
