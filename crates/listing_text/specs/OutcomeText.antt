-- The listing's text, by the outcome of a run and the numbers that it names.
use Rattle.std.specs.Prelude.{ℕ, ◌+◌, cond, List, [], ◌∷◌, ◌++◌, eqb, Option, Some, None, Result, Ok, Err}
use Rattle.event.specs.Refusals.{refusal_number}
use Rattle.session.specs.declared.Verdict.{Verdict}
use Rattle.event_log.specs.Number.{nth_event}
use Rattle.run.specs.declared.RunRefusal.{RunRefusal}
use Rattle.run.specs.declared.RunRefusal.TheVariants.{Pattern, Log}
use Rattle.page.specs.Lines.{refusal_line}
use Rattle.listing_text.specs.Text.{slot_line, pattern_refusal_line, no_match_line, match_line}

-- a line for each number, from this slot on, to the first that is 0
unfoldable pub lines_of : List ℕ → ℕ → List ℕ → List ℕ
lines_of bytes slot [] = []
lines_of bytes slot (n ∷ ns) = cond (eqb n 0) [] (slot_line slot n (nth_event n bytes 0) ++ lines_of bytes (slot + 1) ns)

-- what was found, with the numbers that are named
abbrev pub found_text : List ℕ → Option ℕ → List ℕ → List ℕ
found_text bytes (Some n) numbers = match_line n ++ lines_of bytes 1 numbers
found_text bytes None numbers = no_match_line

-- what a run said, as text
abbrev pub text_of : List ℕ → Result Verdict RunRefusal → List ℕ
text_of bytes (Ok v) = found_text bytes v.found v.numbers
text_of bytes (Err (Pattern r)) = pattern_refusal_line (refusal_number r.reason) r.offset
text_of bytes (Err (Log r)) = refusal_line (refusal_number r.reason) r.offset
