-- The text of a cause, as the call for a reason gives it.
use Rattle.std.specs.Prelude.{ℕ, ◌-◌, Bool, cond, List, [], ◌++◌, eqb, ltb, get_or, Option, Some, None, Ok}
use Rattle.event.specs.Limits.{slots}
use Rattle.event_log.specs.Number.{nth_event}
use Rattle.page.specs.Text.{ascii, decimal}
use Rattle.session.specs.declared.Verdict.{Verdict}
use Rattle.listing_text.specs.Text.{slot_text}
use Rattle.listing_text.specs.OutcomeText.{lines_of, text_of}
use Rattle.verdict_reason.specs.declared.Cause.{Cause}
use Rattle.verdict_reason.specs.declared.Cause.TheVariants.{NoFit, TooEarly}

-- the event of a slot, from 1; 0 where there is no such slot
abbrev pub slot_event : List ℕ → ℕ → ℕ
slot_event events i = cond (eqb i 0) 0 (cond (ltb slots i) 0 (get_or events (i - 1) 0))

abbrev pub way_text : Bool → ℕ → List ℕ
way_text same i = cond same (ascii " is slot " ++ decimal i ++ ascii "'s event\n") (ascii " comes before slot " ++ decimal i ++ ascii "\n")

abbrev pub cause_text : List ℕ → Option Cause → List ℕ → List ℕ
cause_text bytes None events = []
cause_text bytes (Some (NoFit k)) events = decimal k ++ ascii " no event fits\n"
cause_text bytes (Some (TooEarly k l i)) events = slot_text k l (nth_event l bytes 0) ++ way_text (eqb l (slot_event events i)) i

-- what the call said of a log that it did not refuse, as text
abbrev pub reasoned_text : List ℕ → Verdict → Option Cause → List ℕ → List ℕ
reasoned_text bytes v c events = text_of bytes (Ok v) ++ lines_of bytes 1 events ++ cause_text bytes c events
