-- What the listing of a pattern and a log is, for every two byte strings.
use Rattle.std.specs.Prelude.{ℕ, ◌+◌, ◌<◌, ◌≤◌, ◌≡◌, List, [], ◌∷◌, ◌++◌, length, Result}
use Rattle.event.specs.declared.Event.{Event}
use Rattle.event.specs.declared.Slot.{Slot}
use Rattle.event.specs.declared.refusal.Refused.{Refused}
use Rattle.event_log.specs.Whole.{accepted, refused, read_log, read_pattern}
use Rattle.trace.specs.Before.{Numbered}
use Rattle.dependence.specs.Order.{HasMatch, IsCount, IsFirst}
use Rattle.page.specs.Lines.{longest, refusal_line, too_long_line}
use Rattle.page.specs.Page.{PutIn}
use Rattle.listing_text.specs.Text.{slot_line, pattern_refusal_line, no_match_line, match_line}

-- "a line per slot", from this slot number on: of the events numbered
pub data SlotLines (es : List Event) : ℕ → List ℕ → List ℕ → Type 0 where
  none : {slot : ℕ} → SlotLines es slot [] []
  line : {slot n : ℕ} {e : Event} {ns rest : List ℕ} → Numbered es n e → SlotLines es (slot + 1) ns rest → SlotLines es slot (n ∷ ns) (slot_line slot n e ++ rest)

-- of a pattern and a log, neither too long. With a match the events shown are the first list: "among all lists of events, in slot order,
-- that satisfy the rule within the reported count, the one smallest at the first place where they differ"
pub data Judged (pattern log : List ℕ) : List ℕ → Type 0 where
  pattern_refused : {k o : ℕ} → read_pattern pattern ≡ refused k o → Judged pattern log (pattern_refusal_line k o)
  log_refused : {ss : List Slot} {k o : ℕ} → read_pattern pattern ≡ accepted ss → read_log log ≡ refused k o → Judged pattern log (refusal_line k o)
  no_match : {ss : List Slot} {es : List Event} → read_pattern pattern ≡ accepted ss → read_log log ≡ accepted es → ¬ HasMatch ss es
      → Judged pattern log no_match_line
  match : {ss : List Slot} {es : List Event} {n : ℕ} {numbers lines : List ℕ} → read_pattern pattern ≡ accepted ss → read_log log ≡ accepted es
      → HasMatch ss es → IsCount ss es n → IsFirst ss es n numbers → SlotLines es 1 numbers lines → Judged pattern log (match_line n ++ lines)

-- "if either is longer it prints `too long` alone"
pub data Listing (pattern log : List ℕ) : List ℕ → Type 0 where
  long_pattern : longest < length pattern → Listing pattern log too_long_line
  long_log : longest < length log → Listing pattern log too_long_line
  judged : {text : List ℕ} → length pattern ≤ longest → length log ≤ longest → Judged pattern log text → Listing pattern log text

-- the listing written at the start of a lent buffer; or 15, and the buffer as it was, where it is shorter than the listing
abbrev pub ListedIn : List ℕ → List ℕ → List ℕ → List ℕ → Result ℕ Refused → Type 0
ListedIn pattern log = PutIn (Listing pattern log)
