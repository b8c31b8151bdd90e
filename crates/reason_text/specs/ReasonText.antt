-- What the program `reason` prints for a pattern and a log, for every two byte strings.
use Rattle.std.specs.Prelude.{ℕ, suc, ◌≤◌, ◌≡◌, List, ◌++◌, length}
use Rattle.event.specs.declared.Event.{Event}
use Rattle.event.specs.declared.Slot.{Slot}
use Rattle.event_log.specs.Whole.{accepted, read_log, read_pattern}
use Rattle.trace.specs.Before.{Numbered}
use Rattle.trace.specs.Reason.{Obstacle, no_fit, last_fit}
use Rattle.dependence.specs.Order.{Reason}
use Rattle.page.specs.Text.{ascii, decimal}
use Rattle.page.specs.Lines.{longest}
use Rattle.listing_text.specs.Text.{slot_text, no_match_line}
use Rattle.listing_text.specs.Listing.{SlotLines, Listing}

-- "one line for slot k", the events of the slots before it being these
pub data WayLine (es : List Event) (k : ℕ) (events : List ℕ) : Obstacle → List ℕ → Type 0 where
  -- "`K no event fits`"
  none_fits : WayLine es k events no_fit (decimal k ++ ascii " no event fits\n")
  -- "or the last fitting event's line as in a listing, followed by ` comes before slot I`"
  before : {l i c : ℕ} {e : Event} → Numbered es l e → Numbered events i c → ¬ (l ≡ c)
      → WayLine es k events (last_fit l i) (slot_text k l e ++ (ascii " comes before slot " ++ decimal i ++ ascii "\n"))
  -- "(or ` is slot I's event`) before the line feed."
  same : {l i : ℕ} {e : Event} → Numbered es l e → Numbered events i l
      → WayLine es k events (last_fit l i) (slot_text k l e ++ (ascii " is slot " ++ decimal i ++ ascii "'s event\n"))

pub data ReasonText (pattern log : List ℕ) : List ℕ → Type 0 where
  -- "On a match it prints what `listing` prints, and on a refusal too."
  as_listed : {text : List ℕ} → Listing pattern log text → ¬ (text ≡ no_match_line) → ReasonText pattern log text
  -- "Else `no match`, then for each slot below k its line as in a listing, then one line for slot k"
  with_reason : {ss : List Slot} {es : List Event} {events lines line : List ℕ} {o : Obstacle} → length pattern ≤ longest → length log ≤ longest
      → read_pattern pattern ≡ accepted ss → read_log log ≡ accepted es → Reason ss es events o → SlotLines es 1 events lines
      → WayLine es (suc (length events)) events o line → ReasonText pattern log (no_match_line ++ lines ++ line)
