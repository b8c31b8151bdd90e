use mathlib.Core.Path.{sym}
use Rattle.page.proofs.Onto.{onward}
use Rattle.reason_text.proofs.way.Goals as goal

pub returns-in-NoFit : goal.returns-in-NoFit
returns-in-NoFit c = rw c.in-NoFit.is (onward _ _ _ _ _ c.number.ensures c.text.ensures)

pub returns-in-TooEarly : goal.returns-in-TooEarly
returns-in-TooEarly c = rw (c.in-TooEarly.is, sym c.event_numbered-e.ensures.exact, sym c.slot_event.ensures)
    (onward _ _ _ _ _ c.slot_text-q.ensures c.way_line.ensures)
