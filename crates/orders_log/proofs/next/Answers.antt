use Rattle.trace.proofs.Lists.{both_ways}
use Rattle.orders_log.proofs.Answers.{no_row_given}
use Rattle.orders_log.proofs.next.Goals as goal

pub returns-then-not-is_row : goal.returns-then-not-is_row
returns-then-not-is_row c =
    let s = c.in_ok-n.ensures in
    let p = c.events_of-events.ensures s.events s.accepts s.sized in
    no_row_given s (λ h. both_ways ((c.is_row.ensures.exact s.events s.sized p).1 h) c.if-not-is_row.true) c.at.ensures
