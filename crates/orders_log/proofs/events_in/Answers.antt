use mathlib.Core.Path.{◌≡◌}
use Rattle.std.proofs.Common.{rules, Ok}
use Rattle.orders_log.proofs.Answers.{log_long}
use Rattle.orders_log.proofs.events_in.Goals as goal

pub returns-then-events-gt-PLACES : goal.returns-then-events-gt-PLACES
returns-then-events-gt-PLACES c =
    let z : c.read_log.result ≡ Ok c.in_ok-events.events = search rules in
    log_long c.args.log.now c.read_log.ensures z c.if-events-gt-PLACES.true c.at.result c.at.ensures
