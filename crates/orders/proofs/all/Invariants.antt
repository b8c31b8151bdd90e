-- What falls is how far the row's order is from the last.
use Rattle.std.proofs.Common.{◌≡◌, length}
use Rattle.std.specs.Option.{IfSome}
use Rattle.std.specs.Result.{IfOk}
use Rattle.order_rows.specs.Rows.{order_places}
use Rattle.orders_log.proofs.Rising.{distance}
use Rattle.orders.proofs.all.Given as goal

abbrev pub invariant-loop-given : goal.invariant-loop-given
invariant-loop-given g l = IfOk l.given (λ o. IfSome o (λ row. length row ≡ order_places))

abbrev pub decreases-loop-given : goal.decreases-loop-given
decreases-loop-given g l = distance l.given
