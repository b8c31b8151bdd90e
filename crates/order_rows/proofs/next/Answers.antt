use Prim.Native.Nat.{ℕ, ◌+◌, ◌-◌}
use native.Mathlib.Omega.{arith}
use mathlib.Core.Path.{◌≡◌, sym, ap, ◌∙◌}
use mathlib.Core.Bool.{true}
use mathlib.Core.List.{List}
use lib.ListN.{length}
use Rattle.std.specs.Prelude.{Some}
use Rattle.std.proofs.lemmas.List.{take_rest}
use Rattle.event.specs.declared.Event.{Event}
use Rattle.trace.proofs.Runs.{run}
use Rattle.enumeration.specs.Computed.{ordered}
use Rattle.enumeration.proofs.Successor.{OrderOf}
use Rattle.enumeration.proofs.OrderTest.{ordered_iff}
use Rattle.order_rows.specs.Rows.{dependent_in, next_row}
use Rattle.order_rows.proofs.Raised.{next_whole, fits_behind}
use Rattle.order_rows.proofs.next.Goals as goal

-- what passes the test is an order
order_of : (events : List Event) (o : List ℕ) → ordered (dependent_in events) (length o) o ≡ true → OrderOf (dependent_in events) (run 1 (length o)) o
order_of events o t = (ordered_iff (dependent_in events) (length o) o).0 t

pub raise-requires : goal.raise-requires
raise-requires c = let a = c.args in
    let q = c.requires in
    let l = c.loop-p in
    let m = l.auto.p in
    let t = c.loop-p-test.true in
    let e : l.p - 1 + 1 ≡ l.p = omega arith in
    let least = rw (take_rest a.order.now (l.p - 1)) at c.raised_to.ensures in
    let h = fits_behind (dependent_in a.events) a.order.now (l.p - 1) (omega arith) (rw e l.invariant) c.in-Some.z (sym c.in-Some.is ∙ least)
    (order_of a.events a.order.now q.1) in
    (omega arith, q.0, omega (arith, h, q.0))

pub returns-in-Some : goal.returns-in-Some
returns-in-Some c = let a = c.args in
    let q = c.requires in
    let l = c.loop-p in
    let m = l.auto.p in
    let t = c.loop-p-test.true in
    let e : l.p - 1 + 1 ≡ l.p = omega arith in
    let least = rw (take_rest a.order.now (l.p - 1)) at c.raised_to.ensures in
    ap Some c.raise.ensures
    ∙ sym (ap next_row (next_whole (dependent_in a.events) a.order.now (l.p - 1) (omega arith) (rw e l.invariant) c.in-Some.z (sym c.in-Some.is ∙ least)))
