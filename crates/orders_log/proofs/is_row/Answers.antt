use Prim.Native.Nat.{◌≤◌}
use native.Mathlib.Omega.{arith}
use mathlib.Core.Path.{sym, ◌∙◌}
use lib.ListN.{length}
use borrow.Author.Tests.{eqb-true}
use Rattle.std.proofs.lemmas.List.{take_rest, length-drop}
use Rattle.trace.proofs.Lists.{both_ways}
use Rattle.order_rows.specs.Rows.{order_places}
use Rattle.orders_log.proofs.Rows.{row_length, row_zeros, tested, untested}
use Rattle.orders_log.proofs.is_row.Goals.{then-row-eq-PLACES, else-row-eq-PLACES}
use Rattle.orders_log.proofs.is_row.Goals as goal

pub returns-then-zeros-clause-exact : goal.returns-then-zeros-clause-exact
returns-then-zeros-clause-exact c es n p =
    let a = c.args in
    elim c.if-row-eq-PLACES.branch [
      | then-row-eq-PLACES w ↦
          tested a.events a.count a.row.now _ c.requires w.if-row-eq-PLACES.true (rw (take_rest a.row.now a.count, length-drop a.count a.row.now) at (w.zeros.ensures.0 (sym w.value-is ∙ c.if-zeros.true))) c.is_order.ensures es n p
      | else-row-eq-PLACES w ↦ absurd (w.if-row-eq-PLACES.false (eqb-true (length a.row.now) order_places (sym w.value-is ∙ c.if-zeros.true)))
    ]

pub returns-else-zeros-clause-exact : goal.returns-else-zeros-clause-exact
returns-else-zeros-clause-exact c es n p =
    let a = c.args in
    let few = c.requires in
    let m : length es ≤ order_places = omega arith in
    untested a.row.now es c.if-zeros.false (λ s. elim c.if-row-eq-PLACES.branch [
      | then-row-eq-PLACES w ↦
          both_ways (w.zeros.ensures.1 (rw (take_rest a.row.now a.count, length-drop a.count a.row.now) (rw n (row_zeros es m a.row.now s)))) (sym w.value-is ∙ c.if-zeros.false)
      | else-row-eq-PLACES w ↦ w.if-row-eq-PLACES.false (row_length es m a.row.now s)
    ])
