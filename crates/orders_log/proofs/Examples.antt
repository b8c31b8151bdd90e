-- Logs whose orders are known: two marks of thread 0 with one of thread 1 between them have three, and the empty log has one.
use Prim.Native.Nat.{ℕ}
use native.Mathlib.Omega.{arith}
use mathlib.Core.Path.{◌≡◌, refl}
use mathlib.Core.List.{List, [], ◌∷◌}
use Rattle.event.specs.declared.Event.{Event}
use Rattle.event.specs.declared.Operation.TheVariants.{Mark}
use Rattle.event.specs.Range.{range_refusal_under}
use Rattle.rules.specs.Accepted.{some, lock_of, refusal_under}
use Rattle.command.specs.Reading.{decode}
use Rattle.event_log.specs.Whole.{read_log, read_log_under, accepted, row_from, step_under}
use Rattle.dependence.specs.Dependence.{dependent}
use Rattle.orders_log.specs.OrderCalls.{order, last, Called}
use Rattle.orders_log.proofs.EveryOrder.{first_computed, next_computed}

mark : ℕ → Event
mark t = record { thread = t; operation = Mark 0 }

-- 07 00 00 00, 07 01 00 00, 07 00 00 00, 00
abbrev three : List ℕ
three = 7 ∷ 0 ∷ 0 ∷ 0 ∷ 7 ∷ 1 ∷ 0 ∷ 0 ∷ 7 ∷ 0 ∷ 0 ∷ 0 ∷ 0 ∷ []

events : List Event
events = mark 0 ∷ mark 1 ∷ mark 0 ∷ []

three_read : read_log three ≡ accepted events
unfolding events mark read_log_under row_from step_under decode refusal_under range_refusal_under lock_of some
three_read = refl

pub three_orders : Called three 0 (order (1 ∷ 2 ∷ 3 ∷ [])) × Called three 1 (order (1 ∷ 3 ∷ 2 ∷ [])) × Called three 2 (order (2 ∷ 1 ∷ 3 ∷ [])) × Called three 3 last
unfolding events mark dependent
three_orders =
    let a : Called three 0 (order (1 ∷ 2 ∷ 3 ∷ [])) = first_computed three events three_read (omega arith) in
    let b : Called three 1 (order (1 ∷ 3 ∷ 2 ∷ [])) = next_computed three events three_read (omega arith) (1 ∷ 2 ∷ 3 ∷ []) a in
    let c : Called three 2 (order (2 ∷ 1 ∷ 3 ∷ [])) = next_computed three events three_read (omega arith) (1 ∷ 3 ∷ 2 ∷ []) b in
    let d : Called three 3 last = next_computed three events three_read (omega arith) (2 ∷ 1 ∷ 3 ∷ []) c in
    (a, b, c, d)

empty_read : read_log (0 ∷ []) ≡ accepted []
unfolding read_log_under row_from step_under decode
empty_read = refl

pub empty_orders : Called (0 ∷ []) 0 (order []) × Called (0 ∷ []) 1 last
empty_orders =
    let a : Called (0 ∷ []) 0 (order []) = first_computed (0 ∷ []) [] empty_read (omega arith) in
    (a, next_computed (0 ∷ []) [] empty_read (omega arith) [] a)
