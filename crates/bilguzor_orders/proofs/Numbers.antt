-- The numbers of an answer are those of what it says.
use mathlib.Core.Path.{◌≡◌, refl, ap, ◌∙◌}
use mathlib.Core.List.{List}
use Prim.Native.Nat.{ℕ}
use Rattle.std.specs.Prelude.{Option, Result}
use Rattle.orders_log.specs.declared.OrdersRefusal.{OrdersRefusal}
use Rattle.orders_log.specs.OrderCalls.{Giving, order, last, log_refused, orders_refused, given_is, by_row, SaysSo, GivesSo}
use Rattle.bilguzor_orders.specs.declared.OrderRow.{OrderRow}
use Rattle.bilguzor_orders.specs.OrderNumbers.{order_numbers, numbers_given}

same_numbers : (a : Giving) → numbers_given (by_row a) ≡ order_numbers a
same_numbers (order o) = refl
same_numbers last = refl
same_numbers (log_refused k o) = refl
same_numbers (orders_refused k o) = refl

pub said_in_numbers : {So : Giving → Type 0} (r : Result (Option (List ℕ)) OrdersRefusal) {n : OrderRow} → GivesSo So r → n ≡ numbers_given (given_is r) → SaysSo order_numbers So n
said_in_numbers r s e = record { what = s.what; so = s.so; answer = e ∙ ap numbers_given s.answer ∙ same_numbers s.what }
