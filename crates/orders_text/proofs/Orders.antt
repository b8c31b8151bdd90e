-- The line of an answer is the line of what it says: an order's numbers are those before the first 0 of its row.
use Prim.Native.Nat.{ℕ, zero, suc, ◌+◌, ◌-◌, ◌≤◌}
use native.Mathlib.Omega.{arith}
use mathlib.Core.Path.{◌≡◌, refl, sym, ap, ◌∙◌}
use mathlib.Core.List.Memᴰ.{head}
use mathlib.Core.List.Memᴰ.{tail}
use mathlib.Core.List.{List, [], ◌∷◌, ◌++◌, Memᴰ as Mem}
use mathlib.Core.Bool.{cond}
use lib.Dec.{eqb}
use lib.ListN.{length, get_or, replicate}
use borrow.Author.Tests.{ne_eqb}
use Rattle.std.specs.Prelude.{Some, Ok}
use Rattle.event.specs.declared.Event.{Event}
use Rattle.event.specs.Slots.{no_event}
use Rattle.dependence.specs.Dependence.{dependent}
use Rattle.enumeration.proofs.OrderLists.{order_sized}
use Rattle.order_rows.specs.Rows.{order_places, order_row}
use Rattle.orders_log.specs.OrderCalls.{IsOrder, order}
use Rattle.orders_text.specs.OrdersText.{numbers_before_zero, line_from, giving_line, given_line}

-- a list without its first number, one place on
shifted : (x : ℕ) (row : List ℕ) (i m : ℕ) → numbers_before_zero (x ∷ row) (suc i) m ≡ numbers_before_zero row i m
unfolding numbers_before_zero
shifted x row i zero = refl
shifted x row i (suc m) = ap (λ ks. cond (eqb (get_or row i 0) 0) [] (get_or row i 0 ∷ ks)) (shifted x row (suc i) m)

numbers_in_lem : (o : List ℕ) (m : ℕ) → ((k : ℕ) → Mem k o → 1 ≤ k) → numbers_before_zero (o ++ replicate m 0) 0 (length o + m) ≡ o
unfolding numbers_before_zero
numbers_in_lem [] zero h = refl
numbers_in_lem [] (suc m) h = let e : 0 + suc m ≡ suc m = omega arith in rw e
numbers_in_lem (x ∷ o) m h =
    let e : suc (length o) + m ≡ suc (length o + m) = omega arith in
    let n : eqb x 0 ≡ eqb 1 0 = ne_eqb x 0 (λ z. let l = h x (head refl) in let f : ⊥ = omega arith in f) in
    rw (e, n) (ap (λ ks. x ∷ ks) (shifted x (o ++ replicate m 0) 0 (length o + m) ∙ numbers_in_lem o m (λ k i. h k (tail i))))

-- "every order, first to last, one a line: event numbers with a space between them"
pub order_line_lem : (es : List Event) (o : List ℕ) → length es ≤ order_places → IsOrder es o → given_line (Ok (Some (order_row o))) ≡ giving_line (order o)
order_line_lem es o few h =
    let s = order_sized no_event dependent es o h in
    let e : length o + (order_places - length o) ≡ order_places = let n = s.0 in omega arith in
    ap (line_from 0) (sym (ap (numbers_before_zero (order_row o) 0) e) ∙ numbers_in_lem o (order_places - length o) (λ k m. (s.1 k m).0))
