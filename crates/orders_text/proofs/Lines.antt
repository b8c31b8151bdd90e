-- The line of an order, number after number; how long lines are; and that the line of an answer is the line of what it says.
use Prim.Native.Nat.{ℕ, zero, suc, ◌+◌, ◌*◌, ◌-◌, ◌≤◌, ◌<◌}
use native.Mathlib.Omega.{arith}
use native.Mathlib.Numerals.{add-one}
use mathlib.Core.Path.{◌≡◌, refl, sym, ◌∙◌}
use mathlib.Core.List.{List}
use lib.Dec.{eqb}
use lib.ListN.{length, get_or, length-append}
use borrow.Author.Tests.{eq-eqb, ne_eqb}
use Rattle.std.specs.Prelude.{Option as Maybe, Some, None, Result, Ok, Err}
use Rattle.event.specs.declared.refusal.Refused as event
use Rattle.event.specs.Refusals.{refusal_number}
use Rattle.page.specs.Text.{ascii, decimal}
use Rattle.page.specs.Lines.{longest, too_long_line}
use Rattle.page.specs.Page.{room, onto, PutIn}
use Rattle.page.specs.declared.Page.{Page}
use Rattle.event.proofs.Tests.{by_test}
use Rattle.page.proofs.Onto.{onto_append}
use Rattle.page.proofs.Lengths.{number, refusal}
use Rattle.order_rows.specs.Rows.{order_places}
use Rattle.orders_log.specs.declared.OrdersRefusal.{OrdersRefusal}
use Rattle.orders_log.specs.declared.OrdersRefusal.TheVariants as case
use Rattle.orders_log.specs.OrderCalls.{FirstGives, GivesSo}
use Rattle.orders_text.specs.declared.Line.{Line}
use Rattle.orders_text.specs.declared.Line.TheVariants.{Order, Nothing, Refused}
use Rattle.orders_text.specs.OrdersText.{at_place, line_from, numbers_before_zero, line_text, given_line, Begins, long}
use Rattle.orders_text.specs.OrdersText as orders_text_module

-- ---- number after number

module _ (p : Page) (i k : ℕ) where
  pub first_place : i ≡ 0 → {r : Page} → r ≡ onto p (decimal k) → r ≡ onto p (at_place i k)
  first_place z e = rw z e

  pub later_place : ¬ (i ≡ 0) → {r : Page} → r ≡ onto (onto p (ascii " ")) (decimal k) → r ≡ onto p (at_place i k)
  later_place d {r} e = go i d
    where
      go : (i : ℕ) → ¬ (i ≡ 0) → r ≡ onto p (at_place i k)
      go zero d = absurd (d refl)
      go (suc i) d = e ∙ onto_append p (ascii " ") (decimal k)

-- the line as far as place i, and what is left of it
pub record Lined (p : Page) (row : List ℕ) (q : Page) (i : ℕ) : Type 0 where
  pub high : i ≤ order_places
  pub rest : onto p (line_from 0 (numbers_before_zero row 0 order_places)) ≡ onto q (line_from i (numbers_before_zero row i (order_places - i)))

module _ (p : Page) (row : List ℕ) where
  pub lined_start : Lined p row p 0
  lined_start = record { high = omega arith; rest = refl }

  module _ (q : Page) (i : ℕ) (h : Lined p row q i) where
    left : i < order_places → order_places - i ≡ suc (order_places - (i + 1))
    left l = omega arith

    pub lined_step : i < order_places → ¬ (get_or row i 0 ≡ 0) → {r : Page} → r ≡ onto q (at_place i (get_or row i 0)) → Lined p row r (i + 1)
    unfolding numbers_before_zero line_from
    lined_step l d {r} e =
        record { high = omega arith; rest = h.rest ∙ rw (left l, ne_eqb (get_or row i 0) 0 d, e, add-one i) (sym (onto_append q (at_place i (get_or row i 0)) _)) }

    pub lined_zero : i < order_places → get_or row i 0 ≡ 0 → {r : Page} → r ≡ onto q (ascii "\n") → r ≡ onto p (line_from 0 (numbers_before_zero row 0 order_places))
    unfolding numbers_before_zero line_from
    lined_zero l z e = e ∙ sym (h.rest ∙ rw (left l, eq-eqb (get_or row i 0) 0 z))

    pub lined_end : order_places ≤ i → {r : Page} → r ≡ onto q (ascii "\n") → r ≡ onto p (line_from 0 (numbers_before_zero row 0 order_places))
    unfolding numbers_before_zero line_from
    lined_end l e = let n : order_places - i ≡ 0 = omega arith in e ∙ sym (h.rest ∙ rw n)

-- ---- how long

place_length : (i k : ℕ) → length (at_place i k) ≤ 21
place_length zero k = let h = number k in omega arith
place_length (suc i) k = let h = number k in rw length-append (omega arith)

line_length : (row : List ℕ) (i m : ℕ) (j : ℕ) → length (line_from j (numbers_before_zero row i m)) ≤ 21 * m + 1
unfolding numbers_before_zero line_from
line_length row i zero j = omega arith
line_length row i (suc m) j =
    by_test (eqb (get_or row i 0) 0)
    (λ t. rw t (omega arith))
    (λ f. let h = line_length row (suc i) m (suc j) in let k = place_length j (get_or row i 0) in rw (f, length-append) (omega arith))

-- every line fits a page
pub text_length : (l : Line) → length (line_text l) ≤ room
text_length (Order row) = let h = line_length row 0 order_places 0 in omega arith
text_length Nothing = omega arith
text_length (Refused k o) = let h = refusal k o in omega arith

-- so does the line of what a call gives: for one who has the answer and not its line, which nothing here has, as `line_of` comes before `write`
pub given_length : (g : Result (Maybe (List ℕ)) OrdersRefusal) → length (given_line g) ≤ room
given_length (Ok (Some row)) = text_length (Order row)
given_length (Ok None) = text_length Nothing
given_length (Err (case.Log r)) = text_length (Refused (refusal_number r.reason) r.offset)
given_length (Err (case.Orders r)) = text_length (Refused (refusal_number r.reason) r.offset)

-- ---- what is printed first

module _ {log before after : List ℕ} {w : Result ℕ event.Refused} where
  pub begins_long : longest < length log → PutIn (λ text. text ≡ too_long_line) before after w → PutIn (λ text. Begins log text (Ok None)) before after w
  begins_long l p = record { text = p.text; kind = rw p.kind (long l); short = p.short; answer = p.answer; buffer = p.buffer }

  pub begins_short : {g : Result (Maybe (List ℕ)) OrdersRefusal} → length log ≤ longest → GivesSo (FirstGives log) g → PutIn (λ text. text ≡ given_line g) before after w
      → PutIn (λ text. Begins log text g) before after w
  begins_short l g p =
      record { text = p.text; kind = rw p.kind (orders_text_module.short l g); short = p.short; answer = p.answer; buffer = p.buffer }
