-- What the program `orders` prints: "every order, first to last, one a line: event numbers with a space between them; the empty log's one order is an empty
-- line". "A refusal is `refused K at B`". "Each line ends in a line feed."
use Rattle.std.specs.Prelude.{ℕ, zero, suc, ◌<◌, ◌≤◌, cond, List, [], ◌∷◌, ◌++◌, eqb, length, get_or, Option as Maybe, Some, None, Result, Ok, Err}
use Rattle.event.specs.Refusals.{refusal_number}
use Rattle.page.specs.Text.{ascii, decimal}
use Rattle.page.specs.Lines.{longest, refusal_line, too_long_line}
use Rattle.order_rows.specs.Rows.{order_places}
use Rattle.orders_log.specs.declared.OrdersRefusal.{OrdersRefusal}
use Rattle.orders_log.specs.declared.OrdersRefusal.TheVariants as case
use Rattle.orders_log.specs.OrderCalls.{Giving, order, last, log_refused, orders_refused, FirstGives, GivesSo}
use Rattle.orders_text.specs.declared.Line.{Line}
use Rattle.orders_text.specs.declared.Line.TheVariants.{Order, Nothing, Refused}

-- "event numbers with a space between them": the number at a place, counted from 0, with a space before it where it is not the first
abbrev pub at_place : ℕ → ℕ → List ℕ
at_place zero k = decimal k
at_place (suc i) k = ascii " " ++ decimal k

-- the numbers from a place on, and the line feed
unfoldable pub line_from : ℕ → List ℕ → List ℕ
line_from i [] = ascii "\n"
line_from i (k ∷ ks) = at_place i k ++ line_from (suc i) ks

abbrev pub order_line : List ℕ → List ℕ
order_line o = line_from 0 o

-- the line of what a call gives; nothing is printed after the last order
abbrev pub giving_line : Giving → List ℕ
giving_line (order o) = order_line o
giving_line last = []
giving_line (log_refused k o) = refusal_line k o
giving_line (orders_refused k o) = refusal_line k o

-- the same by the answer: an order's numbers are those before the first 0, of so many places from one on
unfoldable pub numbers_before_zero : List ℕ → ℕ → ℕ → List ℕ
numbers_before_zero row i zero = []
numbers_before_zero row i (suc m) = cond (eqb (get_or row i 0) 0) [] (get_or row i 0 ∷ numbers_before_zero row (suc i) m)

abbrev pub line_text : Line → List ℕ
line_text (Order row) = order_line (numbers_before_zero row 0 order_places)
line_text Nothing = []
line_text (Refused k o) = refusal_line k o

abbrev pub given_line : Result (Maybe (List ℕ)) OrdersRefusal → List ℕ
given_line (Ok (Some row)) = order_line (numbers_before_zero row 0 order_places)
given_line (Ok None) = []
given_line (Err (case.Log r)) = refusal_line (refusal_number r.reason) r.offset
given_line (Err (case.Orders r)) = refusal_line (refusal_number r.reason) r.offset

-- "if one that the program reads is longer, it prints `too long` alone"; else what is printed first is the line of what the first call gives. A log, the text, and
-- what follows: where it is an order, a line for each call after it
pub data Begins (log : List ℕ) : List ℕ → Result (Maybe (List ℕ)) OrdersRefusal → Type 0 where
  long : longest < length log → Begins log too_long_line (Ok None)
  short : {r : Result (Maybe (List ℕ)) OrdersRefusal} → length log ≤ longest → GivesSo (FirstGives log) r → Begins log (given_line r) r
