-- What is put onto a page is the text for a log and the program's arguments: the usage, that the log is too long, and an answer.
use Prim.Native.Nat.{ℕ, ◌<◌, ◌≤◌}
use native.Mathlib.Omega.{arith}
use mathlib.Core.Path.{◌≡◌}
use mathlib.Core.List.{List}
use lib.ListN.{length}
use Rattle.std.specs.Prelude.{Option, Some, None}
use Rattle.page.specs.declared.Page.{Page}
use Rattle.page.specs.Page.{onto, Adds}
use Rattle.page.specs.Lines.{longest, too_long_line}
use Rattle.order_query.specs.Query.{OrderAnswer, Answers}
use Rattle.order_text.specs.OrderText.{answer_line, usage_line, OrderText, usage, long, answered}
use Rattle.order_text.proofs.Lengths.{fits_a_page}

module _ (log : List ℕ) (p q : Page) where
  pub added_usage : (pair : Option (ℕ × ℕ)) → pair ≡ None → q ≡ onto p usage_line → Adds (OrderText log pair) p q
  added_usage pair n e = rw n (record { text = usage_line; kind = usage; short = omega arith; page = e })

  module _ (i j : ℕ) where
    pub added_long : longest < length log → q ≡ onto p too_long_line → Adds (OrderText log (Some (i, j))) p q
    added_long l e = record { text = too_long_line; kind = long l; short = omega arith; page = e }

    pub added_answer : (a : OrderAnswer) → length log ≤ longest → Answers log i j a → q ≡ onto p (answer_line a) → Adds (OrderText log (Some (i, j))) p q
    added_answer a l h e = record { text = answer_line a; kind = answered l h; short = fits_a_page a; page = e }
