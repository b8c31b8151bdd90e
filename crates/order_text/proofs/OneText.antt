-- What is printed for a log and the program's arguments is one text.
use Prim.Native.Nat.{ℕ, ◌<◌, ◌≤◌}
use native.Mathlib.Omega.{arith}
use mathlib.Core.Path.{◌≡◌, refl, ap}
use mathlib.Core.List.{List}
use Rattle.std.specs.Prelude.{Option}
use lib.ListN.{length}
use Rattle.page.specs.Lines.{longest}
use Rattle.order_query.proofs.OldAnswers.{query_unique}
use Rattle.order_text.specs.OrderText.{answer_line, OrderText, usage, long, answered}

not_both : (log : List ℕ) → longest < length log → length log ≤ longest → ⊥
not_both log l m = omega arith

pub one_text : {log : List ℕ} {q : Option (ℕ × ℕ)} {s t : List ℕ} → OrderText log q s → OrderText log q t → s ≡ t
one_text usage usage = refl
one_text (long l) (long m) = refl
one_text {log} (long l) (answered m b) = absurd (not_both log l m)
one_text {log} (answered m a) (long l) = absurd (not_both log l m)
one_text (answered m a) (answered n b) = ap answer_line (query_unique a b)
