-- What the program `order` prints: "`same`, `before`, `after` or `free`; or the refusal, 16 among them"; or its usage.
use Rattle.std.specs.Prelude.{ℕ, ◌<◌, ◌≤◌, List, length, Option, Some, None}
use Rattle.page.specs.Text.{ascii}
use Rattle.page.specs.Lines.{longest, refusal_line, too_long_line}
use Rattle.relation.specs.declared.Relation.{Relation}
use Rattle.relation.specs.declared.Relation.TheVariants.{Same, Before, After, Free}
use Rattle.order_query.specs.Query.{OrderAnswer, related, log_refused, query_refused, Answers}

-- "`same`, `before`, `after` or `free`"; "Each line ends in a line feed."
abbrev pub relation_line : Relation → List ℕ
relation_line Same = ascii "same\n"
relation_line Before = ascii "before\n"
relation_line After = ascii "after\n"
relation_line Free = ascii "free\n"

-- "A refusal is `refused K at B`", that of the log and 16 alike
abbrev pub answer_line : OrderAnswer → List ℕ
answer_line (related r) = relation_line r
answer_line (log_refused k o) = refusal_line k o
answer_line (query_refused k o) = refusal_line k o

-- "`usage: ` and its usage as in the table"
abbrev pub usage_line : List ℕ
usage_line = ascii "usage: order FIRST SECOND\n"

-- a log, the two numbers that the arguments are, or none, and the text: "usage goes before `too long` and every refusal"; "if one that the program
-- reads is longer, it prints `too long` alone"
pub data OrderText (log : List ℕ) : Option (ℕ × ℕ) → List ℕ → Type 0 where
  usage : OrderText log None usage_line
  long : {i j : ℕ} → longest < length log → OrderText log (Some (i, j)) too_long_line
  answered : {i j : ℕ} {a : OrderAnswer} → length log ≤ longest → Answers log i j a → OrderText log (Some (i, j)) (answer_line a)
