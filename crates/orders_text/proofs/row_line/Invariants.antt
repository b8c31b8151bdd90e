use Rattle.page.specs.Page.{empty_page}
use Rattle.orders_text.proofs.Lines.{Lined}
use Rattle.orders_text.proofs.row_line.Given as goal

abbrev pub invariant-loop-i : goal.invariant-loop-i
invariant-loop-i l = Lined empty_page l.row l.p l.i
