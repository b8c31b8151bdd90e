use Rattle.std.proofs.Common.{rules}
use Rattle.order_text.proofs.Lines.{added_usage}
use Rattle.order_text.proofs.line.Goals as goal

pub returns-in_default : goal.returns-in_default
returns-in_default c = added_usage _ _ _ _ (search rules) (rw c.empty-p.ensures at c.text.ensures)
