use mathlib.Core.Path.{refl}
use native.Mathlib.Omega.{arith}
use Rattle.page.specs.Lines.{too_long_line}
use Rattle.page.proofs.PutIn.{put_in}
use Rattle.orders_text.proofs.Lines.{begins_long, begins_short}
use Rattle.orders_text.proofs.begin.Goals as goal

pub returns-then-log-gt-LONGEST : goal.returns-then-log-gt-LONGEST
returns-then-log-gt-LONGEST c =
    begins_long c.if-log-gt-LONGEST.true (put_in (record {
      text = too_long_line;
      kind = refl;
      short = omega arith;
      page = rw c.empty.ensures at c.too_long.ensures;
    })
    (c.put-written.ensures.answer, c.put-written.ensures.after))

pub returns : goal.returns
returns c = let l = c.if-log-gt-LONGEST.false in
    begins_short (omega arith) c.first-given.ensures (rw c.line_of.ensures at c.write-written.ensures)
