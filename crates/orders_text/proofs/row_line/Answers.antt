use Rattle.page.specs.Page.{empty_page}
use Rattle.orders_text.proofs.Lines.{lined_start, lined_step, lined_zero, lined_end}
use Rattle.orders_text.proofs.row_line.Goals.{else-loop-i-test, then-loop-i-test+then-k-eq0}
use Rattle.orders_text.proofs.row_line.Goals as goal

pub loop-i-init : goal.loop-i-init
loop-i-init c = rw c.empty-p.ensures (lined_start empty_page c.args.row.now)

pub loop-i-preserved : goal.loop-i-preserved
loop-i-preserved c = let l = c.loop-i in
    lined_step empty_page c.args.row.now l.p l.i l.invariant c.loop-i-test.true c.if-k-eq0.false c.number-p.ensures

pub returns : goal.returns
returns c = let row = c.args.row.now in
    let l = c.loop-i in
    elim c.loop-i-test.branch [
      | else-loop-i-test w ↦ lined_end empty_page row l.p l.i l.invariant w.loop-i-test.false c.text.ensures
      | then-loop-i-test+then-k-eq0 w ↦ lined_zero empty_page row l.p l.i l.invariant w.loop-i-test.true w.if-k-eq0.true c.text.ensures
    ]
