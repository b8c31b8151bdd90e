use Rattle.orders_text.proofs.Lines.{first_place, later_place}
use Rattle.orders_text.proofs.number.Goals as goal

pub returns-then-i-eq0 : goal.returns-then-i-eq0
returns-then-i-eq0 c = let a = c.args in first_place a.p a.i a.k c.if-i-eq0.true c.number.ensures

pub returns : goal.returns
returns c = let a = c.args in later_place a.p a.i a.k c.if-i-eq0.false c.word.ensures
