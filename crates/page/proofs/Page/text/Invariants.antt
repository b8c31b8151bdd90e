use Rattle.std.proofs.Common.{◌≡◌, take}
use Rattle.page.specs.Page.{onto}
use Rattle.page.proofs.Page.text.Given as goal

abbrev pub invariant-loop-b : goal.invariant-loop-b
invariant-loop-b l = l.p ≡ onto l.fn.self (take l.b-index l.s)
