use Rattle.rules.proofs.StateLaws.{zeros}
use Rattle.session.proofs.fresh.Goals as goal

pub returns : goal.returns
returns c = let z = zeros c.fresh-state.result c.fresh-state.ensures in cc (z, c.fresh-clocks.ensures.zeros, c.fresh-table.ensures.exact)
