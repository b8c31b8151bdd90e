use mathlib.Core.Path.{refl}
use Rattle.clock.proofs.History.{nothing_yet}
use Rattle.clock.proofs.fresh.Statement.{statement}
use Rattle.clock.proofs.fresh.Tie as tie

returns : tie.Need-returns
returns c = (refl, nothing_yet)

pub fresh_spec : {M : Type 1} → statement M
fresh_spec = tie.close (tie.spec returns)
