use mathlib.Core.Path.{◌≡◌}
use Rattle.table.proofs.Start.{nothing_yet}
use Rattle.table.specs.Table.{fresh_table}
use Rattle.table.proofs.fresh.Goals as goal

pub returns : goal.returns
unfolding fresh_table
returns c = let p : c.store.new.table ≡ fresh_table = c.store.ensures in record { exact = p; history = λ fits ss l. rw p (nothing_yet fits ss l) }
