use Rattle.listings_text.proofs.Watching.{one_opened}
use Rattle.listings_text.proofs.add.Goals as goal

pub returns : goal.returns
returns c files h many = rw c.found_of.ensures (one_opened files c.args.w h c.args.k many c.requires _ _ c.open-opened.ensures)
