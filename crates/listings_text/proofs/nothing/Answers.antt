use Rattle.listings_text.proofs.Watching.{before_all}
use Rattle.listings_text.proofs.nothing.Goals as goal

pub returns : goal.returns
returns c = before_all _
