use mathlib.Core.Path.{◌∙◌}
use lib.ListN.{length}
use borrow.Author.Tests.{tests}
use Rattle.std.proofs.Common.{rules}
use Rattle.std.proofs.lemmas.Iterator.{YieldsList-from_slice}
use Rattle.std.proofs.lemmas.Iterator.Search.{all_from_yields_List}
use Rattle.trace.proofs.Runs.{run}
use Rattle.enumeration.specs.Computed.{contains}
use Rattle.order_rows.proofs.Searches.{all_is}
use Rattle.order_rows.proofs.within.Goals as goal

pub returns : goal.returns
returns c =
    let o = c.args.order.now in
    all_from_yields_List (contains (run 1 (length o))) _ _ _ c.all.ensures.ran (YieldsList-from_slice o cc) (λ x b q k. search (rules, tests)) ∙ all_is (contains (run 1 (length o))) o
