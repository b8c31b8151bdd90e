use Prim.Native.Nat.{◌+◌}
use native.Mathlib.Omega.{arith}
use mathlib.Core.Path.{ap, ◌∙◌}
use lib.ListN.{length}
use borrow.Author.Tests.{tests}
use Rattle.std.proofs.Common.{rules}
use Rattle.std.specs.List.{list_all}
use Rattle.std.proofs.lemmas.Iterator.{YieldsList-from_range}
use Rattle.std.proofs.lemmas.Iterator.Search.{all_from_yields_List}
use Rattle.trace.proofs.Runs.{run}
use Rattle.enumeration.specs.Computed.{contains}
use Rattle.order_rows.proofs.Searches.{all_is, contains_is, numbers}
use Rattle.order_rows.proofs.complete.Goals as goal

pub returns : goal.returns
returns c =
    let o = c.args.order.now in
    all_from_yields_List (contains o) _ _ _ c.all.ensures.ran (YieldsList-from_range 1 (length o + 1) (length o) (cc) (omega arith))
    (λ x b q k. search (rules, tests, contains_is)) ∙ ap (list_all (contains o)) (numbers 1 (length o)) ∙ all_is (contains o) (run 1 (length o))
