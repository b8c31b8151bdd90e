use mathlib.Core.Path.{ap, ◌∙◌}
use mathlib.Core.Bool.{not, ◌&&◌}
use lib.Dec.{ltb}
use borrow.Author.Tests.{tests}
use Rattle.std.proofs.Common.{rules}
use Rattle.std.proofs.lemmas.Iterator.{YieldsList-from_slice}
use Rattle.std.proofs.lemmas.Iterator.Search.{any_from_yields_List}
use Rattle.order_rows.specs.Rows.{dependent_in}
use Rattle.order_rows.proofs.Searches.{any_is}
use Rattle.order_rows.proofs.free.Goals as goal

pub returns : goal.returns
returns c =
    let a = c.args in
    ap not (any_from_yields_List (λ y. ltb y a.k && dependent_in a.events.now y a.k) _ _ _ c.any.ensures.ran (YieldsList-from_slice a.numbers.now cc)
    (λ x b q k. search (rules, tests)) ∙ any_is (λ y. ltb y a.k && dependent_in a.events.now y a.k) a.numbers.now)
