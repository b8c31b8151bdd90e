use Prim.Native.Nat.{◌+◌}
use native.Mathlib.Omega.{arith}
use mathlib.Core.Path.{◌≡◌, sym, ap, ◌∙◌}
use borrow.Author.Tests.{tests}
use Rattle.std.proofs.Common.{rules}
use Rattle.std.specs.List.{find, range_with_len}
use Rattle.std.specs.Option.{option_map}
use Rattle.std.proofs.lemmas.Iterator.Adapters.{option_map_id}
use Rattle.std.proofs.lemmas.Iterator.{YieldsList-from_range}
use Rattle.std.proofs.lemmas.Iterator.Search.{find_from_yields_List}
use Rattle.trace.proofs.Runs.{run}
use Rattle.enumeration.specs.Computed.{raising}
use Rattle.order_rows.specs.Rows.{dependent_in}
use Rattle.order_rows.proofs.Searches.{find_is, numbers}
use Rattle.order_rows.proofs.raised_to.Goals as goal

pub returns : goal.returns
returns c =
    let a = c.args in
    let test = raising (dependent_in a.events.now) a.x a.numbers.now in
    let h : option_map (λ x. x) c.find.result ≡ find test (range_with_len 1 a.n) =
    find_from_yields_List test _ _ c.find.result c.find.ensures.ran (YieldsList-from_range 1 (a.n + 1) a.n (cc) (omega arith)) (λ x b q k. search (rules, tests)) in
    sym (option_map_id c.find.result) ∙ h ∙ ap (find test) (numbers 1 a.n) ∙ find_is test (run 1 a.n)
