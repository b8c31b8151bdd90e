use mathlib.Core.Path.{refl, ◌∙◌}
use borrow.Author.Tests.{tests}
use Rattle.std.proofs.Common.{rules}
use Rattle.std.proofs.lemmas.Iterator.{YieldsList-from_range}
use Rattle.std.proofs.lemmas.Iterator.Search.{any_from_yields_List}
use Rattle.plain.specs.Chains.{is_at, holds_to}
use Rattle.plain.proofs.Below.{any_below, or_none}
use Rattle.plain.proofs.holds.Goals as goal

pub returns : goal.returns
unfolding holds_to
returns c =
    let l = c.args.l in
    let test = is_at l.events l.count c.args.kind in
    any_from_yields_List test _ _ _ c.any.ensures.ran (YieldsList-from_range 0 8 8 (cc) refl) (λ x b q k. search (rules, tests))
    ∙ or_none _ ∙ any_below test (λ n. holds_to n l.events l.count c.args.kind) (λ n. refl) 8
