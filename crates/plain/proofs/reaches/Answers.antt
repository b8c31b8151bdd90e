use mathlib.Core.Path.{◌≡◌, refl, ap, ◌∙◌}
use mathlib.Core.Bool.{◌||◌}
use lib.Dec.{eqb}
use borrow.Author.Tests.{tests}
use Rattle.std.proofs.Common.{rules}
use Rattle.std.specs.List.{list_any, range_with_len}
use Rattle.std.proofs.lemmas.Iterator.{YieldsList-from_range}
use Rattle.std.proofs.lemmas.Iterator.Search.{any_from_yields_List}
use Rattle.plain.specs.Chains.{links, reaches_to}
use Rattle.plain.proofs.Below.{any_below}
use Rattle.plain.proofs.reaches.Goals as goal

pub returns-then-any : goal.returns-then-any
unfolding reaches_to
returns-then-any c =
    let a = c.args in
    let test = links a.events a.before.now a.i a.j in
    let h : c.any.result ≡ list_any test (range_with_len 0 8) =
    any_from_yields_List test _ _ c.any.result c.any.ensures.ran (YieldsList-from_range 0 8 8 (cc) refl) (λ x b q k. search (rules, tests)) in
    c.if-any.true ∙ rw c.if-any.true at (ap (λ b. b || eqb a.i a.j) h ∙ any_below test (λ n. reaches_to n a.events a.before.now a.i a.j) (λ n. refl) 8)

pub returns-else-any : goal.returns-else-any
unfolding reaches_to
returns-else-any c =
    let a = c.args in
    let test = links a.events a.before.now a.i a.j in
    let h : c.any.result ≡ list_any test (range_with_len 0 8) =
    any_from_yields_List test _ _ c.any.result c.any.ensures.ran (YieldsList-from_range 0 8 8 (cc) refl) (λ x b q k. search (rules, tests)) in
    rw c.if-any.false at (ap (λ b. b || eqb a.i a.j) h ∙ any_below test (λ n. reaches_to n a.events a.before.now a.i a.j) (λ n. refl) 8)
