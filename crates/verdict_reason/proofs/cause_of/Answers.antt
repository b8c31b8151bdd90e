use native.Mathlib.Omega.{arith}
use mathlib.Core.Path.{◌≡◌}
use borrow.Author.Rules.{rules}
use Rattle.std.specs.Prelude.{Some, None}
use Rattle.verdict_reason.proofs.ByStamps.{greatest_listed, too_soon, none_fit}
use Rattle.verdict_reason.proofs.cause_of.Goals as goal

pub returns-in_default : goal.returns-in_default
returns-in_default c = λ es ls s.
    let n : c.last_fit.result ≡ None = search rules in
    none_fit (rw n at c.last_fit.ensures es ls)

pub returns : goal.returns
returns c = λ es ls s.
    let g = rw c.greatest.ensures at (c.stamps_of-stamps.ensures es _ ls) in
    let k = c.requires in
    let l : c.last_fit.result ≡ Some c.in-Some.last = search rules in
    too_soon s (let w = k in omega arith) _ (g (greatest_listed s)) (rw l at c.last_fit.ensures es ls) c.lowest.ensures
