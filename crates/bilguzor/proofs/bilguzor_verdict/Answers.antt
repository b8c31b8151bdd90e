use borrow.Author.Rules.{rules}
use mathlib.Core.Path.{◌≡◌}
use Rattle.session.specs.Model.{found_at}
use Rattle.bilguzor.proofs.Handing.{judged}
use Rattle.bilguzor.proofs.bilguzor_verdict.Goals as goal

pub returns : goal.returns
returns c =
    let a = c.args in
    let found : c.then_some-found.result ≡ found_at a.count = search rules in
    let p = judged a.table.now a.count a.size c.numbers-events.result c.then_some-found.result c.found_numbers.result c.numbers-events.ensures.exact found c.found_numbers.ensures in
    record { exact = p.0; history = p.1 }
