use borrow.Author.Rules.{rules}
use mathlib.Core.Path.{◌≡◌}
use mathlib.Core.Bool.{false}
use Rattle.std.specs.Prelude.{Ok, is_ok}
use Rattle.command.specs.Bytes.{Bytes}
use Rattle.run.proofs.Verdict.{refused_pattern, run_on}
use Rattle.run.proofs.run.Goals as goal

pub returns-in_err-p : goal.returns-in_err-p
returns-in_err-p c =
    let z : is_ok c.read_pattern.result ≡ false = search rules in
    refused_pattern c.read_pattern.result _ c.read_pattern.ensures z (λ m q. search rules)

pub returns : goal.returns
returns c =
    let is-bytes : Bytes c.args.pattern.now = λ k. (c.type_inv.pattern k).fits in
    let q : c.read_pattern.result ≡ Ok c.in_ok-p.p = search rules in
    rw c.judge.ensures (run_on c.args.pattern.now c.in_ok-p.p (rw q at c.read_pattern.ensures) is-bytes c.search.result c.search.ensures)
