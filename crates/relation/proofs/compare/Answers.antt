use borrow.Author.Rules.{rules}
use mathlib.Core.Path.{◌≡◌}
use Rattle.relation.specs.declared.Relation.TheVariants.{Same, Before, After, Free}
use Rattle.relation.specs.Compared.{compared}
use Rattle.relation.proofs.Comparison.{compared_right}
use Rattle.relation.proofs.compare.Goals as goal

pub returns-then-is_one-clause-order : goal.returns-then-is_one-clause-order
returns-then-is_one-clause-order c =
    let e : compared c.args.first c.args.second ≡ Same = search rules in λ log i j p q. rw e at (compared_right p q)

pub returns-then-comes_before-clause-order : goal.returns-then-comes_before-clause-order
returns-then-comes_before-clause-order c =
    let e : compared c.args.first c.args.second ≡ Before = search rules in λ log i j p q. rw e at (compared_right p q)

pub returns-then-comes_before-2-clause-order : goal.returns-then-comes_before-2-clause-order
returns-then-comes_before-2-clause-order c =
    let e : compared c.args.first c.args.second ≡ After = search rules in λ log i j p q. rw e at (compared_right p q)

pub returns-clause-order : goal.returns-clause-order
returns-clause-order c =
    let e : compared c.args.first c.args.second ≡ Free = search rules in λ log i j p q. rw e at (compared_right p q)
