use borrow.Author.Rules.{rules}
use mathlib.Core.Bool.{false, true}
use mathlib.Core.Path.{◌≡◌, sym, ◌∙◌}
use lib.Dec.{eqb}
use Rattle.event.specs.Refusals.{number_given}
use Rattle.event.proofs.Refusals.{numbered}
use Rattle.session.proofs.Steps.{kept_refused, kept_matched, kept_skipped}
use Rattle.session.proofs.skip.Goals as goal

pub returns-in_err-searched-clause-after : goal.returns-in_err-searched-clause-after
returns-in_err-searched-clause-after c = let a = c.args in let r = c.admit_one.ensures in
    let z : eqb (number_given c.admit_one.result) 0 ≡ false = search (rules, numbered) in
    λ acting fit none. kept_refused acting fit a.size _ a.e _ _ _ r.number r.state r.taken z

pub returns-then-not-searched-clause-after : goal.returns-then-not-searched-clause-after
returns-then-not-searched-clause-after c = let a = c.args in let r = c.admit_one.ensures in
    let z : number_given c.admit_one.result ≡ 0 = search rules in
    let found : eqb a.count.now 0 ≡ false = sym (r.searched _ c.in_ok-searched.was) ∙ c.if-not-searched.true in
    λ acting fit none. kept_matched acting fit a.size _ a.e _ _ _ r.number r.state r.taken z found

pub returns-clause-after : goal.returns-clause-after
returns-clause-after c = let a = c.args in let r = c.admit_one.ensures in
    let z : number_given c.admit_one.result ≡ 0 = search rules in
    let no_match : eqb a.count.now 0 ≡ true = sym (r.searched _ c.in_ok-searched.was) ∙ c.if-not-searched.false in
    λ acting fit none. kept_skipped acting fit a.size _ a.e _ _ _ r.number r.state r.taken z no_match _ _ c.advance.ensures.after none c.count_at.ensures
