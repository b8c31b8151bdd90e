use native.Mathlib.Omega.{arith}
use mathlib.Core.Path.{◌≡◌, sym, ◌∙◌}
use borrow.Author.Rules.{rules}
use Rattle.event.specs.Refusals.{number_given}
use Rattle.session.proofs.Steps.{room}
use Rattle.session.proofs.admit_one.Goals as goal

pub overflow_add-taken : goal.overflow_add-taken
overflow_add-taken c = let a = c.args in
    let z : number_given c.admit.result ≡ 0 = search rules in
    let l = room a.state.now a.taken.now a.e (sym c.admit.ensures.number ∙ z) in
    omega arith
