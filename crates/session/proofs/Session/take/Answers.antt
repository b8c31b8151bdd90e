use mathlib.Core.Path.{◌≡◌, ap, ◌∙◌}
use borrow.Author.Rules.{rules}
use Rattle.session.specs.Model.{answer_by}
use Rattle.session.proofs.Answered.{at_start, answered}
use Rattle.session.proofs.Steps.{handed_is, after}
use Rattle.session.proofs.Session.take.Goals as goal

pub returns : goal.returns
returns c =
    let a = c.args in
    let h = c.hand-given.ensures in
    let start : c.map_err-answer.result ≡ at_start c.hand-given.result = search rules in
    let p = after a.self a.e _
    (handed_is a.self a.e _ _ (start ∙ answered c.hand-given.result ∙ ap answer_by h.number)
    (rw (c.threads_of-acting.ensures, c.fitting-fit.ensures) at h.after))
    in
    record { exact = p.0; history = p.1 }
