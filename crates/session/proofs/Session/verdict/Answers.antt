use Rattle.session.proofs.Described.{verdict_described}
use Rattle.session.proofs.Session.verdict.Goals as goal

pub returns-clause-history : goal.returns-clause-history
returns-clause-history c = λ ss es h. rw (c.found_at-found.ensures, c.numbers-numbers.ensures.exact) (verdict_described ss es c.args.self h)
