use native.Mathlib.Omega.{arith}
use Rattle.first.proofs.Filling.{fills_on, Own, own_passed, own_given, follows_on}
use Rattle.first.proofs.choose.Goals as goal
use Rattle.first.proofs.choose.Goals.{then-s-eq0, else-s-eq0}

pub returns-clause-settled : goal.returns-clause-settled
returns-clause-settled c = let q = c.fill-full.ensures in
    let u = c.requires.0 in
    let d = rw q at c.if-full-sought.false in
    let more = rw (c.look_on-next.ensures, q) at c.settle.ensures.within.0 in
    λ es ld so t nw.
    let own : Own so es c.args.n c.if-s-eq0.own c.if-s-eq0.followed = elim c.if-s-eq0.branch [
      | then-s-eq0 w ↦ rw (w.own-is, w.followed-is) (own_passed so ld t nw w.if-s-eq0.true (w.pass-own.ensures es _ ld))
      | else-s-eq0 w ↦ rw (w.own-is, w.followed-is) (own_given so ld t nw (omega arith) w.if-s-eq0.false)
    ] in (
      c.settle.ensures.settled es ld so (rw (c.look_on-next.ensures, q) (fills_on so t u _ own.stamp_is (omega arith))) own.lasts,
      follows_on (omega arith) (λ r. (own.held, own.lasts)),
    )
