use native.Mathlib.Omega.{arith}
use mathlib.Core.Path.{sym}
use Rattle.first.proofs.Filling.{none_earlier, none_above, returns_to, fills_last, fills_on}
use Rattle.first.proofs.settle.Goals as goal

pub returns-then-last-s-clause-settled : goal.returns-then-last-s-clause-settled
returns-then-last-s-clause-settled c = let l = c.loop-s.invariant in λ es ld so f ls.
    none_earlier so (l.1.1 es ld so f ls) l.0 ls (rw (sym c.count_of-barred.ensures) c.if-last-s.true)

pub returns-in_default-clause-settled : goal.returns-in_default-clause-settled
returns-in_default-clause-settled c = let l = c.loop-s.invariant in λ es ld so f ls.
    none_above so (l.1.1 es ld so f ls) l.0 ls (rw (c.in_default.is, c.count_of-barred.ensures) at (c.first_above.ensures.first es ld))

pub returns-then-s-sought-clause-settled : goal.returns-then-s-sought-clause-settled
returns-then-s-sought-clause-settled c = let l = c.loop-s.invariant in
    let q = c.fill-s.ensures in λ es ld so f ls.
    rw q
    (fills_last so (returns_to so (l.1.1 es ld so f ls) l.0 ls _
    (rw (c.in-Some.is, c.count_of-barred.ensures) at (c.first_above.ensures.first es ld))) l.0 (rw q at c.if-s-sought.true))

pub loop-s-preserved : goal.loop-s-preserved
loop-s-preserved c = let l = c.loop-s.invariant in
    let q = c.fill-s.ensures in
    let u = l.0 in
    let v = l.1.0 in
    let d = rw q at c.if-s-sought.false in (
      rw (c.look_on-s.ensures, q) (omega arith),
      (
        rw (c.look_on-s.ensures, q) (omega arith),
        λ es ld so f ls.
            let t = returns_to so (l.1.1 es ld so f ls) u ls _
            (rw (c.in-Some.is, c.count_of-barred.ensures) at (c.first_above.ensures.first es ld)) in
            let st = c.pass-stamp.ensures es _ ld t.among.0 t.among.1 c.fresh.ensures.clocks in
            rw (c.look_on-s.ensures, q) (fills_on so t u _ st.stamp_is (omega arith)),
      ),
    )
