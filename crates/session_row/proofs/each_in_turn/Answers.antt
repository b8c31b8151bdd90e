use Rattle.std.proofs.Common.{◌≡◌, length, arith, rules}
use Rattle.session_row.proofs.Model.{with_answer}
use Rattle.session_row.proofs.Walk.{walk_begins, walk_goes_on, walk_ends}
use Rattle.session_row.proofs.each_in_turn.Goals.{in-Err, in_default}
use Rattle.session_row.proofs.each_in_turn.Goals as goal

pub loop-i-init : goal.loop-i-init
loop-i-init g c = walk_begins c.if-row-gt-MOST.false

pub loop-i-preserved : goal.loop-i-preserved
loop-i-preserved g c =
    let told : c.match-answer.refused ≡ with_answer c.loop-i.refused c.hand-answer.result.0 c.loop-i.i =
    elim c.match-answer.branch [ in-Err w ↦ search rules | in_default w ↦ search rules ]
    in
    rw told (walk_goes_on _ _ _ c.loop-i.invariant c.loop-i-test.true c.index-row-i.is c.hand-answer.ensures)

pub returns-in-None : goal.returns-in-None
returns-in-None g c alone all =
    let w = c.loop-i.invariant in
    let last : c.loop-i.i ≡ length c.args.row.now = omega (arith, w.turns, c.loop-i-test.false) in
    rw c.in-None.is at (walk_ends w last alone all)

pub returns : goal.returns
returns g c alone all =
    let w = c.loop-i.invariant in
    let last : c.loop-i.i ≡ length c.args.row.now = omega (arith, w.turns, c.loop-i-test.false) in
    rw c.in-Some.is at (walk_ends w last alone all)
