use Rattle.std.proofs.Common.{◌≡◌, ◌-◌, arith}
use Rattle.load_log.proofs.Calls.{all_to_write, never_refused}
use Rattle.load_log.proofs.put_all.Goals as goal

pub loop-init : goal.loop-init
loop-init c = let all : c.args.count - 0 ≡ c.args.count = omega arith in rw all (all_to_write c.args.seed c.args.count c.args.buffer.now c.requires.0 c.requires.1)

-- the call that writes an event is not refused
pub returns-in_err-at-clause-answer : goal.returns-in_err-at-clause-answer
returns-in_err-at-clause-answer c =
    let l = c.loop in
    absurd (never_refused l.state c.args.count l.counter l.at l.buffer c.loop-test.true l.invariant _ c.step-state.ensures _ c.event_in.ensures _ c.write_event.ensures.answer _ c.in_err-at.was)

pub returns-in_err-at-clause-after : goal.returns-in_err-at-clause-after
returns-in_err-at-clause-after c =
    let l = c.loop in
    absurd (never_refused l.state c.args.count l.counter l.at l.buffer c.loop-test.true l.invariant _ c.step-state.ensures _ c.event_in.ensures _ c.write_event.ensures.answer _ c.in_err-at.was)
