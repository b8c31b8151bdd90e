-- `vectors_test::judged::handed` is safe and ends. What falls is the number of bytes left of the log.
use borrow.Author.Rules.{rules}
use native.Mathlib.Omega.{arith}
use mathlib.Core.Path.{◌≡◌}
use mathlib.Core.Bool.{true}
use Rattle.command.specs.Reading.{command, decode}
use Rattle.command.proofs.Inversion.{goes_on_lem}
use Rattle.vectors_test.proofs.judged.handed.Goals as goal

pub loop-event-smaller : goal.loop-event-smaller
loop-event-smaller c =
    let i = c.in-Ok-Some in
    let q : decode true c.args.log.now c.loop-event.at ≡ command i.event i.next = search rules in
    let m = goes_on_lem true c.args.log.now c.loop-event.at i.event i.next q in
    omega arith
