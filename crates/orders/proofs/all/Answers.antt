use Prim.Native.Nat.{◌<◌}
use mathlib.Core.Path.{◌≡◌}
use Rattle.std.proofs.Common.{rules, Ok, Some}
use Rattle.orders_log.proofs.Rising.{distance, nearer}
use Rattle.orders.proofs.all.Goals as goal

pub loop-given-smaller : goal.loop-given-smaller
loop-given-smaller g c = let s = c.in-Ok-Some in
    let e : c.loop-given.given ≡ Ok (Some s.row) = search rules in
    let h : distance c.next-given.result < distance c.loop-given.given = rw e (nearer c.args.log.now s.row c.next-given.result c.next-given.ensures) in
    h
