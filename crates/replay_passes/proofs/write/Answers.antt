use native.Mathlib.Omega.{arith}
use mathlib.Core.Path.{◌≡◌, refl}
use lib.ListN.{length}
use Rattle.event.specs.Limits.{slots as slot_limit}
use Rattle.replay_passes.proofs.Reader.{leads}
use Rattle.replay_passes.proofs.Copying.{copied_there}
use Rattle.replay_passes.proofs.Groups.{order, is_replay, fits_in, begun, tells, room, next_group, tells_rest, room_rest, room_closing, closed_log}
use borrow.Author.Rules.{rules}
use Rattle.replay_passes.proofs.write.Goals as goal

pub loop-j-init : goal.loop-j-init
loop-j-init c = (search rules, (refl, λ es r li l. begun es _ _ _ _))

pub loop-j-preserved : goal.loop-j-preserved
loop-j-preserved c = let nums = c.args.numbers in
    let stamps = c.stamps_of-stamps.result in
    let l = c.loop-j in
    let t = c.loop-j-test.true in
    let w : length nums ≡ slot_limit = search rules in (
      omega arith,
      (
        search rules,
        λ es r li u.
            let g = l.invariant.1.1 es r li u in
            let f = fits_in r c.requires w li stamps (c.stamps_of-stamps.ensures es _ (leads r) li.few) c.args.buffer.now u in
            let m = li.each l.j t in
            let v = li.few in
            rw c.join-written.ensures
            (next_group es nums stamps c.args.size c.args.buffer.now f g t (omega arith) _ _ (c.copy_between-at.ensures es _ r (tells es nums stamps c.args.size c.args.buffer.now f g t (omega arith)) (room es nums stamps c.args.size c.args.buffer.now f g t (omega arith)))),
      ),
    )

pub returns : goal.returns
returns c = let nums = c.args.numbers in
    let stamps = c.stamps_of-stamps.result in
    let l = c.loop-j in
    let t = c.loop-j-test.false in
    let w : length nums ≡ slot_limit = search rules in
    λ es r li u.
    let st = c.stamps_of-stamps.ensures es _ (leads r) li.few in
    let g = l.invariant.1.1 es r li u in
    let f = fits_in r c.requires w li stamps st c.args.buffer.now u in
    let z : l.j ≡ c.args.size = let h = l.invariant.0 in omega arith in
    let k = c.copy_between-end.ensures es _ r (tells_rest es nums stamps c.args.size c.args.buffer.now f g z r.few) (room_rest es nums stamps c.args.size c.args.buffer.now f g z r.few) in
    let h = closed_log es nums stamps c.args.size c.args.buffer.now f g z r.few _ _ k _ _ (copied_there _ _ _ c.copy.ensures (room_closing es nums stamps c.args.size c.args.buffer.now f g z r.few _ _ k)) in
    record { order = order r c.requires w li stamps st; replay = is_replay r c.requires w li stamps st; bytes = h.0; is = h.1 }
