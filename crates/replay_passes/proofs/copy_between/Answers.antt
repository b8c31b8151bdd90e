use Prim.Native.Nat.{ℕ}
use native.Mathlib.Omega.{arith}
use mathlib.Core.Path.{refl, ap, ◌∙◌}
use mathlib.Core.Bool.{true}
use lib.ListN.{length-replicate, get_or-replicate}
use Rattle.event.specs.Limits.{threads}
use Rattle.command.specs.Reading.{event_at}
use Rattle.command.proofs.WholeCommand.{third}
use Prim.Native.Nat.{◌-◌}
use lib.ListN.{take, drop}
use Rattle.replay_passes.specs.Copies.{between, CopiedIf}
use Rattle.replay_passes.proofs.Reader.{thread_is, stands_there, is_next, is_end}
use Rattle.replay_passes.proofs.Copying.{low_thread, begun, goes_by, all_copied, at_the_end}
use borrow.Author.Rules.{rules}
use Rattle.replay_passes.proofs.copy_between.Goals as goal
use Rattle.replay_passes.proofs.copy_between.Goals.{then-lies_between, else-lies_between}

pub loop-i-init : goal.loop-i-init
loop-i-init c = (
  search rules,
  (
    refl,
    λ es test r tells l.
        begun r test _ _ _ (length-replicate {A = ℕ} threads 0) (λ t u. get_or-replicate threads t 0 0 u) (omega arith),
  ),
)

pub returns-then-next-at : goal.returns-then-next-at
returns-then-next-at c = λ es test r tells l.
    let k = c.loop-i.invariant.1.1 es test r tells l in
    at_the_end r test _ _ k c.loop-i-test.true (is_end _ _ _ c.next_at-next.ensures k.ahead c.if-next-at.true)

pub returns-then-t-ge-THREADS : goal.returns-then-t-ge-THREADS
returns-then-t-ge-THREADS c = λ es test r tells l.
    let k = c.loop-i.invariant.1.1 es test r tells l in
    let log = c.args.log.now in
    let at = c.loop-i.at in
    let low = low_thread log at _ _ (is_next log at _ c.next_at-next.ensures k.ahead c.if-next-at.false) in
    let t = thread_is log at in
    let u = c.if-t-ge-THREADS.true in
    absurd (let f : ⊥ = omega arith in f)

pub bounds-log-at : goal.bounds-log-at
bounds-log-at c = let f = stands_there _ _ _ c.next_at-next.ensures c.if-next-at.false in
    let l = third true _ _ f.stands in
    omega arith

-- its command lies within the log
pub slice_bounds-copy-start : goal.slice_bounds-copy-start
slice_bounds-copy-start c = let f = stands_there _ _ _ c.next_at-next.ensures c.if-next-at.false in let z = f.next_is in omega arith

pub slice_bounds-copy-count : goal.slice_bounds-copy-count
slice_bounds-copy-count c = let f = stands_there _ _ _ c.next_at-next.ensures c.if-next-at.false in let z = f.next_is in omega arith

pub slice_bounds-copy-end : goal.slice_bounds-copy-end
slice_bounds-copy-end c = let f = stands_there _ _ _ c.next_at-next.ensures c.if-next-at.false in let z = f.next_is in let w = f.stands.whole in omega arith

pub loop-i-preserved : goal.loop-i-preserved
loop-i-preserved c = let l = c.loop-i in
    let a = c.args in
    let put : CopiedIf c.lies_between.result (take (c.next_at-next.result - l.at) (drop l.at a.log.now)) l.buffer l.to c.if-lies_between.to c.if-lies_between.buffer =
    elim c.if-lies_between.branch [
      | then-lies_between w ↦ rw (w.if-lies_between.true, w.to-is, w.buffer-is) w.copy-to.ensures
      | else-lies_between w ↦ rw (w.if-lies_between.false, w.to-is, w.buffer-is) (record { place = refl; is = refl })
    ] in (
      let t = c.loop-i-test.true in omega arith,
      (
        search rules,
        λ es test r tells room.
            let k = l.invariant.1.1 es test r tells room in
            rw c.next_count-place.ensures
            (goes_by r test _ _ k (event_at true a.log.now l.at) _ (is_next a.log.now l.at _ c.next_at-next.ensures k.ahead c.if-next-at.false) a.above a.within tells _ c.loop-i-test.true room _ _ (thread_is a.log.now l.at) (c.lies_between.ensures ∙ ap (between _ _) c.next_count-place.ensures) put),
      ),
    )

pub overflow_add-t : goal.overflow_add-t
overflow_add-t c = let f = stands_there _ _ _ c.next_at-next.ensures c.if-next-at.false in let l = third true _ _ f.stands in omega arith

pub returns : goal.returns
returns c = λ es test r tells l. all_copied r test _ _ (c.loop-i.invariant.1.1 es test r tells l) (let t = c.loop-i-test.false in let v = c.loop-i.invariant.0 in omega arith)
