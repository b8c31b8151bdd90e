use Prim.Native.Nat.{◌<◌}
use native.Mathlib.Omega.{arith}
use mathlib.Core.Path.{◌≡◌, sym, ◌∙◌}
use mathlib.Core.List.{[], ◌∷◌, reverse}
use lib.ListN.{length, length-reverse}
use borrow.Author.Rules.{rules}
use Rattle.std.specs.Prelude.{Some, None}
use Rattle.event.specs.Limits.{events}
use Rattle.event.specs.Slots.{slot_of}
use Rattle.event.specs.Refusals.{refusal_number}
use Rattle.event.proofs.InRange.{from_range}
use Rattle.rules.proofs.StateLaws.{clear}
use Rattle.command.specs.Reading.{command, closed, refused, reading_is}
use Rattle.event_log.proofs.LogWalk.{start, at_end, broken, none, room, one_more, shorter}
use Rattle.order_query.specs.Query.{Answers, log_refused, refused_log}
use Rattle.order_query.proofs.Waiting.{none_passed, next, both_known, first_unknown, second_unknown}
use Rattle.order_query.proofs.query.Goals as goal

pub loop-event-init : goal.loop-event-init
loop-event-init c = let args = c.args in
    let fresh = c.fresh-state in (
      [],
      start args.log.now fresh.result fresh.ensures,
      c.fresh-clocks.ensures.history,
      none_passed args.first,
      none_passed args.second,
    )

pub returns-in_err-event : goal.returns-in_err-event
returns-in_err-event c =
    let r = c.in_err-event.field-0.0 in
    let q : reading_is c.step.result ≡ refused (refusal_number r.reason) r.offset = search rules in
    let w : Answers c.args.log.now c.args.first c.args.second (log_refused (refusal_number r.reason) r.offset) = refused_log (sym (broken c.loop-event.invariant.1 c.step.ensures.history _ _ q)) in
    search rules

pub overflow_add-taken : goal.overflow_add-taken
overflow_add-taken c =
    let q : reading_is c.step.result ≡ command c.in-Some.event c.in-Some.next = search rules in
    let r = room c.loop-event.invariant.1 c.step.ensures.history _ _ q in omega arith

pub loop-event-smaller : goal.loop-event-smaller
loop-event-smaller c =
    let q : reading_is c.step.result ≡ command c.in-Some.event c.in-Some.next = search rules in
    shorter c.loop-event.invariant.1 c.step.ensures.history _ _ q

pub loop-event-preserved : goal.loop-event-preserved
loop-event-preserved c =
    let args = c.args in
    let l = c.loop-event in
    let past = l.invariant.0 in
    let e = c.in-Some.event in
    let h = c.step.ensures.history in
    let q : reading_is c.step.result ≡ command c.in-Some.event c.in-Some.next = search rules in
    let k = (clear past e (none l.invariant.1 h _ _ q)).range in
    let r : l.taken < events = room l.invariant.1 h _ _ q in
    let n : l.taken ≡ length (reverse past) = l.invariant.1.count ∙ sym (length-reverse past) in
    let arrived = c.advance-stamp.ensures.history (reverse past) l.invariant.2 (omega arith) (from_range (slot_of e) k) in
    let u = next past args.first args.second l.taken l.one l.other e _ _ l.invariant.1.count k.thread l.invariant.3 l.invariant.4 arrived in
    (e ∷ past, one_more l.invariant.1 h _ _ q, u.0, search rules, search rules)

pub returns-in_err-ok_or : goal.returns-in_err-ok_or
returns-in_err-ok_or c =
    let a = c.args in
    let l = c.loop-event in
    let q : reading_is c.step.result ≡ closed = search rules in
    let n : l.one ≡ None = search rules in
    let w = first_unknown (reverse l.invariant.0) a.log.now a.first a.second (at_end l.invariant.1 c.step.ensures.history q) (rw n at l.invariant.3) in
    search rules

pub returns-in_err-ok_or-2 : goal.returns-in_err-ok_or-2
returns-in_err-ok_or-2 c =
    let a = c.args in
    let l = c.loop-event in
    let q : reading_is c.step.result ≡ closed = search rules in
    let n : l.other ≡ None = search rules in
    let w = second_unknown (reverse l.invariant.0) a.log.now a.first a.second (at_end l.invariant.1 c.step.ensures.history q) (rw n at l.invariant.4) in
    search rules

pub returns : goal.returns
returns c =
    let a = c.args in
    let l = c.loop-event in
    let q : reading_is c.step.result ≡ closed = search rules in
    let v : l.one ≡ Some c.in_ok-ok_or.field-0 = search rules in
    let u : l.other ≡ Some c.in_ok-ok_or-2.field-0 = search rules in
    rw c.compare.ensures.exact (both_known (reverse l.invariant.0) a.log.now a.first a.second (at_end l.invariant.1 c.step.ensures.history q) _ _ (rw v at l.invariant.3) (rw u at l.invariant.4))
