use Prim.Native.Nat.{ℕ}
use native.Mathlib.Omega.{arith}
use mathlib.Core.Path.{◌≡◌, sym, ap, ◌∙◌}
use mathlib.Core.Bool.{true}
use lib.ListN.{length-replicate}
use Rattle.event.specs.declared.Event.{Event}
use Rattle.event.specs.Limits.{slots as slot_limit}
use Rattle.event.specs.Slots.{slot_of}
use Rattle.event.specs.Keys.{slot_key}
use Rattle.command.proofs.Inversion.{decode_found}
use Rattle.command.specs.Reading.{command, closed, refused, reading_is}
use Rattle.event.specs.Refusals.{refusal_number}
use Rattle.event_log.proofs.LogWalk.{decoded, room, shorter}
use Rattle.passes.proofs.Noting.{none_last}
use Rattle.first.proofs.Filling.{no_numbers}
use Rattle.slot_search.proofs.Usable.{slots_of}
use Rattle.slot_search.proofs.Running.{started, ended, broke, goes_on, fills_it, chosen_next}
use borrow.Author.Tests.{eq-eqb, ne_eqb}
use borrow.Author.Rules.{rules}
use Rattle.slot_search.proofs.search.Goals as goal

pub loop-event-init : goal.loop-event-init
loop-event-init c = let p = c.requires in
    rw (c.none_found-s.ensures, c.with_keys-sought.ensures)
    (started (slots_of p) p.some c.fresh-state.ensures c.fresh-followed.ensures.clocks
    (rw c.fresh-followed.ensures.last (none_last (slots_of p) _ (length-replicate {A = ℕ} slot_limit 0) (λ j l. no_numbers j))))

pub returns-in_default : goal.returns-in_default
returns-in_default c =
    let q : reading_is c.step.result ≡ closed = search rules in
    rw c.with_keys-sought.ensures at (ended c.loop-event.invariant c.step.ensures.history q)

pub returns-in_err-event : goal.returns-in_err-event
returns-in_err-event c =
    let m = c.in_err-event.field-0.0 in
    let q : reading_is c.step.result ≡ refused (refusal_number m.reason) m.offset = search rules in
    let w = broke c.loop-event.invariant c.step.ensures.history m q in
    search rules

pub overflow_add-taken : goal.overflow_add-taken
overflow_add-taken c =
    let q : reading_is c.step.result ≡ command c.in-Some.event c.in-Some.next = search rules in
    let r = room c.loop-event.invariant.going c.step.ensures.history _ _ q in omega arith

pub key_at-key-requires : goal.key_at-key-requires
key_at-key-requires c =
    let q : reading_is c.step.result ≡ command c.in-Some.event c.in-Some.next = search rules in
    (decode_found true _ _ _ _ (decoded c.loop-event.invariant.going c.step.ensures.history _ _ q)).stands

pub loop-event-smaller-then-s-key : goal.loop-event-smaller-then-s-key
loop-event-smaller-then-s-key c =
    let q : reading_is c.step.result ≡ command c.in-Some.event c.in-Some.next = search rules in
    shorter c.loop-event.invariant.going c.step.ensures.history _ _ q

pub loop-event-preserved-then-s-key : goal.loop-event-preserved-then-s-key
loop-event-preserved-then-s-key c = let r = c.loop-event.invariant in
    let h = c.step.ensures.history in
    let q : reading_is c.step.result ≡ command c.in-Some.event c.in-Some.next = search rules in
    let n = c.key_at-key.ensures ∙ ap (λ (e : Event). slot_key (slot_of e)) (decode_found true _ _ _ _ (decoded r.going h _ _ q)).event in
    let f = c.stamp_newest-stamp.ensures in
    rw (f.after, n) (goes_on r h _ _ q (rw (ne_eqb _ _ (λ w. c.if-s-key.true (w ∙ sym n)))))

pub loop-event-smaller-then-not-fills : goal.loop-event-smaller-then-not-fills
loop-event-smaller-then-not-fills c =
    let q : reading_is c.step.result ≡ command c.in-Some.event c.in-Some.next = search rules in
    shorter c.loop-event.invariant.going c.step.ensures.history _ _ q

pub loop-event-preserved-then-not-fills : goal.loop-event-preserved-then-not-fills
loop-event-preserved-then-not-fills c = let r = c.loop-event.invariant in
    let h = c.step.ensures.history in
    let q : reading_is c.step.result ≡ command c.in-Some.event c.in-Some.next = search rules in
    let n = c.key_at-key.ensures ∙ ap (λ (e : Event). slot_key (slot_of e)) (decode_found true _ _ _ _ (decoded r.going h _ _ q)).event in
    let f = c.stamp_newest-stamp.ensures in
    rw (f.after, n) (goes_on r h _ _ q (rw (eq-eqb _ _ (c.if-s-key.false ∙ n)) (sym c.fills.ensures ∙ c.if-not-fills.true)))

pub choose-s-requires : goal.choose-s-requires
choose-s-requires c = let r = c.loop-event.invariant in
    let h = c.step.ensures.history in
    let q : reading_is c.step.result ≡ command c.in-Some.event c.in-Some.next = search rules in
    let n = c.key_at-key.ensures ∙ ap (λ (e : Event). slot_key (slot_of e)) (decode_found true _ _ _ _ (decoded r.going h _ _ q)).event in
    (fills_it r h _ _ q (rw (eq-eqb _ _ (c.if-s-key.false ∙ n)) (sym c.fills.ensures ∙ c.if-not-fills.false)), (rw c.with_keys-sought.ensures c.requires.few, let u = room r.going h _ _ q in omega arith))

pub loop-event-smaller : goal.loop-event-smaller
loop-event-smaller c =
    let q : reading_is c.step.result ≡ command c.in-Some.event c.in-Some.next = search rules in
    shorter c.loop-event.invariant.going c.step.ensures.history _ _ q

pub loop-event-preserved : goal.loop-event-preserved
loop-event-preserved c = let r = c.loop-event.invariant in
    let h = c.step.ensures.history in
    let q : reading_is c.step.result ≡ command c.in-Some.event c.in-Some.next = search rules in
    let n = c.key_at-key.ensures ∙ ap (λ (e : Event). slot_key (slot_of e)) (decode_found true _ _ _ _ (decoded r.going h _ _ q)).event in
    let f = c.stamp_newest-stamp.ensures in
    chosen_next r h _ _ q (rw (eq-eqb _ _ (c.if-s-key.false ∙ n)) (sym c.fills.ensures ∙ c.if-not-fills.false)) _ _ c.choose-s.ensures.within
    (λ es ld so t nw. c.choose-s.ensures.settled es ld so t (rw (f.stamp, f.after, n) nw))
