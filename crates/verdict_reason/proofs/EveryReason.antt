-- What a reason shows of a log, and that the call for one leaves one answer.
use Prim.Native.Nat.{ℕ, suc}
use mathlib.Core.Path.{◌≡◌, refl, sym, ap, ap₂, subst, ◌∙◌}
use mathlib.Core.Logic.{◌↔◌}
use mathlib.Core.Bool.{false, true≢false}
use mathlib.Core.List.{List}
use lib.ListN.{length}
use Rattle.event.specs.declared.Event.{Event}
use Rattle.event.specs.declared.Slot.{Slot}
use Rattle.event.specs.Limits.{slots}
use Rattle.event.specs.Places.{in_places}
use Rattle.event.specs.Slots.{fits, no_event}
use Rattle.event.proofs.Tests.{by_test}
use Rattle.event_log.specs.Whole.{accepted, read_log}
use Rattle.event_log.proofs.Rows.{one_list, refused_not_accepted}
use Rattle.trace.specs.Reason.{Obstacle}
use Rattle.trace.proofs.Reasons as trace
use Rattle.dependence.specs.Dependence.{dependent}
use Rattle.dependence.specs.Order.{HasMatch, IsFirst, Reason}
use Rattle.dependence.proofs.Dependent.{fit_one_slot}
use Rattle.session.specs.Answers.{nothing, Given}
use Rattle.session.specs.Meaning.{RunOn, RunOf}
use Rattle.session.specs.Meaning as run
use Rattle.std.specs.Prelude.{Option, Some}
use Rattle.verdict_reason.specs.declared.Cause.{Cause}
use Rattle.verdict_reason.specs.Reasons.{cause_of, ReasonOn, log_refused, match, no_match, ReasonOf, pattern_refused, over_log}

-- ---- of a list of events

-- Whenever there is a reason, the list has no match: to check the reason is enough.
pub reason_suffices : {ss : List Slot} {es : List Event} {events : List ℕ} {o : Obstacle} → Reason ss es events o → ¬ HasMatch ss es
reason_suffices {es = es} r = trace.reason_no_match no_event dependent fits es fit_one_slot r

-- A list without a match has a reason, and none other has.
pub reason_iff : (ss : List Slot) (es : List Event) → (¬ HasMatch ss es) ↔ ((events : List ℕ) × (o : Obstacle) × Reason ss es events o)
reason_iff ss es = trace.reason_iff no_event dependent fits es fit_one_slot ss

-- It has one at most.
pub reason_one : {ss : List Slot} {es : List Event} {events events' : List ℕ} {o o' : Obstacle} → Reason ss es events o → Reason ss es events' o'
    → (events ≡ events') × (o ≡ o')
reason_one {es = es} r q = trace.reason_one no_event dependent fits es fit_one_slot r q

-- Its events are the first list, as Note 5 has it, for the slots before the one that can't be filled.
pub events_first : {ss : List Slot} {es : List Event} {events : List ℕ} {o : Obstacle} (r : Reason ss es events o) → IsFirst r.earlier es (length es) events
events_first {es = es} r = trace.events_first no_event dependent fits es fit_one_slot r.first

-- ---- of the call

-- what it says beside the reason is what a run says
pub says_run : {pattern bytes : List ℕ} {g : Given} {c : Option Cause} {events : List ℕ} → ReasonOf pattern bytes g c events → RunOf pattern bytes g
says_run (pattern_refused q) = run.pattern_refused q
says_run (over_log q (log_refused r d)) = run.over_log q r
says_run (over_log q (match r m)) = run.over_log q r
says_run (over_log q (no_match r e w)) = run.over_log q r

-- where the log is accepted and has a reason, a run neither refuses it nor finds a match
pub reason_none : {ss : List Slot} {bytes : List ℕ} {es : List Event} {events : List ℕ} {o : Obstacle} → read_log bytes ≡ accepted es → Reason ss es events o
    → {g : Given} → RunOn ss bytes g → (g.refused ≡ nothing) × (g.ruling.matches ≡ false)
reason_none e w (run.log_refused q) = refused_not_accepted (sym q ∙ e)
reason_none {ss} e w (run.judged {r = r} q v f) =
    (refl, by_test r.matches (λ m. absurd (reason_suffices w (subst (HasMatch ss) (one_list (sym q ∙ e)) (v.matches.0 m)))) (λ m. m))

one_on : {ss : List Slot} {bytes : List ℕ} {g h : Given} {c d : Option Cause} {events others : List ℕ} → ReasonOn ss bytes g c events → ReasonOn ss bytes h d others
    → (c ≡ d) × (events ≡ others)
one_on (log_refused r d) (log_refused s k) = (refl, refl)
one_on (log_refused r d) (match s m) = (refl, refl)
one_on (match r m) (log_refused s k) = (refl, refl)
one_on (match r m) (match s k) = (refl, refl)
one_on (log_refused r d) (no_match s e w) = absurd (d (reason_none e w r).0)
one_on (match r m) (no_match s e w) = absurd (true≢false (sym m ∙ (reason_none e w r).1))
one_on (no_match r e w) (log_refused s d) = absurd (d (reason_none e w s).0)
one_on (no_match r e w) (match s m) = absurd (true≢false (sym m ∙ (reason_none e w s).1))
one_on {ss} (no_match {events = events} {o = o} r e w) (no_match {events = others} {o = p} s f x) =
    let z = one_list (sym e ∙ f) in
    let q = reason_one (subst (λ (es : List Event). Reason ss es events o) z w) x in
    (ap₂ (λ (ns : List ℕ) (v : Obstacle). Some (cause_of (suc (length ns)) v)) q.0 q.1, ap (in_places 0 slots) q.0)

-- The cause that the call gives, and its events, are one; its verdict is a run's, of which `one_answer` says so.
pub one_cause : {pattern bytes : List ℕ} {g h : Given} {c d : Option Cause} {events others : List ℕ} → ReasonOf pattern bytes g c events
    → ReasonOf pattern bytes h d others → (c ≡ d) × (events ≡ others)
one_cause (pattern_refused p) (pattern_refused q) = (refl, refl)
one_cause (pattern_refused p) (over_log q s) = refused_not_accepted (sym p ∙ q)
one_cause (over_log p r) (pattern_refused q) = refused_not_accepted (sym q ∙ p)
one_cause {bytes = bytes} {h = h} {d = d} {others = others} (over_log {ss = ss} p r) (over_log {ss = ss'} q s) =
    let e : ss' ≡ ss = one_list (sym q ∙ p) in
    one_on r (subst (λ (xs : List Slot). ReasonOn xs bytes h d others) e s)
