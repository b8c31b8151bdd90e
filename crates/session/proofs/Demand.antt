-- The theorem of demand 3: every list of events handed to a session from its opening, every order reached from the events taken, and every run.
use Prim.Native.Nat.{ℕ}
use native.Mathlib.Omega.{arith}
use mathlib.Core.Path.{◌≡◌, refl, sym, ap, ap₂, ◌∙◌}
use mathlib.Core.Logic.{◌↔◌}
use mathlib.Core.List.{List, [], ◌∷◌, reverse, reverse-reverse}
use lib.ListN.{length, replicate}
use borrow.Author.Tests.{eq-eqb}
use Rattle.event.specs.declared.Event.{Event}
use Rattle.event.specs.declared.Slot.{Slot}
use Rattle.rules.specs.Accepted.{Accepted, AcceptedAfter, one_more, refusal_after, taken_after, taken_under, taken_from, taken_from_under}
use Rattle.rules.proofs.AcceptedLists.{all_taken}
use Rattle.command.specs.Bytes.{Bytes}
use Rattle.event_log.specs.Whole.{Heights, accepted, log_bytes, read_log, read_pattern}
use Rattle.event_log.proofs.Rows.{refused_not_accepted, one_list}
use Rattle.event_log.proofs.LogRoundTrip.{log_read, log_iff}
use Rattle.trace.proofs.Lists.{same_test}
use Rattle.trace.specs.Swaps.{Swap, here, later, stay, swap}
use Rattle.dependence.specs.Dependence.{dependent}
use Rattle.dependence.specs.Order.{Reaches, HasMatch}
use Rattle.dependence.proofs.Reached.{order_reached}
use Rattle.session.specs.declared.Session.{Session}
use Rattle.session.specs.declared.Opened.{Opened}
use Rattle.session.specs.Answers.{refusal, Refusal, Refused, nothing, Ruling, Given}
use Rattle.session.specs.Model.{slots_used, handed, handed_all}
use Rattle.session.specs.Meaning.{taken_by, Describes, VerdictOf, OpenedOn, RunOn, log_refused, judged, RunOf, pattern_refused, over_log}
use Rattle.session.specs.History.{answers, refusals, refusals_under, taken_of, said_after, SameAnswer, EveryHistory, SameRun, EveryRun}
use Rattle.session.proofs.Described.{handed_described, verdict_described}

-- ---- every list of events

pub after_all : (ss : List Slot) (es : List Event) (s : Session) → Describes ss es s → (events : List Event)
    → (answers s events ≡ refusals (reverse es) events) × Describes ss (reverse (taken_from (reverse es) events)) (handed_all s events)
unfolding answers refusals_under taken_from_under handed_all
after_all ss es s h [] = (refl, rw (reverse-reverse es) h)
after_all ss es s h (e ∷ events) =
    let one = handed_described ss es s h e in
    let rest = after_all ss (taken_by es e) (handed s e).session one.1 events in
    let back = reverse-reverse (taken_after (reverse es) e) in
    (ap₂ ◌∷◌ one.0 (rw back at rest.0), rw back at rest.1)

-- ---- every order reached

-- two verdicts say the same where the lists have matches alike
pub same_verdict : (ss : List Slot) (es fs : List Event) → HasMatch ss es ↔ HasMatch ss fs → (v w : Ruling) → VerdictOf ss es v → VerdictOf ss fs w
    → v.matches ≡ w.matches
same_verdict ss es fs h v w a b =
    same_test v.matches w.matches
    (λ t. b.matches.1 (h.0 (a.matches.0 t)))
    (λ t. a.matches.1 (h.1 (b.matches.0 t)))

no_refusal : {past : List Event} (es : List Event) → AcceptedAfter past es → refusals past es ≡ replicate (length es) (refusal 0 0)
unfolding refusals_under taken_under
no_refusal [] a = refl
no_refusal {past} (e ∷ es) (one_more z a) =
    rw (eq-eqb (refusal_after past e) 0 z, z) (ap (λ (ns : List Refusal). refusal 0 0 ∷ ns) (no_refusal es a))

-- a run on a pattern that is read as ss, over a log that is read as es, gives a verdict of that list
pub run_over : (ss : List Slot) (es : List Event) (pattern bytes : List ℕ) → read_pattern pattern ≡ accepted ss → read_log bytes ≡ accepted es → (g : Given)
    → RunOf pattern bytes g → (g.refused ≡ nothing) × VerdictOf ss es g.ruling
run_over ss es pattern bytes p q g (pattern_refused a) = refused_not_accepted (sym a ∙ p)
run_over ss es pattern bytes p q g (over_log {ss = found} a on) = go on
  where
    go : {g : Given} → RunOn found bytes g → (g.refused ≡ nothing) × VerdictOf ss es g.ruling
    go (log_refused b) = refused_not_accepted (sym b ∙ q)
    go (judged b v first) = (refl, rw (one_list (sym p ∙ a), one_list (sym q ∙ b)) v)

-- what is so of a described session with no event taken
module _ (ss : List Slot) (s : Session) (h : Describes ss [] s) (events : List Event) where
  verdict_now : (fs : List Event) → VerdictOf ss (taken_of fs) (said_after s fs)
  verdict_now fs = verdict_described ss (taken_of fs) (handed_all s fs) (after_all ss [] s h fs).1

  every_order : (order : List Event) → Reaches (taken_of events) order → SameAnswer ss s events order
  every_order order reached =
      record {
        accepted_too = ordered.0;
        each_taken = (after_all ss [] s h order).0 ∙ no_refusal order ordered.0;
        all_taken = taken_all_lem;
        same = same_verdict ss order (taken_of events) back _ _ (rw taken_all_lem at (verdict_now order)) (verdict_now events);
        run_same = λ heights pattern q g r.
            let v = run_over ss order pattern (log_bytes order) q (log_read order ordered.0 heights) g r in
            (v.0, v.1, same_verdict ss order (taken_of events) back _ _ v.1 (verdict_now events));
      }
    where
      ordered : Accepted order × (HasMatch ss (taken_of events) ↔ HasMatch ss order)
      ordered = order_reached ss (after_all ss [] s h events).1.accepted reached

      back : HasMatch ss order ↔ HasMatch ss (taken_of events)
      back = (ordered.1.1, ordered.1.0)

      taken_all_lem : taken_of order ≡ order
      taken_all_lem = ap reverse (all_taken order ordered.0) ∙ reverse-reverse order

-- Demand 3 for sessions: for every pattern's bytes and what opening gave for them, every list of events, and every order reached from those taken
pub every_history : (bytes : List ℕ) (opened : Opened) → OpenedOn bytes opened → (events : List Event) → EveryHistory bytes opened events
every_history bytes opened o events =
    record {
      each_answer = all.0;
      taken = all.1.accepted;
      verdict = verdict_now ss s o.described events events;
      orders = every_order ss s o.described events;
    }
  where
    ss : List Slot
    ss = slots_used (read_pattern bytes)

    s : Session
    s = opened.session

    all : (answers s events ≡ refusals [] events) × Describes ss (taken_of events) (handed_all s events)
    all = after_all ss [] s o.described events

-- ---- every run

swapped_heights : {xs ys : List Event} → Swap dependent xs ys → Heights xs → Heights ys
unfolding Heights
swapped_heights (here i) h = (h.1.0, (h.0, h.1.1))
swapped_heights (later s) h = (h.0, swapped_heights s h.1)

reached_heights : {xs ys : List Event} → Reaches xs ys → Heights xs → Heights ys
reached_heights stay h = h
reached_heights (swap r s) h = swapped_heights s (reached_heights r h)

-- Demand 3 for runs: where a run refuses nothing, a run over the log of every order reached says the same, match or none
pub every_run : (pattern log : List ℕ) → Bytes log → (g : Given) → RunOf pattern log g → g.refused ≡ nothing → EveryRun pattern log g
every_run pattern log b g (pattern_refused a) n = absurd (let z : ◌≡◌ {A = Refused} Refused.pattern nothing = n in let y : ◌≡◌ {A = ℕ} 0 1 = cc in let f : ⊥ = omega arith in f)
every_run pattern log b g (over_log {ss = ss} a on) n = go on n
  where
    go : {g : Given} → RunOn ss log g → g.refused ≡ nothing → EveryRun pattern log g
    go (log_refused r) m = absurd (let z : ◌≡◌ {A = Refused} Refused.log nothing = m in let y : ◌≡◌ {A = ℕ} 0 1 = cc in let f : ⊥ = omega arith in f)
    go (judged {es = es} {r = said} r v first) m = record { events = es; reads = r; orders = λ order reached. same_run order reached }
      where
        good : Accepted es × Heights es × (log ≡ log_bytes es)
        good = (log_iff log b es).0 r

        same_run : (order : List Event) → Reaches es order → SameRun pattern (record { refused = nothing; refusal = refusal 0 0; ruling = said }) order
        same_run order reached =
            let ordered = order_reached ss good.0 reached in
            let reads-back = log_read order ordered.0 (reached_heights reached good.1) in
            record {
              reads_too = reads-back;
              same = λ h r.
                  let w = run_over ss order pattern (log_bytes order) a reads-back h r in
                  (w.0, same_verdict ss order es (ordered.1.1, ordered.1.0) _ _ w.1 v);
            }
