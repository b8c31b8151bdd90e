-- Demand 3 for the exported functions: every list of events in numbers, every order reached from the events taken, and every run. What an event that fits
-- no slot leaves as it was, what every reason says, and what every replay shows.
use Prim.Native.Nat.{ℕ, suc, ◌≤◌}
use native.Mathlib.Omega.{arith}
use mathlib.Core.Path.{◌≡◌, refl, sym, ap, ap₂, subst, ◌∙◌}
use mathlib.Core.Logic.{◌↔◌}
use mathlib.Core.Bool.{Bool, false}
use mathlib.Core.List.{List, [], ◌∷◌, ◌++◌, reverse, map, append_assoc, append-nil, reverse-cons, reverse-append, reverse-reverse}
use lib.ListN.{length, drop, replicate}
use lib.Seq.{take-append_seam}
use borrow.Author.Tests.{eq-eqb}
use Rattle.event.specs.declared.Operation.{Operation}
use Rattle.event.specs.declared.Operation.TheVariants.{Read, Write, Acquire, Release, Fork, Join, Mark}
use Rattle.event.specs.declared.Event.{Event}
use Rattle.event.specs.declared.Slot.{Slot}
use Rattle.event.specs.Limits.{slots as slot_limit}
use Rattle.event.specs.Places.{in_places}
use Rattle.event.specs.Slots.{byte_of, object_of, without_height, fits}
use Rattle.event.proofs.Tests.{by_test}
use Rattle.rules.specs.Accepted.{refusal_after, taken_under, AcceptedAfter, one_more, Accepted}
use Rattle.command.specs.Bytes.{Bytes}
use Rattle.command.specs.Reading.{operation_of}
use Rattle.session.specs.Answers.{refusal, Ruling, no_ruling, Refused, nothing, Given}
use Rattle.session.specs.History as session
use Rattle.session.proofs.Demand.{same_verdict, run_over, every_run as run-demand}
use Rattle.trace.specs.Match.{IsCount}
use Rattle.trace.specs.Reason.{Obstacle}
use Rattle.trace.proofs.Counts.{count_unique}
use Rattle.dependence.specs.Dependence.{dependent}
use Rattle.dependence.specs.Order.{HasMatch, Reason}
use Rattle.dependence.proofs.Reached.{order_reached}
use Rattle.event_log.specs.Whole.{log_bytes, accepted, read_log, read_pattern}
use Rattle.event_log.proofs.Rows.{refused_not_accepted, one_list}
use Rattle.event_log.proofs.LogRoundTrip.{log_read}
use Rattle.session.specs.Model.{slots_used}
use Rattle.session.specs.Meaning.{VerdictOf, RunOnUnder, RunOn, RunOfUnder, RunOf}
use Rattle.session.specs.NoFit.{FitsNone}
use Rattle.std.specs.Prelude.{Option, Some}
use Rattle.verdict_reason.specs.declared.Cause.{Cause}
use Rattle.verdict_reason.specs.Reasons.{cause_is, cause_of, log_refused, match, no_match, ReasonOf, pattern_refused, over_log}
use Rattle.verdict_reason.proofs.EveryReason.{says_run, one_cause, reason_suffices}
use Rattle.replay_log.specs.Replay.{ReplayOf, refused, too_short, none, shown}
use Rattle.replay_log.proofs.Showing.{verdict_shows}
use Rattle.event_numbers.specs.EventNumbers.{Numbers, no_operation, event_from}
use Rattle.bilguzor.specs.declared.Judgement.{Judgement}
use Rattle.bilguzor.specs.declared.Parts.{Parts}
use Rattle.bilguzor.specs.declared.Reasoned.{Reasoned}
use Rattle.bilguzor.specs.declared.Replayed.{Replayed}
use Rattle.bilguzor.specs.Numbers.{kind_of, judgement_of, RunNumbers, reasoned_of, ReasonNumbers, ReplayNumbers}
use Rattle.bilguzor.specs.Sessions.{InParts, opened_parts, number_in, parts_after, refusal_of, taken_with, said_in}
use Rattle.bilguzor.specs.History.{parts_all, answers_all, taken_all, refusals_all, height_in, in_numbers, SameAnswer, EveryHistory, EveryRun, EveryUnmoved, EveryReason, EveryReplay}
use Rattle.bilguzor.proofs.Handing.{one_event_lem, unmoved_parts, opened_in, said}

-- ---- every list of events

after_all : (ss : List Slot) (es : List Event) (p : Parts) → InParts ss es p → (ns : List Numbers)
    → (answers_all p ns ≡ refusals_all es ns) × InParts ss (taken_all es ns) (parts_all p ns)
unfolding answers_all refusals_all taken_all parts_all
after_all ss es p h [] = (refl, h)
after_all ss es p h (n ∷ ns) =
    let one = one_event_lem ss es p h n in
    let rest = after_all ss (taken_with es n) (parts_after p n) one.1 ns in
    (ap₂ ◌∷◌ one.0 rest.0, rest.1)

-- ---- every order reached

-- an event in numbers is that event
back : (op : Operation) → operation_of (byte_of (without_height op)) (object_of (without_height op)) (height_in op) ≡ op
back (Read v) = refl
back (Write v h) = refl
back (Acquire l) = refl
back (Release l) = refl
back (Fork c) = refl
back (Join c) = refl
back (Mark m) = refl

an_operation : (op : Operation) → no_operation (byte_of (without_height op)) ≡ false
an_operation (Read v) = refl
an_operation (Write v h) = refl
an_operation (Acquire l) = refl
an_operation (Release l) = refl
an_operation (Fork c) = refl
an_operation (Join c) = refl
an_operation (Mark m) = refl

event_back : (e : Event) → event_from (in_numbers e) ≡ e
event_back e = ap (λ op. record { thread = e.thread; operation = op }) (back e.operation)

-- numbers that are not refused are taken, at the end
taken_with_lem : (es : List Event) (n : Numbers) → refusal_of (reverse es) n ≡ 0 → taken_with es n ≡ es ++ (event_from n ∷ [])
unfolding refusal_of taken_with taken_under
taken_with_lem es n z =
    by_test (no_operation n.operation)
    (λ q. let three : 3 ≡ 0 = rw q at z in absurd (let f : ⊥ = omega arith in f))
    (λ q.
    rw (q, eq-eqb (refusal_after (reverse es) (event_from n)) 0 (rw q at z))
    (reverse-cons (event_from n) (reverse es) ∙ ap (λ (l : List Event). l ++ (event_from n ∷ [])) (reverse-reverse es)))

-- an accepted list is taken whole, in numbers too
one_taken : (es : List Event) (e : Event) → refusal_after (reverse es) e ≡ 0 → (refusal_of (reverse es) (in_numbers e) ≡ 0) × (taken_with es (in_numbers e) ≡ es ++ (e ∷ []))
unfolding refusal_of
one_taken es e z =
    let zero : refusal_of (reverse es) (in_numbers e) ≡ 0 = rw (an_operation e.operation, event_back e) z in
    (zero, taken_with_lem es (in_numbers e) zero ∙ ap (λ (x : Event). es ++ (x ∷ [])) (event_back e))

in_order : (es order : List Event) → AcceptedAfter (reverse es) order
    → (taken_all es (map in_numbers order) ≡ es ++ order) × (refusals_all es (map in_numbers order) ≡ replicate (length order) 0)
unfolding taken_all refusals_all
in_order es [] a = (sym (append-nil es), refl)
in_order es (e ∷ order) (one_more z a) =
    let one = one_taken es e z in
    let rest = in_order (es ++ (e ∷ [])) order (rw (reverse-append es (e ∷ [])) a) in (
      ap (λ (l : List Event). taken_all l (map in_numbers order)) one.1 ∙ rest.0 ∙ append_assoc es (e ∷ []) order,
      ap₂ ◌∷◌ one.0 (ap (λ (l : List Event). refusals_all l (map in_numbers order)) one.1 ∙ rest.1),
    )

-- Demand 3 for the exported sessions: from the bytes of an opening, every list of events in numbers, and every order reached from those taken
pub every_history : (bytes : List ℕ) → Bytes bytes → (numbers : List Numbers) → EveryHistory bytes numbers
every_history bytes b numbers =
    record {
      answers = all.0;
      taken = all.1.describes.accepted;
      verdict = said ss _ _ all.1;
      orders = λ order reached. same_answer order (order_reached ss all.1.describes.accepted reached);
    }
  where
    ss : List Slot
    ss = slots_used (read_pattern bytes)

    start : (ns : List Numbers) → (answers_all (opened_parts bytes) ns ≡ refusals_all [] ns) × InParts ss (taken_all [] ns) (parts_all (opened_parts bytes) ns)
    start ns = after_all ss [] (opened_parts bytes) (opened_in bytes b) ns

    all : (answers_all (opened_parts bytes) numbers ≡ refusals_all [] numbers) × InParts ss (taken_all [] numbers) (parts_all (opened_parts bytes) numbers)
    all = start numbers

    same_answer : (order : List Event) → Accepted order × (HasMatch ss (taken_all [] numbers) ↔ HasMatch ss order) → SameAnswer bytes numbers order
    same_answer order ordered =
        let taken = in_order [] order ordered.0 in
        let again = start (map in_numbers order) in
        let alike : HasMatch ss order ↔ HasMatch ss (taken_all [] numbers) = (ordered.1.1, ordered.1.0) in
        record {
          accepted_too = ordered.0;
          each_taken = again.0 ∙ taken.1;
          all_taken = taken.0;
          same = same_verdict ss order (taken_all [] numbers) alike _ _ (rw taken.0 at (said ss _ _ again.1)) (said ss _ _ all.1);
          run_same = λ heights pattern q r k.
              let v = run_over ss order pattern (log_bytes order) q (log_read order ordered.0 heights) k.given k.run in
              ap (λ x. x.kind) k.numbers ∙ ap₂ kind_of v.0 (same_verdict ss order (taken_all [] numbers) alike _ _ v.1 (said ss _ _ all.1));
        }

-- ---- every event that fits no slot

parts_last : (p : Parts) (ns : List Numbers) (n : Numbers) → parts_all p (ns ++ (n ∷ [])) ≡ parts_after (parts_all p ns) n
unfolding parts_all
parts_last p [] n = refl
parts_last p (m ∷ ns) n = parts_last (parts_after p m) ns n

-- Note 4 for the exported sessions
pub every_unmoved : (bytes : List ℕ) → Bytes bytes → (numbers : List Numbers) (n : Numbers) → number_in (parts_all (opened_parts bytes) numbers) n ≡ 0
    → FitsNone (slots_used (read_pattern bytes)) (event_from n) → EveryUnmoved bytes numbers n
every_unmoved bytes b numbers n z d =
    record {
      verdict_stays = rw (parts_last (opened_parts bytes) numbers n) same.0;
      partial_matches_stay = rw (parts_last (opened_parts bytes) numbers n) same.1;
      taken_too = rw (parts_last (opened_parts bytes) numbers n, sym (taken_with_lem (taken_all [] numbers) n (sym (one_event_lem ss _ _ all n).0 ∙ z))) (one_event_lem ss _ _ all n).1;
    }
  where
    ss : List Slot
    ss = slots_used (read_pattern bytes)

    all : InParts ss (taken_all [] numbers) (parts_all (opened_parts bytes) numbers)
    all = (after_all ss [] (opened_parts bytes) (opened_in bytes b) numbers).1

    same : (said_in (parts_after (parts_all (opened_parts bytes) numbers) n) ≡ said_in (parts_all (opened_parts bytes) numbers))
        × ((parts_after (parts_all (opened_parts bytes) numbers) n).table ≡ (parts_all (opened_parts bytes) numbers).table)
    same = unmoved_parts ss _ _ all n z d

-- ---- every run

low_kind : (x : Refused) (m : Bool) → kind_of x m ≤ 1 → x ≡ nothing
low_kind nothing m l = refl
low_kind Refused.pattern m l = absurd (let f : ⊥ = omega arith in f)
low_kind Refused.log m l = absurd (let f : ⊥ = omega arith in f)

-- Demand 3 for the exported runs
pub every_run : (pattern log : List ℕ) → Bytes log → (r : Judgement) → RunNumbers pattern log r → r.kind ≤ 1 → EveryRun pattern log r
every_run pattern log b r h l =
    record {
      events = one.events;
      reads = one.reads;
      orders = λ order reached s k.
          let w = (one.orders order reached).same k.given k.run in
          ap (λ x. x.kind) k.numbers ∙ ap₂ kind_of (w.0 ∙ sym free) w.1 ∙ sym (ap (λ x. x.kind) h.numbers);
    }
  where
    free : h.given.refused ≡ nothing
    free = low_kind h.given.refused h.given.ruling.matches (rw (ap (λ x. x.kind) h.numbers) at l)

    one : session.EveryRun pattern log h.given
    one = run-demand pattern log b h.given h.run free

-- ---- every reason

-- what a run gives of a log without a match
abbrev no_match_given : Given
no_match_given = record { refused = nothing; refusal = refusal 0 0; ruling = no_ruling }

no_ruling_lem : {ss : List Slot} {es : List Event} {r : Ruling} → VerdictOf ss es r → ¬ HasMatch ss es → r ≡ no_ruling
no_ruling_lem {r = r} v d =
    let m : r.matches ≡ false = by_test r.matches (λ t. absurd (d (v.matches.0 t))) (λ t. t) in
    let n : r.count ≡ 0 = count_unique dependent fits v.count (IsCount.without d) in
    λ i. record { matches = m i; count = n i; events = v.without d i }

run_none : {ss : List Slot} {log : List ℕ} {es : List Event} {g : Given} → read_log log ≡ accepted es → ¬ HasMatch ss es → RunOn ss log g → g ≡ no_match_given
run_none q d (RunOnUnder.log_refused b) = refused_not_accepted (sym b ∙ q)
run_none q d (RunOnUnder.judged b v f) =
    ap (λ (x : Ruling). record { refused = nothing; refusal = refusal 0 0; ruling = x }) (no_ruling_lem (rw (one_list (sym b ∙ q)) at v) d)

-- where the log's events have no match, the call's verdict is that
verdict_none : {pattern log : List ℕ} {ss : List Slot} {es : List Event} {g : Given} → read_pattern pattern ≡ accepted ss → read_log log ≡ accepted es
    → ¬ HasMatch ss es → RunOf pattern log g → g ≡ no_match_given
verdict_none p q d (RunOfUnder.pattern_refused b) = refused_not_accepted (sym b ∙ p)
verdict_none {log = log} {g = g} p q d (RunOfUnder.over_log b r) = run_none q d (subst (λ (xs : List Slot). RunOn xs log g) (one_list (sym b ∙ p)) r)

module _ (pattern log : List ℕ) (r : Reasoned) (h : ReasonNumbers pattern log r) where
  with_reason : {ss : List Slot} {es : List Event} {first : List ℕ} {o : Obstacle} → read_pattern pattern ≡ accepted ss → read_log log ≡ accepted es
      → Reason ss es first o → h.cause ≡ Some (cause_of (suc (length first)) o) → h.events ≡ in_places 0 slot_limit first → EveryReason pattern log r
  with_reason {ss} {es} {first} {o} p q why cause places =
      record {
        slots = ss;
        events = es;
        slots_are = p;
        reads = q;
        first = first;
        obstacle = o;
        why = why;
        numbers = numbers;
        without = reason_suffices why;
        only = λ s k. only s k;
      }
    where
      numbers : r ≡ reasoned_of r.judgement (cause_is (Some (cause_of (suc (length first)) o))) (in_places 0 slot_limit first)
      numbers =
          h.numbers
          ∙ (λ i. reasoned_of (ap (λ (x : Reasoned). x.judgement) (sym h.numbers) i) (cause_is (cause i)) (places i))

      given_none : (s : Reasoned) (k : ReasonNumbers pattern log s) → k.given ≡ no_match_given
      given_none s k = verdict_none p q (reason_suffices why) (says_run k.reason)

      only : (s : Reasoned) → ReasonNumbers pattern log s → s ≡ r
      only s k =
          let one = one_cause k.reason h.reason in
          let g = given_none s k ∙ sym (given_none r h) in
          k.numbers ∙ (λ i. reasoned_of (judgement_of (g i)) (cause_is (one.0 i)) (one.1 i)) ∙ sym h.numbers

-- where the call for a reason says no match, it gives the one that the log's events have
pub every_reason : (pattern log : List ℕ) (r : Reasoned) → ReasonNumbers pattern log r → r.judgement.kind ≡ 0 → EveryReason pattern log r
every_reason pattern log r h is = go h.reason refl refl (sym (ap (λ (x : Reasoned). x.judgement.kind) h.numbers) ∙ is)
  where
    go : {g : Given} {c : Option Cause} {events : List ℕ} → ReasonOf pattern log g c events → h.cause ≡ c → h.events ≡ events
        → kind_of g.refused g.ruling.matches ≡ 0 → EveryReason pattern log r
    go (pattern_refused p) e f k = absurd (let f : ⊥ = omega arith in f)
    go {g} (over_log p (log_refused run d)) e f k = absurd (d (low_kind g.refused g.ruling.matches (omega arith)))
    go {g} (over_log p (match run m)) e f k =
        let free = low_kind g.refused g.ruling.matches (omega arith) in
        let z = rw (free, m) at k in
        absurd (let f : ⊥ = omega arith in f)
    go (over_log p (no_match run q why)) e f k = with_reason pattern log r h p q why e f

-- ---- every replay

-- a replay that says match has written a log that shows it
pub every_replay : (pattern log before : List ℕ) → Bytes log → (r : Replayed) (after : List ℕ) → ReplayNumbers pattern log before r after
    → r.judgement.kind ≡ 1 → EveryReplay pattern log r.length after
every_replay pattern log before b r after h is = go h.replay (sym (ap (λ x. x.kind) h.numbers) ∙ is)
  where
    go : {g : Given} {n : ℕ} {after : List ℕ} → ReplayOf pattern log before g n after → kind_of g.refused g.ruling.matches ≡ 1 → EveryReplay pattern log n after
    go {g} (refused run d) k = absurd (d (low_kind g.refused g.ruling.matches (omega arith)))
    go (too_short run q l) k = absurd (let f : ⊥ = omega arith in f)
    go (none run q l m) k = let z = rw (q, m) at k in absurd (let f : ⊥ = omega arith in f)
    go {g} (shown {ss = ss} {es = es} {order = order} run q l m p e i) k =
        let seam = take-append_seam (log_bytes order) (drop (length (log_bytes order)) before) in
        let v = run_over ss es pattern log p e g run in
        let s = verdict_shows pattern ss p log b es e g.ruling v.1 m (log_bytes order) (record { order = order; replay = i; bytes = refl }) in
        record {
          slots = ss;
          events = es;
          slots_are = p;
          reads = e;
          as_long = s.as_long;
          shows = rw seam s;
          again = λ j o. let w = s.again o.given (rw seam at o.run) in ap (λ x. x.kind) o.numbers ∙ ap₂ kind_of w.0 w.1;
        }
