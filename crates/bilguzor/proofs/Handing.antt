-- What the code leaves in a session's parts is what the definitions say, and the parts go on being those of a session.
use Prim.Native.Nat.{ℕ, ◌+◌, ◌*◌}
use native.Mathlib.Omega.{arith}
use mathlib.Core.Path.{◌≡◌, refl, sym, ap, ◌∙◌}
use mathlib.Core.Bool.{false}
use mathlib.Core.List.{List, [], reverse}
use lib.Dec.{eqb}
use lib.IntN.{ℤ}
use borrow.Author.Tests.{eqb-true, ne_eqb}
use Rattle.event.specs.declared.Event.{Event}
use Rattle.event.specs.declared.Slot.{Slot}
use Rattle.event.specs.Slots.{slot_of, fitting, threads_of}
use Rattle.event.specs.Keys.{slot_number, slot_numbers}
use Rattle.event.proofs.Tests.{by_test}
use Rattle.rules.specs.State.{refusal_by}
use Rattle.rules.proofs.StateLaws.{taken_in_range}
use Rattle.event_log.specs.Whole.{InLimits, Passing, passed, refused, passing_is, pattern_of, read_pattern}
use Rattle.command.specs.Bytes.{Bytes}
use Rattle.session.specs.declared.Session.{Session}
use Rattle.session.specs.declared.Opened.{Opened}
use Rattle.session.specs.Answers.{refusal, answer_is, found_is, verdict_is, nothing}
use Rattle.session.specs.Model.{slots_used, fresh_on, Kept, kept_of, session_on, kept_after, handed, found_at}
use Rattle.session.specs.Meaning.{Describes, VerdictOf, OpenedOn}
use Rattle.session.proofs.Described.{fresh_described, used_good, refusal_is, handed_described, verdict_described}
use Rattle.session.specs.NoFit.{FitsNone}
use Rattle.session.proofs.NoFit.{unmoved}
use Rattle.table.specs.Table.{numbers_in}
use Rattle.event_numbers.specs.EventNumbers.{Numbers, handed_over, no_operation, event_from, unfit_by}
use Rattle.event_numbers.specs.SlotNumbers.{acting_in, fitting_in}
use Rattle.event_numbers.proofs.Events.{operates, fit}
use Rattle.event_numbers.proofs.SlotsIn.{places_within, threads_told, fits_told}
use Rattle.bilguzor.specs.declared.Answer.{Answer}
use Rattle.bilguzor.specs.declared.Judgement.{Judgement}
use Rattle.bilguzor.specs.declared.Opening.{Opening}
use Rattle.bilguzor.specs.declared.Parts.{Parts}
use Rattle.bilguzor.specs.Numbers.{judgement_of}
use Rattle.std.specs.Prelude.{Option}
use Rattle.bilguzor.specs.Parts.{parts_of, kept_in, parts_with}
use Rattle.bilguzor.specs.Sessions.{InParts, opening_from, opened_parts, opening_of, number_in, parts_after, refusal_of, taken_with, Takes, ruling_in, said_in}
use Rattle.bilguzor.proofs.Events.{unfit_number}

-- ---- one event, handed to the parts of a session

-- a refused event leaves what is kept as it was, whatever it is said to fit
kept_alike : (s : Session) (e : Event) → InLimits s.pattern.slots
    → kept_after (acting_in (slot_numbers s.pattern.slots)) (fitting_in (slot_numbers s.pattern.slots) (slot_number (slot_of e))) s.pattern.size (kept_of s) e
    ≡ kept_after (threads_of s.pattern.slots) (fitting s.pattern.slots e) s.pattern.size (kept_of s) e
unfolding kept_after
kept_alike s e g =
    by_test (eqb (refusal_by s.state s.taken e) 0)
    (λ q.
    let r = taken_in_range s.state s.taken e (eqb-true _ _ q) in
    rw (threads_told s.pattern.slots g, fits_told e (let t = r.thread in omega arith) s.pattern.slots g))
    (λ q. rw q)

in_limits : (ss : List Slot) (es : List Event) (s : Session) → Describes ss es s → InLimits s.pattern.slots
in_limits ss es s h = rw (ap (λ p. p.slots) h.pattern) (places_within ss h.good)

-- what the parts of a session become is what the session becomes
as_session : (ss : List Slot) (es : List Event) (s : Session) → Describes ss es s → (n : Numbers) → no_operation n.operation ≡ false
    → parts_after (parts_of s) n ≡ parts_of (handed s (event_from n)).session
unfolding parts_after handed
as_session ss es s h n q = rw q (ap (λ k. parts_of (session_on s.pattern k)) (kept_alike s (event_from n) (in_limits ss es s h)))

number_by_rules : (ss : List Slot) (es : List Event) (s : Session) → Describes ss es s → (n : Numbers) → number_in (parts_of s) n ≡ refusal_of (reverse es) n
unfolding number_in refusal_of
number_by_rules ss es s h n = rw (refusal_is ss es s h (event_from n))

-- the parts stay those of a session, described by the pattern and the events taken
of_session : (ss : List Slot) (es : List Event) (s : Session) → Describes ss es s → (n : Numbers) → InParts ss (taken_with es n) (parts_after (parts_of s) n)
unfolding taken_with parts_after
of_session ss es s h n =
    by_test (no_operation n.operation)
    (λ q. rw q (record { session = s; is = refl; describes = h }))
    (λ q.
    let parts = as_session ss es s h n q in
    rw q (record { session = (handed s (event_from n)).session; is = rw q at parts; describes = (handed_described ss es s h (event_from n)).1 }))

pub one_event_lem : (ss : List Slot) (es : List Event) (p : Parts) → InParts ss es p → (n : Numbers)
    → (number_in p n ≡ refusal_of (reverse es) n) × InParts ss (taken_with es n) (parts_after p n)
one_event_lem ss es p h n = rw h.is (number_by_rules ss es h.session h.describes n, of_session ss es h.session h.describes n)

-- an event that is taken and fits no slot leaves what the parts say, and their table, as they were
pub unmoved_parts : (ss : List Slot) (es : List Event) (p : Parts) → InParts ss es p → (n : Numbers) → number_in p n ≡ 0 → FitsNone ss (event_from n)
    → (said_in (parts_after p n) ≡ said_in p) × ((parts_after p n).table ≡ p.table)
unfolding number_in handed
unmoved_parts ss es p h n z none = rw h.is (go h.session h.describes (rw h.is at z))
  where
    go : (s : Session) → Describes ss es s → number_in (parts_of s) n ≡ 0 → (said_in (parts_after (parts_of s) n) ≡ said_in (parts_of s)) × ((parts_after (parts_of s) n).table ≡ s.table)
    go s d z =
        by_test (no_operation n.operation)
        (λ q. let three : 3 ≡ 0 = rw q at z in absurd (let f : ⊥ = omega arith in f))
        (λ q.
        let taken : answer_is (handed s (event_from n)).answer ≡ refusal 0 0 = rw (rw q at z) in
        let u = unmoved ss es s d (event_from n) none taken in
        rw (as_session ss es s d n q) (ap verdict_is u.verdict_stays, u.partial_matches_stay))

-- ---- an event in numbers

module _ (p : Parts) (t b o : ℕ) (h : ℤ) where
  abbrev over : Numbers
  over = handed_over t b o h

  taking : (r : Answer) (after : Parts) → r ≡ record { number = number_in p over; offset = 0 } → after ≡ parts_after p over → Takes p over r after
  taking r after a q =
      record {
        answer = a;
        parts = q;
        history = λ ss es i. let one = one_event_lem ss es p i over in (ap (λ x. x.number) a ∙ one.0, rw q one.1);
      }

  -- refused, the parts are as they were
  unchanged : (number_in p over ≡ 0 → ⊥) → p ≡ parts_after p over
  unfolding number_in parts_after kept_after
  unchanged d =
      by_test (no_operation b)
      (λ q. rw q)
      (λ q. rw (q, ne_eqb (refusal_by p.state p.taken (event_from over)) 0 (λ z. d (rw q z))))

  pub turned_away : (k : ℕ) → k ≡ unfit_by t b o → (k ≡ 0 → ⊥) → Takes p over (record { number = k; offset = 0 }) p
  turned_away k q d =
      let n : k ≡ number_in p over = unfit_number p t b o h k q d in
      taking _ _ (ap (λ (x : ℕ). record { number = x; offset = 0 }) n) (unchanged (λ z. d (n ∙ z)))

  number_over : no_operation b ≡ false → slot_number (slot_of (event_from over)) ≡ b + 256 * t + 65536 * o
  number_over q = let x = operates b o h q in rw (x.byte, x.object)

  pub handed_on : (e : Event) → e ≡ event_from over → unfit_by t b o ≡ 0 → (k : ℕ) (after : Kept) → k ≡ refusal_by p.state p.taken e
      → after ≡ kept_after (acting_in p.slots) (fitting_in p.slots (b + 256 * t + 65536 * o)) p.size (kept_in p) e
      → Takes p over (record { number = k; offset = 0 }) (parts_with p after)
  unfolding number_in parts_after
  handed_on e q z k after n s =
      let event = (fit t b o z).event in
      taking _ _
      (rw event (ap (λ (x : ℕ). record { number = x; offset = 0 }) (rw q at n)))
      (rw (event, number_over event) (ap (parts_with p) (rw q at s)))

-- ---- an opening

in_opening : (x : Passing) (p : Parts) → (opening_from x p).session ≡ p
in_opening (passed n) p = refl
in_opening (refused k o) p = refl

-- what an opening answers, once its session is put into parts
pub opened : (bytes : List ℕ) (o : Opened) → OpenedOn bytes o → (p : Parts) → p ≡ parts_of o.session → (r : Opening) → r ≡ opening_from (passing_is o.answer) p
    → (r ≡ opening_of bytes) × InParts (slots_used (read_pattern bytes)) [] r.session
opened bytes o h p q r e = (
  e ∙ (λ i. opening_from (h.answer i) ((q ∙ ap parts_of h.session) i)),
  record { session = o.session; is = ap (λ (x : Opening). x.session) e ∙ in_opening (passing_is o.answer) p ∙ q; describes = h.described },
)

pub opened_in : (bytes : List ℕ) → Bytes bytes → InParts (slots_used (read_pattern bytes)) [] (opened_parts bytes)
opened_in bytes b =
    record {
      session = fresh_on (pattern_of (slots_used (read_pattern bytes)));
      is = refl;
      describes = fresh_described (slots_used (read_pattern bytes)) (used_good bytes b);
    }

-- ---- the verdict

pub said : (ss : List Slot) (es : List Event) (p : Parts) → InParts ss es p → VerdictOf ss es (ruling_in p.table p.count p.size)
said ss es p h = rw h.is (verdict_described ss es h.session h.describes)

pub judged : (table : List ℕ) (count size : ℕ) (events : List ℕ) (found : Option ℕ) (r : Judgement) → events ≡ numbers_in table size
    → found ≡ found_at count → r ≡ judgement_of (record { refused = nothing; refusal = refusal 0 0; ruling = found_is found events })
    → (r ≡ judgement_of (record { refused = nothing; refusal = refusal 0 0; ruling = ruling_in table count size }))
    × ((ss : List Slot) (es : List Event) (p : Parts) → InParts ss es p → p.table ≡ table → p.count ≡ count → p.size ≡ size → VerdictOf ss es (ruling_in table count size))
judged table count size events found r ev fo e = (
  e ∙ (λ i. judgement_of (record { refused = nothing; refusal = refusal 0 0; ruling = found_is (fo i) (ev i) })),
  λ ss es p h t c s. rw (sym t, sym c, sym s) (said ss es p h),
)
