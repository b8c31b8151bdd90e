-- A session goes on being described by its pattern and the events taken, and its verdict is theirs.
use Prim.Native.Nat.{ℕ, zero, suc, ◌+◌, ◌-◌, ◌<◌}
use native.Mathlib.Omega.{arith}
use native.Mathlib.Numerals.{add-one}
use mathlib.Core.Path.{◌≡◌, refl, sym, ap, subst, ◌∙◌}
use mathlib.Core.Bool.{Bool, cond, false, false≢true}
use mathlib.Core.List.{List, [], ◌∷◌, ◌++◌, reverse, append_assoc, append-nil, reverse-cons, reverse-reverse, reverse-append}
use lib.Dec.{eqb}
use lib.ListN.{length, get_or, replicate, length-append, length-reverse, get_or-append}
use borrow.Author.Tests.{eqb-true, eq-eqb, ne_eqb}
use Rattle.std.specs.Prelude.{Result, Ok, Err}
use Rattle.std.specs.Result.{result_unwrap_or}
use Rattle.event.specs.declared.Event.{Event}
use Rattle.event.specs.declared.Slot.{Slot}
use Rattle.event.specs.declared.refusal.Refused.{Refused}
use Rattle.event.specs.Limits.{slots, events}
use Rattle.event.specs.Slots.{slot_of, fits, no_slot, fitting, threads_of}
use Rattle.event.proofs.Filled.{map_at}
use Rattle.event.proofs.OneSlot.{fits_thread}
use Rattle.event.proofs.Tests.{by_test}
use Rattle.event.proofs.InRange.{from_range}
use Rattle.rules.specs.Accepted.{refusal_after, taken_after, taken_under, Accepted, whole}
use Rattle.rules.specs.State as rules
use Rattle.rules.proofs.StateLaws as rule_laws
use Rattle.rules.proofs.AcceptedLists.{taken_iff}
use Rattle.event_log.specs.declared.Pattern.{Pattern}
use Rattle.event_log.specs.Whole.{GoodPattern, no_slot_lem, one_slot, Whole, accepted, refused, blank, pattern_of, read_pattern, slots_read, Renders, Passing, passed}
use Rattle.event_log.proofs.PatternRoundTrip.{pattern_iff}
use Rattle.command.specs.Bytes.{Bytes}
use Rattle.event.specs.Range.{range_refusal_under}
use Rattle.trace.proofs.Matches.{empty_match, match_append, match_whole}
use Rattle.trace.proofs.Counts.{count_stays, count_starts, count_match}
use Rattle.trace.proofs.Numbers.{named_append}
use Rattle.dependence.specs.Dependence.{dependent}
use Rattle.trace.specs.Match.{without}
use Rattle.dependence.specs.Order.{HasMatch}
use Rattle.clock.specs.Clocks.{stamp_by, clocks_after}
use Rattle.clock.specs.Arrivals as clock
use Rattle.clock.proofs.History as clock_history
use Rattle.table.specs.Table.{found_in, numbers_in}
use Rattle.table.specs.Keeps.{Keeps}
use Rattle.table.proofs.History.{offer_kept}
use Rattle.table.proofs.Start as table_start
use Rattle.table.proofs.Verdict.{found_match, found_numbers}
use Rattle.session.specs.declared.Session.{Session}
use Rattle.session.specs.Model.{slots_used, fresh_on, kept_of, table_after, kept_advanced, kept_after, advanced, handed, found_at, verdict_of}
use Rattle.session.specs.Answers.{refusal, answer_is, found_is, verdict_is}
use Rattle.session.proofs.Answered.{number_answered}
use Rattle.session.specs.Meaning.{taken_by, Searched, searching, matched, Describes, VerdictOf, OpenedOn}

no_match_yet : (ss : List Slot) → 0 < length ss → ¬ HasMatch ss []
no_match_yet [] l h = omega arith
no_match_yet (s ∷ ss) l h = empty_match dependent fits s ss h

pub fresh_described : (ss : List Slot) → GoodPattern ss → Describes ss [] (fresh_on (pattern_of ss))
fresh_described ss g =
    record {
      good = g;
      pattern = refl;
      taken = refl;
      accepted = whole;
      state = rule_laws.nothing_yet;
      search = searching clock_history.nothing_yet (table_start.nothing_yet fits ss g.few) (no_match_yet ss g.some);
    }

-- ---- the slots of a session, and what the rules say

module _ (ss : List Slot) (es : List Event) (s : Session) (h : Describes ss es s) where
  slot_at : (j : ℕ) → j < length ss → get_or s.pattern.slots j no_slot ≡ get_or ss j no_slot
  slot_at j l = rw (ap (λ p. p.slots) h.pattern) (get_or-append ss _ no_slot j l)

  slot_there : (j : ℕ) → j < length ss → j < length s.pattern.slots
  slot_there j l =
      let a : length s.pattern.slots ≡ length ss + _ = ap length (ap (λ p. p.slots) h.pattern) ∙ length-append ss (replicate (slots - length ss) blank) in
      omega arith

  pub fit_at : (e : Event) (j : ℕ) → j < length ss → get_or (fitting s.pattern.slots e) j false ≡ fits (get_or ss j no_slot) e
  unfolding fitting
  fit_at e j l = map_at (λ x. fits x e) s.pattern.slots no_slot false j (slot_there j l) ∙ ap (λ x. fits x e) (slot_at j l)

  pub refusal_is : (e : Event) → rules.refusal_by s.state s.taken e ≡ refusal_after (reverse es) e
  refusal_is e =
      let n : s.taken ≡ length (reverse es) = h.taken ∙ sym (length-reverse es) in
      rw n (rule_laws.refusal_agrees (reverse es) s.state e h.state)

-- ---- an event is taken

module _ (ss : List Slot) (es : List Event) (s : Session) (h : Describes ss es s) (e : Event) (z : refusal_after (reverse es) e ≡ 0) where
  abbrev longer : List Event
  longer = es ++ (e ∷ [])

  backwards : reverse longer ≡ e ∷ reverse es
  backwards = reverse-append es (e ∷ [])

  clear : rule_laws.Clear (reverse es) e
  clear = rule_laws.clear (reverse es) e z

  as_many : s.taken ≡ length (reverse es)
  as_many = h.taken ∙ sym (length-reverse es)

  room : length es < events
  room = let r : length (reverse es) < events = clear.room in let n : length (reverse es) ≡ length es = length-reverse es in omega arith

  state_after_lem : rules.StateOf (reverse longer) (rules.state_after s.state s.taken e)
  unfolding taken_under
  state_after_lem =
      let r = rule_laws.handed_over_lem (reverse es) s.state e h.state in
      let t : taken_after (reverse es) e ≡ e ∷ reverse es = rw (eq-eqb (refusal_after (reverse es) e) 0 z) in
      rw (backwards, as_many) (rw t at r)

  accepted_after : Accepted longer
  accepted_after = rw (reverse-reverse es) at ((taken_iff (reverse es) e (rw (reverse-reverse es) h.accepted)).0 z)

  -- the event has arrived at the clocks, and is offered to the table
  arrived : clock.ClocksOf es s.clocks → clock.Arrived es e (stamp_by s.clocks e) (clocks_after s.clocks e)
  arrived c = (clock_history.arrived s.clocks e _ _ refl refl).1.1 es c room (from_range (slot_of e) clear.range)

  abbrev acting : List ℕ
  acting = threads_of s.pattern.slots

  abbrev fit : List Bool
  fit = fitting s.pattern.slots e

  abbrev offered_to : List ℕ
  offered_to = table_after acting fit s.pattern.size (kept_of s) e

  kept_after_lem : clock.ClocksOf es s.clocks → Keeps fits ss es s.table → Keeps fits ss longer offered_to
  unfolding threads_of
  kept_after_lem c k =
      offer_kept fits fits_thread ss es acting fit s.pattern.size e (stamp_by s.clocks e) (s.taken + 1) s.table k
      (record {
        acting_is = λ j l. map_at (λ x. x.thread) s.pattern.slots no_slot 0 j (slot_there ss es s h j l) ∙ ap (λ x. x.thread) (slot_at ss es s h j l);
        fit_is = fit_at ss es s h e;
        size_is = ap (λ p. p.size) h.pattern;
        number_is = ap (λ (n : ℕ). n + 1) h.taken;
        number_fits = let n : s.taken ≡ length es = h.taken in let r : length es < events = room in omega arith;
        thread_low = clear.range.thread;
        stamp_is = (arrived c).stamp;
      })

  -- a match is found with this event, or none yet
  found_or_not : clock.ClocksOf es s.clocks → Keeps fits ss es s.table → ¬ HasMatch ss es
      → Searched ss longer (clocks_after s.clocks e) (offered_to) (cond (found_in (offered_to) s.pattern.size) (s.taken + 1) 0)
  found_or_not c k d =
      by_test (found_in (offered_to) s.pattern.size)
      (λ q.
      let m = (found_match fits ss longer (offered_to) (kept_after_lem c k)).0 (by_size ∙ q) in
      rw q
      (subst (λ (n : ℕ). Searched ss longer (clocks_after s.clocks e) (offered_to) n) (sym counted)
      (matched longer [] (sym (append-nil longer)) long (count_starts dependent fits ss es e d m) (kept_after_lem c k))))
      (λ q. rw q (searching (arrived c).holds (kept_after_lem c k) (λ m. false≢true (sym (by_size ∙ q) ∙ (found_match fits ss longer (offered_to) (kept_after_lem c k)).1 m))))
    where
      by_size : found_in (offered_to) (length ss) ≡ found_in (offered_to) s.pattern.size
      by_size = ap (found_in (offered_to)) (sym (ap (λ p. p.size) h.pattern))

      counted : s.taken + 1 ≡ suc (length es)
      counted = let n : s.taken ≡ length es = h.taken in omega arith

      long : length longer ≡ suc (length es)
      long = length-append es (e ∷ []) ∙ add-one (length es)

  searched_after : Searched ss longer (advanced s e).clocks (advanced s e).table (advanced s e).count
  unfolding advanced kept_advanced
  searched_after = go s.count refl h.search
    where
      go : (c : ℕ) → s.count ≡ c → Searched ss es s.clocks s.table c
          → Searched ss longer (advanced s e).clocks (advanced s e).table (advanced s e).count
      go zero q (searching c k d) = rw (eq-eqb s.count 0 q) (found_or_not c k d)
      go (suc n) q (matched lead later p l c k) =
          rw (ne_eqb s.count 0 (λ z. let f : ⊥ = omega arith in f), q)
          (matched lead (later ++ (e ∷ [])) (ap (λ (x : List Event). x ++ (e ∷ [])) p ∙ append_assoc lead later (e ∷ [])) l c k)

  pub advanced_described : Describes ss longer (advanced s e)
  unfolding advanced kept_advanced
  advanced_described =
      record {
        good = h.good;
        pattern = same_pattern;
        taken = one_taken;
        accepted = accepted_after;
        state = same_state;
        search = searched_after;
      }
    where
      same_pattern : (advanced s e).pattern ≡ pattern_of ss
      same_pattern = h.pattern

      one_taken : (advanced s e).taken ≡ length longer
      one_taken =
          let n : s.taken + 1 ≡ length longer = ap (λ (k : ℕ). k + 1) h.taken ∙ sym (length-append es (e ∷ [])) in
          by_test (eqb s.count 0) (λ q. rw q n) (λ q. rw q n)

      same_state : rules.StateOf (reverse longer) (advanced s e).state
      same_state = by_test (eqb s.count 0) (λ q. rw q state_after_lem) (λ q. rw q state_after_lem)

-- ---- any event is handed over

pub handed_described : (ss : List Slot) (es : List Event) (s : Session) → Describes ss es s → (e : Event)
    → (answer_is (handed s e).answer ≡ refusal (refusal_after (reverse es) e) 0) × Describes ss (taken_by es e) (handed s e).session
unfolding handed advanced kept_after taken_under
handed_described ss es s h e = (number_answered s.state s.taken e ∙ ap (λ (k : ℕ). refusal k 0) (refusal_is ss es s h e), described)
  where
    described : Describes ss (taken_by es e) (handed s e).session
    described =
        rw (refusal_is ss es s h e)
        (by_test (eqb (refusal_after (reverse es) e) 0)
        (λ q. rw (q, reverse-cons e (reverse es), reverse-reverse es) (advanced_described ss es s h e (eqb-true (refusal_after (reverse es) e) 0 q)))
        (λ q. rw (q, reverse-reverse es) h))

-- ---- the verdict

pub verdict_described : (ss : List Slot) (es : List Event) (s : Session) → Describes ss es s → VerdictOf ss es (verdict_is (verdict_of s))
verdict_described ss es s h = rw size_is (go s.count refl h.search)
  where
    size_is : s.pattern.size ≡ length ss
    size_is = ap (λ p. p.size) h.pattern

    go : (c : ℕ) → s.count ≡ c → Searched ss es s.clocks s.table c
        → VerdictOf ss es (found_is (found_at s.count) (numbers_in s.table (length ss)))
    go zero q (searching c k d) =
        let n = found_numbers fits ss es s.table k in
        rw (eq-eqb s.count 0 q)
        (record {
          matches = (λ t. absurd (false≢true t), λ m. absurd (d m));
          count = without d;
          named = λ m. absurd (d m);
          without = n.without;
          beyond = n.beyond;
        })
    go (suc m) q (matched lead later p l c k) =
        let n = found_numbers fits ss lead s.table k in
        let whole_lead : HasMatch ss lead = match_whole dependent fits ss lead (suc m) (count_match dependent fits c).0 in
        let there : HasMatch ss es = rw p (match_append dependent fits ss lead later whole_lead) in
        rw (ne_eqb s.count 0 (λ z. let f : ⊥ = omega arith in f), q)
        (record {
          matches = (λ t. there, λ t. refl);
          count = rw p (count_stays dependent fits ss lead later m c);
          named = λ t. rw p (named_append dependent fits later (rw l at (n.named whole_lead)));
          without = λ d. absurd (d there);
          beyond = n.beyond;
        })

-- ---- an opening

lone_good : GoodPattern (blank ∷ [])
unfolding range_refusal_under
lone_good = record { some = omega arith; few = omega arith; limits = one_slot refl no_slot_lem }

-- the slots that a session looks for are always a good pattern
pub used_good : (bytes : List ℕ) → Bytes bytes → GoodPattern (slots_used (read_pattern bytes))
used_good bytes b = go (read_pattern bytes) refl
  where
    go : (w : Whole Slot) → read_pattern bytes ≡ w → GoodPattern (slots_used w)
    go (accepted ss) q = ((pattern_iff bytes b ss).0 q).0
    go (refused k o) q = lone_good

-- what reading the pattern answers, and the pattern of the session then
abbrev pub pattern_used : Result Pattern Refused → Pattern
pattern_used (Ok p) = p
pattern_used (Err r) = pattern_of (blank ∷ [])

pub used_or_lone : (r : Result Pattern Refused) (p : Pattern) → p ≡ pattern_of (blank ∷ []) → result_unwrap_or r p ≡ pattern_used r
used_or_lone (Ok q) p e = refl
used_or_lone (Err m) p e = e

abbrev refuses : Passing → ℕ
refuses (passed n) = 0
refuses (Passing.refused k o) = 1

used_is : (r : Result Pattern Refused) (w : Whole Slot) → Renders r w → pattern_used r ≡ pattern_of (slots_used w)
used_is (Ok p) (accepted ss) h = h.pattern
used_is (Ok p) (refused k o) h = absurd (let z : ◌≡◌ {A = ℕ} 0 1 = ap refuses h.answer in let f : ⊥ = omega arith in f)
used_is (Err r) (accepted ss) h = absurd (let z : ◌≡◌ {A = ℕ} 1 0 = ap refuses h.answer in let f : ⊥ = omega arith in f)
used_is (Err r) (refused k o) h = refl

pub opened_on : (bytes : List ℕ) → Bytes bytes → (r : Result Pattern Refused) → Renders r (read_pattern bytes) → (s : Session) → s ≡ fresh_on (pattern_used r)
    → OpenedOn bytes (record { answer = slots_read r; session = s })
opened_on bytes b r h s q =
    let session = q ∙ ap fresh_on (used_is r (read_pattern bytes) h) in
    record {
      answer = h.answer;
      session = session;
      described = rw session (fresh_described (slots_used (read_pattern bytes)) (used_good bytes b));
    }
