-- An event that is taken and fits no slot leaves the verdict, and what is kept of partial matches, as they were.
use Prim.Native.Nat.{ℕ, zero, suc, ◌+◌}
use native.Mathlib.Omega.{arith}
use mathlib.Core.Path.{◌≡◌, refl, sym, ap, ◌∙◌}
use mathlib.Core.Bool.{false}
use mathlib.Core.List.{List, [], ◌∷◌, ◌++◌, reverse}
use lib.ListN.{length}
use borrow.Author.Tests.{eq-eqb, ne_eqb}
use Rattle.event.specs.declared.Event.{Event}
use Rattle.event.specs.declared.Slot.{Slot}
use Rattle.event.specs.Slots.{fits, fitting, threads_of, NoneFitted}
use Rattle.event.proofs.Tests.{by_test}
use Rattle.rules.specs.Accepted.{refusal_after}
use Rattle.rules.specs.State.{refusal_by}
use Rattle.clock.specs.Clocks.{stamp_by}
use Rattle.table.specs.Table.{found_in, numbers_in}
use Rattle.table.specs.Keeps.{Keeps}
use Rattle.table.proofs.Verdict.{found_match, offered_still}
use Rattle.dependence.specs.Order.{HasMatch}
use Rattle.event_log.specs.Whole.{read_pattern}
use Rattle.session.specs.declared.Session.{Session}
use Rattle.session.specs.declared.Opened.{Opened}
use Rattle.session.specs.Answers.{refusal, answer_is, verdict_is}
use Rattle.session.specs.Model.{slots_used, kept_of, table_after, kept_advanced, kept_after, advanced, handed, handed_all, found_at}
use Rattle.session.specs.Meaning.{Searched, searching, matched, Describes, OpenedOn}
use Rattle.session.specs.NoFit.{FitsNone, Unmoved, EveryUnmoved}
use Rattle.session.specs.History.{taken_of}
use Rattle.session.proofs.Described.{fit_at, refusal_is, handed_described, advanced_described}
use Rattle.session.proofs.Demand.{after_all}

module _ (ss : List Slot) (es : List Event) (s : Session) (h : Describes ss es s) (e : Event) (none : FitsNone ss e) where
  size_is : s.pattern.size ≡ length ss
  size_is = ap (λ p. p.size) h.pattern

  none_fitted : NoneFitted s.pattern.size (fitting s.pattern.slots e)
  none_fitted j l = let low = rw size_is at l in fit_at ss es s h e j low ∙ none j low

  -- the table, offered the event, stays
  still : table_after (threads_of s.pattern.slots) (fitting s.pattern.slots e) s.pattern.size (kept_of s) e ≡ s.table
  still =
      offered_still s.table (threads_of s.pattern.slots) (fitting s.pattern.slots e) s.pattern.size e.thread (stamp_by s.clocks e) (s.taken + 1)
      none_fitted

  -- and it has no row of all slots where there is no match yet
  no_row : Keeps fits ss es s.table → ¬ HasMatch ss es → found_in s.table s.pattern.size ≡ false
  no_row k d =
      by_test (found_in s.table s.pattern.size)
      (λ q. absurd (d ((found_match fits ss es s.table k).0 (rw size_is at q))))
      (λ q. q)

  pub same_kept : ((advanced s e).table ≡ s.table) × ((advanced s e).count ≡ s.count)
  unfolding advanced kept_advanced
  same_kept = go s.count refl h.search
    where
      go : (c : ℕ) → s.count ≡ c → Searched ss es s.clocks s.table c → ((advanced s e).table ≡ s.table) × ((advanced s e).count ≡ s.count)
      go zero q (searching c k d) = rw (eq-eqb s.count 0 q, still, no_row k d) (refl, sym q)
      go (suc n) q (matched lead later p l c k) = rw (ne_eqb s.count 0 (λ z. let f : ⊥ = omega arith in f)) (refl, refl)

  module _ (answered : answer_is (handed s e).answer ≡ refusal 0 0) where
    no_refusal : refusal_after (reverse es) e ≡ 0
    no_refusal = ap (λ r. r.number) (sym (handed_described ss es s h e).0 ∙ answered)

    goes_on : (handed s e).session ≡ advanced s e
    unfolding handed advanced kept_after
    goes_on = rw (eq-eqb (refusal_by s.state s.taken e) 0 (refusal_is ss es s h e ∙ no_refusal))

    pub unmoved : Unmoved ss es s e
    unfolding advanced
    unmoved =
        record {
          verdict_stays = rw goes_on (λ i. record { found = found_at (same_kept.1 i); numbers = numbers_in (same_kept.0 i) s.pattern.size });
          partial_matches_stay = rw goes_on same_kept.0;
          taken_too = rw goes_on (advanced_described ss es s h e no_refusal);
        }

-- ---- every session from its opening

pub handed_last : (s : Session) (events : List Event) (e : Event) → handed_all s (events ++ (e ∷ [])) ≡ (handed (handed_all s events) e).session
unfolding handed_all
handed_last s [] e = refl
handed_last s (f ∷ events) e = handed_last (handed s f).session events e

-- "an event that is taken and fits no slot leaves the verdict, and what is kept of partial matches, as they were"
pub every_unmoved : (bytes : List ℕ) (opened : Opened) → OpenedOn bytes opened → (events : List Event) (e : Event)
    → answer_is (handed (handed_all opened.session events) e).answer ≡ refusal 0 0 → FitsNone (slots_used (read_pattern bytes)) e
    → EveryUnmoved bytes opened events e
every_unmoved bytes opened o events e a none =
    record {
      verdict_stays = rw last (ap verdict_is left.verdict_stays);
      partial_matches_stay = rw last left.partial_matches_stay;
      taken_too = rw last left.taken_too;
    }
  where
    ss : List Slot
    ss = slots_used (read_pattern bytes)

    s : Session
    s = opened.session

    described : Describes ss (taken_of events) (handed_all s events)
    described = (after_all ss [] s o.described events).1

    last : handed_all s (events ++ (e ∷ [])) ≡ (handed (handed_all s events) e).session
    last = handed_last s events e

    left : Unmoved ss (taken_of events) (handed_all s events) e
    left = unmoved ss (taken_of events) (handed_all s events) described e none a
