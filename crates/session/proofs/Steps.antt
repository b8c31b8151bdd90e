-- What the code leaves in a session is what the model says.
use Prim.Native.Nat.{ℕ, ◌+◌, ◌<◌}
use native.Mathlib.Omega.{arith}
use mathlib.Core.Path.{◌≡◌, refl, sym, ◌∙◌}
use mathlib.Core.Bool.{Bool, true, false, cond}
use Rattle.std.specs.Prelude.{Result}
use mathlib.Core.List.{List, reverse}
use lib.Dec.{eqb, leb}
use borrow.Author.Tests.{eqb-false, eq-eqb, ne_eqb, leb-true, leb-false}
use Rattle.event.specs.declared.Event.{Event}
use Rattle.event.specs.declared.Slot.{Slot}
use Rattle.event.specs.declared.refusal.Refused.{Refused}
use Rattle.event.specs.Limits.{events}
use Rattle.event.specs.Slots.{slot_of, fitting, threads_of, NoneFitted}
use Rattle.event.proofs.Tests.{by_test}
use Rattle.event.proofs.InRange.{from_range}
use Rattle.rules.specs.Accepted.{refusal_after}
use Rattle.rules.specs.State.{refusal_by, state_after}
use Rattle.rules.proofs.StateLaws.{taken_in_range, too_many, after_refused}
use Rattle.clock.specs.declared.Stamp.{Stamp}
use Rattle.clock.specs.Clocks.{stamp_by, clocks_after}
use Rattle.table.specs.Table.{offered, found_in}
use Rattle.table.proofs.Verdict.{offered_still}
use Rattle.session.specs.declared.Session.{Session}
use Rattle.session.specs.declared.Handed.{Handed}
use Rattle.session.specs.Answers.{refusal, answer_is}
use Rattle.session.specs.Model.{Kept, kept_of, session_on, table_after, kept_advanced, kept_after, answer_by, handed}
use Rattle.session.specs.Meaning.{taken_by, Describes}
use Rattle.session.proofs.Described.{handed_described}

-- an event that is taken is within the limit of events
pub room : (state : List ℕ) (n : ℕ) (e : Event) → refusal_by state n e ≡ 0 → n < events
room state n e z =
    by_test (leb events n)
    (λ q.
    let nine = too_many state n e (from_range (slot_of e) (taken_in_range state n e z)) (leb-true events n q) in
    absurd (let f : ⊥ = let k : 9 ≡ 0 = sym nine ∙ z in omega arith in f))
    (λ q. leb-false events n q)

-- ---- what is kept

-- the event has been handed to the rules, which gave the number m, and is counted where it is taken
module _ (acting : List ℕ) (fit : List Bool) (size : ℕ) (k : Kept) (e : Event) (m : ℕ) (state : List ℕ) (taken : ℕ) (n : m ≡ refusal_by k.state k.taken e)
    (q : state ≡ state_after k.state k.taken e) (t : taken ≡ cond (eqb m 0) (k.taken + 1) k.taken) where
  -- rules and number of events alone
  abbrev unsearched : Kept
  unsearched = record { state = state; clocks = k.clocks; table = k.table; taken = taken; count = k.count }

  -- refused, it leaves all as it was
  pub kept_refused : eqb m 0 ≡ false → unsearched ≡ kept_after acting fit size k e
  unfolding kept_after kept_advanced
  kept_refused z =
      let some = eqb-false (refusal_by k.state k.taken e) 0 (rw n at z) in
      let same : state ≡ k.state = q ∙ sym (after_refused k.state k.taken e some) in
      let as_many : taken ≡ k.taken = t ∙ rw z in
      rw (ne_eqb (refusal_by k.state k.taken e) 0 some)
      (λ i. record { state = same i; clocks = k.clocks; table = k.table; taken = as_many i; count = k.count })

  module _ (z : m ≡ 0) where
    one_more : taken ≡ k.taken + 1
    one_more = t ∙ rw (eq-eqb m 0 z)

    -- with a match, only the rules go on
    pub kept_matched : eqb k.count 0 ≡ false → unsearched ≡ kept_after acting fit size k e
    unfolding kept_after kept_advanced
    kept_matched found =
        rw (eq-eqb (refusal_by k.state k.taken e) 0 (sym n ∙ z), found)
        (λ i. record { state = q i; clocks = k.clocks; table = k.table; taken = one_more i; count = k.count })

    -- without one, the event is offered to the table with its stamp
    pub kept_searched : eqb k.count 0 ≡ true → (stamp : Stamp) (clocks table : List ℕ) (count : ℕ) → stamp ≡ stamp_by k.clocks e → clocks ≡ clocks_after k.clocks e
        → table ≡ offered k.table acting fit size e.thread stamp taken → count ≡ cond (found_in table size) taken 0
        → ◌≡◌ {A = Kept} (record { state = state; clocks = clocks; table = table; taken = taken; count = count }) (kept_after acting fit size k e)
    unfolding kept_after kept_advanced
    kept_searched none stamp clocks table count st cl tb co =
        let after : table ≡ table_after acting fit size k e = tb ∙ (λ i. offered k.table acting fit size e.thread (st i) (one_more i)) in
        let found : count ≡ cond (found_in (table_after acting fit size k e) size) (k.taken + 1) 0 = co ∙ (λ i. cond (found_in (after i) size) (one_more i) 0) in
        rw (eq-eqb (refusal_by k.state k.taken e) 0 (sym n ∙ z), none)
        (λ i. record { state = q i; clocks = cl i; table = after i; taken = one_more i; count = found i })

    -- where it fits none of the slots the table stays, and its stamp goes on all the same
    pub kept_skipped : eqb k.count 0 ≡ true → (clocks : List ℕ) (count : ℕ) → clocks ≡ clocks_after k.clocks e → NoneFitted size fit → count ≡ cond (found_in k.table size) taken 0
        → ◌≡◌ {A = Kept} (record { state = state; clocks = clocks; table = k.table; taken = taken; count = count }) (kept_after acting fit size k e)
    kept_skipped no_match clocks count cl none co =
        kept_searched no_match (stamp_by k.clocks e) clocks k.table count refl cl
        (sym (offered_still k.table acting fit size e.thread (stamp_by k.clocks e) taken none)) co

-- ---- the session

pub handed_is : (s : Session) (e : Event) (a : Result Unit Refused) (after : Kept) → a ≡ answer_by (refusal_by s.state s.taken e)
    → after ≡ kept_after (threads_of s.pattern.slots) (fitting s.pattern.slots e) s.pattern.size (kept_of s) e
    → ◌≡◌ {A = Handed} (record { answer = a; session = session_on s.pattern after }) (handed s e)
unfolding handed
handed_is s e a after p q = λ i. record { answer = p i; session = session_on s.pattern (q i) }

-- "Session and lent buffers keep their contents.": an event that is refused leaves the session literally as it was
pub refused_unchanged : (s : Session) (e : Event) → ((answer_is (handed s e).answer).number ≡ 0 → ⊥) → (handed s e).session ≡ s
unfolding handed kept_after
refused_unchanged s e h =
    by_test (eqb (refusal_by s.state s.taken e) 0)
    (λ q. absurd (h (rw q)))
    (λ q. rw q)

-- what the model says of one event is what the contract asks
pub after : (s : Session) (e : Event) (r : Handed) → r ≡ handed s e
    → (r ≡ handed s e)
    × ((ss : List Slot) (es : List Event) → Describes ss es s
    → (answer_is r.answer ≡ refusal (refusal_after (reverse es) e) 0) × Describes ss (taken_by es e) r.session)
after s e r q = (q, λ ss es h. rw q (handed_described ss es s h e))
