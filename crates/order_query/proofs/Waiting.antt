-- What is kept of the events asked for is right for the list of those that passed, and stays so as the next one passes.
use Prim.Native.Nat.{ℕ, ◌+◌, ◌<◌, ◌≤◌}
use native.Mathlib.Numerals.{add-one}
use native.Mathlib.Omega.{arith}
use mathlib.Core.Path.{◌≡◌, refl, sym, subst, ◌∙◌}
use mathlib.Core.List.{List, [], ◌∷◌, ◌++◌, reverse, reverse-cons}
use lib.Dec.{eqb}
use lib.ListN.{length, length-append, length-reverse}
use borrow.Author.Tests.{eqb-true, eqb-false, lt-ltb}
use Rattle.event.proofs.Tests.{by_test}
use Rattle.event.specs.declared.Event.{Event}
use Rattle.event.specs.Limits.{threads}
use Rattle.trace.specs.Before.{Numbered}
use Rattle.trace.proofs.Numbers.{numbered_among, at_numbered, event_new}
use Rattle.clock.specs.declared.Stamp.{Stamp}
use Rattle.clock.specs.Arrivals.{StampOf, ClocksOf, Arrived}
use Rattle.relation.specs.Relation.{IsStamped}
use Rattle.relation.proofs.Comparison.{compared_right, stamped_stays}
use Rattle.event_log.specs.Whole.{read_log, accepted}
use Rattle.relation.specs.declared.StampedEvent.{StampedEvent}
use Rattle.order_query.specs.Query.{IsNumber, Answers, no_number, relates, related, query_refused}
use Rattle.order_query.specs.Awaiting.{stamped}
use Rattle.relation.specs.Compared.{compared}
use Rattle.std.specs.Prelude.{Option, Some, None, cond}

-- what is kept of event number i of those that passed: nothing, as there is no such event, or its thread, its place and its stamp
abbrev pub Waits : List Event → ℕ → Option StampedEvent → Type 0
Waits es i None = IsNumber es i → ⊥
Waits es i (Some w) = IsStamped es i w

pub none_passed : (i : ℕ) → Waits [] i None
none_passed i u = let l : 1 ≤ i = u.0 in let k : i ≤ 0 = u.1 in let f : ⊥ = omega arith in f

-- ---- the next event passes

module _ (es : List Event) (e : Event) (s : Stamp) (low : e.thread < threads) (st : StampOf (es ++ (e ∷ [])) (length es + 1) s) where
  abbrev longer : List Event
  longer = es ++ (e ∷ [])

  abbrev n : ℕ
  n = length es + 1

  size : length longer ≡ n
  size = length-append es (e ∷ [])

  newest : Numbered longer n e
  newest =
      subst (λ (a : Event). Numbered longer n a) (rw (add-one (length es)) (event_new e es e))
      (at_numbered e longer n (omega arith, let k : length longer ≡ n = size in omega arith))

  pub meets_next : (i : ℕ) (w : Option StampedEvent) → Waits es i w → Waits longer i (cond (eqb n i) (Some (stamped e.thread s)) w)
  meets_next i w h = by_test (eqb n i) (λ q. rw q (subst (λ (k : ℕ). IsStamped longer k (stamped e.thread s)) (eqb-true n i q) come)) (λ q. rw q (stays w h (eqb-false n i q)))
    where
      come : IsStamped longer n (stamped e.thread s)
      come =
          record {
            event = e;
            numbered = newest;
            thread = refl;
            known = low;
            place = rw (lt-ltb e.thread threads low) (st e.thread low);
            stamp = st;
          }

      stays : (w : Option StampedEvent) → Waits es i w → (n ≡ i → ⊥) → Waits longer i w
      stays None h d = λ u. h (u.0, let k : i ≤ n = rw size at u.1 in let m : i ≡ n → ⊥ = λ z. d (sym z) in omega arith)
      stays (Some v) h d = stamped_stays es (e ∷ []) h

-- one event more: the clocks hold it, and both that are waited for have met it
pub next : (past : List Event) (i j taken : ℕ) (v w : Option StampedEvent) (e : Event) (s : Stamp) (clocks : List ℕ) → taken ≡ length past → e.thread < threads
    → Waits (reverse past) i v → Waits (reverse past) j w → Arrived (reverse past) e s clocks
    → ClocksOf (reverse (e ∷ past)) clocks × Waits (reverse (e ∷ past)) i (cond (eqb (taken + 1) i) (Some (stamped e.thread s)) v) × Waits (reverse (e ∷ past)) j (cond (eqb (taken + 1) j) (Some (stamped e.thread s)) w)
next past i j taken v w e s clocks c low g h a =
    let n : taken ≡ length (reverse past) = c ∙ sym (length-reverse past) in
    rw (reverse-cons e past, n) (a.holds, meets_next (reverse past) e s low a.stamp i v g, meets_next (reverse past) e s low a.stamp j w h)

-- ---- the end of the log: the answer

-- an event that has a stamp has a number
has_number : {es : List Event} {i : ℕ} {w : StampedEvent} → IsStamped es i w → IsNumber es i
has_number p = numbered_among p.numbered

module _ (es : List Event) (bytes : List ℕ) (i j : ℕ) (r : accepted es ≡ read_log bytes) where
  pub both_known : (v w : StampedEvent) → Waits es i (Some v) → Waits es j (Some w) → Answers bytes i j (related (compared v w))
  both_known v w g h = relates (sym r) (has_number g) (has_number h) (compared_right g h)

  pub first_unknown : Waits es i None → Answers bytes i j (query_refused 16 0)
  first_unknown g = no_number (sym r) (λ u. g u.0)

  pub second_unknown : Waits es j None → Answers bytes i j (query_refused 16 0)
  second_unknown h = no_number (sym r) (λ u. h u.1)
