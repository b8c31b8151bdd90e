-- Comparing two stamped events of a log decides which of the four is so; later events change no stamped event.
-- Assumes nothing.
use Prim.Native.Nat.{ℕ, ◌≤◌}
use native.Mathlib.Nat.{le_refl}
use mathlib.Core.Path.{◌≡◌, refl, sym, ap, subst, ◌∙◌}
use mathlib.Core.Logic.{◌⊎◌, inl, inr, ◌↔◌}
use mathlib.Core.Bool.{true, and-eq-true_iff}
use mathlib.Core.List.{List, ◌++◌}
use lib.ListN.{get_or}
use borrow.Author.Tests.{eqb-true, eq-eqb, lt-ltb, le-leb, leb-true}
use Rattle.event.specs.declared.Event.{Event}
use Rattle.event.proofs.Tests.{by_test}
use Rattle.trace.specs.Before.{Numbered}
use Rattle.trace.proofs.Numbers.{numbered_among, numbered_append, numbered_at}
use Rattle.trace.proofs.Stamps.{stamp_unique, comes_by_stamp}
use Rattle.dependence.specs.Dependence.{dependent}
use Rattle.dependence.specs.Order.{ComesBefore, thread_of, IsStamp}
use Rattle.dependence.proofs.Dependent.{one_thread}
use Rattle.clock.proofs.Later.{entry_stays}
use Rattle.relation.specs.declared.StampedEvent.{StampedEvent}
use Rattle.relation.specs.declared.Relation.TheVariants.{Same, Before}
use Rattle.relation.specs.Relation.{Relates, IsStamped}
use Rattle.relation.specs.Compared.{one_event, comes_before, compared}
use Rattle.relation.proofs.Relations.{comes_both, by_three, yes_is_same_or_before}

-- an event has one count of a thread in its stamp
one_entry : {log : List Event} {i t m n : ℕ} {e : Event} → Numbered log i e → IsStamp log i t m → IsStamp log i t n → m ≡ n
one_entry {log} {i} {t} {m} {n} {e} x p q =
    sym (stamp_unique e dependent thread_of log i t m (numbered_among x) p) ∙ stamp_unique e dependent thread_of log i t n (numbered_among x) q

module _ {log : List Event} {i j : ℕ} {a b : StampedEvent} (p : IsStamped log i a) (q : IsStamped log j b) where
  -- The count of i's own thread in i's stamp is its place there; i comes before j or is it exactly where j's stamp counts that far.
  pub comes_by_place : (comes_before a.thread a.place b.stamp ≡ true) ↔ ComesBefore log i j
  comes_by_place = rw (p.thread, lt-ltb _ _ p.known) (λ x. c.1 (leb-true _ _ x), λ x. le-leb _ _ (c.0 x))
    where
      c : ComesBefore log i j ↔ (a.place ≤ get_or b.stamp.at p.event.thread 0)
      c =
          comes_by_stamp dependent thread_of one_thread log i j p.event a.place _ p.numbered (numbered_among q.numbered) p.place
          (q.stamp p.event.thread p.known)

  -- where the two have one thread and one place, the one comes before the other or is it
  by_one_place : a.thread ≡ b.thread → a.place ≡ b.place → ComesBefore log i j
  by_one_place t l = comes_by_place.0 (rw (t, q.thread, lt-ltb _ _ q.known) (le-leb a.place (get_or b.stamp.at q.event.thread 0) reaches))
    where
      own : b.place ≡ get_or b.stamp.at q.event.thread 0
      own = one_entry q.numbered q.place (q.stamp q.event.thread q.known)

      reaches : a.place ≤ get_or b.stamp.at q.event.thread 0
      reaches = subst (λ (n : ℕ). a.place ≤ n) (l ∙ own) (le_refl a.place)

-- "same for one event asked twice": one thread and one place in it tell one event
pub one_event_iff : {log : List Event} {i j : ℕ} {a b : StampedEvent} → IsStamped log i a → IsStamped log j b → (one_event a b ≡ true) ↔ (i ≡ j)
one_event_iff {log} {i} {j} {a} {b} p q = (there, back)
  where
    there : one_event a b ≡ true → i ≡ j
    there e =
        let h = (and-eq-true_iff _ _).0 e in
        let t = eqb-true _ _ h.0 in
        let l = eqb-true _ _ h.1 in
        comes_both log (by_one_place p q t l) (by_one_place q p (sym t) (sym l))

    back : i ≡ j → one_event a b ≡ true
    back e = (and-eq-true_iff _ _).1 (eq-eqb _ _ t, eq-eqb _ _ l)
      where
        n : Numbered log i q.event
        n = subst (λ (k : ℕ). Numbered log k q.event) (sym e) q.numbered

        one : p.event ≡ q.event
        one = sym (numbered_at p.event p.numbered) ∙ numbered_at p.event n

        t : a.thread ≡ b.thread
        t = p.thread ∙ ap thread_of one ∙ sym q.thread

        l : a.place ≡ b.place
        l = one_entry p.numbered p.place (rw (e, one) q.place)

-- the comparison is right for every two stamped events of a log
pub compared_right : {log : List Event} {i j : ℕ} {a b : StampedEvent} → IsStamped log i a → IsStamped log j b → Relates log i j (compared a b)
compared_right {log} p q = by_three log _ _ _ (one_event_iff p q) (comes_by_place p q) (comes_by_place q p)

-- "The old yes is exactly "same or before"", of the comparison that answered yes or no
pub yes_by_stamps : {log : List Event} {i j : ℕ} {a b : StampedEvent} → IsStamped log i a → IsStamped log j b
    → (comes_before a.thread a.place b.stamp ≡ true) ↔ ((compared a b ≡ Same) ⊎ (compared a b ≡ Before))
yes_by_stamps {log} {i} {j} {a} {b} p q = (there, back)
  where
    there : comes_before a.thread a.place b.stamp ≡ true → (compared a b ≡ Same) ⊎ (compared a b ≡ Before)
    there t = by_test (one_event a b) (λ e. inl (rw e refl)) (λ e. inr (rw (e, t) refl))

    back : (compared a b ≡ Same) ⊎ (compared a b ≡ Before) → comes_before a.thread a.place b.stamp ≡ true
    back (inl h) = (comes_by_place p q).1 ((yes_is_same_or_before log p.numbered).1 (inl (subst (Relates log i j) h (compared_right p q))))
    back (inr h) = (comes_by_place p q).1 (subst (Relates log i j) h (compared_right p q)).0

-- events that follow change nothing of it
pub stamped_stays : (log later : List Event) {i : ℕ} {s : StampedEvent} → IsStamped log i s → IsStamped (log ++ later) i s
stamped_stays log later {i} {s} p =
    record {
      event = p.event;
      numbered = numbered_append later p.numbered;
      thread = p.thread;
      known = p.known;
      place = entry_stays log later i p.event.thread s.place p.event p.numbered p.place;
      stamp = λ t low. entry_stays log later i t _ p.event p.numbered (p.stamp t low);
    }
