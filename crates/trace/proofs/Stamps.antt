-- Stamps: a stamp counts the first events of each thread, so that comparing counts tells of any two events
-- whether one comes before the other or is it.
-- Assumes nothing.
use mathlib.Core.Path.{◌≡◌, refl, sym, ap, ap₂, ◌∙◌}
use mathlib.Core.Logic.{◌⊎◌, inl, inr, ◌↔◌}
use mathlib.Core.Bool.{Bool, true, false, ◌&&◌, and-eq-true_iff}
use mathlib.Core.List.{List, ◌++◌}
use Prim.Native.Nat.{ℕ, zero, suc, ◌≤◌, ◌<◌}
use native.Mathlib.Nat.{le_antisymm}
use native.Mathlib.Decide.{dec_le}
use native.Mathlib.Omega.{arith}
use lib.Dec.{eqb, leb}
use lib.ListN.{length}
use borrow.Author.Tests.{eqb-true, eq-eqb, leb-true, le-leb}
use Rattle.trace.specs.Before.{Numbered, ComesBefore}
use Rattle.trace.specs.Stamps.{OfThreadBefore, IsStamp}
use Rattle.trace.specs.Tuples.{event_at, dep_at, thread_at, Among, Before, same, tally, place}
use Rattle.trace.proofs.Lists.{true_or_false, both_ways, same_test}
use Rattle.trace.proofs.Before.{before_le, before_dep, before_trans, before, before_true, true_before}
use Rattle.trace.proofs.Before.{before_same, Agree}
use Rattle.trace.proofs.Tallies.{tally_longer, tally_within, tally_same, how_many_lem, how_many_unique}
use Rattle.trace.proofs.Numbers.{numbered_among, numbered_at, at_numbered, event_append, dep_append}
use Rattle.trace.proofs.Numbers.{comes_before_lem, before_comes, comes_iff}

-- how many events of the thread t come before e or are it
unfoldable pub stamp : (ℕ → ℕ → Bool) → (ℕ → ℕ) → ℕ → ℕ → ℕ
stamp dep thread e t = tally (λ k. eqb (thread k) t && before dep k e) e

-- the events of a thread are dependent on each other
module _ (dep : ℕ → ℕ → Bool) (thread : ℕ → ℕ) (one_thread : (i j : ℕ) → thread i ≡ thread j → dep i j ≡ true) where
  -- those of the events of i's thread up to i come before j, where i does
  stamp_high : (i j : ℕ) → Before dep i j → place thread i ≤ stamp dep thread j (thread i)
  unfolding stamp place
  stamp_high i j b = tally_within (λ k. eqb (thread k) (thread i)) (λ k. eqb (thread k) (thread i) && before dep k j) i j inside
    where
      inside : (k : ℕ) → Among i k → eqb (thread k) (thread i) ≡ true
          → (k ≤ j) × (eqb (thread k) (thread i) && before dep k j ≡ true)
      inside k u e =
          let t = before_trans dep (before_dep dep u.1 (one_thread k i (eqb-true (thread k) (thread i) e))) b in
          (before_le dep t, (and-eq-true_iff (eqb (thread k) (thread i)) (before dep k j)).1 (e, true_before dep t))

  -- and where i does not, none from i on
  stamp_low : (i j : ℕ) → ¬ Before dep (suc i) j → stamp dep thread j (thread (suc i)) < place thread (suc i)
  unfolding stamp place
  stamp_low i j d =
      let c = tally_within (λ k. eqb (thread k) t && before dep k j) (λ k. eqb (thread k) t) j i inside in
      rw (eq-eqb t t refl) (omega arith)
    where
      t : ℕ
      t = thread (suc i)

      inside : (k : ℕ) → Among j k → eqb (thread k) t && before dep k j ≡ true → (k ≤ i) × (eqb (thread k) t ≡ true)
      inside k u h = (go (dec_le k i), r.0)
        where
          r : (eqb (thread k) t ≡ true) × (before dep k j ≡ true)
          r = (and-eq-true_iff (eqb (thread k) t) (before dep k j)).0 h

          go : Dec (k ≤ i) → k ≤ i
          go (yes v) = v
          go (no v) =
              let e : t ≡ thread k = sym (eqb-true (thread k) t r.0) in
              absurd (d (before_trans dep (before_dep dep (omega arith) (one_thread (suc i) k e)) (before_true dep k j r.1)))

  stamp_back : (i j : ℕ) → 1 ≤ i → place thread i ≤ stamp dep thread j (thread i) → Before dep i j
  stamp_back zero j l h = absurd (omega arith)
  stamp_back (suc i) j l h = go (true_or_false (before dep (suc i) j))
    where
      go : (before dep (suc i) j ≡ true) ⊎ (before dep (suc i) j ≡ false) → Before dep (suc i) j
      go (inl t) = before_true dep (suc i) j t
      go (inr f) = absurd (let c = stamp_low i j (λ b. both_ways (true_before dep b) f) in omega arith)

  -- The events of a thread that a stamp counts are the thread's first ones: those whose place is at most the count.
  pub stamp_iff : (i j : ℕ) → 1 ≤ i → Before dep i j ↔ (place thread i ≤ stamp dep thread j (thread i))
  stamp_iff i j l = (stamp_high i j, stamp_back i j l)

  -- an event's place is its own stamp's count of its thread
  pub place_stamp : (i : ℕ) → place thread i ≡ stamp dep thread i (thread i)
  unfolding stamp place
  place_stamp i =
      le_antisymm (stamp_high i i same)
      (tally_within (λ k. eqb (thread k) (thread i) && before dep k i) (λ k. eqb (thread k) (thread i)) i i inside)
    where
      inside : (k : ℕ) → Among i k → eqb (thread k) (thread i) && before dep k i ≡ true
          → (k ≤ i) × (eqb (thread k) (thread i) ≡ true)
      inside k u h = (u.1, ((and-eq-true_iff (eqb (thread k) (thread i)) (before dep k i)).0 h).0)

  -- the same as a test
  pub before_by_stamp : (i j : ℕ) → 1 ≤ i → before dep i j ≡ leb (place thread i) (stamp dep thread j (thread i))
  before_by_stamp i j l =
      let s = stamp_iff i j l in
      same_test (before dep i j) (leb (place thread i) (stamp dep thread j (thread i)))
      (λ h. le-leb (place thread i) (stamp dep thread j (thread i)) (s.0 (before_true dep i j h)))
      (λ h. true_before dep (s.1 (leb-true (place thread i) (stamp dep thread j (thread i)) h)))

-- ---- later events change no stamp

module _ {n : ℕ} {dep dep' : ℕ → ℕ → Bool} {thread thread' : ℕ → ℕ} (agree : Agree n dep dep')
    (alike : (i : ℕ) → i ≤ n → thread i ≡ thread' i) where
  pub stamp_carry : (j t : ℕ) → j ≤ n → stamp dep thread j t ≡ stamp dep' thread' j t
  unfolding stamp
  stamp_carry j t l = tally_same (λ k. eqb (thread k) t && before dep k j) (λ k. eqb (thread' k) t && before dep' k j) j each
    where
      each : (k : ℕ) → Among j k → eqb (thread k) t && before dep k j ≡ eqb (thread' k) t && before dep' k j
      each k u = rw (alike k (omega arith), before_same agree k j l)

-- and no place
pub place_carry : {n : ℕ} {thread thread' : ℕ → ℕ} → ((i : ℕ) → i ≤ n → thread i ≡ thread' i) → (i : ℕ) → i ≤ n
    → place thread i ≡ place thread' i
unfolding place
place_carry {n} {thread} {thread'} alike i l =
    tally_same (λ k. eqb (thread k) (thread i)) (λ k. eqb (thread' k) (thread' i)) i
    (λ k u. ap₂ eqb (alike k (omega arith)) (alike i l))

-- ---- stamps of a list of events

pub place_append : {E : Type 0} (other : E) (thread : E → ℕ) (log later : List E) (i : ℕ) → i ≤ length log
    → place (thread_at other thread (log ++ later)) i ≡ place (thread_at other thread log) i
place_append other thread log later i l = place_carry (λ k p. ap thread (event_append other log later k p)) i l

module _ {E : Type 0} (other : E) (dep : E → E → Bool) (thread : E → ℕ) where
  -- the stamp of event number j, at the thread t
  abbrev pub stamp_of : List E → ℕ → ℕ → ℕ
  stamp_of log j t = stamp (dep_at other dep log) (thread_at other thread log) j t

  pub stamp_append : (log later : List E) (j t : ℕ) → j ≤ length log → stamp_of (log ++ later) j t ≡ stamp_of log j t
  stamp_append log later j t l =
      stamp_carry (dep_append other dep log later) (λ i p. ap thread (event_append other log later i p)) j t l

  -- it is the specification's stamp
  pub stamp_is : (log : List E) (j t : ℕ) → Among (length log) j → IsStamp dep thread log j t (stamp_of log j t)
  unfolding stamp
  stamp_is log j t h = rw (sym up_to) (how_many_lem p (length log) decides)
    where
      p : ℕ → Bool
      p k = eqb (thread_at other thread log k) t && before (dep_at other dep log) k j

      parts : (k : ℕ) → p k ≡ true → (eqb (thread_at other thread log k) t ≡ true) × (before (dep_at other dep log) k j ≡ true)
      parts k = (and-eq-true_iff (eqb (thread_at other thread log k) t) (before (dep_at other dep log) k j)).0

      up_to : tally p (length log) ≡ tally p j
      up_to =
          le_antisymm
          (tally_within p p (length log) j
          (λ k u e. (before_le (dep_at other dep log) (before_true (dep_at other dep log) k j (parts k e).1), e)))
          (tally_longer p j (length log) h.1)

      decides : (k : ℕ) → Among (length log) k → (p k ≡ true) ↔ OfThreadBefore dep thread log j t k
      decides k u = (there, back)
        where
          there : p k ≡ true → OfThreadBefore dep thread log j t k
          there e = (
            event_at other log k,
            at_numbered other log k u,
            eqb-true (thread_at other thread log k) t (parts k e).0,
            before_comes other dep log u.0 h.1 (before_true (dep_at other dep log) k j (parts k e).1),
          )

          back : OfThreadBefore dep thread log j t k → p k ≡ true
          back r =
              let a = eq-eqb (thread_at other thread log k) t (ap thread (numbered_at other r.1) ∙ r.2) in
              let b = true_before (dep_at other dep log) (comes_before_lem other dep log r.3) in
              (and-eq-true_iff (eqb (thread_at other thread log k) t) (before (dep_at other dep log) k j)).1 (a, b)

  -- there is one only
  pub stamp_unique : (log : List E) (j t k : ℕ) → Among (length log) j → IsStamp dep thread log j t k → stamp_of log j t ≡ k
  stamp_unique log j t k h s = how_many_unique (stamp_is log j t h) s

module _ {E : Type 0} (dep : E → E → Bool) (thread : E → ℕ) (one_thread : (a b : E) → thread a ≡ thread b → dep a b ≡ true) where
  -- Comparing stamps decides "comes before or is": an event comes before event j or is it exactly where its stamp has no more
  -- of its own thread than that of j.
  pub comes_by_stamp : (log : List E) (i j : ℕ) (e : E) (a b : ℕ) → Numbered log i e → Among (length log) j
      → IsStamp dep thread log i (thread e) a → IsStamp dep thread log j (thread e) b → ComesBefore dep log i j ↔ (a ≤ b)
  comes_by_stamp log i j e a b n h sa sb = (λ x. rw (at_i, at_j) at (s.0 (c.0 x)), λ x. c.1 (s.1 (rw (at_i, at_j) x)))
    where
      one : (x y : ℕ) → thread_at e thread log x ≡ thread_at e thread log y → dep_at e dep log x y ≡ true
      one x y = one_thread (event_at e log x) (event_at e log y)

      c : ComesBefore dep log i j ↔ Before (dep_at e dep log) i j
      c = comes_iff e dep log i j (numbered_among n) h

      s : Before (dep_at e dep log) i j ↔ (place (thread_at e thread log) i ≤ stamp_of e dep thread log j (thread_at e thread log i))
      s = stamp_iff (dep_at e dep log) (thread_at e thread log) one i j (numbered_among n).0

      t : thread_at e thread log i ≡ thread e
      t = ap thread (numbered_at e n)

      at_i : place (thread_at e thread log) i ≡ a
      at_i =
          place_stamp (dep_at e dep log) (thread_at e thread log) one i
          ∙ (rw t (stamp_unique e dep thread log i (thread e) a (numbered_among n) sa))

      at_j : stamp_of e dep thread log j (thread_at e thread log i) ≡ b
      at_j = rw t (stamp_unique e dep thread log j (thread e) b h sb)
