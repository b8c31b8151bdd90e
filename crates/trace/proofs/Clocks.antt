-- The stamp of a new event from the stamps of the events before it that it depends on.
-- Assumes nothing.
use mathlib.Core.Path.{◌≡◌, sym, ◌∙◌}
use mathlib.Core.Logic.{◌⊎◌, inl, inr}
use mathlib.Core.Bool.{Bool, true, ◌&&◌, and-true, and-eq-true_iff}
use Prim.Native.Nat.{ℕ, zero, suc, ◌≤◌, ◌<◌}
use native.Mathlib.Nat.{le_trans, le_antisymm}
use native.Mathlib.Omega.{arith}
use lib.Dec.{eqb}
use borrow.Author.Tests.{eqb-true, eq-eqb}
use Rattle.trace.specs.Tuples.{Among, Before, same, one_more, tally}
use Rattle.trace.proofs.Before.{before_le, before_one, before_dep, before_trans, before_cases, before}
use Rattle.trace.proofs.Before.{before_true, true_before}
use Rattle.trace.proofs.Tallies.{tally_within, last_of, highest, highest_le, highest_ge}
use Rattle.trace.proofs.Stamps.{stamp}

module _ (dep : ℕ → ℕ → Bool) (thread : ℕ → ℕ) (one_thread : (i j : ℕ) → thread i ≡ thread j → dep i j ≡ true) (n t : ℕ) where
  -- the events of the thread t, before the new one, that come before it
  abbrev early : ℕ → Bool
  early k = eqb (thread k) t && before dep k (suc n)

  early_parts : (k : ℕ) → early k ≡ true → (thread k ≡ t) × Before dep k (suc n)
  early_parts k h =
      let r = (and-eq-true_iff (eqb (thread k) t) (before dep k (suc n))).0 h in
      (eqb-true (thread k) t r.0, before_true dep k (suc n) r.1)

  -- the last of them comes before, or is, an event that the new one depends on: the stamp of that has all of them
  early_high : tally early n ≤ highest (λ k. dep k (suc n)) (λ k. stamp dep thread k t) n
  unfolding stamp
  early_high = go (last_of early n)
    where
      inside : (m x : ℕ) → thread m ≡ t → Before dep m x → (k : ℕ) → Among m k → early k ≡ true
          → (k ≤ x) × (eqb (thread k) t && before dep k x ≡ true)
      inside m x e b k u h =
          let p = early_parts k h in
          let c = before_trans dep (before_dep dep u.1 (one_thread k m (p.0 ∙ sym e))) b in
          (before_le dep c, (and-eq-true_iff (eqb (thread k) t) (before dep k x)).1 (eq-eqb (thread k) t p.0, true_before dep c))

      reach : (m : ℕ) → Among n m → thread m ≡ t → (m ≡ suc n) ⊎ ((k : ℕ) × Before dep m k × (k < suc n) × (dep k (suc n) ≡ true))
          → tally early m ≤ highest (λ k. dep k (suc n)) (λ k. stamp dep thread k t) n
      reach m u e (inl p) = absurd (omega arith)
      reach m u e (inr r) =
          let h = before_le dep r.1 in
          let a = tally_within early (λ k. eqb (thread k) t && before dep k r.0) m r.0 (inside m r.0 e r.1) in
          let b = highest_ge (λ k. dep k (suc n)) (λ k. stamp dep thread k t) n r.0 (omega arith) r.3 in
          le_trans a b

      go : (tally early n ≡ zero) ⊎ ((m : ℕ) × Among n m × (early m ≡ true) × (tally early n ≡ tally early m))
          → tally early n ≤ highest (λ k. dep k (suc n)) (λ k. stamp dep thread k t) n
      go (inl z) = omega arith
      go (inr r) = let p = early_parts r.0 r.2 in rw r.3 (reach r.0 r.1 p.0 (before_cases dep p.1))

  -- what comes before an event that the new one depends on comes before the new one
  early_low : highest (λ k. dep k (suc n)) (λ k. stamp dep thread k t) n ≤ tally early n
  unfolding stamp
  early_low = highest_le (λ k. dep k (suc n)) (λ k. stamp dep thread k t) (tally early n) n below
    where
      inside : (m : ℕ) → m ≤ n → dep m (suc n) ≡ true → (k : ℕ) → Among m k → eqb (thread k) t && before dep k m ≡ true
          → (k ≤ n) × (early k ≡ true)
      inside m u d k v h =
          let r = (and-eq-true_iff (eqb (thread k) t) (before dep k m)).0 h in
          let c = before_trans dep (before_true dep k m r.1) (before_one dep (omega arith) d) in
          (omega arith, (and-eq-true_iff (eqb (thread k) t) (before dep k (suc n))).1 (r.0, true_before dep c))

      below : (m : ℕ) → Among n m → dep m (suc n) ≡ true → stamp dep thread m t ≤ tally early n
      below m u d = tally_within (λ k. eqb (thread k) t && before dep k m) early m n (inside m u.1 d)

  -- Of each thread as much as the stamps of the events that it depends on have, and one more of its own.
  pub stamp_new :
      stamp dep thread (suc n) t ≡ one_more (eqb (thread (suc n)) t) (highest (λ k. dep k (suc n)) (λ k. stamp dep thread k t) n)
  unfolding stamp
  stamp_new = rw (true_before dep (same {i = suc n}), and-true (eqb (thread (suc n)) t), le_antisymm early_high early_low)
