-- The clock of a channel: what the definition says of it, and the clock that is kept up as events arrive, are one.
-- Assumes nothing.
use Prim.Native.Nat.{ℕ, zero, suc, ◌≤◌}
use mathlib.Core.Path.{◌≡◌, refl, ap, ◌∙◌}
use mathlib.Core.Logic.{◌⊎◌, inl, inr}
use mathlib.Core.Bool.{Bool, true, false, ◌&&◌}
use mathlib.Core.List.{List}
use native.Mathlib.Nat.{le_refl, le_trans, le_antisymm}
use native.Mathlib.Decide.{dec_le}
use native.Mathlib.Omega.{arith}
use lib.Dec.{eqb}
use lib.ListN.{length}
use Rattle.event.specs.declared.Event.{Event}
use Rattle.trace.specs.Tuples.{event_at, dep_at, thread_at, Among, one_more, tally}
use Rattle.trace.proofs.Before.{before}
use Rattle.trace.proofs.Lists.{true_or_false}
use Rattle.trace.proofs.Numbers.{numbered_among, numbered_at, at_numbered}
use Rattle.trace.proofs.Tallies.{highest, highest_le, highest_ge}
use Rattle.trace.proofs.Stamps.{stamp, stamp_of, stamp_is, stamp_unique}
use Rattle.trace.proofs.Channels.{clock}
use Rattle.dependence.specs.Dependence.{dependent}
use Rattle.dependence.specs.Order.{thread_of}
use Rattle.dependence.specs.Channels.{Channel, tells}
use Rattle.clock.specs.Arrivals.{Told, IsClock}

-- a count of the numbers 1 to n is at most n
tally_le : (p : ℕ → Bool) (n : ℕ) → tally p n ≤ n
tally_le p zero = le_refl 0
tally_le p (suc n) = go (p (suc n)) (tally_le p n)
  where
    go : (b : Bool) → tally p n ≤ n → one_more b (tally p n) ≤ suc n
    go true l = omega arith
    go false l = omega arith

-- the highest value is 0, or one of those at the numbers that pass the test
highest_reached : (c : ℕ → Bool) (g : ℕ → ℕ) (n : ℕ)
    → (highest c g n ≡ 0) ⊎ ((k : ℕ) × Among n k × (c k ≡ true) × (highest c g n ≡ g k))
highest_reached c g zero = inl refl
highest_reached c g (suc n) = go (true_or_false (c (suc n))) (dec_le (highest c g n) (g (suc n))) (highest_reached c g n)
  where
    go : (c (suc n) ≡ true) ⊎ (c (suc n) ≡ false) → Dec (highest c g n ≤ g (suc n))
        → (highest c g n ≡ 0) ⊎ ((k : ℕ) × Among n k × (c k ≡ true) × (highest c g n ≡ g k))
        → (highest c g (suc n) ≡ 0) ⊎ ((k : ℕ) × Among (suc n) k × (c k ≡ true) × (highest c g (suc n) ≡ g k))
    go (inl h) (yes l) r = inr (suc n, omega arith, h, rw h (omega arith))
    go (inl h) (no d) (inl z) = absurd (d (omega arith))
    go (inl h) (no d) (inr r) = inr (r.0, omega arith, r.2, rw h (let e = r.3 in omega arith))
    go (inr h) l (inl z) = inl (rw h z)
    go (inr h) l (inr r) = inr (r.0, omega arith, r.2, rw h r.3)

module _ (other : Event) (log : List Event) (c : Channel) (t : ℕ) where
  -- the clock that is kept up as events arrive
  abbrev pub kept : ℕ
  kept = clock other dependent thread_of tells log c t

  abbrev telling : ℕ → Bool
  telling k = tells (event_at other log k) c

  abbrev stamp_at : ℕ → ℕ
  stamp_at k = stamp_of other dependent thread_of log k t

  pub kept_le : kept ≤ length log
  unfolding clock stamp
  kept_le = highest_le telling stamp_at (length log) (length log) (λ k u h. le_trans (tally_le (λ i. eqb (thread_at other thread_of log i) t && before (dep_at other dependent log) i k) k) u.1)

  kept_high : (n : ℕ) → Told log c t n → n ≤ kept
  unfolding clock
  kept_high n d =
      let u = numbered_among d.2 in
      let p : stamp_at d.0 ≡ n = stamp_unique other dependent thread_of log d.0 t n u d.4 in
      rw p at (highest_ge telling stamp_at (length log) d.0 u (ap (λ (a : Event). tells a c) (numbered_at other d.2) ∙ d.3))

  told_at : (k : ℕ) → Among (length log) k → telling k ≡ true → Told log c t (stamp_at k)
  told_at k u h = (k, event_at other log k, at_numbered other log k u, h, stamp_is other dependent thread_of log k t u)

  pub kept_is : IsClock log c t kept
  unfolding clock
  kept_is =
      record {
        reached = go (highest_reached telling stamp_at (length log));
        highest = kept_high;
      }
    where
      go : (kept ≡ 0) ⊎ ((k : ℕ) × Among (length log) k × (telling k ≡ true) × (kept ≡ stamp_at k))
          → (kept ≡ 0) ⊎ Told log c t kept
      go (inl z) = inl z
      go (inr r) = inr (rw r.3 (told_at r.0 r.1 r.2))

  -- there is one only
  pub kept_unique : (n : ℕ) → IsClock log c t n → n ≡ kept
  unfolding clock
  kept_unique n h =
      le_antisymm (go h.reached)
      (highest_le telling stamp_at n (length log) (λ k u e. h.highest (stamp_at k) (told_at k u e)))
    where
      go : (n ≡ 0) ⊎ Told log c t n → n ≤ kept
      go (inl z) = omega arith
      go (inr d) = kept_high n d
