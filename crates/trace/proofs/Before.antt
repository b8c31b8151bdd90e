-- Comes before or is, over event numbers alone, with a computed twin.
-- Assumes nothing.
use mathlib.Core.Path.{◌≡◌, refl, sym, ◌∙◌}
use mathlib.Core.Logic.{◌⊎◌, inl, inr}
use mathlib.Core.Bool.{Bool, true, false, ◌||◌}
use mathlib.Core.List.Memᴰ.{head}
use mathlib.Core.List.Memᴰ.{not-nil as not-mem-nil}
use mathlib.Core.List.{List, [], Memᴰ as Mem}
use Prim.Native.Nat.{ℕ, zero, suc, ◌≤◌, ◌<◌}
use native.Mathlib.Nat.{le_refl}
use native.Mathlib.Decide.{dec_le, ℕ_discrete}
use native.Mathlib.Omega.{arith}
use lib.Dec.{eqb}
use borrow.Author.Tests.{eqb-true, eq-eqb}
use Rattle.trace.specs.Tuples.{Before, same, chain, keep}
use Rattle.trace.proofs.Lists.{both_ways, failed, same_test, any, any_true, any_mem, or_right, or_cases, keep_cases}
use Rattle.trace.proofs.Lists.{keep_old}

module _ (dep : ℕ → ℕ → Bool) where
  pub before_le : {i j : ℕ} → Before dep i j → i ≤ j
  before_le same = le_refl _
  before_le (chain b l d) = let h = before_le b in omega arith

  pub before_cases : {i j : ℕ} → Before dep i j → (i ≡ j) ⊎ ((k : ℕ) × Before dep i k × (k < j) × (dep k j ≡ true))
  before_cases same = inl refl
  before_cases (chain {k = k} b l d) = inr (k, b, l, d)

  pub before_trans : {i j k : ℕ} → Before dep i j → Before dep j k → Before dep i k
  before_trans p same = p
  before_trans p (chain q l d) = chain (before_trans p q) l d

  pub before_one : {i j : ℕ} → i < j → dep i j ≡ true → Before dep i j
  before_one l d = chain same l d

  before_eq : {i j : ℕ} → i ≡ j → Before dep i j
  before_eq e = rw e same

  -- dependent events stand as they were recorded
  pub before_dep : {i j : ℕ} → i ≤ j → dep i j ≡ true → Before dep i j
  before_dep {i} {j} l d = go (ℕ_discrete i j)
    where
      go : Dec (i ≡ j) → Before dep i j
      go (yes e) = before_eq e
      go (no n) = before_one (omega arith) d

  -- those of the numbers up to n that i comes before or is
  abbrev pub after : ℕ → ℕ → List ℕ
  after i zero = keep (eqb i zero) zero []
  after i (suc n) = let r = after i n in keep (eqb i (suc n) || any (λ k. dep k (suc n)) r) (suc n) r

  after_sound : (i n : ℕ) {j : ℕ} → Mem j (after i n) → Before dep i j × (j ≤ n)
  after_sound i zero {j} m = go (keep_cases (eqb i zero) m)
    where
      go : ((j ≡ zero) × (eqb i zero ≡ true)) ⊎ Mem j [] → Before dep i j × (j ≤ zero)
      go (inl e) = (before_eq (eqb-true i zero e.1 ∙ sym e.0), omega arith)
      go (inr m') = absurd (not-mem-nil m')
  after_sound i (suc n) {j} m =
      go (keep_cases (eqb i (suc n) || any (λ k. dep k (suc n)) (after i n)) m) (λ k m. after_sound i n {j = k} m)
    where
      new : (eqb i (suc n) ≡ true) ⊎ (any (λ k. dep k (suc n)) (after i n) ≡ true)
          → ((k : ℕ) → Mem k (after i n) → Before dep i k × (k ≤ n)) → Before dep i (suc n)
      new (inl e) ih = before_eq (eqb-true i (suc n) e)
      new (inr t) ih =
          let r = any_true (λ k. dep k (suc n)) (after i n) t in
          let b = ih r.0 r.1 in
          chain {j = suc n} b.0 (omega arith) r.2

      go : ((j ≡ suc n) × (eqb i (suc n) || any (λ k. dep k (suc n)) (after i n) ≡ true)) ⊎ Mem j (after i n)
          → ((k : ℕ) → Mem k (after i n) → Before dep i k × (k ≤ n)) → Before dep i j × (j ≤ suc n)
      go (inl e) ih = (rw e.0 (new (or_cases (eqb i (suc n)) e.1) ih), omega arith)
      go (inr m') ih = let b = ih j m' in (b.0, omega arith)

  after_complete : {i j : ℕ} (n : ℕ) → j ≤ n → Before dep i j → Mem j (after i n)
  after_complete {i} {j} zero l b =
      let g = before_le b in
      let ei : i ≡ zero = omega arith in
      let ej : j ≡ zero = omega arith in
      rw (ei, ej) (head refl)
  after_complete {i} {j} (suc n) l b = go (dec_le j n) (λ k h c. after_complete {j = k} n h c)
    where
      last : (i ≡ suc n) ⊎ ((k : ℕ) × Before dep i k × (k < suc n) × (dep k (suc n) ≡ true))
          → ((k : ℕ) → k ≤ n → Before dep i k → Mem k (after i n)) → eqb i (suc n) || any (λ k. dep k (suc n)) (after i n) ≡ true
      last (inl e) ih = rw (e, eq-eqb (suc n) (suc n) refl)
      last (inr r) ih = or_right (eqb i (suc n)) (any_mem (λ k. dep k (suc n)) (after i n) (ih r.0 (omega arith) r.1) r.3)

      go : Dec (j ≤ n) → ((k : ℕ) → k ≤ n → Before dep i k → Mem k (after i n)) → Mem j (after i (suc n))
      go (yes h) ih = keep_old (suc n) (eqb i (suc n) || any (λ k. dep k (suc n)) (after i n)) (ih j h b)
      go (no d) ih =
          let e : j ≡ suc n = omega arith in
          rw (last (before_cases (rw e at b)) ih) (head e)

  -- whether i comes before j or is j
  unfoldable pub before : ℕ → ℕ → Bool
  before i j = any (λ k. eqb k j) (after i j)

  pub before_true : (i j : ℕ) → before i j ≡ true → Before dep i j
  unfolding before
  before_true i j h =
      let r = any_true (λ k. eqb k j) (after i j) h in
      rw (sym (eqb-true r.0 j r.2)) (after_sound i j r.1).0

  pub true_before : {i j : ℕ} → Before dep i j → before i j ≡ true
  unfolding before
  true_before {i} {j} b = any_mem (λ k. eqb k j) (after i j) (after_complete j (le_refl j) b) (eq-eqb j j refl)

  pub before_false : {i j : ℕ} → before i j ≡ false → ¬ Before dep i j
  before_false f b = both_ways (true_before b) f

  pub false_before : {i j : ℕ} → ¬ Before dep i j → before i j ≡ false
  false_before {i} {j} h = failed (before i j) (λ t. h (before_true i j t))

-- two dependences that agree on the numbers up to n
abbrev pub Agree : ℕ → (ℕ → ℕ → Bool) → (ℕ → ℕ → Bool) → Type 0
Agree n dep dep' = (i j : ℕ) → i ≤ n → j ≤ n → dep i j ≡ dep' i j

pub agree_back : {n : ℕ} {dep dep' : ℕ → ℕ → Bool} → Agree n dep dep' → Agree n dep' dep
agree_back agree i j p q = sym (agree i j p q)

pub before_carry : {n : ℕ} {dep dep' : ℕ → ℕ → Bool} → Agree n dep dep' → {i j : ℕ} → j ≤ n → Before dep i j → Before dep' i j
before_carry agree h same = same
before_carry agree h (chain {k = k} {j = j} b l d) =
    chain (before_carry agree (omega arith) b) l (sym (agree k j (omega arith) h) ∙ d)

pub before_same : {n : ℕ} {dep dep' : ℕ → ℕ → Bool} → Agree n dep dep' → (i j : ℕ) → j ≤ n → before dep i j ≡ before dep' i j
before_same {dep = dep} {dep' = dep'} agree i j h =
    same_test (before dep i j) (before dep' i j)
    (λ t. true_before dep' (before_carry agree h (before_true dep i j t)))
    (λ t. true_before dep (before_carry (agree_back agree) h (before_true dep' i j t)))
