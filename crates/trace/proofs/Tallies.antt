-- How many of the numbers 1 to n pass a test, and the highest value at those that do.
-- Assumes nothing.
use mathlib.Core.Path.{◌≡◌, refl, ap, ◌∙◌}
use mathlib.Core.Logic.{◌⊎◌, inl, inr, ◌↔◌}
use mathlib.Core.Bool.{Bool, true, false, ◌||◌}
use mathlib.Core.List.{List, [], ◌∷◌}
use Prim.Native.Nat.{ℕ, zero, suc, ◌≤◌, max}
use native.Mathlib.Nat.{le_refl, le_trans}
use native.Mathlib.Decide.{dec_le}
use native.Mathlib.Omega.{arith}
use Rattle.trace.specs.Stamps.{HowMany}
use Rattle.trace.specs.Tuples.{Among, one_more, tally}
use Rattle.trace.proofs.Lists.{true_or_false, both_ways, any}

-- ---- how many

pub tally_longer : (p : ℕ → Bool) (m n : ℕ) → m ≤ n → tally p m ≤ tally p n
tally_longer p m zero l = let e : m ≡ zero = omega arith in rw e (le_refl 0)
tally_longer p m (suc n) l = go (dec_le m n) (λ h. tally_longer p m n h)
  where
    over : (b : Bool) (n : ℕ) → n ≤ one_more b n
    over true n = omega arith
    over false n = omega arith

    go : Dec (m ≤ n) → (m ≤ n → tally p m ≤ tally p n) → tally p m ≤ tally p (suc n)
    go (yes h) ih = le_trans (ih h) (over (p (suc n)) (tally p n))
    go (no d) ih = let e : m ≡ suc n = omega arith in rw e (le_refl (tally p (suc n)))

-- what passes one test up to n passes the other up to m: no more pass the first than the second
pub tally_within : (p q : ℕ → Bool) (n m : ℕ) → ((k : ℕ) → Among n k → p k ≡ true → (k ≤ m) × (q k ≡ true))
    → tally p n ≤ tally q m
tally_within p q zero m h = omega arith
tally_within p q (suc n) m h = go (true_or_false (p (suc n))) (λ m' h'. tally_within p q n m' h')
  where
    go : (p (suc n) ≡ true) ⊎ (p (suc n) ≡ false)
        → ((m' : ℕ) → ((k : ℕ) → Among n k → p k ≡ true → (k ≤ m') × (q k ≡ true)) → tally p n ≤ tally q m')
        → tally p (suc n) ≤ tally q m
    go (inl t) ih =
        let r = h (suc n) (omega arith) t in
        let a = ih n (λ k u e. (u.1, (h k (omega arith) e).1)) in
        let b = rw r.1 at (tally_longer q (suc n) m r.0) in
        rw t (omega arith)
    go (inr f) ih = rw f (ih m (λ k u e. h k (omega arith) e))

pub tally_same : (p q : ℕ → Bool) (n : ℕ) → ((k : ℕ) → Among n k → p k ≡ q k) → tally p n ≡ tally q n
tally_same p q zero h = refl
tally_same p q (suc n) h = rw (h (suc n) (omega arith), tally_same p q n (λ k u. h k (omega arith)))

-- the last number that passes the test
pub last_of : (p : ℕ → Bool) (n : ℕ) → (tally p n ≡ zero) ⊎ ((m : ℕ) × Among n m × (p m ≡ true) × (tally p n ≡ tally p m))
last_of p zero = inl refl
last_of p (suc n) = go (true_or_false (p (suc n))) (last_of p n)
  where
    go : (p (suc n) ≡ true) ⊎ (p (suc n) ≡ false)
        → (tally p n ≡ zero) ⊎ ((m : ℕ) × Among n m × (p m ≡ true) × (tally p n ≡ tally p m))
        → (tally p (suc n) ≡ zero) ⊎ ((m : ℕ) × Among (suc n) m × (p m ≡ true) × (tally p (suc n) ≡ tally p m))
    go (inl t) ih = inr (suc n, omega arith, t, refl)
    go (inr f) (inl z) = inl (rw f z)
    go (inr f) (inr r) = inr (r.0, omega arith, r.2, rw f r.3)

-- the specification's `HowMany` is this count, where the test decides the property
module _ {P : ℕ → Type 0} where
  pub how_many_lem : (p : ℕ → Bool) (n : ℕ) → ((k : ℕ) → Among n k → (p k ≡ true) ↔ P k) → HowMany P n (tally p n)
  how_many_lem p zero h = HowMany.none
  how_many_lem p (suc n) h = go (true_or_false (p (suc n))) (how_many_lem p n (λ k u. h k (omega arith)))
    where
      at : (p (suc n) ≡ true) ↔ P (suc n)
      at = h (suc n) (omega arith)

      go : (p (suc n) ≡ true) ⊎ (p (suc n) ≡ false) → HowMany P n (tally p n) → HowMany P (suc n) (tally p (suc n))
      go (inl t) ih = rw t (HowMany.one (at.0 t) ih)
      go (inr f) ih = rw f (HowMany.not_one (λ x. both_ways (at.1 x) f) ih)

  pub how_many_unique : {n a b : ℕ} → HowMany P n a → HowMany P n b → a ≡ b
  how_many_unique HowMany.none HowMany.none = refl
  how_many_unique (HowMany.one x h) (HowMany.one y g) = ap suc (how_many_unique h g)
  how_many_unique (HowMany.one x h) (HowMany.not_one y g) = absurd (y x)
  how_many_unique (HowMany.not_one x h) (HowMany.one y g) = absurd (x y)
  how_many_unique (HowMany.not_one x h) (HowMany.not_one y g) = how_many_unique h g

-- ---- the highest

-- the higher of the two if the test is passed
abbrev pub raise : Bool → ℕ → ℕ → ℕ
raise true a b = max a b
raise false a b = b

-- the highest value at the numbers 1 to n that pass the test; 0 where none passes
abbrev pub highest : (ℕ → Bool) → (ℕ → ℕ) → ℕ → ℕ
highest c g zero = zero
highest c g (suc n) = raise (c (suc n)) (g (suc n)) (highest c g n)

pub highest_le : (c : ℕ → Bool) (g : ℕ → ℕ) (b n : ℕ) → ((k : ℕ) → Among n k → c k ≡ true → g k ≤ b) → highest c g n ≤ b
highest_le c g b zero h = omega arith
highest_le c g b (suc n) h = go (true_or_false (c (suc n))) (highest_le c g b n (λ k u e. h k (omega arith) e))
  where
    go : (c (suc n) ≡ true) ⊎ (c (suc n) ≡ false) → highest c g n ≤ b → highest c g (suc n) ≤ b
    go (inl t) ih = let a = h (suc n) (omega arith) t in rw t (omega arith)
    go (inr f) ih = rw f ih

pub highest_ge : (c : ℕ → Bool) (g : ℕ → ℕ) (n k : ℕ) → Among n k → c k ≡ true → g k ≤ highest c g n
highest_ge c g zero k u e = absurd (omega arith)
highest_ge c g (suc n) k u e = go (dec_le k n) (λ v. highest_ge c g n k v e)
  where
    over : (b : Bool) (a m : ℕ) → m ≤ raise b a m
    over true a m = omega arith
    over false a m = omega arith

    go : Dec (k ≤ n) → (Among n k → g k ≤ highest c g n) → g k ≤ highest c g (suc n)
    go (yes v) ih = le_trans (ih (omega arith)) (over (c (suc n)) (g (suc n)) (highest c g n))
    go (no d) ih = let p : k ≡ suc n = omega arith in rw (p, rw p at e) (omega arith)

pub highest_same : (c c' : ℕ → Bool) (g g' : ℕ → ℕ) (n : ℕ) → ((k : ℕ) → Among n k → (c k ≡ c' k) × (g k ≡ g' k))
    → highest c g n ≡ highest c' g' n
highest_same c c' g g' zero h = refl
highest_same c c' g g' (suc n) h =
    let r = h (suc n) (omega arith) in
    rw (r.0, r.1, highest_same c c' g g' n (λ k u. h k (omega arith)))

-- the highest of a row of values
abbrev pub join : {C : Type 0} → (C → ℕ) → List C → ℕ
join f [] = zero
join f (c ∷ cs) = max (f c) (join f cs)

highest_or : (c d : ℕ → Bool) (g : ℕ → ℕ) (n : ℕ) → highest (λ k. c k || d k) g n ≡ max (highest c g n) (highest d g n)
highest_or c d g zero = refl
highest_or c d g (suc n) = go (c (suc n)) (d (suc n)) (highest c g n) (highest d g n) (highest_or c d g n)
  where
    go : (a b : Bool) (y z : ℕ) {x : ℕ} → x ≡ max y z
        → raise (a || b) (g (suc n)) x ≡ max (raise a (g (suc n)) y) (raise b (g (suc n)) z)
    go true true y z e = omega arith
    go true false y z e = omega arith
    go false true y z e = omega arith
    go false false y z e = e

highest_none : (g : ℕ → ℕ) (n : ℕ) → highest (λ k. false) g n ≡ zero
highest_none g zero = refl
highest_none g (suc n) = highest_none g n

-- the highest over what passes any of a row of tests is the highest over the row
pub highest_any : {C : Type 0} (p : ℕ → C → Bool) (g : ℕ → ℕ) (n : ℕ) (cs : List C)
    → highest (λ k. any (p k) cs) g n ≡ join (λ c. highest (λ k. p k c) g n) cs
highest_any p g n [] = highest_none g n
highest_any p g n (c ∷ cs) =
    highest_or (λ k. p k c) (λ k. any (p k) cs) g n ∙ ap (max (highest (λ k. p k c) g n)) (highest_any p g n cs)
