-- Orders given one after another: from the first on, each time the one after, every order is given exactly once.
-- Assumes nothing.
use mathlib.Core.Path.{◌≡◌, refl, sym, ap, subst, ◌∙◌}
use mathlib.Core.Logic.{inl, inr}
use mathlib.Core.Option.{Option, some, none, some-injective}
use mathlib.Core.List.Memᴰ.{head}
use mathlib.Core.List.Memᴰ.{tail}
use mathlib.Core.List.{List, [], ◌∷◌, Memᴰ as Mem}
use Prim.Native.Nat.{ℕ, zero, suc, ◌+◌, ◌*◌, ◌^◌, ◌≤◌, ◌<◌}
use native.Mathlib.Nat.{suc-mul, mul_comm, mul-le-mul_right, pow-suc, pow-zero}
use native.Mathlib.Decide.{dec_lt}
use native.Mathlib.Omega.{arith}
use lib.ListN.{length}
use Rattle.trace.specs.First.{Smaller, here, later}
use Rattle.trace.proofs.First.{smaller_turned}
use Rattle.enumeration.specs.Orders.{NoLarger, FirstAmong, NextAmong, next, last, InTurn, starting, going_on, GivesAll}

-- ---- smaller lists

smaller_trans : {a b c : List ℕ} → Smaller a b → Smaller b c → Smaller a c
smaller_trans (here {i = i} l) (here {j = k} h) = here {i = i} {j = k} (omega arith)
smaller_trans (here l) (later s) = here l
smaller_trans (later s) (here h) = here h
smaller_trans (later s) (later t) = later (smaller_trans s t)

-- of two lists neither of which is larger, each is the other
no_larger_same : {a b : List ℕ} → NoLarger a b → NoLarger b a → a ≡ b
no_larger_same (inl e) h = e
no_larger_same (inr s) (inl e) = sym e
no_larger_same (inr s) (inr t) = absurd (smaller_turned s t)

-- ---- a list as a number in base b

pub rank : ℕ → List ℕ → ℕ
rank b [] = 0
rank b (x ∷ xs) = x * b ^ length xs + rank b xs

-- one more of the first digit outweighs all others
outweighs : (x y p : ℕ) → x < y → x * p + p ≤ y * p
outweighs x y p l = rw (sym (suc-mul x p)) (mul-le-mul_right p l)

pub rank_bound : (b : ℕ) (xs : List ℕ) → ((k : ℕ) → Mem k xs → k < b) → rank b xs < b ^ length xs
unfolding rank
rank_bound b [] h = rw (pow-zero b) (omega arith)
rank_bound b (x ∷ xs) h =
    let p = rank_bound b xs (λ k m. h k (tail m)) in
    let q = outweighs x b (b ^ length xs) (h x (head refl)) in
    rw (pow-suc b (length xs), mul_comm (b ^ length xs) b) (omega arith)

pub rank_smaller : (b : ℕ) {xs ys : List ℕ} → ((k : ℕ) → Mem k xs → k < b) → length xs ≡ length ys → Smaller xs ys
    → rank b xs < rank b ys
unfolding rank
rank_smaller b {xs = x ∷ xs} {ys = y ∷ ys} h e (here l) =
    let e' : length xs ≡ length ys = omega arith in
    let p = rank_bound b xs (λ k m. h k (tail m)) in
    let q = outweighs x y (b ^ length xs) l in
    rw (sym e') (omega arith)
rank_smaller b h e (later {is = xs} {js = ys} s) =
    let e' : length xs ≡ length ys = omega arith in
    let p = rank_smaller b (λ k m. h k (tail m)) e' s in
    rw (sym e') (omega arith)

-- ---- the calls

-- P: the orders, lists of n numbers up to n
module _ {P : List ℕ → Type 0} {first : List ℕ} (starts : FirstAmong P first)
    (steps : (o : List ℕ) → P o → (r : Option (List ℕ)) × NextAmong P o r) (n : ℕ)
    (sized : (o : List ℕ) → P o → (length o ≡ n) × ((k : ℕ) → Mem k o → k ≤ n)) where
  given_order : {k : ℕ} {o : List ℕ} → InTurn P k (some o) → P o
  given_order (starting f) = f.order
  given_order (going_on g (next p s least)) = p

  -- ---- a call gives one thing

  next_one : {o : List ℕ} {r s : Option (List ℕ)} → NextAmong P o r → NextAmong P o s → r ≡ s
  next_one (next {r = a} p s least) (next {r = b} q t least') = ap some (no_larger_same (least b q t) (least' a p s))
  next_one (next {r = a} p s least) (last d) = absurd (d a p s)
  next_one (last d) (next {r = b} q t least) = absurd (d b q t)
  next_one (last d) (last d') = refl

  given_one : {k : ℕ} {r s : Option (List ℕ)} → InTurn P k r → InTurn P k s → r ≡ s
  given_one (starting {o = a} f) (starting {o = b} g) = ap some (no_larger_same (f.least b g.order) (g.least a f.order))
  given_one (going_on {o = a} g m) (going_on {o = b} {r = s} h l) =
      next_one m (subst (λ c. NextAmong P c s) (sym (some-injective a b (given_one g h))) l)

  given_rising : {j k : ℕ} {a b : List ℕ} → j < k → InTurn P j (some a) → InTurn P k (some b) → Smaller a b
  given_rising {j} l g (starting f) = absurd (let e : ⊥ = omega arith in e)
  given_rising {j} {a = a} {b = b} l g (going_on {k = k} {o = o} h (next p s least)) = go (dec_lt j k) (λ i. given_rising i g h)
    where
      go : Dec (j < k) → (j < k → Smaller a o) → Smaller a b
      go (yes i) ih = smaller_trans (ih i) s
      go (no d) ih =
          let i : j ≡ k = omega arith in
          let same : a ≡ o = some-injective a o (given_one (subst (λ m. InTurn P m (some a)) i g) h) in
          subst (λ c. Smaller c b) (sym same) s

  -- ---- an order's place among all lists of numbers up to n

  place : List ℕ → ℕ
  place = rank (suc n)

  place_bound : (o : List ℕ) → P o → place o < suc n ^ n
  unfolding place
  place_bound o p = rw (sized o p).0 at (rank_bound (suc n) o (λ k m. let h = (sized o p).1 k m in omega arith))

  place_rises : {a b : List ℕ} → P a → P b → Smaller a b → place a < place b
  unfolding place
  place_rises {a} {b} p q s =
      rank_smaller (suc n) (λ k m. let h = (sized a p).1 k m in omega arith) ((sized a p).0 ∙ sym (sized b q).0) s

  -- ---- each order is given, and they end

  -- from an order that was given on, each larger one is reached
  abbrev Leads : ℕ → List ℕ → ℕ → Type 0
  Leads fuel o k = (c : List ℕ) → InTurn P k (some c) → NoLarger c o → place o ≤ fuel + place c → (k : ℕ) × InTurn P k (some o)

  reached : (fuel : ℕ) (o : List ℕ) → P o → (k : ℕ) → Leads fuel o k
  reached zero o p k c g s l = (k, subst (λ x. InTurn P k (some x)) (there s) g)
    where
      there : NoLarger c o → c ≡ o
      there (inl f) = f
      there (inr t) = absurd (let h = place_rises (given_order g) p t in omega arith)
  reached (suc fuel) o p k c g s l = by s (reached fuel o p (suc k))
    where
      go : Smaller c o → (r : Option (List ℕ)) → NextAmong P c r → Leads fuel o (suc k) → (k : ℕ) × InTurn P k (some o)
      go t none (last d) ih = absurd (d o p t)
      go t (some c') (next q u least) ih =
          let h = place_rises (given_order g) q u in
          ih c' (going_on g (next q u least)) (least o p t) (omega arith)

      by : NoLarger c o → Leads fuel o (suc k) → (k : ℕ) × InTurn P k (some o)
      by (inl f) ih = (k, subst (λ x. InTurn P k (some x)) f g)
      by (inr t) ih = let m = steps c (given_order g) in go t m.0 m.1 ih

  abbrev Ends : ℕ → ℕ → Type 0
  Ends fuel k = (c : List ℕ) → InTurn P k (some c) → suc n ^ n ≤ fuel + place c → (k : ℕ) × InTurn P k none

  ended : (fuel : ℕ) (k : ℕ) → Ends fuel k
  ended zero k c g l = absurd (let h = place_bound c (given_order g) in omega arith)
  ended (suc fuel) k c g l = let m = steps c (given_order g) in go m.0 m.1 (ended fuel (suc k))
    where
      go : (r : Option (List ℕ)) → NextAmong P c r → Ends fuel (suc k) → (k : ℕ) × InTurn P k none
      go none m ih = (suc k, going_on g m)
      go (some c') (next q u least) ih =
          let h = place_rises (given_order g) q u in
          ih c' (going_on g (next q u least)) (omega arith)

  pub gives_all : GivesAll P (InTurn P)
  gives_all =
      record {
        only = given_order;
        every = λ o p. reached (place o) o p 0 first (starting starts) (starts.least o p) (omega arith);
        once = once;
        rising = given_rising;
        ending = ended (suc n ^ n) 0 first (starting starts) (omega arith);
      }
    where
      below : {j k : ℕ} {o : List ℕ} → InTurn P j (some o) → InTurn P k (some o) → ¬ (j < k)
      below {o = o} g h l =
          let p = given_order g in
          let q = place_rises p p (given_rising l g h) in
          omega arith

      once : {j k : ℕ} {o : List ℕ} → InTurn P j (some o) → InTurn P k (some o) → j ≡ k
      once g h = let x = below g h in let y = below h g in omega arith
