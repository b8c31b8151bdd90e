-- Sets as rows of bits: the number of a set with a slot and without it, and what a row of bits picks.
-- Assumes nothing.
use Prim.Native.Nat.{ℕ, zero, suc, ◌+◌, ◌*◌, ◌-◌, ◌/◌, ◌%◌, ◌^◌, ◌<◌}
use mathlib.Core.Path.{◌≡◌, refl, sym, ap, ◌∙◌}
use mathlib.Core.Bool.{Bool, true, false, cond}
use mathlib.Core.List.Memᴰ.{head}
use mathlib.Core.List.Memᴰ.{not-nil as not-mem-nil}
use mathlib.Core.List.Memᴰ.{tail}
use mathlib.Core.List.{List, [], ◌∷◌, ◌++◌, Memᴰ as Mem}
use native.Mathlib.Nat.{mul_assoc, add-mul, pow-suc, one-mul}
use native.Mathlib.Omega.{arith}
use lib.ListN.{length, get_or, replicate}
use lib.Pow.{high, pow_pos}
use Rattle.trace.specs.Match.{Each}
use Rattle.trace.specs.Tuples.{Fitting, pick}
use Rattle.table.specs.Keeps.{set_number, listed}

-- ---- numbers of sets

pub number_below : (bs : List Bool) → set_number bs < 2 ^ length bs
number_below [] = omega arith
number_below (b ∷ bs) = let h = number_below bs in rw (pow-suc 2 (length bs)) (one b (set_number bs) (2 ^ length bs) h)
  where
    one : (b : Bool) (v p : ℕ) → v < p → cond b 1 0 + 2 * v < p * 2
    one true v p l = omega arith
    one false v p l = omega arith

-- the bits before one, that bit, and those after it
number_split : (b1 : List Bool) (b : Bool) (b2 : List Bool)
    → set_number (b1 ++ (b ∷ b2)) ≡ (cond b 1 0 + 2 * set_number b2) * 2 ^ length b1 + set_number b1
number_split [] b b2 = alone (cond b 1 0 + 2 * set_number b2)
  where
    alone : (x : ℕ) → x ≡ x * 1 + 0
    alone x = omega arith
number_split (c ∷ b1) b b2 =
    let x = cond b 1 0 + 2 * set_number b2 in
    rw (pow-suc 2 (length b1), number_split b1 b b2, sym (mul_assoc x (2 ^ length b1) 2))
    (twice (cond c 1 0) (x * 2 ^ length b1) (set_number b1))
  where
    twice : (a y v : ℕ) → a + 2 * (y + v) ≡ y * 2 + (a + 2 * v)
    twice a y v = omega arith

-- the bit of a slot
pub number_bit : (b1 : List Bool) (b : Bool) (b2 : List Bool) → set_number (b1 ++ (b ∷ b2)) / 2 ^ length b1 % 2 ≡ cond b 1 0
number_bit b1 b b2 =
    rw (number_split b1 b b2, high (cond b 1 0 + 2 * set_number b2) (length b1) (number_below b1)) (odd b (set_number b2))
  where
    odd : (b : Bool) (v : ℕ) → (cond b 1 0 + 2 * v) % 2 ≡ cond b 1 0
    odd true v = omega arith
    odd false v = omega arith

-- with the slot and without it
pub number_with : (b1 b2 : List Bool) → set_number (b1 ++ (true ∷ b2)) ≡ set_number (b1 ++ (false ∷ b2)) + 2 ^ length b1
number_with b1 b2 =
    rw (number_split b1 true b2, number_split b1 false b2) (one_power_more (2 * set_number b2) (2 ^ length b1) (set_number b1))
  where
    sums : (a c p v : ℕ) → c ≡ a + p → c + v ≡ a + v + p
    sums a c p v h = omega arith

    one_power_more : (x p v : ℕ) → (1 + x) * p + v ≡ (0 + x) * p + v + p
    one_power_more x p v = sums ((0 + x) * p) ((1 + x) * p) p v (add-mul 1 x p ∙ ends (1 * p) (x * p) ((0 + x) * p) p (one-mul p) (ap (λ (y : ℕ). y * p) (plain x)))
      where
        plain : (x : ℕ) → 0 + x ≡ x
        plain x = omega arith

        ends : (a b c p : ℕ) → a ≡ p → c ≡ b → a + b ≡ c + p
        ends a b c p h g = omega arith

-- all slots
pub number_all : (n : ℕ) → set_number (replicate n true) ≡ 2 ^ n - 1
number_all zero = refl
number_all (suc n) = let h = number_all n in let p : 0 < 2 ^ n = pow_pos n in rw (pow-suc 2 n, h) (last (2 ^ n) p)
  where
    last : (p : ℕ) → 0 < p → 1 + 2 * (p - 1) ≡ p * 2 - 1
    last p l = omega arith

-- ---- what a row of bits picks

-- a bit that is set stands within the row
pub bit_within : (bs : List Bool) (j : ℕ) → get_or bs j false ≡ true → j < length bs
bit_within [] j h = absurd (let q : ◌≡◌ {A = ℕ} 0 1 = cc in let f : ⊥ = omega arith in f)
bit_within (b ∷ bs) zero h = omega arith
bit_within (b ∷ bs) (suc j) h = let l = bit_within bs j h in omega arith

module _ {A : Type 0} where
  pub pick_all : (xs : List A) → pick (replicate (length xs) true) xs ≡ xs
  pick_all [] = refl
  pick_all (x ∷ xs) = ap (λ (l : List A). x ∷ l) (pick_all xs)

  pub pick_mem : (bs : List Bool) (xs : List A) (d : A) {m : A} → Mem m (pick bs xs)
      → (j : ℕ) × (get_or bs j false ≡ true) × (j < length xs) × (m ≡ get_or xs j d)
  pick_mem [] xs d i = absurd (not-mem-nil i)
  pick_mem (b ∷ bs) [] d i = absurd (not-mem-nil i)
  pick_mem (true ∷ bs) (x ∷ xs) d (head p) = (0, refl, omega arith, p)
  pick_mem (true ∷ bs) (x ∷ xs) d (tail i) =
      let r = pick_mem bs xs d i in
      (suc r.0, r.1, let l : r.0 < length xs = r.2 in omega arith, r.3)
  pick_mem (false ∷ bs) (x ∷ xs) d i =
      let r = pick_mem bs xs d i in
      (suc r.0, r.1, let l : r.0 < length xs = r.2 in omega arith, r.3)

  pub mem_pick : (bs : List Bool) (xs : List A) (d : A) (j : ℕ) → get_or bs j false ≡ true → j < length xs → Mem (get_or xs j d) (pick bs xs)
  mem_pick [] xs d j h l = absurd (let q : ◌≡◌ {A = ℕ} 0 1 = cc in let f : ⊥ = omega arith in f)
  mem_pick (b ∷ bs) [] d j h l = absurd (omega arith)
  mem_pick (true ∷ bs) (x ∷ xs) d zero h l = head refl
  mem_pick (false ∷ bs) (x ∷ xs) d zero h l = absurd (let q : ◌≡◌ {A = ℕ} 0 1 = cc in let f : ⊥ = omega arith in f)
  mem_pick (true ∷ bs) (x ∷ xs) d (suc j) h l = tail (mem_pick bs xs d j h (omega arith))
  mem_pick (false ∷ bs) (x ∷ xs) d (suc j) h l = mem_pick bs xs d j h (omega arith)

-- an event that was picked fits its slot
pub fitting_at : {S A : Type 0} (fits : S → A → Bool) (bs : List Bool) (ss : List S) (xs : List A) (s : S) (d : A) → length xs ≡ length ss
    → Fitting fits (pick bs ss) (pick bs xs) → (j : ℕ) → get_or bs j false ≡ true → j < length ss
    → fits (get_or ss j s) (get_or xs j d) ≡ true
fitting_at fits [] ss xs s d e f j h l = absurd (let q : ◌≡◌ {A = ℕ} 0 1 = cc in let z : ⊥ = omega arith in z)
fitting_at fits (b ∷ bs) [] xs s d e f j h l = absurd (omega arith)
fitting_at fits (b ∷ bs) (t ∷ ss) [] s d e f j h l = absurd (omega arith)
fitting_at fits (true ∷ bs) (t ∷ ss) (x ∷ xs) s d e (Each.more g f) zero h l = g
fitting_at fits (true ∷ bs) (t ∷ ss) (x ∷ xs) s d e (Each.more g f) (suc j) h l =
    fitting_at fits bs ss xs s d (omega arith) f j h (omega arith)
fitting_at fits (false ∷ bs) (t ∷ ss) (x ∷ xs) s d e f zero h l = absurd (let q : ◌≡◌ {A = ℕ} 0 1 = cc in let z : ⊥ = omega arith in z)
fitting_at fits (false ∷ bs) (t ∷ ss) (x ∷ xs) s d e f (suc j) h l = fitting_at fits bs ss xs s d (omega arith) f j h (omega arith)

-- ---- the first values of a function

pub listed_length : (n : ℕ) (f : ℕ → ℕ) → length (listed n f) ≡ n
listed_length zero f = refl
listed_length (suc n) f = ap suc (listed_length n (λ j. f (suc j)))

pub listed_at : (n : ℕ) (f : ℕ → ℕ) (j : ℕ) → j < n → get_or (listed n f) j 0 ≡ f j
listed_at zero f j l = absurd (omega arith)
listed_at (suc n) f zero l = refl
listed_at (suc n) f (suc j) l = listed_at n (λ j. f (suc j)) j (omega arith)

pub listed_same : (n : ℕ) (f g : ℕ → ℕ) → ((j : ℕ) → j < n → f j ≡ g j) → listed n f ≡ listed n g
listed_same zero f g h = refl
listed_same (suc n) f g h =
    let p : f 0 ≡ g 0 = h 0 (omega arith) in
    let q = listed_same n (λ j. f (suc j)) (λ j. g (suc j)) (λ j l. h (suc j) (omega arith)) in
    cc
