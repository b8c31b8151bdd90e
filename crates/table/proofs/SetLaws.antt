-- The sets of slots by their numbers: those without a slot in their order, and the rows of the sets within the table.
-- Assumes nothing.
use Prim.Native.Nat.{ℕ, zero, suc, ◌+◌, ◌*◌, ◌-◌, ◌/◌, ◌%◌, ◌^◌, ◌≤◌, ◌<◌}
use mathlib.Core.Path.{◌≡◌, ap, ◌∙◌}
use mathlib.Core.Bool.{true, false≢true}
use mathlib.Core.List.{List}
use native.Mathlib.Omega.{arith}
use lib.Dec.{leb}
use lib.Pow.{pow_pos, pow_mono, pow-add}
use borrow.Author.Tests.{leb-true}
use Rattle.event.specs.Limits.{slots}
use Rattle.event.proofs.Tests.{by_test}
use Rattle.table.specs.Sets.{sets, width, size, row_of, spread}
use Rattle.table.specs.Table.{found_in}

-- what holds at each slot
pub at_slots : (P : ℕ → Type 0) (k : ℕ) → k < slots → P 0 → P 1 → P 2 → P 3 → P 4 → P k
at_slots P zero l a b c d e = a
at_slots P (suc zero) l a b c d e = b
at_slots P (suc (suc zero)) l a b c d e = c
at_slots P (suc (suc (suc zero))) l a b c d e = d
at_slots P (suc (suc (suc (suc zero)))) l a b c d e = e
at_slots P (suc (suc (suc (suc (suc k))))) l a b c d e = absurd (let f : ⊥ = omega arith in f)

-- ---- the sets without the slot k

-- with the slot, each is a set still
pub with_slot : (k i : ℕ) → k < slots → 2 * i < sets → spread k i + 2 ^ k < sets
unfolding spread
with_slot k i l low =
    at_slots (λ k. spread k i + 2 ^ k < sets) k l (omega arith) (omega arith) (omega arith) (omega arith) (omega arith)

-- without it, it has not the slot
pub spread_without : (k i : ℕ) → k < slots → spread k i / 2 ^ k % 2 ≡ 1 → ⊥
unfolding spread
spread_without k i l =
    at_slots (λ k. spread k i / 2 ^ k % 2 ≡ 1 → ⊥) k l (λ p. omega arith) (λ p. omega arith) (λ p. omega arith) (λ p. omega arith) (λ p. omega arith)

-- and with it, it has
pub slot_there : (k i : ℕ) → k < slots → (spread k i + 2 ^ k) / 2 ^ k % 2 ≡ 1
unfolding spread
slot_there k i l =
    at_slots (λ k. (spread k i + 2 ^ k) / 2 ^ k % 2 ≡ 1) k l (omega arith) (omega arith) (omega arith) (omega arith) (omega arith)

-- they rise
pub spread_rises : (k i j : ℕ) → k < slots → i < j → spread k i < spread k j
unfolding spread
spread_rises k i j l u =
    at_slots (λ k. spread k i < spread k j) k l (omega arith) (omega arith) (omega arith) (omega arith) (omega arith)

-- and those of n slots come in the first half
pub all_spread : (k n m : ℕ) → k < slots → k < n → m < 2 ^ n → (m / 2 ^ k % 2 ≡ 1 → ⊥) → (i : ℕ) × (i < 2 ^ n / 2) × (m ≡ spread k i)
unfolding spread
all_spread k n m l u low d =
    let p : n ≡ (n - k - 1) + (k + 1) = omega arith in
    let q : 2 ^ n ≡ 2 ^ (n - k - 1) * (2 ^ k * 2) = ap (λ (x : ℕ). 2 ^ x) p ∙ pow-add 2 (n - k - 1) (k + 1) ∙ ap (λ (x : ℕ). 2 ^ (n - k - 1) * x) (pow-add 2 k 1) in
    at_slots (λ k. (x : ℕ) → 2 ^ n ≡ x * (2 ^ k * 2) → (m / 2 ^ k % 2 ≡ 1 → ⊥) → (i : ℕ) × (i < 2 ^ n / 2) × (m ≡ spread k i)) k l
    (λ x q d. (m / 2, omega arith, omega arith))
    (λ x q d. (m / 4 * 2 + m % 2, omega arith, omega arith))
    (λ x q d. (m / 8 * 4 + m % 4, omega arith, omega arith))
    (λ x q d. (m / 16 * 8 + m % 8, omega arith, omega arith))
    (λ x q d. (m / 32 * 16 + m % 16, omega arith, omega arith))
    (2 ^ (n - k - 1)) q d

-- ---- the rows

-- the row of a set lies within the table
pub row_fits : (m : ℕ) → m < sets → row_of m + width ≤ size
row_fits m l = omega arith

-- the last of the sets of k slots
pub powers : (k : ℕ) → k ≤ slots → (1 ≤ 2 ^ k) × (2 ^ k ≤ sets)
powers k l = (pow_pos k, pow_mono l)

-- what is found has no more slots than a pattern may
pub found_small : (table : List ℕ) (n : ℕ) → found_in table n ≡ true → n ≤ slots
unfolding found_in
found_small table n h =
    by_test (leb n slots) (λ q. leb-true n slots q) (λ q. absurd (false≢true (rw q at h)))
