-- The rising numbers from 1 to n: the recorded order of the first n events.
-- Assumes nothing.
use mathlib.Core.Path.{◌≡◌}
use mathlib.Core.List.Memᴰ.{head}
use mathlib.Core.List.Memᴰ.{tail}
use mathlib.Core.List.{List, [], ◌∷◌, Memᴰ as Mem}
use mathlib.Core.List.Memᴰ.{not-nil as not-mem-nil}
use Prim.Native.Nat.{ℕ, zero, suc, ◌+◌, ◌≤◌, ◌<◌}
use native.Mathlib.Decide.{ℕ_discrete}
use native.Mathlib.Omega.{arith}
use Rattle.trace.specs.Match.{Pairs}
use Rattle.trace.specs.Tuples.{Among}

-- n numbers from a on; the recorded order is `run 1 n`
abbrev pub run : ℕ → ℕ → List ℕ
run a zero = []
run a (suc n) = a ∷ run (suc a) n

pub run_range : {k : ℕ} (a n : ℕ) → Mem k (run a n) → (a ≤ k) × (k < a + n)
run_range a zero m = absurd (not-mem-nil m)
run_range a (suc n) (head e) = omega arith
run_range a (suc n) (tail m) = let h = run_range (suc a) n m in omega arith

pub run_mem : (a n k : ℕ) → a ≤ k → k < a + n → Mem k (run a n)
run_mem a zero k l h = absurd (omega arith)
run_mem a (suc n) k l h = go (ℕ_discrete k a) (λ l' h'. run_mem (suc a) n k l' h')
  where
    go : Dec (k ≡ a) → (suc a ≤ k → k < suc a + n → Mem k (run (suc a) n)) → Mem k (run a (suc n))
    go (yes e) ih = head e
    go (no d) ih = tail (ih (omega arith) (omega arith))

pub among_of : {k : ℕ} (n : ℕ) → Mem k (run 1 n) → Among n k
among_of n m = let h = run_range 1 n m in omega arith

pub of_among : {k : ℕ} (n : ℕ) → Among n k → Mem k (run 1 n)
of_among {k} n h = run_mem 1 n k h.0 (omega arith)

pub run_rises : (a n : ℕ) → Pairs (λ x y. x < y) (run a n)
run_rises a zero = Pairs.none
run_rises a (suc n) = Pairs.more (λ y m. (run_range (suc a) n m).0) (run_rises (suc a) n)
