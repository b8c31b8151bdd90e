-- What the tests of a list of numbers say of it.
-- Assumes nothing.
use mathlib.Core.Path.{◌≡◌, refl, ap}
use mathlib.Core.Bool.{Bool, true, false, not, ◌&&◌, and-eq-true_iff}
use mathlib.Core.List.{List, Memᴰ as Mem}
use Prim.Native.Nat.{ℕ, ◌<◌}
use lib.Dec.{eqb, ltb}
use borrow.Author.Tests.{eqb-true, eq-eqb, ltb-true, lt-ltb, not-true}
use Rattle.trace.proofs.Lists.{failed, both_ways, any, any_true, any_mem, any_false, any_none}
use Rattle.enumeration.specs.Computed.{contains, free}

pub contains_mem : {k : ℕ} (xs : List ℕ) → contains xs k ≡ true → Mem k xs
contains_mem {k} xs h = let r = any_true (eqb k) xs h in rw (eqb-true k r.0 r.2) r.1

pub mem_contains : {k : ℕ} (xs : List ℕ) → Mem k xs → contains xs k ≡ true
mem_contains {k} xs m = any_mem (eqb k) xs m (eq-eqb k k refl)

-- two tests, one after the other
pub both : (a b : Bool) → a ≡ true → b ≡ true → a && b ≡ true
both a b p q = (and-eq-true_iff a b).1 (p, q)

module _ (dep : ℕ → ℕ → Bool) where
  -- `free`, said of the numbers
  abbrev pub Clear : List ℕ → ℕ → Type 0
  Clear xs z = (y : ℕ) → Mem y xs → y < z → dep y z ≡ false

  pub free_true : (xs : List ℕ) (z : ℕ) → free dep xs z ≡ true → Clear xs z
  free_true xs z h y m l = failed (dep y z) (λ d. any_false test xs (not-true (any test xs) h) m (both (ltb y z) (dep y z) (lt-ltb y z l) d))
    where
      test : ℕ → Bool
      test y = ltb y z && dep y z

  pub true_free : (xs : List ℕ) (z : ℕ) → Clear xs z → free dep xs z ≡ true
  true_free xs z h = ap not (any_none (λ y. ltb y z && dep y z) xs clear)
    where
      clear : (y : ℕ) → Mem y xs → ¬ (ltb y z && dep y z ≡ true)
      clear y m t = let r = (and-eq-true_iff (ltb y z) (dep y z)).0 t in both_ways r.1 (h y m (ltb-true y z r.0))
