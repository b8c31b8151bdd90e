-- The test whether a list is an order of the numbers 1 to n says what it should.
-- Assumes nothing.
use mathlib.Core.Path.{◌≡◌, refl, ap}
use mathlib.Core.Logic.{◌↔◌}
use mathlib.Core.Bool.{Bool, true, not, ◌&&◌, and-eq-true_iff}
use mathlib.Core.List.{List, [], ◌∷◌, Memᴰ as Mem}
use Prim.Native.Nat.{ℕ}
use borrow.Author.Tests.{not-true, not-false}
use Rattle.trace.specs.Match.{Pairs}
use Rattle.trace.proofs.Lists.{failed, both_ways, any, any_false, any_none}
use Rattle.trace.proofs.Rows.{pairs_head, pairs_tail}
use Rattle.trace.proofs.Runs.{run}
use Rattle.trace.proofs.Orders.{Straight}
use Rattle.enumeration.specs.Computed.{contains, free, covered, straight, ordered}
use Rattle.enumeration.proofs.Tests.{contains_mem, mem_contains, both, free_true, true_free}
use Rattle.enumeration.proofs.Successor.{OrderOf}

covered_iff : (ks xs : List ℕ) → (covered ks xs ≡ true) ↔ ((k : ℕ) → Mem k ks → Mem k xs)
covered_iff ks xs = (
  λ h k m. contains_mem xs (not-false (contains xs k) (failed (not (contains xs k)) (any_false absent ks (not-true (any absent ks) h) m))),
  λ h. ap not (any_none absent ks (λ k m t. both_ways (mem_contains xs (h k m)) (not-true (contains xs k) t))),
)
  where
    absent : ℕ → Bool
    absent k = not (contains xs k)

module _ (dep : ℕ → ℕ → Bool) where
  straight_iff : (xs : List ℕ) → (straight dep xs ≡ true) ↔ Straight dep xs
  straight_iff [] = (λ h. Pairs.none, λ p. refl)
  straight_iff (x ∷ xs) = (there (straight_iff xs).0, back (straight_iff xs).1)
    where
      there : (straight dep xs ≡ true → Straight dep xs) → straight dep (x ∷ xs) ≡ true → Straight dep (x ∷ xs)
      there ih h =
          let p = (and-eq-true_iff (not (contains xs x)) (free dep xs x && straight dep xs)).0 h in
          let q = (and-eq-true_iff (free dep xs x) (straight dep xs)).0 p.1 in
          let d = not-true (contains xs x) p.0 in
          Pairs.more {x = x} (λ y m. (λ e. both_ways (mem_contains xs (rw e m)) d, free_true dep xs x q.0 y m)) (ih q.1)

      back : (Straight dep xs → straight dep xs ≡ true) → Straight dep (x ∷ xs) → straight dep (x ∷ xs) ≡ true
      back ih p =
          both (not (contains xs x)) (free dep xs x && straight dep xs)
          (ap not (failed (contains xs x) (λ t. (pairs_head p x (contains_mem xs t)).0 refl)))
          (both (free dep xs x) (straight dep xs) (true_free dep xs x (λ y m. (pairs_head p y m).1)) (ih (pairs_tail p)))

  pub ordered_iff : (n : ℕ) (o : List ℕ) → (ordered dep n o ≡ true) ↔ OrderOf dep (run 1 n) o
  ordered_iff n o = (
    λ h.
        let p = (and-eq-true_iff (straight dep o) (covered (run 1 n) o && covered o (run 1 n))).0 h in
        let q = (and-eq-true_iff (covered (run 1 n) o) (covered o (run 1 n))).0 p.1 in
        ((straight_iff o).0 p.0, λ k. ((covered_iff (run 1 n) o).0 q.0 k, (covered_iff o (run 1 n)).0 q.1 k)),
    λ g.
        both (straight dep o) (covered (run 1 n) o && covered o (run 1 n)) ((straight_iff o).1 g.0)
        (both (covered (run 1 n) o) (covered o (run 1 n))
        ((covered_iff (run 1 n) o).1 (λ k. (g.1 k).0)) ((covered_iff o (run 1 n)).1 (λ k. (g.1 k).1))),
  )
