-- Of any two events of a log exactly one of the four is so; before and after mirror each other; free is without a chain either way.
-- Assumes nothing.
use Prim.Native.Nat.{ℕ, ◌≤◌}
use native.Mathlib.Nat.{le_antisymm}
use mathlib.Core.Path.{◌≡◌, refl, sym, subst}
use mathlib.Core.Logic.{◌⊎◌, inl, inr, ◌↔◌}
use mathlib.Core.Bool.{Bool, true, false, cond, false≢true}
use mathlib.Core.List.{List}
use lib.Dec.{eqb}
use borrow.Author.Tests.{eqb-true, eqb-false, eq-eqb, ne_eqb}
use Rattle.event.specs.declared.Event.{Event}
use Rattle.event.specs.Slots.{no_event}
use Rattle.event.proofs.Tests.{by_test}
use Rattle.trace.specs.Before.{Numbered, same}
use Rattle.trace.specs.Tuples.{dep_at}
use Rattle.trace.proofs.Before.{before_le}
use Rattle.trace.proofs.Numbers.{comes_before_lem, comes?, comes?_iff}
use Rattle.dependence.specs.Dependence.{dependent}
use Rattle.dependence.specs.Order.{ComesBefore}
use Rattle.relation.specs.declared.Relation.{Relation}
use Rattle.relation.specs.declared.Relation.TheVariants.{Same, Before, After, Free}
use Rattle.relation.specs.Relation.{Relates, mirrored}

module _ (log : List Event) where
  comes_le : {i j : ℕ} → ComesBefore log i j → i ≤ j
  comes_le c = before_le (dep_at no_event dependent log) (comes_before_lem no_event dependent log c)

  -- two events come before or are each other only where they are one
  pub comes_both : {i j : ℕ} → ComesBefore log i j → ComesBefore log j i → i ≡ j
  comes_both c d = le_antisymm (comes_le c) (comes_le d)

  -- three tests, of "is" and of "comes before or is" both ways round, tell which of the four is so
  pub by_three : {i j : ℕ} (x y z : Bool) → (x ≡ true) ↔ (i ≡ j) → (y ≡ true) ↔ ComesBefore log i j → (z ≡ true) ↔ ComesBefore log j i
      → Relates log i j (cond x Same (cond y Before (cond z After Free)))
  by_three true y z f g h = f.0 refl
  by_three false true z f g h = (g.0 refl, λ e. false≢true (f.1 e))
  by_three false false true f g h = (h.0 refl, λ e. false≢true (f.1 (sym e)))
  by_three false false false f g h = (λ e. false≢true (f.1 e), λ p. false≢true (g.1 p.0), λ p. false≢true (h.1 p.0))

  -- ---- exactly one

  abbrev comes : ℕ → ℕ → Bool
  comes i j = comes? no_event dependent log i j

  comes_true : {i j : ℕ} → ComesBefore log i j → comes i j ≡ true
  comes_true {i} {j} c = (comes?_iff no_event dependent log i j).1 c

  comes_false : {i j : ℕ} → ¬ ComesBefore log i j → comes i j ≡ false
  comes_false {i} {j} d = by_test (comes i j) (λ t. absurd (d ((comes?_iff no_event dependent log i j).0 t))) (λ f. f)

  -- the answer, computed
  abbrev pub relation_of : ℕ → ℕ → Relation
  relation_of i j = cond (eqb i j) Same (cond (comes i j) Before (cond (comes j i) After Free))

  pub relation_so : (i j : ℕ) → Relates log i j (relation_of i j)
  relation_so i j = by_three (eqb i j) (comes i j) (comes j i) (eqb-true i j, eq-eqb i j) (comes?_iff no_event dependent log i j) (comes?_iff no_event dependent log j i)

  pub relation_only : (i j : ℕ) (r : Relation) → Relates log i j r → r ≡ relation_of i j
  relation_only i j Same e = rw (eq-eqb i j e) refl
  relation_only i j Before p = rw (ne_eqb i j p.1, comes_true p.0) refl
  relation_only i j After p =
      let d : i ≡ j → ⊥ = λ z. p.1 (sym z) in
      rw (ne_eqb i j d, comes_false (λ c. d (comes_both c p.0)), comes_true p.0) refl
  relation_only i j Free p =
      let d = p.0 in
      rw (ne_eqb i j d, comes_false (λ c. p.1 (c, d)), comes_false (λ c. p.2 (c, λ z. d (sym z)))) refl

  -- "same .., before .., after .., else free": one of them is so, and no other
  pub one_relation : (i j : ℕ) → (r : Relation) × Relates log i j r × ((q : Relation) → Relates log i j q → q ≡ r)
  one_relation i j = (relation_of i j, relation_so i j, relation_only i j)

  -- ---- asked the other way round

  pub mirror_iff : (i j : ℕ) (r : Relation) → Relates log i j r ↔ Relates log j i (mirrored r)
  mirror_iff i j Same = (λ e. sym e, λ e. sym e)
  mirror_iff i j Before = (λ p. p, λ p. p)
  mirror_iff i j After = (λ p. p, λ p. p)
  mirror_iff i j Free = (λ p. (λ z. p.0 (sym z), p.2, p.1), λ p. (λ z. p.0 (sym z), p.2, p.1))

  -- ---- of events of the log

  -- "comes before or is", which was answered yes, "is exactly "same or before""
  pub yes_is_same_or_before : {i j : ℕ} {a : Event} → Numbered log i a → ComesBefore log i j ↔ (Relates log i j Same ⊎ Relates log i j Before)
  yes_is_same_or_before {i} {j} n = (there, back)
    where
      there : ComesBefore log i j → Relates log i j Same ⊎ Relates log i j Before
      there c = by_test (eqb i j) (λ e. inl (eqb-true i j e)) (λ e. inr (c, eqb-false i j e))

      back : Relates log i j Same ⊎ Relates log i j Before → ComesBefore log i j
      back (inl e) = subst (λ (k : ℕ). ComesBefore log i k) e (same n)
      back (inr p) = p.0

  -- free exactly where no chain leads from the one to the other, either way
  pub free_iff : {i j : ℕ} {a : Event} → Numbered log i a → Relates log i j Free ↔ ((¬ ComesBefore log i j) × (¬ ComesBefore log j i))
  free_iff {i} {j} n = (there, back)
    where
      there : Relates log i j Free → (¬ ComesBefore log i j) × (¬ ComesBefore log j i)
      there p = (λ c. p.1 (c, p.0), λ c. p.2 (c, λ z. p.0 (sym z)))

      back : (¬ ComesBefore log i j) × (¬ ComesBefore log j i) → Relates log i j Free
      back h = (λ e. h.0 ((yes_is_same_or_before n).1 (inl e)), λ p. h.0 p.0, λ p. h.1 p.0)
