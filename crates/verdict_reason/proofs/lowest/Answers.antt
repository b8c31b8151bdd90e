use Prim.Native.Nat.{ℕ, suc, ◌≤◌}
use native.Mathlib.Omega.{arith}
use native.Mathlib.Numerals.{add-one}
use native.Mathlib.Decide.{ℕ_discrete}
use mathlib.Core.Path.{◌≡◌}
use mathlib.Core.Bool.{Bool, false}
use borrow.Author.Tests.{le-leb, lt-leb}
use Rattle.trace.proofs.Counts.{at, nowhere}
use Rattle.verdict_reason.proofs.lowest.Goals as goal

-- none of the first so many, and not the next
none_more : {p : ℕ → Bool} {j : ℕ} → ((m : ℕ) → 1 ≤ m → m ≤ j → p m ≡ false) → p (suc j) ≡ false → (m : ℕ) → 1 ≤ m → m ≤ suc j → p m ≡ false
none_more {p} {j} h f m u v = go (ℕ_discrete m (suc j))
  where
    go : Dec (m ≡ suc j) → p m ≡ false
    go (yes q) = rw q f
    go (no d) = h m u (omega arith)

pub returns-then-place-count_of : goal.returns-then-place-count_of
returns-then-place-count_of c = let l = c.loop-j in
    let t = c.loop-j-test.true in
    rw add-one (at {k = l.j} (omega arith) (le-leb _ _ (rw c.count_of.ensures at c.if-place-count_of.true)) (λ m u v. l.invariant m u (omega arith)))

pub loop-j-preserved : goal.loop-j-preserved
loop-j-preserved c = let l = c.loop-j in
    let f = lt-leb _ _ (rw c.count_of.ensures at c.if-place-count_of.false) in
    λ m u v. none_more l.invariant f m u (rw add-one at v)

pub loop-j-init : goal.loop-j-init
loop-j-init c = λ m u v. absurd (let z : ⊥ = omega arith in z)

pub returns : goal.returns
returns c = nowhere (λ m u v. c.loop-j.invariant m u (let t = c.loop-j-test.false in omega arith))
