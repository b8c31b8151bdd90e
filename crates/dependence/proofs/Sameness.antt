-- Tests of sameness may be turned round, and tests joined by "or" put in another order.
-- Assumes nothing.
use Prim.Native.Nat.{ℕ}
use mathlib.Core.Path.{◌≡◌, refl, sym}
use mathlib.Core.Bool.{Bool, true, false, ◌||◌}
use Rattle.std.specs.Prelude.{Option, Some, None}
use lib.Dec.{eqb}
use borrow.Author.Tests.{eqb-true, eq-eqb}
use Rattle.trace.proofs.Lists.{same_test}
use Rattle.dependence.specs.Dependence.{same}

pub eqb_comm : (m n : ℕ) → eqb m n ≡ eqb n m
eqb_comm m n = same_test (eqb m n) (eqb n m) (turn m n) (turn n m)
  where
    turn : (i j : ℕ) → eqb i j ≡ true → eqb j i ≡ true
    turn i j h = eq-eqb j i (sym (eqb-true i j h))

pub same_comm : (x y : Option ℕ) → same x y ≡ same y x
same_comm None None = refl
same_comm None (Some j) = refl
same_comm (Some i) None = refl
same_comm (Some i) (Some j) = eqb_comm i j

pub or_left : (a b c : Bool) → a || (b || c) ≡ b || (a || c)
or_left true true c = refl
or_left true false c = refl
or_left false b c = refl
