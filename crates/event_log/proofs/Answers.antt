-- What an answer says of a row of commands tells which outcome it had.
use Prim.Native.Nat.{ℕ}
use native.Mathlib.Omega.{arith}
use mathlib.Core.Path.{◌≡◌, refl}
use mathlib.Core.List.{List}
use Rattle.event_log.specs.Whole.{Whole, accepted, refused, Passing, passed, outcome_of}

pub told_accepted : {A : Type 0} (w : Whole A) {n : ℕ} → passed n ≡ outcome_of w → (xs : List A) × (w ≡ accepted xs)
told_accepted (accepted xs) q = (xs, refl)
told_accepted (refused k o) q = absurd (let z : ◌≡◌ {A = ℕ} 0 1 = cc in let f : ⊥ = omega arith in f)

pub told_refused : {A : Type 0} (w : Whole A) {k o : ℕ} → Passing.refused k o ≡ outcome_of w → w ≡ refused k o
told_refused (accepted xs) q = absurd (let z : ◌≡◌ {A = ℕ} 0 1 = cc in let f : ⊥ = omega arith in f)
told_refused (refused k o) q = cc
