-- An event in numbers: the operation of its byte, and what numbers that are not refused are within.
use Prim.Native.Nat.{ℕ, ◌<◌, ◌≤◌}
use native.Mathlib.Omega.{arith}
use mathlib.Core.Path.{◌≡◌, refl, sym, ◌∙◌}
use mathlib.Core.Bool.{false, false≢true}
use lib.Dec.{eqb, leb, ltb}
use lib.IntN.{ℤ}
use borrow.Author.Tests.{ne_eqb, leb-false, eqb-false, ltb-false}
use Rattle.event.specs.declared.SlotOperation.{SlotOperation}
use Rattle.event.specs.declared.SlotOperation.TheVariants.{Read, Write, Acquire, Release, Fork, Join, Mark}
use Rattle.event.specs.Limits.{threads, variables, locks, marks}
use Rattle.event.specs.Slots.{byte_of, object_of, without_height}
use Rattle.event.specs.Range.{limit_of}
use Rattle.event.proofs.Tests.{by_test}
use Rattle.event.proofs.InRange.{passed}
use Rattle.command.specs.Reading.{operation_of}
use Rattle.command.proofs.WholeCommand.{by_byte}
use Rattle.event_numbers.specs.EventNumbers.{no_operation, Narrow, unfit_by}

-- no object is above every limit, and only a mark's limit is above a byte
pub limit_marks : (op : SlotOperation) → limit_of op ≤ marks
limit_marks (Read v) = let l : variables ≤ marks = omega arith in l
limit_marks (Write v) = let l : variables ≤ marks = omega arith in l
limit_marks (Acquire l) = let l : locks ≤ marks = omega arith in l
limit_marks (Release l) = let l : locks ≤ marks = omega arith in l
limit_marks (Fork c) = let l : threads ≤ marks = omega arith in l
limit_marks (Join c) = let l : threads ≤ marks = omega arith in l
limit_marks (Mark m) = let l : marks ≤ marks = omega arith in l

pub limit_byte : (op : SlotOperation) → (byte_of op ≡ 7 → ⊥) → limit_of op ≤ 256
limit_byte (Read v) d = let l : variables ≤ 256 = omega arith in l
limit_byte (Write v) d = let l : variables ≤ 256 = omega arith in l
limit_byte (Acquire l) d = let l : locks ≤ 256 = omega arith in l
limit_byte (Release l) d = let l : locks ≤ 256 = omega arith in l
limit_byte (Fork c) d = let l : threads ≤ 256 = omega arith in l
limit_byte (Join c) d = let l : threads ≤ 256 = omega arith in l
limit_byte (Mark m) d = absurd (d refl)

-- the operation of a byte from 1 to 7 has that byte and the object
pub record Operates (b o : ℕ) (h : ℤ) : Type 0 where
  pub byte : byte_of (without_height (operation_of b o h)) ≡ b
  pub object : object_of (without_height (operation_of b o h)) ≡ o

in_bytes : (b : ℕ) → no_operation b ≡ false → (0 < b) × (b ≤ 7)
in_bytes b q =
    by_test (eqb b 0)
    (λ y. absurd (false≢true (sym q ∙ rw y)))
    (λ y. let d : b ≡ 0 → ⊥ = eqb-false b 0 y in (omega arith, ltb-false 7 b (rw y at q)))

pub operates : (b o : ℕ) (h : ℤ) → no_operation b ≡ false → Operates b o h
operates b o h q =
    by_byte (λ c. Operates c o h) (at 1 refl refl) (at 2 refl refl) (at 3 refl refl) (at 4 refl refl) (at 5 refl refl) (at 6 refl refl) (at 7 refl refl) b
    (in_bytes b q).0 (in_bytes b q).1
  where
    at : (c : ℕ) → byte_of (without_height (operation_of c o h)) ≡ c → object_of (without_height (operation_of c o h)) ≡ o → Operates c o h
    at c p r = record { byte = p; object = r }

-- numbers that an event can hold
pub record Fit (t b o : ℕ) : Type 0 where
  pub event : no_operation b ≡ false
  pub thread : t < threads
  pub low : b ≤ 7
  pub object : o < marks
  pub narrow : Narrow b o

pub fit : (t b o : ℕ) → unfit_by t b o ≡ 0 → Fit t b o
fit t b o z =
    let q0 = passed (eqb b 0) 2 _ z in
    let q7 = passed (ltb 7 b) 2 _ q0.1 in
    let qt = passed (leb threads t) 4 _ q7.1 in
    let qm = passed (leb marks o) 5 _ qt.1 in
    record {
      event = rw (q0.0, q7.0);
      thread = leb-false _ _ qt.0;
      low = ltb-false 7 b q7.0;
      object = leb-false _ _ qm.0;
      narrow = λ d. leb-false 256 o (passed (leb 256 o) 5 0 (rw (ne_eqb b 7 d) at qm.1)).0;
    }
