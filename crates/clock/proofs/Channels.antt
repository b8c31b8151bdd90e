-- The rows that the code hears and tells are those of the channels that the event hears and tells.
-- Assumes nothing.
use Prim.Native.Nat.{ℕ, ◌+◌, ◌≤◌, ◌<◌, max}
use mathlib.Core.Path.{◌≡◌, refl, ◌∙◌}
use mathlib.Core.Bool.{Bool, false, not, ◌&&◌, ◌||◌, or-false, or_self}
use Rattle.std.specs.Prelude.{Some}
use mathlib.Core.List.{◌∷◌}
use native.Mathlib.Omega.{arith}
use lib.Dec.{eqb}
use borrow.Author.Tests.{eqb-true, eq-eqb, ne_eqb}
use Rattle.event.specs.declared.Event.{Event}
use Rattle.event.specs.Limits.{threads, variables}
use Rattle.trace.proofs.Lists.{same_test}
use Rattle.trace.proofs.Tallies.{join}
use Rattle.event.specs.declared.Touch.{Touch}
use Rattle.event.specs.declared.Touch.TheVariants.{Reads, Writes, Locks, Names, Nothing}
use Rattle.event.specs.Effects.{touched}
use Rattle.dependence.specs.Dependence.{variable, lock, named, is_write, same}
use Rattle.dependence.specs.Channels.{Channel, thread, reads_of, writes_of, lock_of, tells, heard_at}
use Rattle.clock.specs.Rows.{number_of, Known, beside_of, beside}

-- ---- heard

-- what is heard of the own row and two more is what is heard of the channels
pub heard_of : (f : Channel → ℕ) (t : ℕ) (x : Touch)
    → max (max (f (thread t)) (f (beside_of t x).first)) (f (beside_of t x).second) ≡ join f (thread t ∷ heard_at x)
heard_of f t (Reads v) = omega arith
heard_of f t (Writes v) = omega arith
heard_of f t (Locks l) = omega arith
heard_of f t (Names c) = omega arith
heard_of f t Nothing = omega arith

-- ---- told

-- rows counted from the same one
shift : (k m n : ℕ) → eqb (k + m) (k + n) ≡ eqb m n
shift k m n =
    same_test (eqb (k + m) (k + n)) (eqb m n)
    (λ h. eq-eqb m n (let p : k + m ≡ k + n = eqb-true _ _ h in omega arith))
    (λ h. eq-eqb (k + m) (k + n) (let p : m ≡ n = eqb-true _ _ h in omega arith))

module _ (t : ℕ) (low : t < threads) where
  -- the row n is the own row or the other one that is told
  abbrev told_row : Touch → ℕ → Bool
  told_row x n = eqb (number_of (beside_of t x).told) n || eqb t n

  abbrev Limited : Touch → Type 0
  Limited x = Known (beside_of t x).told

  at_thread : (x : Touch) (u : ℕ) → Limited x → u < threads → told_row x u ≡ same (named x) (Some u) || eqb t u
  at_thread (Reads v) u k l = rw (ne_eqb (threads + v) u (omega arith))
  at_thread (Writes v) u k l = rw (ne_eqb (threads + variables + v) u (omega arith))
  at_thread (Locks m) u k l = rw (ne_eqb (threads + variables + variables + m) u (omega arith))
  at_thread (Names c) u k l = refl
  at_thread Nothing u k l = or_self (eqb t u)

  -- past the threads the own row is out
  other_row : (n : ℕ) (b : Bool) → threads ≤ n → b || eqb t n ≡ b
  other_row n b l = rw (ne_eqb t n (omega arith)) (or-false b)

  miss : (m n : ℕ) → (m ≡ n → ⊥) → threads ≤ n → eqb m n || eqb t n ≡ false
  miss m n d l = other_row n (eqb m n) l ∙ ne_eqb m n d

  at_reads : (x : Touch) (w : ℕ) → Limited x → w < variables
      → told_row x (threads + w) ≡ not (is_write x) && same (variable x) (Some w)
  at_reads (Reads v) w k l = other_row (threads + w) _ (omega arith) ∙ shift threads v w
  at_reads (Writes v) w k l = miss (threads + variables + v) (threads + w) (omega arith) (omega arith)
  at_reads (Locks m) w k l = miss (threads + variables + variables + m) (threads + w) (omega arith) (omega arith)
  at_reads (Names c) w k l = miss c (threads + w) (omega arith) (omega arith)
  at_reads Nothing w k l = miss t (threads + w) (omega arith) (omega arith)

  at_writes : (x : Touch) (w : ℕ) → Limited x → w < variables
      → told_row x (threads + variables + w) ≡ is_write x && same (variable x) (Some w)
  at_writes (Reads v) w k l = miss (threads + v) (threads + variables + w) (omega arith) (omega arith)
  at_writes (Writes v) w k l = other_row (threads + variables + w) _ (omega arith) ∙ shift (threads + variables) v w
  at_writes (Locks m) w k l =
      miss (threads + variables + variables + m) (threads + variables + w) (omega arith) (omega arith)
  at_writes (Names c) w k l = miss c (threads + variables + w) (omega arith) (omega arith)
  at_writes Nothing w k l = miss t (threads + variables + w) (omega arith) (omega arith)

  at_lock : (x : Touch) (n : ℕ) → Limited x → told_row x (threads + variables + variables + n) ≡ same (lock x) (Some n)
  at_lock (Reads v) n k =
      miss (threads + v) (threads + variables + variables + n) (omega arith) (omega arith)
  at_lock (Writes v) n k =
      miss (threads + variables + v) (threads + variables + variables + n) (omega arith) (omega arith)
  at_lock (Locks m) n k =
      other_row (threads + variables + variables + n) _ (omega arith) ∙ shift (threads + variables + variables) m n
  at_lock (Names c) n k = miss c (threads + variables + variables + n) (omega arith) (omega arith)
  at_lock Nothing n k = miss t (threads + variables + variables + n) (omega arith) (omega arith)

-- the own row and the other one that is told are the rows of the channels that the event tells
pub told_of : (e : Event) (c : Channel) → e.thread < threads → Known (beside e).told → Known c
    → eqb (number_of (beside e).told) (number_of c) || eqb e.thread (number_of c) ≡ tells e c
told_of e (thread u) low k l = at_thread e.thread low (touched e) u k l
told_of e (reads_of v) low k l = at_reads e.thread low (touched e) v k l
told_of e (writes_of v) low k l = at_writes e.thread low (touched e) v k l
told_of e (lock_of n) low k l = at_lock e.thread low (touched e) n k
