-- An event depends on another exactly where that one tells a channel which it hears.
-- Assumes nothing.
use Prim.Native.Nat.{ℕ}
use mathlib.Core.Path.{◌≡◌, refl}
use mathlib.Core.Bool.{Bool, true, false, not, ◌&&◌, ◌||◌}
use mathlib.Core.Bool.{or-true, or-false, and-true, and_comm, or_comm, or_assoc, or_self_left}
use Rattle.std.specs.Prelude.{Option, Some, None}
use mathlib.Core.List.{◌∷◌}
use lib.Dec.{eqb}
use Rattle.event.specs.declared.Event.{Event}
use Rattle.trace.proofs.Lists.{any}
use Rattle.event.specs.declared.Touch.{Touch}
use Rattle.event.specs.declared.Touch.TheVariants.{Reads, Writes, Locks, Names, Nothing}
use Rattle.event.specs.Effects.{touched}
use Rattle.dependence.specs.Dependence.{variable, lock, named, is_write, same, same_thread, dependent}
use Rattle.dependence.specs.Channels.{thread, heard_at, tells, hears}
use Rattle.dependence.proofs.Sameness.{eqb_comm, same_comm, or_left}

same_none : (x : Option ℕ) → same x None ≡ false
same_none None = refl
same_none (Some i) = refl

-- ---- the parts of dependence, and the channels, at each touch of the second event
-- e: they have one thread; v: the first touches the variable; w: it writes; l: it touches the lock;
-- n: it names the thread that the second acts as; m: that which the second names; k: it acts as that

ruleset sorted = (or-true, or-false, and-true, and_comm, or_comm, or_assoc, or_left, or_self_left)

at_read : (e v w n : Bool) → e || v && (w || false) || false || (n || false || false) ≡ n || e || (w && v || false)
at_read e v w n = simp sorted

at_write : (e v w n : Bool)
    → e || v && (w || true) || false || (n || false || false) ≡ n || e || (w && v || (not w && v || false))
at_write e v w n = rw (or-false (not w && v), either_way w v) (simp sorted)
  where
    either_way : (w v : Bool) → w && v || not w && v ≡ v
    either_way true v = or-false v
    either_way false v = refl

at_lock : (e l n : Bool) → e || false || l || (n || false || false) ≡ n || e || (l || false)
at_lock e l n = simp sorted

at_name : (e n m k : Bool) → e || false || false || (n || m || (k || m)) ≡ n || e || (m || k || false)
at_name e n m k = simp sorted

pub by_channels : (a b : Event) → dependent a b ≡ any (tells a) (hears b)
unfolding dependent
by_channels a b = go (touched b)
  where
    x : Touch
    x = touched a

    acting : Bool
    acting = same (named x) (Some b.thread)

    -- at whatever b touches
    go : (y : Touch) → same_thread a b || same (variable x) (variable y) && (is_write x || is_write y) || same (lock x) (lock y)
        || (acting || same (named x) (named y) || (same (named y) (Some a.thread) || same (named y) (named x)))
        ≡ any (tells a) (thread b.thread ∷ heard_at y)
    go (Reads v) =
        rw (same_none (lock x), same_none (named x))
        (at_read (same_thread a b) (same (variable x) (Some v)) (is_write x) acting)
    go (Writes v) =
        rw (same_none (lock x), same_none (named x))
        (at_write (same_thread a b) (same (variable x) (Some v)) (is_write x) acting)
    go (Locks l) =
        rw (same_none (variable x), same_none (named x))
        (at_lock (same_thread a b) (same (lock x) (Some l)) acting)
    go (Names t) =
        rw (same_none (variable x), same_none (lock x), eqb_comm t a.thread, same_comm (Some t) (named x))
        (at_name (same_thread a b) acting (same (named x) (Some t)) (eqb a.thread t))
    go Nothing =
        rw (same_none (variable x), same_none (lock x), same_none (named x))
        (at_lock (same_thread a b) false acting)
