-- Which events are dependent. Document 01, "Order".
-- Assumes nothing.
use Rattle.std.specs.Prelude.{ℕ, Bool, true, false, ◌&&◌, ◌||◌, eqb, Option, Some, None}
use Rattle.event.specs.declared.Touch.{Touch}
use Rattle.event.specs.declared.Touch.TheVariants.{Reads, Writes, Locks, Names, Nothing}
use Rattle.event.specs.declared.Event.{Event}
use Rattle.event.specs.Effects.{touched}

-- the variable touched, the lock touched, and the thread forked or joined; none where there is none
abbrev pub variable : Touch → Option ℕ
variable (Reads v) = Some v
variable (Writes v) = Some v
variable (Locks l) = None
variable (Names t) = None
variable Nothing = None

abbrev pub lock : Touch → Option ℕ
lock (Reads v) = None
lock (Writes v) = None
lock (Locks l) = Some l
lock (Names t) = None
lock Nothing = None

abbrev pub named : Touch → Option ℕ
named (Reads v) = None
named (Writes v) = None
named (Locks l) = None
named (Names t) = Some t
named Nothing = None

abbrev pub is_write : Touch → Bool
is_write (Reads v) = false
is_write (Writes v) = true
is_write (Locks l) = false
is_write (Names t) = false
is_write Nothing = false

-- both are there, and they are equal
abbrev pub same : Option ℕ → Option ℕ → Bool
same None y = false
same (Some i) None = false
same (Some i) (Some j) = eqb i j

-- "they have the same thread"
abbrev pub same_thread : Event → Event → Bool
same_thread a b = eqb a.thread b.thread

-- "they touch the same variable and at least one is a write"
abbrev pub same_variable_one_write : Event → Event → Bool
same_variable_one_write a b = same (variable (touched a)) (variable (touched b)) && (is_write (touched a) || is_write (touched b))

-- "they touch the same lock"
abbrev pub same_lock : Event → Event → Bool
same_lock a b = same (lock (touched a)) (lock (touched b))

-- a forks or joins a thread which b acts as, forks or joins
abbrev pub names_thread_of : Event → Event → Bool
names_thread_of a b = same (named (touched a)) (Some b.thread) || same (named (touched a)) (named (touched b))

-- "one forks or joins a thread which the other acts as, forks or joins"
abbrev pub one_names_thread_of_other : Event → Event → Bool
one_names_thread_of_other a b = names_thread_of a b || names_thread_of b a

-- "Two events are dependent exactly when one of these holds"; "All other pairs are independent."
unfoldable pub dependent : Event → Event → Bool
dependent a b = same_thread a b || same_variable_one_write a b || same_lock a b || one_names_thread_of_other a b
