-- Which events, as numbers, are dependent, by document 01's list; and the table of which comes before which.
use Rattle.std.specs.Prelude.{ℕ, zero, suc, ◌+◌, ◌*◌, Bool, true, false, cond, ◌&&◌, ◌||◌, List, eqb, ltb, get_or, set, replicate}
use Rattle.plain.specs.Numbers.{kind_in, thread_in, object_in}

-- of one of two kinds: reads and writes, acquires and releases, forks and joins
abbrev pub of_kinds : ℕ → ℕ → ℕ → Bool
of_kinds a x y = eqb (kind_in a) x || eqb (kind_in a) y

-- "they touch the same variable and at least one is a write"
unfoldable pub same_variable_one_write : ℕ → ℕ → Bool
same_variable_one_write a b =
    (eqb (object_in a) (object_in b) && (of_kinds a 1 2 && of_kinds b 1 2)) && (eqb (kind_in a) 2 || eqb (kind_in b) 2)

-- "they touch the same lock"
unfoldable pub same_lock : ℕ → ℕ → Bool
same_lock a b = (eqb (object_in a) (object_in b) && of_kinds a 3 4) && of_kinds b 3 4

-- b acts as a thread, forks or joins it
unfoldable pub is_thread_of : ℕ → ℕ → Bool
is_thread_of named b = eqb named (thread_in b) || (eqb named (object_in b) && of_kinds b 5 6)

-- a forks or joins a thread which b acts as, forks or joins
unfoldable pub names_thread_of : ℕ → ℕ → Bool
names_thread_of a b = of_kinds a 5 6 && is_thread_of (object_in a) b

-- "Two events are dependent exactly when one of these holds"
unfoldable pub dependent : ℕ → ℕ → Bool
dependent a b =
    (eqb (thread_in a) (thread_in b) || (same_variable_one_write a b || same_lock a b)) || (names_thread_of a b || names_thread_of b a)

-- of the events at two places, counted from 0, of eight
unfoldable pub dependent_at : List ℕ → ℕ → ℕ → Bool
dependent_at events i j = cond (ltb i 8) (cond (ltb j 8) (dependent (get_or events i 0) (get_or events j 0)) false) false

-- whether event i comes before event j or is it, in a table that has that at 8 j + i
unfoldable pub entry : List Bool → ℕ → ℕ → Bool
entry before i j = cond (ltb i 8) (cond (ltb j 8) (get_or before (8 * j + i) false) false) false

-- event n, of `count` of eight events, is of the kind
unfoldable pub is_at : List ℕ → ℕ → ℕ → ℕ → Bool
is_at events count kind n = cond (ltb n 8) (cond (ltb n count) (eqb (kind_in (get_or events n 0)) kind) false) false

-- one of the events before place n is of the kind
unfoldable pub holds_to : ℕ → List ℕ → ℕ → ℕ → Bool
holds_to zero events count kind = false
holds_to (suc n) events count kind = cond (is_at events count kind n) true (holds_to n events count kind)

-- k is ahead of j, i comes before k or is it, and j depends on k
unfoldable pub links : List ℕ → List Bool → ℕ → ℕ → ℕ → Bool
links events before i j k = cond (ltb k j) (cond (entry before i k) (dependent_at events k j) false) false

-- "the same event, or a chain of events rising in the log, each dependent on the next": the last step of the chain is from one of the first n events
unfoldable pub reaches_to : ℕ → List ℕ → List Bool → ℕ → ℕ → Bool
reaches_to zero events before i j = eqb i j
reaches_to (suc n) events before i j = cond (links events before i j n) true (reaches_to n events before i j)

-- the table once its entries of the first n events i with event j are made, from the table of the events ahead of j
unfoldable pub column_to : ℕ → List ℕ → ℕ → List Bool → List Bool
column_to zero events j before = before
column_to (suc n) events j before =
    set (column_to n events j before) (8 * j + n) (reaches_to 8 events (column_to n events j before) n j)

-- the table of the first n events j
unfoldable pub columns_to : ℕ → List ℕ → List Bool
columns_to zero events = replicate 64 false
columns_to (suc n) events = column_to 8 events n (columns_to n events)
