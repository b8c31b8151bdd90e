-- All the numbers that can be named with a match, by trying every choice of events that fit the slots.
-- Assumes nothing.
use Prim.Native.Nat.{ℕ, ◌≤◌}
use mathlib.Core.Path.{refl}
use mathlib.Core.Bool.{Bool}
use mathlib.Core.List.Memᴰ.{head}
use mathlib.Core.List.Memᴰ.{tail}
use mathlib.Core.List.{List, [], ◌∷◌, ◌++◌, map, Memᴰ as Mem}
use mathlib.Core.List.Memᴰ.{append_left as mem-left}
use mathlib.Core.List.Memᴰ.{append_right as mem-right}
use mathlib.Core.List.Memᴰ.{map as mem-map}
use lib.ListN.{length}
use Rattle.trace.specs.Match.{Each, Named}
use Rattle.trace.specs.Tuples.{dep_at, fits_at, Among, Fitting}
use Rattle.trace.proofs.Lists.{filter, mem_filter, mem_of_filter}
use Rattle.trace.proofs.Runs.{run, of_among}
use Rattle.trace.proofs.GoodTuples.{good?, good?_iff}
use Rattle.trace.proofs.Numbers.{named_good, named?_iff}

module _ {A : Type 0} where
  -- each element before each row
  abbrev pub before_each : List A → List (List A) → List (List A)
  before_each [] rows = []
  before_each (x ∷ xs) rows = map (λ (row : List A). x ∷ row) rows ++ before_each xs rows

  mem_before : {x : A} {xs : List A} {row : List A} {rows : List (List A)} → Mem x xs → Mem row rows → Mem (x ∷ row) (before_each xs rows)
  mem_before {xs = []} m n = elim m [ ]
  mem_before {x} {xs = y ∷ ys} {row} {rows} (head e) n =
      let m : Mem (x ∷ row) (map (λ (r : List A). y ∷ r) rows) = rw e (mem-map (λ (r : List A). y ∷ r) n) in
      mem-left (before_each ys rows) m
  mem_before {xs = y ∷ ys} {rows} (tail m) n = mem-right (map (λ (r : List A). y ∷ r) rows) (mem_before m n)

-- every row of the numbers 1 to n, one for each slot, that fit
abbrev pub choices : {S : Type 0} → (S → ℕ → Bool) → ℕ → List S → List (List ℕ)
choices fits n [] = [] ∷ []
choices fits n (s ∷ ss) = before_each (filter (fits s) (run 1 n)) (choices fits n ss)

all_choices : {S : Type 0} (fits : S → ℕ → Bool) (n : ℕ) {ss : List S} {is : List ℕ} → Fitting fits ss is
    → ((i : ℕ) → Mem i is → Among n i) → Mem is (choices fits n ss)
all_choices fits n Each.none among = head refl
all_choices fits n (Each.more {s = s} {a = i} f rest) among =
    mem_before (mem_filter (fits s) (run 1 n) (of_among n (among i (head refl))) f)
    (all_choices fits n rest (λ j m. among j (tail m)))

module _ {E S : Type 0} (other : E) (dep : E → E → Bool) (fits : S → E → Bool) (ss : List S) (log : List E) (count : ℕ) where
  abbrev good : List ℕ → Bool
  good = good? (dep_at other dep log) (fits_at other fits log) count ss

  -- the rows that can be named
  abbrev pub nameable : List (List ℕ)
  nameable = filter good (choices (fits_at other fits log) count ss)

  pub nameable_named : count ≤ length log → (is : List ℕ) → Mem is nameable → Named dep fits ss log count is
  nameable_named l is m =
      (named?_iff other dep fits ss log count is l).0 (mem_of_filter good (choices (fits_at other fits log) count ss) m).1

  pub named_nameable : (is : List ℕ) → Named dep fits ss log count is → Mem is nameable
  named_nameable is h =
      let g = named_good other dep fits ss log count is h in
      mem_filter good (choices (fits_at other fits log) count ss)
      (all_choices (fits_at other fits log) count g.fit g.among)
      ((good?_iff (dep_at other dep log) (fits_at other fits log) count ss is).1 g)
