-- Orders as lists of event numbers, given one after another. Document 02, Note 13.
-- Assumes nothing.
use Rattle.std.specs.Prelude.{◌≡◌, ◌⊎◌, Bool, List, [], ◌∷◌, ℕ, zero, suc, ◌<◌}
use Rattle.std.proofs.Math.Option.{Option, some, none}
use Rattle.trace.specs.Swaps.{Reaches}
use Rattle.trace.specs.First.{Smaller}

-- the events with their numbers, from i on
abbrev pub with_numbers : {E : Type 0} → ℕ → List E → List (ℕ × E)
with_numbers i [] = []
with_numbers i (e ∷ es) = (i, e) ∷ with_numbers (suc i) es

abbrev pub the_numbers : {E : Type 0} → List (ℕ × E) → List ℕ
the_numbers [] = []
the_numbers (a ∷ rest) = a.0 ∷ the_numbers rest

-- "Orders are lists of event numbers": the numbers in an order "reachable by swaps" of the list's events, each with its number
abbrev pub IsOrder : {E : Type 0} → (E → E → Bool) → List E → List ℕ → Type 0
IsOrder {E} dep log is = (order : List (ℕ × E)) × Reaches (λ a b. dep a.1 b.1) (with_numbers 1 log) order × (the_numbers order ≡ is)

-- "smallest first where they first differ": the one list is the other, or smaller where they first differ
abbrev pub NoLarger : List ℕ → List ℕ → Type 0
NoLarger o q = (o ≡ q) ⊎ Smaller o q

-- "the first order"; P says which lists are orders
pub record FirstAmong (P : List ℕ → Type 0) (o : List ℕ) : Type 0 where
  pub order : P o
  pub least : (q : List ℕ) → P q → NoLarger o q

-- "the one after a given order, or says that it was the last": of the orders that the given one is smaller than, the one that is no larger than any
pub data NextAmong (P : List ℕ → Type 0) (o : List ℕ) : Option (List ℕ) → Type 0 where
  next : {r : List ℕ} → P r → Smaller o r → ((q : List ℕ) → P q → Smaller o q → NoLarger r q) → NextAmong P o (some r)
  last : ((q : List ℕ) → P q → ¬ Smaller o q) → NextAmong P o none

-- "Starting from the first": what a call gives, and then each call with what the one before it gave; nothing is called after the last
pub data InTurn (P : List ℕ → Type 0) : ℕ → Option (List ℕ) → Type 0 where
  starting : {o : List ℕ} → FirstAmong P o → InTurn P zero (some o)
  going_on : {k : ℕ} {o : List ℕ} {r : Option (List ℕ)} → InTurn P k (some o) → NextAmong P o r → InTurn P (suc k) r

-- "every order reachable by swaps is given, each exactly once": call k gives an order, or says that there is none after the last
pub record GivesAll (P : List ℕ → Type 0) (call : ℕ → Option (List ℕ) → Type 0) : Type 0 where
  pub only : {k : ℕ} {o : List ℕ} → call k (some o) → P o
  pub every : (o : List ℕ) → P o → (k : ℕ) × call k (some o)
  pub once : {j k : ℕ} {o : List ℕ} → call j (some o) → call k (some o) → j ≡ k
  pub rising : {j k : ℕ} {a b : List ℕ} → j < k → call j (some a) → call k (some b) → Smaller a b
  pub ending : (k : ℕ) × call k none
