-- An order that holds the pattern, a list that has a match, a list's count, and the event numbers named with a match.
-- Assumes nothing.
use Rattle.std.specs.Prelude.{◌≡◌, Bool, true, ℕ, zero, ◌≤◌, ◌<◌, length, take}
use mathlib.Core.List.{List, [], ◌∷◌, Memᴰ as Mem}
use Rattle.trace.specs.Swaps.{Reaches}
use Rattle.trace.specs.Before.{Numbered, ComesBefore}

module _ {E S : Type 0} (fits : S → E → Bool) where
  -- "An order holds the pattern when it has as many strictly rising places as the pattern has slots, the event at the first
  -- fitting the first slot, at the second the second, and so on."
  -- Read along the order: its first event fits the first slot and what follows holds the other slots; or what follows holds all.
  pub data Holds : List S → List E → Type 0 where
    done : {ys : List E} → Holds [] ys
    fit : {s : S} {ss : List S} {y : E} {ys : List E} → fits s y ≡ true → Holds ss ys → Holds (s ∷ ss) (y ∷ ys)
    skip : {ss : List S} {y : E} {ys : List E} → Holds ss ys → Holds ss (y ∷ ys)

module _ {E S : Type 0} (dep : E → E → Bool) (fits : S → E → Bool) where
  -- "A list has a match when some order reached from it holds the pattern, else none."
  abbrev pub HasMatch : List S → List E → Type 0
  HasMatch ss log = (order : List E) × Reaches dep log order × Holds fits ss order

  -- "Its count is the smallest n whose leading n events have a match, every smaller number having none; without a match it is 0."
  -- "The leading n events of a list are its first n, swapped among themselves alone."
  pub data IsCount (ss : List S) (log : List E) : ℕ → Type 0 where
    smallest : {n : ℕ} → n ≤ length log → HasMatch ss (take n log) → ((m : ℕ) → m < n → ¬ HasMatch ss (take m log))
        → IsCount ss log n
    without : ¬ HasMatch ss log → IsCount ss log zero

-- one element for each slot, in the slots' order, in the given relation to its slot
pub data Each {S A : Type 0} (R : S → A → Type 0) : List S → List A → Type 0 where
  none : Each R [] []
  more : {s : S} {ss : List S} {a : A} {rest : List A} → R s a → Each R ss rest → Each R (s ∷ ss) (a ∷ rest)

-- each element stands in the relation to every element after it
pub data Pairs {A : Type 0} (R : A → A → Type 0) : List A → Type 0 where
  none : Pairs R []
  more : {x : A} {xs : List A} → ((y : A) → Mem y xs → R x y) → Pairs R xs → Pairs R (x ∷ xs)

-- "On a match the numbers are distinct events that fit their slots, lie within the count, and for no earlier and later slot
-- does the later slot's event come before or equal the earlier's."
pub record Named {E S : Type 0} (dep : E → E → Bool) (fits : S → E → Bool) (ss : List S) (log : List E) (count : ℕ)
    (numbers : List ℕ) : Type 0 where
  pub distinct : Pairs (λ earlier later. ¬ (earlier ≡ later)) numbers
  pub fitting : Each (λ s i. (e : E) × Numbered log i e × (fits s e ≡ true)) ss numbers
  pub within : (i : ℕ) → Mem i numbers → i ≤ count
  pub apart : Pairs (λ earlier later. ¬ ComesBefore dep log later earlier) numbers
