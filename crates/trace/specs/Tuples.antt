-- Good tuples of events for slots, the greatest of them, and an event's place in its thread.
-- Assumes nothing.
use Rattle.std.specs.Prelude.{◌≡◌, Bool, true, false, ℕ, zero, suc, ◌≤◌, ◌<◌, eqb, length, get_or}
use mathlib.Core.List.{List, [], ◌∷◌, Memᴰ as Mem}
use Rattle.std.proofs.Math.Option.{Option, some, none}
use Rattle.trace.specs.Match.{Each, Pairs}

-- ---- events by their numbers

-- the event of this number; `other` where the list has none
abbrev pub event_at : {E : Type 0} → E → List E → ℕ → E
event_at other log zero = other
event_at other log (suc i) = get_or log i other

-- whether the events of two numbers are dependent
abbrev pub dep_at : {E : Type 0} → E → (E → E → Bool) → List E → ℕ → ℕ → Bool
dep_at other dep log i j = dep (event_at other log i) (event_at other log j)

-- whether the event of a number fits the slot
abbrev pub fits_at : {E S : Type 0} → E → (S → E → Bool) → List E → S → ℕ → Bool
fits_at other fits log s i = fits s (event_at other log i)

-- the thread of the event of this number
abbrev pub thread_at : {E : Type 0} → E → (E → ℕ) → List E → ℕ → ℕ
thread_at other thread log i = thread (event_at other log i)

-- k is one of the numbers 1 to n
abbrev pub Among : ℕ → ℕ → Type 0
Among n k = (1 ≤ k) × (k ≤ n)

-- ---- good tuples

module _ (dep : ℕ → ℕ → Bool) where
  -- i comes before j or is j. It needs no list: chains rise, so later events change nothing.
  pub data Before : ℕ → ℕ → Type 0 where
    same : {i : ℕ} → Before i i
    chain : {i k j : ℕ} → Before i k → k < j → dep k j ≡ true → Before i j

  -- no number stands after one that it comes before or is: no pair is turned round, and none occurs twice
  abbrev pub Apart : List ℕ → Type 0
  Apart = Pairs (λ x y. ¬ Before y x)

-- an element for each slot, one that fits it
abbrev pub Fitting : {S A : Type 0} → (S → A → Bool) → List S → List A → Type 0
Fitting fits ss es = Each (λ s e. fits s e ≡ true) ss es

-- an event for each slot, fitting it, among the first n; no later slot's event comes before an earlier slot's or is it
pub record Good {S : Type 0} (dep : ℕ → ℕ → Bool) (fits : S → ℕ → Bool) (ss : List S) (n : ℕ) (es : List ℕ) : Type 0 where
  pub fit : Fitting fits ss es
  pub apart : Apart dep es
  pub among : (e : ℕ) → Mem e es → Among n e

-- the greatest of the good tuples, slot by slot; or that there is none
pub data Best {S : Type 0} (dep : ℕ → ℕ → Bool) (fits : S → ℕ → Bool) (ss : List S) (n : ℕ) : Option (List ℕ) → Type 0 where
  best : {ms : List ℕ} → Good dep fits ss n ms → ((es : List ℕ) → Good dep fits ss n es → Each (λ e m. e ≤ m) es ms)
      → Best dep fits ss n (some ms)
  no_tuple : ((es : List ℕ) → ¬ Good dep fits ss n es) → Best dep fits ss n none

-- the greatest good tuple of a list of events
abbrev pub BestOf : {E S : Type 0} → E → (E → E → Bool) → (S → E → Bool) → List E → List S → Option (List ℕ) → Type 0
BestOf other dep fits log ss o = Best (dep_at other dep log) (fits_at other fits log) ss (length log) o

-- ---- the slots of a set

module _ {A : Type 0} where
  -- x in front if the test is passed
  abbrev pub keep : Bool → A → List A → List A
  keep true x xs = x ∷ xs
  keep false x xs = xs

  -- the elements at the bits that are set
  abbrev pub pick : List Bool → List A → List A
  pick [] xs = []
  pick (b ∷ bs) [] = []
  pick (b ∷ bs) (x ∷ xs) = keep b x (pick bs xs)

-- ---- places

-- one more if the test is passed
abbrev pub one_more : Bool → ℕ → ℕ
one_more true n = suc n
one_more false n = n

-- how many of the numbers 1 to n pass the test
abbrev pub tally : (ℕ → Bool) → ℕ → ℕ
tally p zero = zero
tally p (suc n) = one_more (p (suc n)) (tally p n)

-- an event's place among the events of its thread, from 1
unfoldable pub place : (ℕ → ℕ) → ℕ → ℕ
place thread i = tally (λ k. eqb (thread k) (thread i)) i
