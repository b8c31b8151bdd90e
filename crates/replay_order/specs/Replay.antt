-- The order in which a match is replayed. Document 02, Note 1, "The log that shows it".
-- Assumes nothing.
use Rattle.std.specs.Prelude.{ℕ, suc, List, [], ◌∷◌, ◌++◌}
use Rattle.event.specs.declared.Event.{Event}
use Rattle.trace.specs.Before.{Numbered}
use Rattle.trace.specs.Match.{Each}
use Rattle.dependence.specs.Order.{ComesBefore}

-- the event numbers of a log in the recorded order, its first event having the number a
abbrev pub numbers_from : ℕ → List Event → List ℕ
numbers_from a [] = []
numbers_from a (e ∷ log) = a ∷ numbers_from (suc a) log

-- a row parted by a property: the elements that have it, and the others, each as they stood
pub data Parted {A : Type 0} (P : A → Type 0) : List A → List A → List A → Type 0 where
  none : Parted P [] [] []
  one : {x : A} {xs ys zs : List A} → P x → Parted P xs ys zs → Parted P (x ∷ xs) (x ∷ ys) zs
  not_one : {x : A} {xs ys zs : List A} → ¬ P x → Parted P xs ys zs → Parted P (x ∷ xs) ys (x ∷ zs)

-- "First come all events that come before or are slot 1's event, then those not yet written that do so for slot 2's, and so on,
-- then the rest; each group keeps its recorded order."
-- By event numbers: those of the slots, those not yet written, and the latter in the order in which they are written.
pub data Grouped (log : List Event) : List ℕ → List ℕ → List ℕ → Type 0 where
  rest : {left : List ℕ} → Grouped log [] left left
  group : {i : ℕ} {is left now later order : List ℕ} → Parted (λ k. ComesBefore log k i) left now later → Grouped log is later order
      → Grouped log (i ∷ is) left (now ++ order)

-- "holding the same events in an order that shows the pattern": a log, the slots' event numbers, and the order
pub record IsReplay (log : List Event) (is : List ℕ) (order : List Event) : Type 0 where
  pub numbers : List ℕ
  pub grouped : Grouped log is (numbers_from 1 log) numbers
  pub events : Each (Numbered log) numbers order
